-- The loop over what follows an expression.
use Rattle.std.proofs.Common.{◌≡◌, ℕ, zero, suc, ◌+◌, ◌-◌, ◌<◌, ◌≤◌, Bool, true, false, cond, T, List, [], ◌∷◌, length, sym, refl, ap, ◌∙◌, subst, arith}
use mathlib.Core.Option.{some, none-ne-some}
use Rattle.token.specs.declared.Token.{Token}
use Rattle.kinds.specs.Levels.{is_o}
use Rattle.grammar.specs.Tree.{Head, head, head_of, Tree, Forest, node, nil, ◌▸◌, size, sizes, depth, depths}
use Rattle.grammar.specs.Site.{Attr}
use Rattle.grammar.specs.Layout.{attr, attrs, good, goods, sort_of}
use Rattle.fitting.specs.Summary.{Sums}
use Rattle.grammar.specs.Derives.{lo_of}
use Rattle.grammar.specs.Parser.{Goal, Do, fail, prefix, frame_do, frame, next, goes_on, Ran, ran, bind, begun, grown_on, parse, loop, perform}
use Rattle.reader.specs.Table.{Turns}
use Rattle.reader.specs.Reads.{own, eats, Bad, NotParsed}
use Rattle.recognizer.specs.Reads.{standing_of, Started, Alone, Holds, Shape, Shaped, Parsed, Made, NotMade, Reached, Onward}
use Rattle.reader.specs.Rows.{single}
use Rattle.records.specs.declared.build.Children.{Children}
use Rattle.recognizer.specs.declared.found.Found.{Found}
use Rattle.recognizer.specs.declared.found.Parts.{Parts}
use Rattle.reader.specs.declared.unread.Unread.{Unread}
use Rattle.reader.specs.declared.unread.Unread.TheVariants.{NoDerivation, TooDeep}
use Rattle.grammar.proofs.Written.{bind_inv}
use Rattle.reader.proofs.Fuel.{raise_p, grow}
use Rattle.reader.proofs.Eats.{own_true, frame_eats}
use Rattle.std.proofs.Math.Bool.{and-true}

bad_up : (e : Unread) (i room d c : ℕ) → 0 < room → i ≡ room - 1 → Bad e i d → d + 1 ≤ c → Bad e room c
bad_up NoDerivation i room d c p q h le = h
bad_up TooDeep i room d c p q h le = omega arith

-- every tree has a record
some_deep : (t : Tree) → 0 < depth t
unfolding depth
some_deep (node h us) = omega arith

depth_node : (h : Head) (us : Forest) → depths us + 1 ≤ depth (node h us)
unfolding depth
depth_node h us = omega arith

depth_kids : (h : Head) (t : Tree) (us : Forest) → depths us + 1 ≤ depth (node h (t ▸ us))
unfolding depth
depth_kids h t us = omega arith

-- a record over children
pub shape_node : (us : Forest) (f : Found) (l : ℕ) → l ≡ f.lo → Shaped us f → Shape (node (head f.traits.form l f.hi) us) f
unfolding attr good size depth
shape_node us f l e s = record { heads = rw e refl; attributes = s.attributes; fit = s.fit; records = ap (λ (k : ℕ). 1 + k) s.records; nests = ap (λ (k : ℕ). 1 + k) s.nests }

pub holds_nil : (ks : List Token) (r : Children) (p : Parts) → Started ks r p → Holds nil p
unfolding attrs goods sizes depths
holds_nil ks r p s = record { children = s.children; fit = sym s.fit; records = sym s.records; nests = sym s.nests }

holds_one : (t : Tree) (l : Found) (p : Parts) → Shape t l → Alone l p → Holds (t ▸ nil) p
unfolding attrs goods sizes depths
holds_one t l p s a = record { children = subst (λ (c : Attr). Sums (c ∷ []) p.children) (sym s.attributes) a.children; fit = and-true (good t) ∙ s.fit ∙ sym a.fit; records = omega (arith, s.records, a.records); nests = omega (arith, s.nests, a.nests) }

stands : (t : Tree) (f : Found) → Shape t f → (attr t).standing ≡ standing_of f
stands t f s = ap (λ (a : Attr). a.standing) s.attributes

sorted : (t : Tree) (f : Found) → Shape t f → (attr t).sort ≡ sort_of f.traits.form
sorted t f s = ap (λ (a : Attr). a.sort) s.attributes

pub row_at : {K : Type 0} (R : K → K → Children → Forest → Type 0) (x z : K) (f : Found) (l : ℕ) (us : Forest) → l ≡ f.lo → R x z (single f.slot) (node (head f.traits.form f.lo f.hi) us ▸ nil) → R x z (single f.slot) (node (head f.traits.form l f.hi) us ▸ nil)
row_at R x z f l us e h = rw e h

parse_one : (m : ℕ) (b : Bool) (q : Goal) (ks : List Token) (y : Ran) → perform m b (prefix q ks) 0 ks ≡ some y → parse (suc m) b q ks ≡ loop m b q (begun ks y) y.left
unfolding parse
parse_one m b q ks y e = rw e

parse_inv : (n : ℕ) (b : Bool) (q : Goal) (ks : List Token) (x : Tree × List Token) → parse n b q ks ≡ some x → (m : ℕ) × (y : Ran) × (perform m b (prefix q ks) 0 ks ≡ some y) × (loop m b q (begun ks y) y.left ≡ some x)
unfolding parse
parse_inv zero b q ks x h = absurd (none-ne-some x h)
parse_inv (suc n) b q ks x h = let (y, h1, h2) = bind_inv (perform n b (prefix q ks) 0 ks) _ x h in (n, y, h1, h2)

loop_on : (m : ℕ) (b : Bool) (q : Goal) (t : Tree) (ks : List Token) (y : Ran) → goes_on b q (attr t) (frame (next ks)) ≡ true → perform m b (frame_do (next ks) (attr t).standing) (head_of t).hi ks ≡ some y → loop (suc m) b q t ks ≡ loop m b q (grown_on t y) y.left
unfolding loop
loop_on m b q t ks y g e = rw (g, e)

loop_inv : (m : ℕ) (b : Bool) (q : Goal) (t : Tree) (ks : List Token) (x : Tree × List Token) → goes_on b q (attr t) (frame (next ks)) ≡ true → loop (suc m) b q t ks ≡ some x → (y : Ran) × (perform m b (frame_do (next ks) (attr t).standing) (head_of t).hi ks ≡ some y) × (loop m b q (grown_on t y) y.left ≡ some x)
unfolding loop
loop_inv m b q t ks x g h = bind_inv (perform m b (frame_do (next ks) (attr t).standing) (head_of t).hi ks) _ x (by (goes_on b q (attr t) (frame (next ks))) g h)
  where
    by : (z : Bool) → z ≡ true → cond z (bind (perform m b (frame_do (next ks) (attr t).standing) (head_of t).hi ks) (λ y. loop m b q (grown_on t y) y.left)) (some (t, ks)) ≡ some x → bind (perform m b (frame_do (next ks) (attr t).standing) (head_of t).hi ks) (λ y. loop m b q (grown_on t y) y.left) ≡ some x
    by z e k = subst (λ (z : Bool). cond z (bind (perform m b (frame_do (next ks) (attr t).standing) (head_of t).hi ks) (λ y. loop m b q (grown_on t y) y.left)) (some (t, ks)) ≡ some x) e k

loop_off : (m : ℕ) (b : Bool) (q : Goal) (t : Tree) (ks : List Token) → goes_on b q (attr t) (frame (next ks)) ≡ false → loop (suc m) b q t ks ≡ some (t, ks)
unfolding loop
loop_off m b q t ks g = rw g

perform_same : (m : ℕ) (b : Bool) (s s2 : Do) (h h2 : ℕ) (ks js : List Token) (y : Ran) → s ≡ s2 → h ≡ h2 → ks ≡ js → perform m b s2 h2 js ≡ some y → perform m b s h ks ≡ some y
perform_same m b s s2 h h2 ks js y a c d e = rw (a, c, d) e

-- nothing is found where there is nothing to do
fails : (m : ℕ) (b : Bool) (s : Do) (h : ℕ) (ks : List Token) (y : Ran) → s ≡ fail → perform m b s h ks ≡ some y → ⊥
unfolding perform
fails zero b s h ks y f e = none-ne-some y e
fails (suc m) b s h ks y f e = none-ne-some y (rw f at e)

module _ (ts : List Token) (b : Bool) (q : Goal) where
  pub no_start : (room : ℕ) → fail ≡ prefix q ts → NotParsed ts b q room NoDerivation
  no_start room f n t r h = let (m, y, h1, h2) = parse_inv n b q ts (t, r) h in fails m b (prefix q ts) 0 ts y (sym f) h1

  pub no_room : NotParsed ts b q 0 TooDeep
  no_room n t r h = some_deep t

  module _ (s : Do) (r0 : Children) (p : Parts) (st : Started ts r0 p) (e : s ≡ prefix q ts) where
    pub reached_first : {K : Type 0} (R : K → K → Children → Forest → Type 0) (e0 x0 : K) (f : Found) → T (eats (prefix q ts)) → R e0 e0 r0 nil → Made b s p R e0 x0 f → Reached ts b q R e0 x0 f
    reached_first R e0 x0 f o rn m =
        let (us, (k, r), h) = m.run in
        let one : 1 ≤ own s = own_true s (subst (λ (x : Do). T (eats x)) (sym e) o) in
        let y : Ran = ran f.traits.form us f.hi f.ahead.now in
        record {
          rows = row_at R x0 e0 f (lo_of ts) us (sym (m.lo ∙ st.lo)) (m.rows e0 nil (subst (λ (r : Children). R e0 e0 r nil) (sym st.row) rn));
          few = omega (arith, m.few, st.records, ap length st.ahead, one);
          nests = m.nests (omega (arith, st.records, st.nests));
          tree = (
            begun ts y,
            shape_node us f (lo_of ts) (sym (m.lo ∙ st.lo)) (h nil (holds_nil ts r0 p st)),
            (k, λ n le. (suc n, omega arith, parse_one n b q ts y (rw (e, st.hi, st.ahead) at (r n le)))),
          );
        }

    pub refused_first : (room inner : ℕ) (x : Unread) → 0 < room → inner ≡ room - 1 → NotMade b s p inner x → NotParsed ts b q room x
    refused_first room inner x pos is nm n t r h =
        let (m, y, h1, h2) = parse_inv n b q ts (t, r) h in
        let h3 : perform m b s p.hi p.ahead.now ≡ some y = rw (e, st.hi, st.ahead) h1 in
        bad_up x inner room (depths y.kids) (depth t) pos is (nm m y h3) (omega (arith, depth_node (head y.form (lo_of ts) y.upto) y.kids, grow m b q (begun ts y) y.left t r h2))

  module _ {K : Type 0} (R : K → K → Children → Forest → Type 0) (d0 m0 : K) (l : Found) (re : Reached ts b q R d0 m0 l) (s : Do) (tn : Turns (next l.ahead.now) (is_o (standing_of l)) s) (on : Onward b q l true) where
    does : (t : Tree) → Shape t l → s ≡ frame_do (next l.ahead.now) (attr t).standing
    does t sh = tn (attr t).standing (ap is_o (stands t l sh))

    goes : (t : Tree) → Shape t l → goes_on b q (attr t) (frame (next l.ahead.now)) ≡ true
    goes t sh = sym (on (attr t) (sorted t l sh) (stands t l sh))

    one : 1 ≤ own s
    one = let (t, sh, w) = re.tree in own_true s (subst (λ (x : Do). T (eats x)) (sym (does t sh)) (frame_eats (next l.ahead.now) (attr t).standing))

    pub no_step : (room : ℕ) → s ≡ fail → NotParsed ts b q room NoDerivation
    no_step room f n u r h =
        let (t, sh, (k, w)) = re.tree in
        let (n2, le, e) = w (suc (k + n)) (omega arith) in
        let (y, h1, h2) = loop_inv (k + n) b q t l.ahead.now (u, r) (goes t sh) (sym e ∙ raise_p n n2 b q ts (u, r) (omega arith) h) in
        fails (k + n) b (frame_do (next l.ahead.now) (attr t).standing) (head_of t).hi l.ahead.now y (sym (does t sh) ∙ f) h1

    module _ (p : Parts) (al : Alone l p) where
      more_below : (x0 : K) (f : Found) → Made b s p R m0 x0 f → l.below.records + 1 ≤ f.below.records
      unfolding sizes
      more_below x0 f m =
          let (t, sh, w) = re.tree in
          let (us, rr, h) = m.run in
          omega (arith, (h (t ▸ nil) (holds_one t l p sh al)).records, sh.records)

      pub longer : (x0 : K) (f : Found) → Made b s p R m0 x0 f → length f.ahead.now < length l.ahead.now
      longer x0 f m = omega (arith, m.few, al.records, ap length al.ahead, one, more_below x0 f m)

      pub reached_next : (x0 : K) (f : Found) → Made b s p R m0 x0 f → Reached ts b q R d0 x0 f
      reached_next x0 f m =
          let (t, sh, (k, w)) = re.tree in
          let (us, (k2, r), h) = m.run in
          let y : Ran = ran f.traits.form us f.hi f.ahead.now in
          let hi : p.hi ≡ (head_of t).hi = al.hi ∙ sym (ap (λ (z : Head). z.hi) sh.heads) in
          let lo : (head_of t).lo ≡ f.lo = ap (λ (z : Head). z.lo) sh.heads ∙ sym (m.lo ∙ al.lo) in
          record {
            rows = row_at R x0 d0 f (head_of t).lo (t ▸ us) lo (m.rows d0 (t ▸ nil) (subst (λ (r : Children). R m0 d0 r (t ▸ nil)) (sym al.row) re.rows));
            few = omega (arith, re.few, m.few, al.records, ap length al.ahead, one);
            nests = m.nests (omega (arith, al.records, al.nests, re.nests));
            tree = (
              grown_on t y,
              shape_node (t ▸ us) f (head_of t).lo lo (h (t ▸ nil) (holds_one t l p sh al)),
              (k + k2, λ n le. let (n2, le2, e) = w (suc n) (omega arith) in (n2, omega arith, e ∙ loop_on n b q t l.ahead.now y (goes t sh) (rw (does t sh, hi, al.ahead) at (r n (omega arith))))),
            );
          }

      pub refused_next : (room inner : ℕ) (x : Unread) → 0 < room → inner ≡ room - 1 → NotMade b s p inner x → NotParsed ts b q room x
      refused_next room inner x pos is nm n u r h =
          let (t, sh, (k, w)) = re.tree in
          let (n2, le, e) = w (suc (k + n)) (omega arith) in
          let hi : p.hi ≡ (head_of t).hi = al.hi ∙ sym (ap (λ (z : Head). z.hi) sh.heads) in
          let (y, h1, h2) = loop_inv (k + n) b q t l.ahead.now (u, r) (goes t sh) (sym e ∙ raise_p n n2 b q ts (u, r) (omega arith) h) in
          let h3 : perform (k + n) b s p.hi p.ahead.now ≡ some y = perform_same (k + n) b s (frame_do (next l.ahead.now) (attr t).standing) p.hi (head_of t).hi p.ahead.now l.ahead.now y (does t sh) hi al.ahead h1 in
          bad_up x inner room (depths y.kids) (depth u) pos is (nm (k + n) y h3) (omega (arith, depth_kids (head y.form (head_of t).lo y.upto) t y.kids, grow (k + n) b q (grown_on t y) y.left u r h2))

  pub stopped : {K : Type 0} (R : K → K → Children → Forest → Type 0) (e0 x0 : K) (f : Found) → Reached ts b q R e0 x0 f → Onward b q f false → Parsed ts b q R e0 x0 f
  stopped R e0 x0 f re off =
      let (t, sh, (k, w)) = re.tree in
      let (n, le, e) = w (suc k) (omega arith) in
      record { few = re.few; nests = re.nests; tree = (t, sh, (n, λ m l. raise_p n m b q ts (t, f.ahead.now) l (e ∙ loop_off k b q t f.ahead.now (sym (off (attr t) (sorted t f sh) (stands t f sh))))), re.rows) }
