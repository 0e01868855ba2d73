-- The loop over the steps of a record.
use Rattle.std.proofs.Common.{◌≡◌, ℕ, suc, ◌+◌, ◌≤◌, max, Bool, true, false, ◌&&◌, List, [], ◌∷◌, ◌++◌, length, sym, refl, ap, ◌∙◌, subst, arith}
use Rattle.std.proofs.Math.Bool.{and-true, and_assoc}
use mathlib.Core.Option.{Option, none, some, none-ne-some}
use Rattle.token.specs.Same.{same_code}
use Rattle.token.specs.declared.Token.{Token}
use Rattle.token.specs.declared.Code.{Code}
use Rattle.kinds.specs.declared.form.Form.{Form}
use Rattle.grammar.specs.Tree.{Head, head_of, Tree, Forest, nil, ◌▸◌, ◌⊕◌, size, sizes, depth, depths}
use Rattle.grammar.specs.Site.{Attr}
use Rattle.grammar.specs.Layout.{layout, attr_of, attr, attrs, fit_kids, good, goods}
use Rattle.fitting.specs.Summary.{Sums}
use Rattle.fitting.specs.declared.summary.Summary.{Summary}
use Rattle.grammar.specs.Parser.{Goal, Mode, mode, Do, fin, eat, sub, settle, starts, Ran, ran, bind, exec, parse, perform}
use Rattle.reader.specs.Reads.{own, Bad, NotParsed, graft}
use Rattle.recognizer.specs.Reads.{Joined, Completed, Behind, Shape, Holds, Shaped, Parsed, Made, NotMade, Carried}
use Rattle.reader.specs.Rows.{Nested, Pushed}
use Rattle.records.specs.declared.build.Children.{Children}
use Rattle.recognizer.specs.declared.found.Found.{Found}
use Rattle.recognizer.specs.declared.found.Parts.{Parts}
use Rattle.reader.specs.declared.unread.Unread.{Unread}
use Rattle.reader.specs.declared.unread.Unread.TheVariants.{NoDerivation, TooDeep}
use Rattle.grammar.proofs.Written.{bind_inv, some_one}
use Rattle.reader.proofs.Fuel.{raise_r}
use Rattle.reader.proofs.Eats.{own_settle, own_one}

-- Forests.
pub join_nil : (us : Forest) → us ⊕ nil ≡ us
join_nil nil = refl
join_nil (u ▸ us) = ap (λ (vs : Forest). u ▸ vs) (join_nil us)

pub join_assoc : (us vs ws : Forest) → (us ⊕ vs) ⊕ ws ≡ us ⊕ (vs ⊕ ws)
join_assoc nil vs ws = refl
join_assoc (u ▸ us) vs ws = ap (λ (xs : Forest). u ▸ xs) (join_assoc us vs ws)

sizes_last : (us : Forest) (t : Tree) → sizes (us ⊕ (t ▸ nil)) ≡ sizes us + size t
unfolding sizes
sizes_last nil t = omega arith
sizes_last (u ▸ us) t = omega (arith, sizes_last us t)

depths_last : (us : Forest) (t : Tree) → depths (us ⊕ (t ▸ nil)) ≡ max (depths us) (depth t)
unfolding depths
depths_last nil t = omega arith
depths_last (u ▸ us) t = omega (arith, depths_last us t)

depths_right : (us vs : Forest) → depths vs ≤ depths (us ⊕ vs)
unfolding depths
depths_right nil vs = omega arith
depths_right (u ▸ us) vs = omega (arith, depths_right us vs)

pub depths_first : (t : Tree) (us : Forest) → depth t ≤ depths (t ▸ us)
unfolding depths
depths_first t us = omega arith

-- Grafts.
graft_nil : (o : Option Ran) → o ≡ graft nil o
graft_nil none = refl
graft_nil (some y) = refl

graft_graft : (us vs : Forest) (o : Option Ran) → graft us (graft vs o) ≡ graft (us ⊕ vs) o
graft_graft us vs none = refl
graft_graft us vs (some y) = ap (λ (ws : Forest). some (ran y.form ws y.upto y.left)) (sym (join_assoc us vs y.kids))

graft_child : (t : Tree) (o : Option Ran) → bind o (λ y. some (ran y.form (t ▸ y.kids) y.upto y.left)) ≡ graft (t ▸ nil) o
graft_child t none = refl
graft_child t (some y) = refl

graft_inv : (us : Forest) (o : Option Ran) (y : Ran) → graft us o ≡ some y → (z : Ran) × (o ≡ some z) × (us ⊕ z.kids ≡ y.kids)
graft_inv us none y h = absurd (none-ne-some y h)
graft_inv us (some z) y h = (z, refl, ap (λ (x : Ran). x.kids) (some_one (ran z.form (us ⊕ z.kids) z.upto z.left) y h))

-- One step of the grammar's reader.
step_fin : (m : ℕ) (b : Bool) (s : Do) (h : ℕ) (ks : List Token) (f : Form) → settle s ks ≡ fin f → perform (suc m) b s h ks ≡ some (ran f nil h ks)
unfolding perform
step_fin m b s h ks f e = rw e

eat_yes : (R : Bool → Do → ℕ → List Token → Option Ran) (P : Bool → Goal → List Token → Option (Tree × List Token)) (b : Bool) (c : Code) (s : Do) (h : ℕ) (ks : List Token) (k : Token) (js : List Token) → ks ≡ k ∷ js → same_code k.code c ≡ true → exec P R b (eat c s) h ks ≡ R b s k.hi js
eat_yes R P b c s h ks k js e d = rw (e, d)

step_eat : (m : ℕ) (b : Bool) (s : Do) (h : ℕ) (ks : List Token) (c : Code) (s2 : Do) (k : Token) (js : List Token) → settle s ks ≡ eat c s2 → ks ≡ k ∷ js → same_code k.code c ≡ true → perform (suc m) b s h ks ≡ perform m b s2 k.hi js
unfolding perform
step_eat m b s h ks c s2 k js e d g = ap (λ (x : Do). exec (parse m) (perform m) b x h ks) e ∙ eat_yes (perform m) (parse m) b c s2 h ks k js d g

eat_no : (R : Bool → Do → ℕ → List Token → Option Ran) (P : Bool → Goal → List Token → Option (Tree × List Token)) (b : Bool) (c : Code) (s : Do) (h : ℕ) (ks : List Token) → starts c ks ≡ false → exec P R b (eat c s) h ks ≡ none
eat_no R P b c s h [] e = refl
eat_no R P b c s h (k ∷ ks) e = rw e

step_eat_no : (m : ℕ) (b : Bool) (s : Do) (h : ℕ) (ks : List Token) (c : Code) (s2 : Do) → settle s ks ≡ eat c s2 → starts c ks ≡ false → perform (suc m) b s h ks ≡ none
unfolding perform
step_eat_no m b s h ks c s2 e g = ap (λ (x : Do). exec (parse m) (perform m) b x h ks) e ∙ eat_no (perform m) (parse m) b c s2 h ks g

sub_yes : (m : ℕ) (b : Bool) (s : Do) (h : ℕ) (ks : List Token) (d : Mode) (q : Goal) (s2 : Do) (t : Tree) (r : List Token) → settle s ks ≡ sub d q s2 → parse m (mode d b) q ks ≡ some (t, r) → perform (suc m) b s h ks ≡ graft (t ▸ nil) (perform m b s2 (head_of t).hi r)
unfolding perform
sub_yes m b s h ks d q s2 t r e g = ap (λ (x : Do). exec (parse m) (perform m) b x h ks) e ∙ rw g (graft_child t (perform m b s2 (head_of t).hi r))

sub_inv : (m : ℕ) (b : Bool) (s : Do) (h : ℕ) (ks : List Token) (d : Mode) (q : Goal) (s2 : Do) (y : Ran) → settle s ks ≡ sub d q s2 → perform (suc m) b s h ks ≡ some y → (t : Tree) × (r : List Token) × (us : Forest) × (parse m (mode d b) q ks ≡ some (t, r)) × (t ▸ us ≡ y.kids)
unfolding perform
sub_inv m b s h ks d q s2 y e g =
    let g2 : exec (parse m) (perform m) b (sub d q s2) h ks ≡ some y = sym (ap (λ (x : Do). exec (parse m) (perform m) b x h ks) e) ∙ g in
    let (x, h1, h2) = bind_inv (parse m (mode d b) q ks) _ y g2 in
    let (z, h3, h4) = bind_inv (perform m b s2 (head_of x.0).hi x.1) _ y h2 in
    (x.0, x.1, z.kids, h1, ap (λ (a : Ran). a.kids) (some_one (ran z.form (x.0 ▸ z.kids) z.upto z.left) y h4))

-- What the parts hold.
attrs_last : (us : Forest) (t : Tree) → attrs (us ⊕ (t ▸ nil)) ≡ attrs us ++ (attr t ∷ [])
unfolding attrs
attrs_last nil t = refl
attrs_last (u ▸ us) t = ap (λ (cs : List Attr). attr u ∷ cs) (attrs_last us t)

goods_last : (us : Forest) (t : Tree) → goods (us ⊕ (t ▸ nil)) ≡ goods us && good t
unfolding goods
goods_last nil t = and-true (good t)
goods_last (u ▸ us) t = ap (λ (b : Bool). good u && b) (goods_last us t) ∙ sym (and_assoc (good u) (goods us) (good t))

holds_same : (us : Forest) (p q : Parts) → q.children ≡ p.children → q.good ≡ p.good → q.below.records ≡ p.below.records → q.below.depth ≡ p.below.depth → Holds us p → Holds us q
holds_same us p q a b d e h = record { children = subst (λ (k : Summary). Sums (attrs us) k) (sym a) h.children; fit = h.fit ∙ sym b; records = h.records ∙ sym d; nests = h.nests ∙ sym e }

holds_join : (us : Forest) (t : Tree) (p q : Parts) (f : Found) (r : Children) → Holds us p → Shape t f → Joined p f r q → Holds (us ⊕ (t ▸ nil)) q
holds_join us t p q f r h s j =
    record {
      children = subst (λ (cs : List Attr). Sums cs q.children) (sym (attrs_last us t ∙ ap (λ (a : Attr). attrs us ++ (a ∷ [])) s.attributes)) (j.children (attrs us) h.children);
      fit = goods_last us t ∙ rw (h.fit, s.fit) (sym j.fit);
      records = sizes_last us t ∙ omega (arith, h.records, s.records, j.records);
      nests = depths_last us t ∙ rw (h.nests, s.nests, j.nests) (ap (λ (k : ℕ). max p.below.depth k) (omega arith));
    }

shaped_by : (us : Forest) (p : Parts) (g : Form) (n : ℕ) (f : Found) → Completed p g n f → Holds us p → Shaped us f
shaped_by us p g n f x h =
    record {
      attributes = ap (λ (z : Form). attr_of z (attrs us)) x.form ∙ sym (x.attributes (attrs us) h.children);
      fit = ap (λ (z : Form). fit_kids (layout z (attrs us)) (attrs us) && goods us) x.form ∙ ap (λ (b : Bool). fit_kids (layout g (attrs us)) (attrs us) && b) h.fit ∙ sym (x.fit (attrs us) h.children);
      records = h.records ∙ sym x.records;
      nests = h.nests ∙ sym x.nests;
    }

bad_le : (e : Unread) (i d b : ℕ) → Bad e i d → d ≤ b → Bad e i b
bad_le NoDerivation i d b h le = h
bad_le TooDeep i d b h le = omega arith

module _ {K : Type 0} (R : K → K → Children → Forest → Type 0) (b : Bool) where
  pub carried_none : (e0 : K) (s : Do) (p : Parts) → Carried b s p R e0 e0 s p
  carried_none e0 s p = record { rows = λ z ws h. subst (λ (us : Forest). R e0 z p.row us) (sym (join_nil ws)) h; few = omega arith; fewer = omega arith; nests = λ o. o; lo = refl; run = (nil, λ ws h. subst (λ (us : Forest). Holds us p) (sym (join_nil ws)) h, (0, λ m le. (m, omega arith, graft_nil (perform m b s p.hi p.ahead.now)))) }

  module _ (s0 : Do) (p0 : Parts) (e0 m0 : K) (s : Do) (p : Parts) (c : Carried b s0 p0 R e0 m0 s p) where
    pub carried_eat : (k : Code) (s2 : Do) (q : Parts) → settle s p.ahead.now ≡ eat k s2 → Behind p k q → Carried b s0 p0 R e0 m0 s2 q
    carried_eat k s2 q e x =
        let (us, h, (k0, g)) = c.run in
        let (tk, v, sm, hi) = x.next in
        record {
          few = omega (arith, c.few, x.records, ap length v, own_one s);
          fewer = omega (arith, c.fewer, x.records, ap length v);
          nests = λ o. omega (arith, c.nests o, x.records, x.nests);
          rows = λ z ws hw. subst (λ (r : Children). R m0 z r (ws ⊕ us)) (sym x.row) (c.rows z ws hw);
          lo = x.lo ∙ c.lo;
          run = (
            us,
            λ ws hw. holds_same (ws ⊕ us) p q x.children x.fit x.records x.nests (h ws hw),
            (k0, λ m le. let (n, l, w) = g (suc m) (omega arith) in (n, omega arith, w ∙ ap (graft us) (step_eat m b s p.hi p.ahead.now k s2 tk q.ahead.now e v sm ∙ rw hi refl))),
          );
        }

    pub carried_read : (x1 x2 : K) (d : Mode) (g : Goal) (s2 : Do) (f : Found) (r2 : Children) (q : Parts) → settle s p.ahead.now ≡ sub d g s2 → Parsed p.ahead.now (mode d b) g R m0 x1 f → Pushed R x1 x2 p.row f.slot r2 → Joined p f r2 q → Carried b s0 p0 R e0 x2 s2 q
    carried_read x1 x2 d g s2 f r2 q e x pu j =
        let (us, h, (k0, w)) = c.run in
        let (t, sh, (m1, r), sk) = x.tree in
        let big : own s ≤ own s2 = subst (λ (z : Do). own s ≤ own z) e (own_settle s p.ahead.now) in
        record {
          few = omega (arith, c.few, x.few, j.records, ap length j.ahead, big);
          fewer = omega (arith, c.fewer, x.few, j.records, ap length j.ahead);
          nests = λ o. omega (arith, c.nests o, x.nests, j.records, j.nests);
          rows = λ z ws hw. subst (λ (r : Children). R x2 z r (ws ⊕ (us ⊕ (t ▸ nil)))) (sym j.row) (subst (λ (vs : Forest). R x2 z r2 vs) (join_assoc ws us (t ▸ nil)) (pu.at z m0 (ws ⊕ us) t (c.rows z ws hw) sk));
          lo = j.lo ∙ c.lo;
          run = (
            us ⊕ (t ▸ nil),
            λ ws hw. subst (λ (vs : Forest). Holds vs q) (join_assoc ws us (t ▸ nil)) (holds_join (ws ⊕ us) t p q f r2 (h ws hw) sh j),
            (
              k0 + m1,
              λ m le.
                  let (n, l, y) = w (suc m) (omega arith) in
                  let hi : (head_of t).hi ≡ q.hi = ap (λ (z : Head). z.hi) sh.heads ∙ sym j.hi in (
                    n,
                    omega arith,
                    y ∙ ap (graft us) (sub_yes m b s p.hi p.ahead.now d g s2 t f.ahead.now e (r m (omega arith))) ∙ graft_graft us (t ▸ nil) (perform m b s2 (head_of t).hi f.ahead.now) ∙ rw (hi, j.ahead) refl,
                  ),
            ),
          );
        }

    pub made : (x1 : K) (g : Form) (n1 : ℕ) (f : Found) → settle s p.ahead.now ≡ fin g → Completed p g n1 f → Nested R m0 x1 (record { form = g; lo = p.lo; hi = p.hi }) p.row n1 → Made b s0 p0 R e0 x1 f
    made x1 g n1 f e x ne =
        let (us, h, (k0, w)) = c.run in
        let (n, l, y) = w (suc k0) (omega arith) in
        let big : own s ≤ 0 = subst (λ (z : Do). own s ≤ own z) e (own_settle s p.ahead.now) in
        let is : perform n b s0 p0.hi p0.ahead.now ≡ some (ran f.traits.form us f.hi f.ahead.now) = y ∙ ap (graft us) (step_fin k0 b s p.hi p.ahead.now g e) ∙ rw (x.form, x.hi, x.ahead, join_nil us) refl in
        record {
          few = omega (arith, c.few, x.records, ap length x.ahead, big);
          nests = λ o. omega (arith, c.nests o, x.records, x.nests);
          rows = λ z ws hw. rw (x.slot, x.form, x.lo, x.hi) (ne.at z (ws ⊕ us) (c.rows z ws hw));
          lo = x.lo ∙ c.lo;
          run = (
            us,
            (n, λ m le. raise_r n m b s0 p0.hi p0.ahead.now _ le is),
            λ ws hw. shaped_by (ws ⊕ us) p g n1 f x (h ws hw),
          );
        }

    -- what the whole would give, the rest gives
    back : (n : ℕ) (y : Ran) → perform n b s0 p0.hi p0.ahead.now ≡ some y → (m : ℕ) × (z : Ran) × (perform (suc m) b s p.hi p.ahead.now ≡ some z) × (depths z.kids ≤ depths y.kids)
    back n y e =
        let (us, h, (k0, w)) = c.run in
        let (k, l, g) = w (suc (k0 + n)) (omega arith) in
        let (z, i, j) = graft_inv us (perform (suc (k0 + n)) b s p.hi p.ahead.now) y (sym g ∙ raise_r n k b s0 p0.hi p0.ahead.now y (omega arith) e) in
        (k0 + n, z, i, subst (λ (vs : Forest). depths z.kids ≤ depths vs) j (depths_right us z.kids))

    pub not_eaten : (room : ℕ) (k : Code) (s2 : Do) → settle s p.ahead.now ≡ eat k s2 → starts k p.ahead.now ≡ false → NotMade b s0 p0 room NoDerivation
    not_eaten room k s2 e d n y g = let (m, z, i, le) = back n y g in none-ne-some z (sym (step_eat_no m b s p.hi p.ahead.now k s2 e d) ∙ i)

    pub not_read : (room : ℕ) (d : Mode) (g : Goal) (s2 : Do) (x : Unread) → settle s p.ahead.now ≡ sub d g s2 → NotParsed p.ahead.now (mode d b) g room x → NotMade b s0 p0 room x
    not_read room d g s2 x e r n y w =
        let (m, z, i, le) = back n y w in
        let (t, js, us, h1, h2) = sub_inv m b s p.hi p.ahead.now d g s2 z e i in
        let le2 : depth t ≤ depths z.kids = subst (λ (vs : Forest). depth t ≤ depths vs) h2 (depths_first t us) in
        bad_le x room (depth t) (depths y.kids) (r m t js h1) (omega (arith, le, le2))
