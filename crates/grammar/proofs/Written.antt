-- What the reader finds is written with exactly the tokens that it ate, by induction over its steps.
use mathlib.Core.Path.{◌≡◌, refl, sym, ◌∙◌, ap, subst}
use mathlib.Core.List.{List, [], ◌∷◌}
use mathlib.Core.Bool.{Bool, true, false, cond}
use mathlib.Core.Option.{Option, none, some, none-ne-some}
use Prim.Native.Nat.{ℕ, zero, suc}
use lib.Dec.{T}
use Rattle.token.specs.Same.{same_code}
use Rattle.token.proofs.Same.{same_one}
use Rattle.token.specs.declared.Token.{Token}
use Rattle.token.specs.declared.Code.{Code}
use Rattle.kinds.specs.declared.level.Slot.{Slot}
use Rattle.grammar.specs.Tree.{head_of, Tree, Forest, nil, ◌▸◌}
use Rattle.grammar.specs.Layout.{sort_of, attr, attrs, wr, wrs}
use Rattle.grammar.specs.Parser.{Goal, ex, stm, blk, dec, prp, nam, scr, mode, Do, fail, fin, eat, sub, peek, more, items, stms, operand, names, behind, prefix, frame_do, frame, next, goes_on, settle, Ran, ran, bind, exec, begun, grown_on, parse, loop, perform}
use Rattle.grammar.specs.Shape.{codes}
use Rattle.grammar.specs.Claim.{is_head, FoundWritten}
use Rattle.grammar.proofs.Promises.{Known, written, Promises, settled}
use Rattle.grammar.proofs.Kept.{prefix_keeps, frame_keeps}

pub bind_inv : {A B : Type 0} (o : Option A) (f : A → Option B) (z : B) → bind o f ≡ some z → (x : A) × (o ≡ some x) × (f x ≡ some z)
bind_inv none f z h = absurd (none-ne-some z h)
bind_inv (some x) f z h = (x, refl, h)

pub some_one : {A : Type 0} (x y : A) → ◌≡◌ {A = Option A} (some x) (some y) → x ≡ y
some_one x y h = cc

abbrev Parses : ℕ → Type 0
Parses n = (b : Bool) (q : Goal) (ks : List Token) (t : Tree) (r : List Token) → parse n b q ks ≡ some (t, r) → (codes ks ≡ wr (is_head q) t (codes r)) × Known q (attr t).sort r

abbrev Loops : ℕ → Type 0
Loops n = (b : Bool) (q : Goal) (t : Tree) (ks : List Token) (u : Tree) (r : List Token) → Known q (attr t).sort ks → loop n b q t ks ≡ some (u, r) → (wr (is_head q) t (codes ks) ≡ wr (is_head q) u (codes r)) × Known q (attr u).sort r

-- What a script says when it has run as it promised.
abbrev Says : Goal → List Token → (Forest → Forest) → (List Code → List Code) → Ran → Type 0
Says q ks U X y = (X (codes ks) ≡ written (is_head q) y.form (U y.kids) (codes y.left)) × Known q (sort_of y.form) y.left

abbrev Runs : ℕ → Type 0
Runs n = (q : Goal) (b : Bool) (s : Do) (h : ℕ) (ks : List Token) (U : Forest → Forest) (X : List Code → List Code) (y : Ran) → Promises q ks U X s → perform n b s h ks ≡ some y → Says q ks U X y

eaten : (n : ℕ) → Runs n → (q : Goal) (b : Bool) (c : Code) (s : Do) (k : Token) (ks : List Token) (U : Forest → Forest) (X : List Code → List Code) (y : Ran) (g : Bool) → same_code k.code c ≡ g → Promises q ks U (λ j. X (c ∷ j)) s → cond g (perform n b s k.hi ks) none ≡ some y → Says q (k ∷ ks) U X y
eaten n ih q b c s k ks U X y true g p e =
    let i : k.code ≡ c = same_one k.code c (subst T (sym g) tt) in
    let a : Says q ks U (λ j. X (c ∷ j)) y = ih q b s k.hi ks U (λ j. X (c ∷ j)) y p e in
    (ap (λ (d : Code). X (d ∷ codes ks)) i ∙ a.0, a.1)
eaten n ih q b c s k ks U X y false g p e = absurd (none-ne-some y e)

module _ (n : ℕ) (P : Parses n) (R : Runs n) where
  executed : (q : Goal) (b : Bool) (s : Do) (h : ℕ) (ks : List Token) (U : Forest → Forest) (X : List Code → List Code) (y : Ran) → Promises q ks U X s → exec (parse n) (perform n) b s h ks ≡ some y → Says q ks U X y
  executed q b fail h ks U X y p e = absurd (none-ne-some y e)
  executed q b (fin f) h ks U X y p e = subst (λ (z : Ran). Says q ks U X z) (some_one (ran f nil h ks) y e) (p.0 (codes ks), p.1)
  executed q b (eat c s) h [] U X y p e = absurd (none-ne-some y e)
  executed q b (eat c s) h (k ∷ ks) U X y p e = eaten n R q b c s k ks U X y (same_code k.code c) refl p e
  executed q b (sub m g s) h ks U X y p e =
      let (x, h1, h2) = bind_inv (parse n (mode m b) g ks) _ y e in
      let (z, h3, h4) = bind_inv (perform n b s (head_of x.0).hi x.1) _ y h2 in
      let (w, o) = P (mode m b) g ks x.0 x.1 h1 in
      let a : Says q x.1 (λ us. U (x.0 ▸ us)) (λ j. X (wr (is_head g) x.0 j)) z = R q b s (head_of x.0).hi x.1 (λ us. U (x.0 ▸ us)) (λ j. X (wr (is_head g) x.0 j)) z (p x.0 x.1 o) h3 in
      subst (λ (v : Ran). Says q ks U X v) (some_one (ran z.form (x.0 ▸ z.kids) z.upto z.left) y h4) (ap X w ∙ a.0, a.1)
  executed q b (peek c s t) h ks U X y p e = absurd (none-ne-some y e)
  executed q b (more m g s) h ks U X y p e = absurd (none-ne-some y e)
  executed q b (items g c s) h ks U X y p e = absurd (none-ne-some y e)
  executed q b (stms s) h ks U X y p e = absurd (none-ne-some y e)
  executed q b (operand s t) h ks U X y p e = absurd (none-ne-some y e)
  executed q b (names s) h ks U X y p e = absurd (none-ne-some y e)
  executed q b (behind s) h ks U X y p e = absurd (none-ne-some y e)

-- The loop stops, or goes on.
stopped : (q : Goal) (t : Tree) (ks : List Token) (u : Tree) (r : List Token) → Known q (attr t).sort ks → ◌≡◌ {A = Option (Tree × List Token)} (some (t, ks)) (some (u, r)) → (wr (is_head q) t (codes ks) ≡ wr (is_head q) u (codes r)) × Known q (attr u).sort r
stopped q t ks u r o e = subst (λ (x : Tree × List Token). (wr (is_head q) t (codes ks) ≡ wr (is_head q) x.0 (codes x.1)) × Known q (attr x.0).sort x.1) (some_one (t, ks) (u, r) e) (refl, o)

module _ (n : ℕ) (L : Loops n) (R : Runs n) where
  further : (b : Bool) (p : Slot) (t : Tree) (ks : List Token) (u : Tree) (r : List Token) (g : Bool) → Known (ex p) (attr t).sort ks → cond g (bind (perform n b (frame_do (next ks) (attr t).standing) (head_of t).hi ks) (λ y. loop n b (ex p) (grown_on t y) y.left)) (some (t, ks)) ≡ some (u, r) → (wr false t (codes ks) ≡ wr false u (codes r)) × Known (ex p) (attr u).sort r
  unfolding wr wrs attr attrs
  further b p t ks u r true o e =
      let (y, h1, h2) = bind_inv (perform n b (frame_do (next ks) (attr t).standing) (head_of t).hi ks) _ (u, r) e in
      let a : Says (ex p) ks (λ us. t ▸ us) (λ k. wr false t k) y = R (ex p) b (frame_do (next ks) (attr t).standing) (head_of t).hi ks (λ us. t ▸ us) (λ k. wr false t k) y (frame_keeps p ks t (next ks) (attr t).standing) h1 in
      let (w, i) = L b (ex p) (grown_on t y) y.left u r a.1 h2 in
      (a.0 ∙ w, i)
  further b p t ks u r false o e = stopped (ex p) t ks u r o e

  looped : Loops (suc n)
  unfolding loop
  looped b (ex p) t ks u r o e = further b p t ks u r (goes_on b (ex p) (attr t) (frame (next ks))) o e
  looped b stm t ks u r o e = stopped stm t ks u r o e
  looped b blk t ks u r o e = stopped blk t ks u r o e
  looped b dec t ks u r o e = stopped dec t ks u r o e
  looped b prp t ks u r o e = stopped prp t ks u r o e
  looped b nam t ks u r o e = stopped nam t ks u r o e
  looped b scr t ks u r o e = stopped scr t ks u r o e

  parsed : Parses (suc n)
  unfolding parse wr attr
  parsed b q ks t r e =
      let (y, h1, h2) = bind_inv (perform n b (prefix q ks) 0 ks) _ (t, r) e in
      let a : Says q ks (λ us. us) (λ k. k) y = R q b (prefix q ks) 0 ks (λ us. us) (λ k. k) y (prefix_keeps q ks) h1 in
      let (w, i) = L b q (begun ks y) y.left t r a.1 h2 in
      (a.0 ∙ w, i)

all_written : (n : ℕ) → Parses n × Loops n × Runs n
unfolding parse loop perform
all_written zero = (λ b q ks t r e. absurd (none-ne-some (t, r) e), λ b q t ks u r o e. absurd (none-ne-some (u, r) e), λ q b s h ks U X y p e. absurd (none-ne-some y e))
all_written (suc n) =
    let (P, L, R) = all_written n in
    (parsed n L R, looped n L R, λ q b s h ks U X y p e. executed n P R q b (settle s ks) h ks U X y (settled q ks U X s p) e)

pub found_written : FoundWritten
found_written n b q ks t r h = ((all_written n).0 b q ks t r h).0
