-- What every script of the reader promises: however it runs, the form that it gives, with the children that it read, writes the tokens it ate.
use mathlib.Core.Path.{◌≡◌, refl}
use mathlib.Core.List.{List, [], ◌∷◌}
use mathlib.Core.Bool.{Bool, true, false, cond}
use lib.Dec.{eqb}
use Rattle.token.specs.declared.Token.{Token}
use Rattle.token.specs.declared.Code.{Code}
use Rattle.kinds.specs.declared.form.Form.{Form}
use Rattle.grammar.specs.Codes.{comma, equals}
use Rattle.grammar.specs.Site.{Sort, declaration, valued, sort_rank, is_sort}
use Rattle.grammar.specs.Tree.{Tree, Forest, nil, ◌▸◌, ◌⊕◌}
use Rattle.grammar.specs.Layout.{layout, sort_of, attr, attrs, fill, wr, wrs}
use Rattle.grammar.specs.Parser.{Goal, ex, stm, blk, dec, prp, nam, scr, Do, fail, fin, eat, sub, peek, more, items, stms, operand, names, behind, starts, first_opens, at_stop, tail_of, settle}
use Rattle.grammar.specs.Claim.{is_head}

-- What is known of a sort when a tree for the goal is complete, and ks follow.
abbrev pub Known : Goal → Sort → List Token → Type 0
Known (ex p) s ks = eqb (sort_rank declaration) (sort_rank s) ≡ false
Known stm s ks = Unit {0}
Known blk s ks = Unit {0}
Known dec s ks = eqb (sort_rank declaration) (sort_rank s) ≡ true
Known prp s ks = Unit {0}
Known nam s ks = eqb (sort_rank valued) (sort_rank s) ≡ starts equals ks
Known scr s ks = Unit {0}

-- A form with its children, written.
abbrev pub written : Bool → Form → Forest → List Code → List Code
written h f us k = fill h (layout f (attrs us)) (wrs us) k

-- Children one after the other; with a comma before each; with commas between them.
abbrev pub run_text : Forest → List Code → List Code
run_text nil k = k
run_text (u ▸ us) k = wr false u (run_text us k)

abbrev pub comma_text : Bool → Forest → List Code → List Code
comma_text h nil k = k
comma_text h (u ▸ us) k = comma ∷ wr h u (comma_text h us k)

abbrev pub list_text : Bool → Forest → List Code → List Code
list_text h nil k = k
list_text h (u ▸ us) k = wr h u (comma_text h us k)

-- The Names of a Var, some with values.
pub data Declared : Type 0 where
  bare : (u : Tree) → is_sort valued (attr u) ≡ false → Declared
  given : (u v : Tree) → is_sort valued (attr u) ≡ true → Declared

abbrev pub declared_kids : Declared → Forest → Forest
declared_kids (bare u e) us = u ▸ us
declared_kids (given u v e) us = u ▸ (v ▸ us)

abbrev pub declared_text : Declared → List Code → List Code
declared_text (bare u e) k = wr false u k
declared_text (given u v e) k = wr false u (equals ∷ wr false v k)

abbrev pub all_kids : List Declared → Forest → Forest
all_kids [] us = us
all_kids (d ∷ ds) us = declared_kids d (all_kids ds us)

abbrev pub all_text : List Declared → List Code → List Code
all_text [] k = k
all_text (d ∷ ds) k = comma ∷ declared_text d (all_text ds k)

-- For the goal q, with the children that U puts in front and the codes that X does, and the tokens ks ahead.
abbrev pub Promises : Goal → List Token → (Forest → Forest) → (List Code → List Code) → Do → Type 0
Promises q ks U X fail = Unit {0}
Promises q ks U X (fin f) = ((k : List Code) → X k ≡ written (is_head q) f (U nil) k) × Known q (sort_of f) ks
Promises q ks U X (eat c s) = Promises q (tail_of ks) U (λ k. X (c ∷ k)) s
Promises q ks U X (sub m g s) = (u : Tree) (js : List Token) → Known g (attr u).sort js → Promises q js (λ us. U (u ▸ us)) (λ k. X (wr (is_head g) u k)) s
Promises q ks U X (peek c s t) = (starts c ks ≡ true → Promises q ks U X s) × (starts c ks ≡ false → Promises q ks U X t)
Promises q ks U X (more m g s) = (us : Forest) (js : List Token) → Promises q js (λ vs. U (us ⊕ vs)) (λ k. X (comma_text (is_head g) us k)) s
Promises q ks U X (items g c s) = (us : Forest) (js : List Token) → Promises q js (λ vs. U (us ⊕ vs)) (λ k. X (list_text (is_head g) us k)) s
Promises q ks U X (stms s) = (us : Forest) (js : List Token) → Promises q js (λ vs. U (us ⊕ vs)) (λ k. X (run_text us k)) s
Promises q ks U X (operand s t) = Promises q ks U X s × Promises q ks U X t
Promises q ks U X (names s) = (d : Declared) (ds : List Declared) (js : List Token) → Promises q js (λ us. U (declared_kids d (all_kids ds us))) (λ k. X (declared_text d (all_text ds k))) s
Promises q ks U X (behind s) = (ds : List Declared) (js : List Token) → Promises q js (λ us. U (all_kids ds us)) (λ k. X (all_text ds k)) s

-- Looking ahead keeps the promise.
module _ (q : Goal) (ks : List Token) (U : Forest → Forest) (X : List Code → List Code) where
  pub either : (b : Bool) (s t : Do) → (b ≡ true → Promises q ks U X s) → (b ≡ false → Promises q ks U X t) → Promises q ks U X (cond b s t)
  either true s t h k = h refl
  either false s t h k = k refl

  pub settled : (s : Do) → Promises q ks U X s → Promises q ks U X (settle s ks)
  settled fail p = p
  settled (fin f) p = p
  settled (eat c s) p = p
  settled (sub m g s) p = p
  settled (peek c s t) p = either (starts c ks) _ _ (λ e. settled s (p.0 e)) (λ e. settled t (p.1 e))
  settled (more m g s) p = either (starts comma ks) _ _ (λ e u js i us. p (u ▸ us)) (λ e. settled s (p nil ks))
  settled (items g c s) p = either (starts c ks) _ _ (λ e. settled s (p nil ks)) (λ e u js i us. p (u ▸ us))
  settled (stms s) p = either (at_stop ks) _ _ (λ e. settled s (p nil ks)) (λ e u js i us. p (u ▸ us))
  settled (operand s t) p = either (first_opens ks) _ _ (λ e. settled s p.0) (λ e. settled t p.1)
  settled (names s) p = λ u js i. (λ e v ls j ds. p (given u v (cc)) ds, λ e ds. p (bare u (cc)) ds)
  settled (behind s) p = either (starts comma ks) _ _ (λ e d ds. p (d ∷ ds)) (λ e. settled s (p [] ks))
