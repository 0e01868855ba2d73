-- A move joins two lists.
use Rattle.std.proofs.Common.{◌≡◌, ℕ, ◌-◌, Bool, true, false, cond, ◌||◌, eqb, List, [], ◌++◌, length, drop, sym, refl, ap, ◌∙◌, subst, ⊎_elim}
use Rattle.std.proofs.lemmas.List.{length-drop}
use Rattle.std.proofs.lemmas.Bool.{cond-true, cond-false, cases_Bool, ne_eqb}
use Rattle.comments.specs.declared.store.Side.{Side}
use Rattle.comments.specs.declared.store.Side.TheVariants.{Leading, Trailing}
use Rattle.comments.specs.Lists.{Lists, shifted}
use Rattle.register.specs.Joins.{together}

move_cases : (k from to : ℕ) (x z : List ℕ) (b : Bool) → (from ≡ to → ⊥) → (eqb k to ≡ false → b ≡ eqb k from) → cond (eqb k to) x (cond b [] z) ≡ cond (eqb from to) z (cond (eqb k to) x (cond (eqb k from) [] z))
move_cases k from to x z b ne h =
    ⊎_elim
    (λ t. cond-true (eqb k to) _ _ t ∙ sym (apart ∙ cond-true (eqb k to) _ _ t))
    (λ t. ap (λ (y : Bool). cond (eqb k to) x (cond y [] z)) (h t) ∙ sym apart)
    (cases_Bool (eqb k to))
  where
    apart : cond (eqb from to) z (cond (eqb k to) x (cond (eqb k from) [] z)) ≡ cond (eqb k to) x (cond (eqb k from) [] z)
    apart = cond-false (eqb from to) _ _ (ne_eqb from to ne)

or_false : (a b : Bool) → b ≡ false → a || b ≡ a
or_false true b e = refl
or_false false b e = e

led : (f : Lists) (from to : ℕ) → (from ≡ to → ⊥) → (at : Side) (k : ℕ) → together f Leading from to to at k ≡ shifted Leading f from to at k
led f from to ne Leading k = move_cases k from to (f Leading from ++ f Leading to) (f Leading k) (eqb k from || eqb k to) ne (or_false (eqb k from) (eqb k to))
led f from to ne Trailing k = refl

trailed : (f : Lists) (from to : ℕ) → (from ≡ to → ⊥) → (at : Side) (k : ℕ) → together f Trailing to from to at k ≡ shifted Trailing f from to at k
trailed f from to ne Leading k = refl
trailed f from to ne Trailing k =
    move_cases k from to (f Trailing to ++ f Trailing from) (f Trailing k) (eqb k to || eqb k from) ne (λ e. ap (λ (y : Bool). y || eqb k from) e)

-- what puts the list at `from` to the outer side of that at `to` is a shift
pub shift_leading : (side : Side) (f g : Lists) (from to : ℕ) → (from ≡ to → ⊥) → side ≡ Leading → ((at : Side) (k : ℕ) → g at k ≡ together f side from to to at k) → (at : Side) (k : ℕ) → g at k ≡ shifted side f from to at k
shift_leading side f g from to ne e h at k = h at k ∙ subst (λ (s : Side). together f s from to to at k ≡ shifted s f from to at k) (sym e) (led f from to ne at k)

pub shift_trailing : (side : Side) (f g : Lists) (from to : ℕ) → (from ≡ to → ⊥) → side ≡ Trailing → ((at : Side) (k : ℕ) → g at k ≡ together f side to from to at k) → (at : Side) (k : ℕ) → g at k ≡ shifted side f from to at k
shift_trailing side f g from to ne e h at k = h at k ∙ subst (λ (s : Side). together f s to from to at k ≡ shifted s f from to at k) (sym e) (trailed f from to ne at k)

-- where the records that are no entries stay, there is room for as many more
pub room_kept : {X : Type 0} (xs ys : List X) (a b : ℕ) → drop a xs ≡ drop b ys → length xs - a ≡ length ys - b
room_kept xs ys a b e = sym (length-drop a xs) ∙ ap length e ∙ length-drop b ys
