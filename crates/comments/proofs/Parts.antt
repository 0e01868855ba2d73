-- A shift and an addition by their parts, for the stores that make them.
use Rattle.std.proofs.Common.{◌≡◌, ℕ, true, false, ◌&&◌, eqb, List, [], ◌∷◌, ◌++◌, sym, refl, ap, ◌∙◌, subst, ⊎_elim, append-nil, arith}
use Rattle.std.proofs.lemmas.Bool.{eqb-true, cond-true, cond-false, cases_eq, cases_Bool, and_parts}
use Rattle.comments.specs.declared.store.Side.{Side}
use Rattle.comments.specs.declared.store.Side.TheVariants.{Leading, Trailing}
use Rattle.comments.specs.Lists.{Lists, join, moved, shifted, same, added}
use Rattle.comments.proofs.Joins.{moved_to, moved_from, moved_other}

-- two sides that pass the test are one side
pub same_sides : (a b : Side) → same a b ≡ true → a ≡ b
same_sides Leading Leading e = refl
same_sides Leading Trailing e = let z : ◌≡◌ {A = ℕ} 0 1 = cc in absurd (omega arith)
same_sides Trailing Leading e = let z : ◌≡◌ {A = ℕ} 0 1 = cc in absurd (omega arith)
same_sides Trailing Trailing e = refl

pub same_self : (a : Side) → same a a ≡ true
same_self Leading = refl
same_self Trailing = refl

-- on its own side a shift is a move, and on the other it changes nothing
pub shifted_here : (side : Side) (f : Lists) (a b k : ℕ) → shifted side f a b side k ≡ moved side (f side) a b k
shifted_here Leading f a b k = refl
shifted_here Trailing f a b k = refl

pub shifted_there : (side at : Side) (f : Lists) (a b k : ℕ) → same at side ≡ false → shifted side f a b at k ≡ f at k
shifted_there Leading Leading f a b k e = let z : ◌≡◌ {A = ℕ} 0 1 = cc in absurd (omega arith)
shifted_there Leading Trailing f a b k e = refl
shifted_there Trailing Leading f a b k e = refl
shifted_there Trailing Trailing f a b k e = let z : ◌≡◌ {A = ℕ} 0 1 = cc in absurd (omega arith)

-- a shift by its parts: what is at `to`, at `from`, and elsewhere
pub shifted_parts :
    (side : Side)
    (f g : Lists)
    (a b : ℕ)
    → (a ≡ b → ⊥)
    → g side b ≡ join side (f side a) (f side b)
    → g side a ≡ []
    → ((k : ℕ) → (k ≡ a → ⊥) → (k ≡ b → ⊥) → g side k ≡ f side k)
    → ((at : Side) (k : ℕ) → same at side ≡ false → g at k ≡ f at k)
    → (at : Side) (k : ℕ) → g at k ≡ shifted side f a b at k
shifted_parts side f g a b ne to from others there at k =
    ⊎_elim here (λ e. there at k e ∙ sym (shifted_there side at f a b k e)) (cases_Bool (same at side))
  where
    on_side : (k : ℕ) → g side k ≡ moved side (f side) a b k
    on_side k =
        ⊎_elim
        (λ e. ap (g side) e ∙ to ∙ sym (moved_to side (f side) a b k ne e))
        (λ nb. ⊎_elim
        (λ e. ap (g side) e ∙ from ∙ sym (moved_from side (f side) a b k ne e))
        (λ na. others k na nb ∙ sym (moved_other side (f side) a b k na nb))
        (cases_eq k a))
        (cases_eq k b)

    here : same at side ≡ true → g at k ≡ shifted side f a b at k
    here e =
        subst (λ (x : Side). g x k ≡ shifted side f a b x k) (sym (same_sides at side e))
        (on_side k ∙ sym (shifted_here side f a b k))

join_none : (side : Side) (xs ys : List ℕ) → xs ≡ [] → ys ≡ join side xs ys
join_none Leading xs ys e = ap (λ (z : List ℕ). z ++ ys) (sym e)
join_none Trailing xs ys e = sym (append-nil ys) ∙ ap (λ (z : List ℕ). ys ++ z) (sym e)

-- a shift of an empty list changes nothing
pub shifted_empty : (side : Side) (f : Lists) (a b : ℕ) → (a ≡ b → ⊥) → f side a ≡ [] → (at : Side) (k : ℕ) → f at k ≡ shifted side f a b at k
shifted_empty side f a b ne e =
    shifted_parts side f f a b ne (join_none side (f side a) (f side b) e) e (λ k na nb. refl) (λ at k s. refl)

-- a list joined to an empty one
pub join_to_none : (side : Side) (xs ys : List ℕ) → ys ≡ [] → xs ≡ join side xs ys
join_to_none Leading xs ys e = sym (append-nil xs) ∙ ap (λ (z : List ℕ). xs ++ z) (sym e)
join_to_none Trailing xs ys e = ap (λ (z : List ℕ). z ++ xs) (sym e)

-- an addition by its parts
pub added_parts :
    (f g : Lists)
    (side : Side)
    (k c : ℕ)
    → g side k ≡ f side k ++ (c ∷ [])
    → ((at : Side) (j : ℕ) → (same at side && eqb j k) ≡ false → g at j ≡ f at j)
    → (at : Side) (j : ℕ) → g at j ≡ added f side k c at j
added_parts f g side k c here there at j = ⊎_elim on_key (λ e. there at j e ∙ sym (cond-false (same at side && eqb j k) (f at j ++ (c ∷ [])) (f at j) e)) (cases_Bool (same at side && eqb j k))
  where
    on_key : (same at side && eqb j k) ≡ true → g at j ≡ added f side k c at j
    on_key e =
        let p = and_parts (same at side) (eqb j k) e in
        let s : at ≡ side = same_sides at side p.0 in
        let d : j ≡ k = eqb-true j k p.1 in
        ap (λ (x : Side). g x j) s
        ∙ ap (g side) d
        ∙ here
        ∙ ap (λ (x : ℕ). f side x ++ (c ∷ [])) (sym d)
        ∙ ap (λ (x : Side). f x j ++ (c ∷ [])) (sym s)
        ∙ sym (cond-true (same at side && eqb j k) (f at j ++ (c ∷ [])) (f at j) e)
