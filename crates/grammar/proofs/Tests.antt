-- Tests that came out true or false, taken apart and put together.
use mathlib.Core.Path.{◌≡◌, refl}
use mathlib.Core.List.{List, [], ◌∷◌}
use mathlib.Core.Option.{Option, none, some}
use Prim.Native.Nat.{ℕ, zero, suc}
use mathlib.Core.Bool.{Bool, true, false, not, ◌&&◌, ◌||◌}
use lib.Dec.{T}

pub and_l : (a b : Bool) → T (a && b) → T a
and_l true b h = tt
and_l false b h = h

pub and_r : (a b : Bool) → T (a && b) → T b
and_r true b h = h
and_r false b h = absurd h

pub and_i : (a b : Bool) → T a → T b → T (a && b)
and_i true b h k = k
and_i false b h k = h

pub or_l : (a b : Bool) → T a → T (a || b)
or_l true b h = tt
or_l false b h = absurd h

pub or_r : (a b : Bool) → T b → T (a || b)
or_r true b h = tt
or_r false b h = h

pub is_true : (a : Bool) → T a → a ≡ true
is_true true h = refl
is_true false h = absurd h

pub is_false : (a : Bool) → T (not a) → a ≡ false
is_false true h = absurd h
is_false false h = refl

pub no_both : (a : Bool) → T a → T (not a) → ⊥
no_both true h k = k
no_both false h k = h

abbrev pub imp : Bool → Bool → Bool
imp true b = b
imp false b = true

pub mp : (a b : Bool) → T (imp a b) → T a → T b
mp true b h k = h
mp false b h k = absurd k

-- A test of every element, and what it says of the element at a place.
abbrev pub all : {A : Type 0} → (A → Bool) → List A → Bool
all P [] = true
all P (x ∷ xs) = P x && all P xs

abbrev pub nth : {A : Type 0} → List A → ℕ → Option A
nth [] n = none
nth (x ∷ xs) zero = some x
nth (x ∷ xs) (suc n) = nth xs n

abbrev pub holds : {A : Type 0} → (A → Bool) → Option A → Bool
holds P none = true
holds P (some x) = P x

pub pick : {A : Type 0} (P : A → Bool) (xs : List A) (n : ℕ) → T (all P xs) → T (holds P (nth xs n))
pick P [] n h = tt
pick P (x ∷ xs) zero h = and_l (P x) _ h
pick P (x ∷ xs) (suc n) h = pick P xs n (and_r (P x) _ h)
