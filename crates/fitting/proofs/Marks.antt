-- An `in` in the open in one of the children that are marked.
use Prim.Native.Nat.{ℕ, zero, suc, ◌<◌}
use mathlib.Core.Path.{◌≡◌, refl, sym, ◌∙◌, ap}
use mathlib.Core.Bool.{Bool, true, false, ◌&&◌, ◌||◌}
use mathlib.Core.List.{List, [], ◌∷◌, map}
use lib.ListN.{length, get_or}
use Rattle.std.proofs.Common.{arith}
use Rattle.std.proofs.Math.Bool.{or-true}
use Rattle.std.specs.Bool.{MatchBool}
use Rattle.std.specs.List.{zip, AllWithin, HoldsAt}
use Rattle.fitting.specs.Traits.{traits_of}
use Rattle.fitting.specs.Derived.{marked}
use Rattle.fitting.specs.declared.traits.Traits.{Traits}

-- A child and its mark.
abbrev pub IsBare : Traits × Bool → Type 0
IsBare p = p.1 && p.0.bare_in ≡ true

abbrev pub NotBare : Traits × Bool → Type 0
NotBare p = p.1 && p.0.bare_in ≡ false

one_bare : (ts : List Traits) (ms : List Bool) (k : ℕ) → k < length (zip ts ms) → ((d : Traits × Bool) → IsBare (get_or (zip ts ms) k d)) → true ≡ marked ms (map traits_of ts)
one_bare [] ms k l h = absurd (omega (arith, l))
one_bare (t ∷ ts) [] k l h = absurd (omega (arith, l))
one_bare (t ∷ ts) (m ∷ ms) zero l h = ap (λ (b : Bool). b || marked ms (map traits_of ts)) (sym (h (t, m)))
one_bare (t ∷ ts) (m ∷ ms) (suc k) l h = sym (or-true (m && t.bare_in)) ∙ ap (λ (b : Bool). (m && t.bare_in) || b) (one_bare ts ms k (omega (arith, l)) h)

none_bare : (ts : List Traits) (ms : List Bool) → ((k : ℕ) (d : Traits × Bool) → k < length (zip ts ms) → NotBare (get_or (zip ts ms) k d)) → false ≡ marked ms (map traits_of ts)
none_bare [] [] h = refl
none_bare [] (m ∷ ms) h = refl
none_bare (t ∷ ts) [] h = refl
none_bare (t ∷ ts) (m ∷ ms) h = none_bare ts ms (λ k d l. h (suc k) d (omega (arith, l))) ∙ ap (λ (b : Bool). b || marked ms (map traits_of ts)) (sym (h 0 (t, m) (omega arith)))

pub marked_told : (ts : List Traits) (ms : List Bool) (r : Bool) → MatchBool r ((k : ℕ) × (k < length (zip ts ms)) × HoldsAt IsBare (zip ts ms) k) (AllWithin NotBare (zip ts ms) 0 (length (zip ts ms))) → r ≡ marked ms (map traits_of ts)
marked_told ts ms true h = one_bare ts ms h.0 h.1 h.2
marked_told ts ms false h = none_bare ts ms (λ k d l. h k d (omega arith) l)
