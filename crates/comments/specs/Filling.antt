-- What putting one comment into a store answers, and what it leaves.
--
--   Fills f g n m side k c r    a store with the lists f and room for n comments was given the comment c for the list on
--                               `side` at k, answered r, and has then the lists g and room for m comments
--
-- It accepts exactly where there is room, and refuses by the number 4, with 1, the records needed, where there is none.
-- Assumes nothing.
use Rattle.std.specs.Prelude.{◌≡◌, ℕ, ◌+◌, Ok, Err, Result}
use Rattle.refusal.specs.declared.Refusal.{Refusal}
use Rattle.refusal.specs.Table.{numbered, valued}
use Rattle.comments.specs.declared.store.Side.{Side}
use Rattle.comments.specs.Lists.{Lists, added}

abbrev pub Fills : {U : Type 0} → Lists → Lists → ℕ → ℕ → Side → ℕ → ℕ → Result U Refusal → Type 0
Fills f g n m side k c (Ok u) = (n ≡ m + 1) × ((at : Side) (j : ℕ) → g at j ≡ added f side k c at j)
Fills f g n m side k c (Err e) =
    (n ≡ 0) × (m ≡ 0) × (numbered e ≡ 4) × (valued e ≡ 1) × ((at : Side) (j : ℕ) → g at j ≡ f at j)
