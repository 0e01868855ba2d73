-- What is kept over a whole run of moves: no comment is lost, and none is doubled.
--
--   Once c f        the number c stands in exactly one of the lists f, and there once
--   Gathered f g    each list of g is a joining of lists of f, and each list of f is in exactly one place
--   Call            a comment put last into a list, or a list moved
--   After x b f n g m   from the lists f with room for n comments the call x led to the lists g with room for m, as the contracts of
--                   the stores have it; b says whether it was accepted (a move always is)
--   Played xs bs ..     the same of a list of calls, with the list of their answers
--   SameMeaning     two stores with equal lists and equal room give equal answers to equal calls, and have equal lists and equal room
--                   afterwards, whatever they are made of
--
-- Assumes nothing.
use Rattle.std.specs.Prelude.{◌≡◌, ℕ, Bool, true, List, [], ◌∷◌, is_ok, Result, ◌≢◌}
use Rattle.std.specs.List.{flat_map}
use Rattle.refusal.specs.declared.Refusal.{Refusal}
use Rattle.chain.specs.Chain.{times}
use Rattle.comments.specs.declared.store.Side.{Side}
use Rattle.comments.specs.Lists.{Lists, shifted}
use Rattle.comments.specs.Filling.{Fills}

abbrev pub Once : ℕ → (ℕ → List ℕ) → Type 0
Once c f = (k : ℕ) × (times c (f k) ≡ 1) × ((j : ℕ) → (j ≢ k) → times c (f j) ≡ 0)

-- `origins k` has the offsets whose lists from before are joined at k, in their order
pub record Gathered (old new : ℕ → List ℕ) : Type 0 where
  pub origins : ℕ → List ℕ
  pub joins : (k : ℕ) → new k ≡ flat_map old (origins k)
  pub once : (j : ℕ) → Once j origins

pub data Call : Type 0 where
  put : Side → ℕ → ℕ → Call
  move : Side → ℕ → ℕ → Call

abbrev pub Equal : Lists → Lists → Type 0
Equal f g = (side : Side) (k : ℕ) → f side k ≡ g side k

abbrev pub After : Call → Bool → Lists → ℕ → Lists → ℕ → Type 0
After (put side k c) b f n g m = (r : Result (Unit {0}) Refusal) × (is_ok r ≡ b) × Fills f g n m side k c r
After (move side from to) b f n g m = (b ≡ true) × Equal g (shifted side f from to) × (m ≡ n)

abbrev pub Played : List Call → List Bool → Lists → ℕ → Lists → ℕ → Type 0
Played [] [] f n g m = Equal g f × (m ≡ n)
Played [] (b ∷ bs) f n g m = ⊥
Played (x ∷ xs) [] f n g m = ⊥
Played (x ∷ xs) (b ∷ bs) f n h l = (g : Lists) × (m : ℕ) × After x b f n g m × Played xs bs g m h l

abbrev pub SameMeaning : Type 0
SameMeaning =
    (xs : List Call) (cs bs : List Bool) (f g f' g' : Lists) (n n' m' : ℕ)
    → Equal f g
    → Played xs cs f n f' n'
    → Played xs bs g n g' m'
    → (cs ≡ bs) × Equal f' g' × (n' ≡ m')
