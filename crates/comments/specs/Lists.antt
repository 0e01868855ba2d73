-- What moves and additions make of the lists of comments.
--
--   Lists                    a list of comment numbers on each side, at each offset
--   edge side p              the offset at which a place's comments on a side are
--   join side outer inner    the list of what is outside and that of what is inside, in the order of the text
--   moved side f from to     the lists f, on one side, after the list at `from` has gone to the outer side of that at `to`
--   shifted side f from to   the same of both sides, where the lists on the other side stay
--   carried side f ms        the lists f, on one side, after the moves ms, one after the other
--   added f side k c         the lists f with the comment c last in the list on `side` at k
--   same a b                 whether two sides are one
--
-- Assumes nothing.
use Rattle.std.specs.Prelude.{ℕ, Bool, true, false, cond, ◌&&◌, List, [], ◌∷◌, ◌++◌, ◌==◌}
use Rattle.comments.specs.declared.place.Place.{Place}
use Rattle.comments.specs.declared.place.Move.{Move}
use Rattle.comments.specs.declared.store.Side.{Side}
use Rattle.comments.specs.declared.store.Side.TheVariants.{Leading, Trailing}

abbrev pub Lists : Type 0
Lists = Side → ℕ → List ℕ

abbrev pub edge : Side → Place → ℕ
edge Leading p = p.lo
edge Trailing p = p.hi

abbrev pub join : Side → List ℕ → List ℕ → List ℕ
join Leading outer inner = outer ++ inner
join Trailing outer inner = inner ++ outer

abbrev pub moved : Side → (ℕ → List ℕ) → ℕ → ℕ → ℕ → List ℕ
moved side f from to k =
    cond (from == to) (f k) (cond (k == to) (join side (f from) (f to)) (cond (k == from) [] (f k)))

abbrev pub shifted : Side → Lists → ℕ → ℕ → Lists
shifted Leading f from to Leading k = moved Leading (f Leading) from to k
shifted Leading f from to Trailing k = f Trailing k
shifted Trailing f from to Leading k = f Leading k
shifted Trailing f from to Trailing k = moved Trailing (f Trailing) from to k

abbrev pub carried : Side → (ℕ → List ℕ) → List Move → ℕ → List ℕ
carried side f [] = f
carried side f (m ∷ ms) = carried side (moved side f (edge side m.from) (edge side m.to)) ms

abbrev pub same : Side → Side → Bool
same Leading Leading = true
same Leading Trailing = false
same Trailing Leading = false
same Trailing Trailing = true

abbrev pub added : Lists → Side → ℕ → ℕ → Lists
added f side k c at j = cond (same at side && j == k) (f at j ++ (c ∷ [])) (f at j)
