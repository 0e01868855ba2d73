-- What the entries of a register stand for.
--
--   here side k e            the entry e stands in the list on `side` at the offset k
--   ranked side k r e        and has the rank r there
--   comment_at es side k r   the comment of the entry that has the rank r in that list; 0 where there is none
--   listing es side k        that list: the comments of its entries, in the order of their ranks
--   Sound es                 in each list, every rank below the number of its entries is that of exactly one entry, and
--                            no other rank is that of any
--
-- Assumes nothing.
use Rattle.std.specs.Prelude.{◌≡◌, ℕ, Bool, cond, ◌&&◌, List, [], ◌∷◌, map, count_by, ◌==◌, nat_lt}
use Rattle.std.specs.List.{range_with_len}
use Rattle.comments.specs.declared.store.Side.{Side}
use Rattle.comments.specs.Lists.{same}
use Rattle.register.specs.declared.entry.Entry.{Entry}

abbrev pub here : Side → ℕ → Entry → Bool
here side k e = same e.spot.side side && e.spot.offset == k

abbrev pub ranked : Side → ℕ → ℕ → Entry → Bool
ranked side k r e = here side k e && e.rank == r

abbrev pub comment_at : List Entry → Side → ℕ → ℕ → ℕ
comment_at [] side k r = 0
comment_at (e ∷ es) side k r = cond (ranked side k r e) e.comment (comment_at es side k r)

abbrev pub listing : List Entry → Side → ℕ → List ℕ
listing es side k = map (comment_at es side k) (range_with_len 0 (count_by (here side k) es))

abbrev pub Sound : List Entry → Type 0
Sound es = (side : Side) (k r : ℕ) → count_by (ranked side k r) es ≡ cond (nat_lt r (count_by (here side k) es)) 1 0
