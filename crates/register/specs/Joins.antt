-- Two lists of a register that become one: what becomes of each entry, and of the lists.
--
--   moved_to side first second to ahead e   the entry e after the lists on `side` at `first` and `second`, of which the
--                                           first has `ahead` entries, have become one list at `to`
--   together f side first second to         the lists f after those on `side` at `first` and `second` have become one
--                                           list at `to`, in this order; the other of the two is then empty
--
-- Assumes nothing.
use Rattle.std.specs.Prelude.{ℕ, ◌+◌, cond, ◌||◌, [], ◌++◌, ◌==◌}
use Rattle.comments.specs.declared.store.Side.{Side}
use Rattle.comments.specs.Lists.{Lists, same}
use Rattle.register.specs.declared.entry.Entry.{Entry}
use Rattle.register.specs.Listing.{here}

abbrev pub moved_to : Side → ℕ → ℕ → ℕ → ℕ → Entry → Entry
moved_to side first second to ahead e =
    record {
      comment = e.comment;
      spot = record { side = e.spot.side; offset = cond (here side first e || here side second e) to e.spot.offset };
      rank = cond (here side second e) (e.rank + ahead) e.rank;
    }

abbrev pub together : Lists → Side → ℕ → ℕ → ℕ → Lists
together f side first second to at k =
    cond (same at side) (cond (k == to) (f side first ++ f side second) (cond (k == first || k == second) [] (f at k))) (f at k)
