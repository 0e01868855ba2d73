-- The records of comments, as lists of numbers.
--
--   Note             the record of a comment
--   comments s       the comments of the records
--   comment_at cs k  the comment of slot k, where cs has the comments of all records
--   linked_note n v  the record with another link
--
-- Assumes nothing.
use Rattle.std.specs.Prelude.{ℕ, ◌-◌, List, map, slice_index}
use Rattle.spliced.specs.declared.linked.Linked.{Linked}

abbrev pub Note : Type 0
Note = Linked ℕ

abbrev pub comments : List Note → List ℕ
comments s = map (λ n. n.content) s

abbrev pub comment_at : List ℕ → ℕ → ℕ
comment_at cs k = slice_index cs (k - 1)

abbrev pub linked_note : Note → ℕ → Note
linked_note n v = record { content = n.content; next = v }
