-- Records and slots.
--
--   mark_number m  the number of a mark: 1, 2, 3 for the root of a loaded tree, a fixed tree, a piece; 0 else
--   head_of r      what a record says besides its links and its mark: its form and its place
--   vacant n       a free record that leads to n
--   at s k         the record of slot k; slots count from 1
--   links s        the links of the records
--   tail r         all that a record holds besides its link
--   relinked r v   the record with the link v
--   marked r m     the record with the mark m
--   stamped s k m  the records with the mark m on slot k
--
-- Assumes nothing.
use Rattle.std.specs.Prelude.{ℕ, ◌-◌, List, map, slice_index_or, slice_set}
use Rattle.kinds.specs.declared.form.Form.TheVariants as form
use Rattle.grammar.specs.Tree.{Head, head}
use Rattle.records.specs.declared.record.Record.{Record}
use Rattle.records.specs.declared.record.Tail.{Tail}
use Rattle.records.specs.declared.record.Mark.{Mark}
use Rattle.records.specs.declared.record.Mark.TheVariants as mark

abbrev pub mark_number : Mark → ℕ
mark_number mark.Unmarked = 0
mark_number mark.Loaded = 1
mark_number mark.Fixed = 2
mark_number mark.Piece = 3

abbrev pub head_of : Record → Head
head_of r = head r.form r.lo r.hi

abbrev pub vacant : ℕ → Record
vacant n = record { form = form.Free; first = 0; next = n; lo = 0; hi = 0; mark = mark.Unmarked }

abbrev pub at : List Record → ℕ → Record
at s k = slice_index_or s (k - 1) (vacant 0)

abbrev pub links : List Record → List ℕ
links s = map (λ r. r.next) s

abbrev pub tail : Record → Tail
tail r = record { form = r.form; first = r.first; lo = r.lo; hi = r.hi; mark = r.mark }

abbrev pub relinked : Record → ℕ → Record
relinked r v = record { form = r.form; first = r.first; next = v; lo = r.lo; hi = r.hi; mark = r.mark }

abbrev pub marked : Record → Mark → Record
marked r m = record { form = r.form; first = r.first; next = r.next; lo = r.lo; hi = r.hi; mark = m }

abbrev pub stamped : List Record → ℕ → Mark → List Record
stamped s k m = slice_set s (k - 1) (marked (at s k) m)
