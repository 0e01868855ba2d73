-- A store, as its caller sees it.
--
--   lists_in s    the lists that it means
--   spare s       how many comments more it holds
--
-- Assumes nothing.
use Rattle.std.specs.Prelude.{ℕ, ◌-◌, min, length}
use Rattle.comments.specs.Lists.{Lists}
use Rattle.chain.specs.Chain.{room}
use Rattle.spliced.specs.declared.store.Spliced.{Spliced}
use Rattle.spliced.specs.Heads.{listed}

abbrev pub lists_in : Spliced → Lists
lists_in s = listed s.notes.slots.now s.heads.slots.now

abbrev pub spare : Spliced → ℕ
spare s = min (room (length s.notes.slots.now)) (room (length s.heads.slots.now)) - s.held
