-- What a register holds.
--
--   entries_of r    the records that are entries
--   lists_of r      the lists of comments that a register means
--   spare_of r      how many records are not yet entries
--   beyond r        those records
--
-- Assumes nothing.
use Rattle.std.specs.Prelude.{ℕ, ◌-◌, List, length, take, drop}
use Rattle.comments.specs.Lists.{Lists}
use Rattle.register.specs.declared.entry.Entry.{Entry}
use Rattle.register.specs.declared.register.Register.{Register}
use Rattle.register.specs.Listing.{listing}

abbrev pub entries_of : Register → List Entry
entries_of r = take r.used r.slots.now

abbrev pub lists_of : Register → Lists
lists_of r = listing (entries_of r)

abbrev pub spare_of : Register → ℕ
spare_of r = length r.slots.now - r.used

abbrev pub beyond : Register → List Entry
beyond r = drop r.used r.slots.now
