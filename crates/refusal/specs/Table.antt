-- The table of refusals: the number of each cause, and the value that is returned with it.
use Rattle.std.specs.Prelude.{ℕ}
use Rattle.refusal.specs.declared.Refusal.{Refusal}
use Rattle.refusal.specs.declared.Refusal.TheVariants.{InvalidSlot, Misplaced, TooDeep, TooFewRecords, BufferTooShort, NoDerivation}

abbrev pub numbered : Refusal → ℕ
numbered (InvalidSlot slot) = 1
numbered (Misplaced slot) = 2
numbered TooDeep = 3
numbered (TooFewRecords needed) = 4
numbered (BufferTooShort needed) = 5
numbered NoDerivation = 6

abbrev pub valued : Refusal → ℕ
valued (InvalidSlot slot) = slot
valued (Misplaced slot) = slot
valued TooDeep = 0
valued (TooFewRecords needed) = needed
valued (BufferTooShort needed) = needed
valued NoDerivation = 0
