use Rattle.std.proofs.Common.{◌≡◌, ℕ, ◌<◌, false}
use Rattle.spliced.specs.Heads.{list_at, key}
use Rattle.spliced.proofs.heads.Heads.find.Given as goal

abbrev pub invariant-loop-i : goal.invariant-loop-i
invariant-loop-i l = (k : ℕ) → k < l.i → key l.spot.side l.spot.offset (list_at l.self.slots.now k) ≡ false
