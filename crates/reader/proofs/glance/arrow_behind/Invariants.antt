use Rattle.std.proofs.Common.{◌≡◌, ◌+◌, ◌≤◌, length}
use Rattle.grammar.specs.Parser.{skip}
use Rattle.reader.proofs.glance.arrow_behind.Given as goal

abbrev pub invariant-loop-token : goal.invariant-loop-token
invariant-loop-token l = (l.open + length l.rest ≤ length l.ahead) × (skip 0 l.ahead ≡ skip l.open l.rest)

abbrev pub decreases-loop-token : goal.decreases-loop-token
decreases-loop-token l = length l.rest
