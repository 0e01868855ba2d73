-- Each pair takes a token from those before.
use Rattle.std.proofs.Common.{length}
use Rattle.demo.proofs.pairs.pairs_round.Given as goal

abbrev pub decreases-loop-open : goal.decreases-loop-open
decreases-loop-open l = length l.outside.0.now
