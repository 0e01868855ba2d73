use Rattle.std.proofs.Common.{map}
use Rattle.chain.proofs.Walks.{Walked}
use Rattle.chain.proofs.free.count.Given as goal

abbrev pub invariant-loop-steps : goal.invariant-loop-steps
invariant-loop-steps g l = Walked (map g.T.Link.link l.slots) l.head l.at l.steps
