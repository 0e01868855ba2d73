use Rattle.std.proofs.Common.{length}
use Rattle.chain.specs.Chain.{room}
use Rattle.chain.proofs.Records.{Made}
use Rattle.chain.proofs.free.make.Given as goal

abbrev pub invariant-loop-slot : goal.invariant-loop-slot
invariant-loop-slot g l = Made g.T.Link.linked l.fn.slots (room (length l.fn.slots)) l.slot l.head l.slots
