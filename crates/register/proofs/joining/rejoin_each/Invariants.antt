use Rattle.std.proofs.Common.{◌≡◌, ◌++◌, map, take, drop}
use Rattle.register.specs.Joins.{moved_to}
use Rattle.register.proofs.joining.rejoin_each.Given as goal

abbrev pub invariant-loop-e : goal.invariant-loop-e
invariant-loop-e l =
    l.entries
    ≡ map (moved_to l.joining.side l.joining.first l.joining.second l.joining.to l.joining.ahead) (take l.e-index l.initial.entries)
    ++ drop l.e-index l.initial.entries
