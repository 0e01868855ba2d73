use Rattle.std.proofs.Common.{◌+◌, ◌*◌, length}
use Rattle.reader.specs.Table.{do_of, goal_of}
use Rattle.recognizer.specs.Reads.{Carried, Reached}
use Rattle.recognizer.proofs.tree.+record_tree.Given as goal

abbrev pub decreases-record : goal.decreases-record
decreases-record g l = 2 * l.inner + 1

abbrev pub decreases-tree : goal.decreases-tree
decreases-tree g l = 2 * l.room

abbrev pub invariant-record-loop-form : goal.invariant-record-loop-form
invariant-record-loop-form g l = Carried l.allow_in (do_of l.initial.rest) l.initial.parts g.S.Sink.rows l.initial.sink l.sink (do_of l.rest) l.parts

abbrev pub decreases-record-loop-form : goal.decreases-record-loop-form
decreases-record-loop-form g l = length l.parts.ahead.now

abbrev pub invariant-tree-loop-goal : goal.invariant-tree-loop-goal
invariant-tree-loop-goal g l = Reached l.ahead l.allow_in (goal_of l.goal) g.S.Sink.rows l.fn.sink l.sink l.found

abbrev pub decreases-tree-loop-goal : goal.decreases-tree-loop-goal
decreases-tree-loop-goal g l = length l.found.ahead.now
