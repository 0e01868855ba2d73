-- Each child has less room below it than its parent.
use Rattle.sexpr.proofs.tree.Writer.+tree.Given as goal

abbrev pub decreases-tree : goal.decreases-tree
decreases-tree l = l.room
