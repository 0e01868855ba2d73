use Rattle.grammar.proofs.unambiguous.Goals as goal
use Rattle.grammar.proofs.Exact.{unambiguous}

pub returns : goal.returns
returns c = unambiguous
