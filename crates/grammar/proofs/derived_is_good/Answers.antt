use Rattle.grammar.proofs.derived_is_good.Goals as goal
use Rattle.grammar.proofs.Exact.{derived_good}

pub returns : goal.returns
returns c = derived_good
