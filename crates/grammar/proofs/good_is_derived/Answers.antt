use Rattle.grammar.proofs.good_is_derived.Goals as goal
use Rattle.grammar.proofs.Exact.{good_derives}

pub returns : goal.returns
returns c = good_derives
