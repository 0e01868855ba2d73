use Rattle.grammar.proofs.good_is_full.Goals as goal
use Rattle.grammar.proofs.CoreGood.{good_full}

pub returns : goal.returns
returns c = good_full
