use Rattle.grammar.proofs.sizes_law.Goals as goal
use Rattle.grammar.proofs.Sizes.{sizes_bounded}

pub returns : goal.returns
returns c = sizes_bounded
