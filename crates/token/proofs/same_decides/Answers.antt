use Rattle.token.proofs.Same.{decides_equality}
use Rattle.token.proofs.same_decides.Goals as goal

pub returns : goal.returns
returns c = decides_equality
