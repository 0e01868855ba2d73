use Rattle.comments.proofs.Kept.{same_meaning}
use Rattle.comments.proofs.agree.same_meaning.Goals as goal

pub returns : goal.returns
returns c = same_meaning
