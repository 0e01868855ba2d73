use Rattle.toolkit.proofs.Runs.{always}
use Rattle.toolkit.proofs.always_accounted.Goals as goal

pub returns : goal.returns
returns c = always
