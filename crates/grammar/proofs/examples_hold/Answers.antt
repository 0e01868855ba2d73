use Rattle.grammar.proofs.examples_hold.Goals as goal
use Rattle.grammar.proofs.Worked.{examples_hold, cores_hold}

pub returns : goal.returns
returns c = record { readings = examples_hold; cores = cores_hold }
