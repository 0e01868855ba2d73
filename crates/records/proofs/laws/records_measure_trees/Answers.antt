use Rattle.records.proofs.Measures.{measured}
use Rattle.records.proofs.laws.records_measure_trees.Goals as goal

pub returns : goal.returns
returns c = measured
