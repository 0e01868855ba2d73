use Rattle.grammar.proofs.parts_are_good.Goals as goal
use Rattle.grammar.proofs.Exact.{part_good, part_derives}

pub returns : goal.returns
returns c = record { good = part_good; derives = part_derives }
