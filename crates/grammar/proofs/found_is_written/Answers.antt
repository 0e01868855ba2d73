use Rattle.grammar.proofs.found_is_written.Goals as goal
use Rattle.grammar.proofs.Written.{found_written}

pub returns : goal.returns
returns c = found_written
