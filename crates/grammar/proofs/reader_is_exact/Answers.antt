use Rattle.grammar.proofs.reader_is_exact.Goals as goal
use Rattle.grammar.proofs.Exact.{read_derives}

pub returns : goal.returns
returns c = read_derives
