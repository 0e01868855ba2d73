use Rattle.grammar.proofs.productions_hold.Goals as goal
use Rattle.grammar.proofs.Document.{units, productions, lists}
use Rattle.grammar.proofs.Contexts.{lookaheads, before_else, without_in}

pub returns : goal.returns
returns c = record { units = units; productions = productions; lists = lists; lookaheads = lookaheads; before_else = before_else; without_in = without_in }
