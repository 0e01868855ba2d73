use Rattle.grammar.proofs.places_law.Goals as goal
use Rattle.grammar.proofs.Places.{parts_placed, scripts_placed}

pub returns : goal.returns
returns c = record { parts = parts_placed; scripts = scripts_placed }
