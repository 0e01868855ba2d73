use Rattle.grammar.proofs.core_form_law.Goals as goal
use Rattle.grammar.proofs.CoreForm.{core_law}

pub returns : goal.returns
returns c = core_law
