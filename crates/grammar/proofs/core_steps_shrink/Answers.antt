use Rattle.grammar.proofs.core_steps_shrink.Goals as goal
use Rattle.grammar.proofs.CoreForm.{step_less}

pub returns : goal.returns
returns c = λ t u s. step_less s
