use Rattle.std.proofs.Common.{◌∙◌}
use Rattle.token.proofs.Derived.{same_derived}
use Rattle.token.proofs.Code.same.Goals as goal

pub returns : goal.returns
returns c = c.eq.ensures ∙ same_derived c.args.self c.args.other
