use Rattle.std.proofs.Common.{◌∙◌}
use Rattle.reader.proofs.store.StoreSink.push.Goals as goal

pub returns : goal.returns
returns c = record { at = λ s m us v h k. (c.push.ensures.lender ∙ (k.0 ∙ h.0), c.push.ensures.row _ _ _ _ us v h.1 k.1) }
