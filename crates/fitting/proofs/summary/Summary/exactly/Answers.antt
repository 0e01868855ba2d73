use Rattle.std.proofs.Common.{◌∙◌, sym}
use Rattle.std.proofs.lemmas.Bool.{ne_eqb}
use Rattle.fitting.proofs.Arities.{as_many, not_as_many}
use Rattle.fitting.proofs.summary.Summary.exactly.Goals as goal

pub returns-then-from-sites : goal.returns-then-from-sites
returns-then-from-sites c cs h = c.stand.ensures ∙ as_many cs c.args.self c.args.sites.now h c.requires (sym c.from.ensures ∙ c.if-from-sites.true)

pub returns-else-from-sites : goal.returns-else-from-sites
returns-else-from-sites c cs h = ne_eqb _ _ c.if-from-sites.false ∙ not_as_many cs c.args.self c.args.sites.now h c.requires (λ e. c.if-from-sites.false (c.from.ensures ∙ e))
