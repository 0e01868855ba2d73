use Rattle.fitting.proofs.Summaries.{sums_with, placed, kept}
use Rattle.fitting.proofs.summary.Summary.with.Goals as goal
use Rattle.fitting.proofs.summary.Summary.with.Goals.{then-self-lt4, else-self-lt4}

pub returns : goal.returns
returns c cs s =
    sums_with cs c.args.self c.args.child s _ c.if-self-lt4.leading _ _ _ _ _ c.one_more.ensures
    (elim c.if-self-lt4.branch [
      | then-self-lt4 w ↦ rw w.leading-is (placed cs c.args.self c.args.child s w.if-self-lt4.true)
      | else-self-lt4 w ↦ rw w.leading-is (kept cs c.args.self c.args.child s w.if-self-lt4.false)
    ])
    c.may_stand-value.ensures c.is_property.ensures c.is_statement.ensures c.may_stand-name.ensures c.behind.ensures
