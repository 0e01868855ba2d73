use Rattle.std.proofs.Common.{[]}
use Rattle.toolkit.proofs.Fresh.{fresh}
use Rattle.toolkit.proofs.pool.Pool.new.Goals as goal

pub invariant_of-result : goal.invariant_of-result
invariant_of-result c =
    let f = fresh c.args.number _ _ _ c.new.ensures.chain c.new.ensures.records c.new.ensures.beyond in
    record { accounted = ∣ (f.ledger.0, [], f.ledger.1) ∣₁ }

pub returns-clause-fresh : goal.returns-clause-fresh
returns-clause-fresh c = fresh c.args.number _ _ _ c.new.ensures.chain c.new.ensures.records c.new.ensures.beyond
