use Rattle.toolkit.proofs.Balance.{balanced}
use Rattle.toolkit.proofs.pool_balances.Goals as goal

pub returns : goal.returns
returns c = balanced
