use Rattle.chain.proofs.Laws.{chain_unique, chain_once, chain_short}
use Rattle.chain.proofs.free.chain_laws.Goals as goal

pub returns : goal.returns
returns c = record { unique = chain_unique; once = chain_once; short = chain_short }
