-- What a pool of the code holds, as the calls' relations speak of it.
--
--   held p     the number, the records and the free chain of the pool p
--
-- Assumes nothing.
use Rattle.toolkit.specs.declared.pool.Pool.{Pool}
use Rattle.toolkit.specs.Ledger.{State, state}

abbrev pub held : Pool → State
held p = state p.number p.store.slots.now p.store.free
