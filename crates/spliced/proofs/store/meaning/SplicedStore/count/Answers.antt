use Rattle.std.proofs.Common.{length, sym, ap}
use Rattle.spliced.proofs.Asking.{number_from, counted, list_missing}
use Rattle.spliced.proofs.store.meaning.SplicedStore.count.Goals as goal

pub returns-in-Some : goal.returns-in-Some
returns-in-Some c =
    record { value = number_from _ _ c.args.self.now.laid (counted _ _ _ _ _ _ _ _ _ _ c.in-Some.ensures.finds c.count.ensures) }

pub returns-in-None : goal.returns-in-None
returns-in-None c =
    record { value = number_from _ _ c.args.self.now.laid (λ p. sym (ap length (list_missing _ _ _ _ _ _ _ c.in-None.ensures.finds p))) }
