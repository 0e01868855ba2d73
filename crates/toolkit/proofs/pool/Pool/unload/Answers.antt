use Rattle.std.proofs.Common.{refl}
use Rattle.toolkit.specs.Ledger.{State, state}
use Rattle.toolkit.specs.Keys.{key}
use Rattle.toolkit.specs.Pools.{held}
use Rattle.toolkit.proofs.Releasing.{held_ready, held_unloaded, still_accounted}
use Rattle.toolkit.proofs.pool.Pool.unload.Goals as goal

pub give_back-requires : goal.give_back-requires
give_back-requires c =
    let v = c.owns.ensures.yes c.if-not-owns.false in
    record { inside = v.slot; loose = held_ready (held c.args.self.now) (held c.args.self.now) c.args.tree _ c.key-key.ensures v c.args.self.now.accounted }

pub invariant_of-self : goal.invariant_of-self
invariant_of-self c =
    let z : State = state c.args.self.now.number c.give_back.new.self.slots.now c.give_back.new.self.free in
    let u = held_unloaded (held c.args.self.now) z c.args.tree _ c.key-key.ensures (c.owns.ensures.yes c.if-not-owns.false) refl c.give_back.ensures.length c.give_back.ensures.given in
    record { accounted = still_accounted (held c.args.self.now) z (key c.args.tree) u.1 c.args.self.now.accounted }

pub returns-clause-outcome : goal.returns-clause-outcome
returns-clause-outcome c = held_unloaded (held c.args.self.now) _ c.args.tree _ c.key-key.ensures (c.owns.ensures.yes c.if-not-owns.false) refl c.give_back.ensures.length c.give_back.ensures.given
