use Rattle.comments.proofs.Parts.{shifted_empty}
use Rattle.spliced.proofs.Asking.{laid_from, list_from, list_missing}
use Rattle.spliced.proofs.Turns.{found_at, missed_at, front_slot, may_give_back, relabel, join_both, Moved}
use Rattle.spliced.proofs.store.meaning.SplicedStore.move_list.Goals.{After-hold, After-give_back}
use Rattle.spliced.proofs.store.meaning.SplicedStore.move_list.Goals as goal

pub returns-in_default-clause-moved : goal.returns-in_default-clause-moved
returns-in_default-clause-moved c =
    let none = missed_at _ _ c.args.side c.args.from c.at.ensures c.in_default.ensures.finds in
    λ at k.
    list_from _ _ c.args.self.now.laid
    (λ p. shifted_empty c.args.side _ c.args.from c.args.to c.if-from-to.false (list_missing _ _ _ _ _ c.args.side c.args.from none p) at k)

relabelled : (c : After-hold) → Moved c.args.self.now c.args.self.now.notes c.hold.new.self c.args.side c.args.from c.args.to
relabelled c =
    let source = found_at _ _ c.args.side c.args.from _ _ c.at.ensures c.in-Some.ensures.finds in
    let none = missed_at _ _ c.args.side c.args.to c.at-2.ensures c.in_default-find.ensures.finds in
    laid_from _ _ c.args.self.now.laid
    (relabel _ _ _ _ _ _ _ c.args.side c.args.from c.args.to _ _ _ c.if-from-to.false source none c.at-in_default-find.ensures c.hold.ensures.records c.hold.ensures.free)

pub invariant_of-self : goal.invariant_of-self
invariant_of-self c = record { laid = (relabelled c).0 }

pub returns-in_default-find-clause-moved : goal.returns-in_default-find-clause-moved
returns-in_default-find-clause-moved c = (relabelled c.before).1

pub join-requires : goal.join-requires
join-requires c =
    let source = found_at _ _ c.args.side c.args.from _ _ c.at.ensures c.in-Some.ensures.finds in
    let target = found_at _ _ c.args.side c.args.to _ _ c.at-2.ensures c.in-Some-find.ensures.finds in
    front_slot _ _ _ _ _ c.args.side c.args.from c.args.to _ _ _ _ _ source target c.outer-front.ensures c.args.self.now.laid

pub give_back-requires-clause-off : goal.give_back-requires-clause-off
give_back-requires-clause-off c =
    let source = found_at _ _ c.args.side c.args.from _ _ c.at.ensures c.in-Some.ensures.finds in
    may_give_back _ _ _ _ _ _ _ c.args.side c.args.from c.in-Some.source.head _ _ _ source c.hold-2.ensures.records c.hold-2.ensures.free c.args.self.now.laid

joined : (c : After-give_back) → Moved c.args.self.now c.join.new.self c.give_back.new.self c.args.side c.args.from c.args.to
joined c =
    let source = found_at _ _ c.args.side c.args.from _ _ c.at.ensures c.in-Some.ensures.finds in
    let target = found_at _ _ c.args.side c.args.to _ _ c.at-2.ensures c.in-Some-find.ensures.finds in
    laid_from _ _ c.args.self.now.laid
    (join_both _ _ _ _ _ _ _ _ _ _ _ c.args.side c.args.from c.args.to _ _ _ _ _ _ _ c.if-from-to.false source target c.outer-front.ensures c.outer-back.ensures c.join.ensures.records c.hold-2.ensures.records c.hold-2.ensures.free c.give_back.ensures.records c.join.ensures.free c.give_back.ensures.free)

pub invariant_of-self-2 : goal.invariant_of-self-2
invariant_of-self-2 c = record { laid = (joined c).0 }

pub returns-clause-moved : goal.returns-clause-moved
returns-clause-moved c = (joined c.before).1
