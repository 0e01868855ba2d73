use Rattle.std.proofs.Common.{rules, refl, ◌∙◌}
use Rattle.spliced.proofs.Asking.{laid_from}
use Rattle.spliced.proofs.Turns.{has_room, last_written, grow, begin, less_room, Added}
use Rattle.spliced.proofs.store.meaning.SplicedFill.add.Goals.{After-hold, After-draw}
use Rattle.spliced.proofs.store.meaning.SplicedFill.add.Goals as goal

pub join-requires : goal.join-requires
join-requires c =
    last_written _ _ _ _ _ _ _ _ _ _ _ _ c.in-Some.ensures.finds c.draw-note.ensures.records c.args.self.now.laid

grown : (c : After-hold) → Added c.args.self.now c.join.new.self c.hold.new.self c.args.spot.side c.args.spot.offset c.args.comment
grown c =
    laid_from _ _ c.args.self.now.laid
    (grow _ _ _ _ _ _ _ _ _ _ _ _ _ _ _ _ _ _ (has_room _ _ _ _ c.spare.ensures c.if-spare-eq0.false) c.in-Some.ensures.finds c.draw-note.ensures.slot c.draw-note.ensures.free c.draw-note.ensures.records c.join.ensures.records c.join.ensures.free c.hold.ensures.records c.hold.ensures.free)

begun : (c : After-draw) → Added c.args.self.now c.draw-note.new.self c.draw.new.self c.args.spot.side c.args.spot.offset c.args.comment
begun c =
    laid_from _ _ c.args.self.now.laid
    (begin _ _ _ _ _ _ _ _ _ _ _ _ _ (has_room _ _ _ _ c.spare.ensures c.if-spare-eq0.false) c.in-None.ensures.finds c.draw-note.ensures.slot c.draw-note.ensures.free c.draw-note.ensures.records c.draw.ensures.records c.draw.ensures.free)

pub invariant_of-self : goal.invariant_of-self
invariant_of-self c = record { laid = (grown c).0 }

pub invariant_of-self-in-None : goal.invariant_of-self-in-None
invariant_of-self-in-None c = record { laid = (begun c).0 }

pub returns-in-Some-clause-fills : goal.returns-in-Some-clause-fills
returns-in-Some-clause-fills c = (less_room _ _ _ _ _ _ (λ z. c.if-spare-eq0.false (c.spare.ensures ∙ z)) refl (search rules) (search rules), (grown c.before).1)

pub returns-in-None-clause-fills : goal.returns-in-None-clause-fills
returns-in-None-clause-fills c = (less_room _ _ _ _ _ _ (λ z. c.if-spare-eq0.false (c.spare.ensures ∙ z)) refl (search rules) (search rules), (begun c.before).1)
