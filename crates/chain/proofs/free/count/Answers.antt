use Rattle.std.proofs.Common.{ℕ, ◌+◌, map, sym, subst, arith}
use Rattle.std.proofs.lemmas.List.{length-map}
use Rattle.chain.proofs.Records.{slot_links, slot_records}
use Rattle.chain.proofs.Walks.{Walked, walked_more, walked_off, walked_all}
use Rattle.chain.proofs.free.count.Goals as goal

pub returns-in_default : goal.returns-in_default
returns-in_default g c =
    let m = map g.T.Link.link c.args.slots.now in
    walked_off m c.args.head c.loop-steps.at c.loop-steps.steps
    (λ s. c.in_default.ensures (slot_records g.T.Link.link c.args.slots.now c.loop-steps.at s))
    c.loop-steps.invariant

pub loop-steps-preserved : goal.loop-steps-preserved
loop-steps-preserved g c =
    let m = map g.T.Link.link c.args.slots.now in
    let p = c.in-Some.ensures in
    subst (λ (x : ℕ). Walked m c.args.head x (c.loop-steps.steps + 1)) (sym p.1)
    (walked_more m c.args.head c.loop-steps.at c.loop-steps.steps (slot_links g.T.Link.link c.args.slots.now c.loop-steps.at p.0) c.loop-steps.invariant)

pub returns : goal.returns
returns g c =
    let m = map g.T.Link.link c.args.slots.now in
    let w : Walked m c.args.head c.loop-steps.at c.last_slot-last.result =
    subst (λ (x : ℕ). Walked m c.args.head c.loop-steps.at x) (omega arith) c.loop-steps.invariant
    in
    walked_all m c.args.head c.loop-steps.at c.last_slot-last.result
    (rw length-map (omega (arith, c.last_slot-last.ensures)))
    w
