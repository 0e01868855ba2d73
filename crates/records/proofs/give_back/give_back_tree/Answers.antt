use Rattle.std.proofs.Common.{rules, arith, subst}
use Rattle.records.specs.Record.{vacant}
use Rattle.records.proofs.Steps.{alive_child, leaf_turn, child_turn, Turns, falls, again, ended, Left}
use Rattle.records.proofs.give_back.give_back_tree.Goals.{After-release, After-link_to}
use Rattle.records.proofs.give_back.give_back_tree.Goals as goal

leaf : (c : After-release) → Turns c.loop-here.slots c.loop-here.free c.loop-here.here c.release.new.slots c.release.new.head c.look-parent.result.next
leaf c =
    leaf_turn _ _ c.loop-here.free _ c.loop-here.here c.look-parent.result c.release.ensures.head c.loop-here-test.true c.look-parent.ensures c.if-first-eq0.true c.release.ensures.records

pub loop-here-smaller-then-first-eq0 : goal.loop-here-smaller-then-first-eq0
loop-here-smaller-then-first-eq0 c = falls _ _ _ _ _ _ (leaf c.before) c.loop-here.invariant.0

pub loop-here-preserved-then-first-eq0 : goal.loop-here-preserved-then-first-eq0
loop-here-preserved-then-first-eq0 c = again _ _ _ _ _ _ _ _ _ (leaf c.before) c.loop-here.invariant

pub look-child-requires : goal.look-child-requires
look-child-requires c = alive_child _ _ _ _ c.loop-here-test.true c.look-parent.ensures c.if-first-eq0.false c.loop-here.invariant.0

pub link_to-requires : goal.link_to-requires
link_to-requires c =
    let h = alive_child _ _ _ _ c.loop-here-test.true c.look-parent.ensures c.if-first-eq0.false c.loop-here.invariant.0 in
    record { inside = (h.0, omega (arith, h.1)) }

child : (c : After-link_to) → Turns c.loop-here.slots c.loop-here.free c.loop-here.here c.link_to.new.slots c.loop-here.free c.look-parent.result.first
child c =
    child_turn _ _ _ c.loop-here.free c.loop-here.here c.look-parent.result c.look-child.result c.loop-here-test.true c.look-parent.ensures c.if-first-eq0.false c.look-child.ensures (search rules) (c.link_to.ensures.records (vacant 0))

pub loop-here-smaller : goal.loop-here-smaller
loop-here-smaller c = falls _ _ _ _ _ _ (child c.before) c.loop-here.invariant.0

pub loop-here-preserved : goal.loop-here-preserved
loop-here-preserved c = again _ _ _ _ _ _ _ _ _ (child c.before) c.loop-here.invariant

pub returns : goal.returns
returns c =
    λ f ks x.
    ended c.args.slots.now c.loop-here.slots c.loop-here.free f ks
    (subst (λ i. Left c.args.slots.now c.loop-here.slots c.loop-here.free i f ks) c.loop-here-test.false (c.loop-here.invariant.1 f ks x))
