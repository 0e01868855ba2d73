use Rattle.std.proofs.Common.{◌<◌, sym, refl, arith}
use Rattle.recognizer.proofs.Exits.{broke, lacked}
use Rattle.reader.proofs.Eats.{prefix_eats}
use Rattle.recognizer.proofs.Records.{carried_none, carried_eat, carried_read, made, not_eaten, not_read}
use Rattle.recognizer.proofs.Trees.{no_room, no_start, no_step, reached_first, reached_next, refused_first, refused_next, longer, stopped}
use Rattle.recognizer.proofs.tree.+record_tree.Goals as goal

pub record-loop-form-init : goal.record-loop-form-init
record-loop-form-init g t c = carried_none g.S.Sink.rows _ _ _ _

pub record-returns-in-Finish : goal.record-returns-in-Finish
record-returns-in-Finish g t c = made g.S.Sink.rows _ _ _ _ _ _ _ c.loop-form.invariant _ _ _ _ (sym c.in-Finish.ensures) c.complete.ensures c.nest-slot.ensures

pub record-returns-in_err-parts-in-Eat : goal.record-returns-in_err-parts-in-Eat
record-returns-in_err-parts-in-Eat g t c = lacked _ _ _ _ _ _ c.in_err-parts-in-Eat.ensures.value c.from_residual.ensures.1 (not_eaten g.S.Sink.rows _ _ _ _ _ _ _ c.loop-form.invariant c.args.inner _ _ (sym c.in-Eat.ensures) (rw c.in_err-parts-in-Eat.ensures.ok_part at c.eat.ensures))

pub record-loop-form-preserved-in-Eat : goal.record-loop-form-preserved-in-Eat
record-loop-form-preserved-in-Eat g t c = carried_eat g.S.Sink.rows _ _ _ _ _ _ _ c.loop-form.invariant _ _ _ (sym c.in-Eat.ensures) (rw c.in_ok-parts-in-Eat.ensures.ok_part at c.eat.ensures)

pub record-returns-in_err-child-in-Read : goal.record-returns-in_err-child-in-Read
record-returns-in_err-child-in-Read g t c = broke _ _ _ _ c.from_residual-in_err-child-in-Read.ensures.1 (not_read g.S.Sink.rows _ _ _ _ _ _ _ c.loop-form.invariant _ _ _ _ _ (sym c.in-Read.ensures) (rw c.allowed.ensures at c.in_err-child-in-Read.ensures))

pub record-join-parts-requires : goal.record-join-parts-requires
record-join-parts-requires g t c =
    let x = c.in_ok-child-in-Read.ensures in
    record { few = omega (arith, c.requires, c.loop-form.invariant.fewer, x.few); nests = omega (arith, c.requires, c.loop-form.invariant.fewer, x.few, x.nests) }

pub record-loop-form-preserved : goal.record-loop-form-preserved
record-loop-form-preserved g t c = carried_read g.S.Sink.rows _ _ _ _ _ _ _ c.loop-form.invariant _ _ _ _ _ _ _ _ (sym c.in-Read.ensures) (rw c.allowed.ensures at c.in_ok-child-in-Read.ensures) c.push-row.ensures c.join-parts.ensures

pub tree-returns-then-room-eq0 : goal.tree-returns-then-room-eq0
tree-returns-then-room-eq0 g t c = rw c.if-room-eq0.true (no_room _ _ _)

pub tree-returns-in_err-begun : goal.tree-returns-in_err-begun
tree-returns-in_err-begun g t c = lacked _ _ _ _ _ _ c.in_err-begun.ensures.value c.from_residual.ensures.1 (no_start _ _ _ c.args.room (rw c.in_err-begun.ensures.ok_part at c.begin.ensures))

pub tree-returns-in_err-rest : goal.tree-returns-in_err-rest
tree-returns-in_err-rest g t c = lacked _ _ _ _ _ _ c.in_err-rest.ensures.value c.from_residual-in_err-rest.ensures.1 (no_step _ _ _ g.S.Sink.rows _ _ _ c.loop-goal.invariant _ (rw (c.in_err-rest.ensures.ok_part, c.turn_at.ensures, c.is_chain.ensures) at c.behind.ensures) c.loop-goal-test.ensures c.args.room refl)

pub tree-returns-in_err-found : goal.tree-returns-in_err-found
tree-returns-in_err-found g t c = let lt : 0 < c.args.room = omega (arith, c.if-room-eq0.false) in broke _ _ _ _ c.from_residual-in_err-found.ensures.1 (refused_first _ _ _ _ _ _ c.start.ensures (rw c.in_ok-begun.ensures.ok_part at c.begin.ensures) _ _ _ lt refl c.in_err-found.ensures)

pub tree-loop-goal-init : goal.tree-loop-goal-init
tree-loop-goal-init g t c = reached_first _ _ _ _ _ _ c.start.ensures (rw c.in_ok-begun.ensures.ok_part at c.begin.ensures) g.S.Sink.rows _ _ _ (prefix_eats c.args.goal _) c.none-none.ensures c.in_ok-found.ensures

pub tree-alone-requires : goal.tree-alone-requires
tree-alone-requires g t c = let re = c.loop-goal.invariant in record { few = omega (arith, re.few); nests = omega (arith, re.few, re.nests) }

pub tree-returns-in_err-found-2 : goal.tree-returns-in_err-found-2
tree-returns-in_err-found-2 g t c = let lt : 0 < c.args.room = omega (arith, c.if-room-eq0.false) in broke _ _ _ _ c.from_residual-in_err-found-2.ensures.1 (refused_next _ _ _ g.S.Sink.rows _ _ _ c.loop-goal.invariant _ (rw (c.in_ok-rest.ensures.ok_part, c.turn_at.ensures, c.is_chain.ensures) at c.behind.ensures) c.loop-goal-test.ensures _ c.alone.ensures _ _ _ lt refl c.in_err-found-2.ensures)

pub tree-loop-goal-smaller : goal.tree-loop-goal-smaller
tree-loop-goal-smaller g t c = longer _ _ _ g.S.Sink.rows _ _ _ c.loop-goal.invariant _ (rw (c.in_ok-rest.ensures.ok_part, c.turn_at.ensures, c.is_chain.ensures) at c.behind.ensures) c.loop-goal-test.ensures _ c.alone.ensures _ _ c.in_ok-found-2.ensures

pub tree-loop-goal-preserved : goal.tree-loop-goal-preserved
tree-loop-goal-preserved g t c = reached_next _ _ _ g.S.Sink.rows _ _ _ c.loop-goal.invariant _ (rw (c.in_ok-rest.ensures.ok_part, c.turn_at.ensures, c.is_chain.ensures) at c.behind.ensures) c.loop-goal-test.ensures _ c.alone.ensures _ _ c.in_ok-found-2.ensures

pub tree-returns : goal.tree-returns
tree-returns g t c = stopped _ _ _ g.S.Sink.rows _ _ _ c.loop-goal.invariant c.loop-goal-test.ensures
