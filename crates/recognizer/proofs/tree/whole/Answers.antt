use Rattle.std.proofs.Common.{◌≡◌, length}
use Rattle.reader.specs.Width.{refused_of}
use Rattle.recognizer.proofs.Exits.{broke, came_through, was_mapped}
use Rattle.recognizer.proofs.Scripts.{refuse, left_over, whole}
use Rattle.recognizer.proofs.tree.whole.Goals as goal

pub returns-in_err-found : goal.returns-in_err-found
returns-in_err-found g c = broke _ _ _ _ c.from_residual.ensures.1 (let (y, n, e) = was_mapped _ _ _ _ _ _ c.map_err.ensures.cases c.in_err-found.was c.record.ensures in let made : c.in_err-found.field-0.0 ≡ refused_of (length c.args.tokens.now) y = e in rw made (refuse _ _ _ c.start-start.ensures y n))

pub returns-then-not-is_empty : goal.returns-then-not-is_empty
returns-then-not-is_empty g c = left_over _ _ _ c.start-start.ensures g.S.Sink.rows _ _ _ (came_through _ _ _ _ _ _ c.map_err.ensures.cases c.in_ok-found.was c.record.ensures) c.if-not-is_empty.ensures

pub returns : goal.returns
returns g c = whole _ _ _ c.start-start.ensures g.S.Sink.rows _ _ _ (came_through _ _ _ _ _ _ c.map_err.ensures.cases c.in_ok-found.was c.record.ensures) c.none.ensures c.if-not-is_empty.ensures
