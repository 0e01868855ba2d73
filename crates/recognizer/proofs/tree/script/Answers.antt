use Rattle.std.proofs.Common.{refl}
use Rattle.recognizer.proofs.Scripts.{unfit, too_deep, scripted}
use Rattle.recognizer.proofs.tree.script.Goals as goal

pub returns-then-not-found : goal.returns-then-not-found
returns-then-not-found g c = unfit _ g.S.Sink.rows _ _ _ c.in_ok-found.ensures c.if-not-found.true

pub returns-then-found-ge-DEEPEST : goal.returns-then-found-ge-DEEPEST
returns-then-found-ge-DEEPEST g c = too_deep _ g.S.Sink.rows _ _ _ c.in_ok-found.ensures c.if-found-ge-DEEPEST.true

pub returns : goal.returns
returns g c =
    let w = c.in_ok-found.ensures in
    scripted _ g.S.Sink.rows _ _ _ w _ (record { heads = w.shape.heads; attributes = w.shape.attributes; fit = w.shape.fit; records = w.shape.records; nests = w.shape.nests }) refl refl refl c.if-not-found.false c.if-found-ge-DEEPEST.false
