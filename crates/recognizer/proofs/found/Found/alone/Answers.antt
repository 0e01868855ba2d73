use Rattle.std.proofs.Common.{[], refl}
use Rattle.recognizer.proofs.found.Found.alone.Goals as goal

pub returns : goal.returns
returns c = record { children = c.with.ensures [] c.empty.ensures; fit = refl; lo = refl; hi = refl; ahead = refl; records = c.raised.ensures.records; nests = c.raised.ensures.depth; row = c.one.ensures }
