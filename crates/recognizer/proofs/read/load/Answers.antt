use Rattle.recognizer.proofs.Passes.{root_is_slot}
use Rattle.recognizer.proofs.read.load.Goals as goal

pub stamp-requires : goal.stamp-requires
stamp-requires c = root_is_slot _ _ _ _ c.requires c.build-root.ensures

pub returns : goal.returns
returns c t d le = let b = c.build-root.ensures t d le in record { lender = b.lender; records = _; tree = b.tree; marked = c.stamp.ensures }
