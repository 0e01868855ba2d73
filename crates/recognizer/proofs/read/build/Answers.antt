use Rattle.recognizer.proofs.Passes.{the_tree, not_found}
use Rattle.recognizer.proofs.read.build.Goals as goal

pub returns-in-Ok : goal.returns-in-Ok
returns-in-Ok c t d le = let (n, s) = the_tree _ _ _ _ _ c.in-Ok.ensures t d in record { lender = n; tree = s }

pub returns-in-Err : goal.returns-in-Err
returns-in-Err c t d le = absurd (not_found _ _ c.in-Err.ensures t d le)
