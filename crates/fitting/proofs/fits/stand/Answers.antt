use Rattle.std.proofs.Common.{rules}
use borrow.Author.Tests.{tests}
use Rattle.std.proofs.lemmas.Iterator.{cases_from_all, YieldsList-from_slice, YieldsList-from_zip}
use Rattle.fitting.proofs.Arities.{Stands, Fails, stand_told}
use Rattle.fitting.proofs.fits.stand.Goals as goal

pub returns : goal.returns
returns c =
    stand_told c.args.children.now c.args.sites.now c.all.result
    (cases_from_all {s = c.zip.result} (c.all.new.self) _ _ Stands Fails c.all.ensures.ran (YieldsList-from_zip (YieldsList-from_slice c.args.children.now cc) (YieldsList-from_slice c.args.sites.now cc)) (λ x q k. search (rules, tests)) (λ x q k. search (rules, tests)))
