use Rattle.std.proofs.Common.{rules}
use borrow.Author.Tests.{tests}
use Rattle.std.proofs.lemmas.Iterator.{cases_from_any, YieldsList-from_slice, YieldsList-from_zip}
use Rattle.fitting.proofs.Marks.{IsBare, NotBare, marked_told}
use Rattle.fitting.proofs.derived.bare_in_marked.Goals as goal

pub returns : goal.returns
returns c =
    marked_told c.args.children.now c.args.marks.now c.any.result
    (cases_from_any {s = c.zip.result} (c.any.new.self) _ _ IsBare NotBare c.any.ensures.ran (YieldsList-from_zip (YieldsList-from_slice c.args.children.now cc) (YieldsList-from_slice c.args.marks.now cc)) (λ x q k. search (rules, tests)) (λ x q k. search (rules, tests)))
