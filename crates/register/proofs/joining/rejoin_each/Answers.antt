use Rattle.std.proofs.Common.{◌≡◌, ℕ, ◌+◌, ◌<◌, true, length, get_or, sym, subst, arith}
use Rattle.std.proofs.ByRecursion.{All-get_or}
use Rattle.register.specs.declared.entry.Entry.{Entry}
use Rattle.register.specs.declared.joining.Joining.{Joining}
use Rattle.register.specs.Listing.{here}
use Rattle.register.specs.Joins.{moved_to}
use Rattle.register.proofs.Passes.{blank, not_reached, written_more, written_all}
use Rattle.register.proofs.joining.rejoin_each.Goals as goal

abbrev by : Joining → Entry → Entry
by j = moved_to j.side j.first j.second j.to j.ahead

abbrev Fitting : Joining → ℕ → Entry → Type 0
Fitting j limit e = here j.side j.second e ≡ true → e.rank + j.ahead < limit

pub rejoined-requires : goal.rejoined-requires
rejoined-requires c second =
    let n = length c.args.entries.now in
    let h : Fitting c.args.joining n (get_or c.loop-e.entries c.loop-e.e-index blank) =
    subst (Fitting c.args.joining n) (sym (not_reached (by c.args.joining) c.args.entries.now c.loop-e.entries c.loop-e.e-index blank c.loop-e-test.true c.loop-e.invariant))
    (All-get_or (Fitting c.args.joining n) c.args.entries.now c.loop-e.e-index blank c.loop-e-test.true c.requires)
    in
    omega (arith, h second)

pub loop-e-preserved : goal.loop-e-preserved
loop-e-preserved c =
    written_more (by c.args.joining) c.args.entries.now c.loop-e.entries c.loop-e.e-index _ c.rejoined.result c.loop-e-test.true c.loop-e.auto.entries c.loop-e.invariant c.rejoined.ensures

pub returns : goal.returns
returns c = written_all (by c.args.joining) c.args.entries.now c.loop-e.entries c.loop-e.e-index c.loop-e-test.false c.loop-e.invariant
