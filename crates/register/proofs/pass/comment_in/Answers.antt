use Rattle.std.proofs.Common.{rules, tests, ◌≡◌, true, false}
use Rattle.std.proofs.lemmas.Iterator.{first_from_find, YieldsList-from_slice}
use Rattle.register.specs.Listing.{ranked}
use Rattle.register.proofs.Passes.{searched}
use Rattle.register.proofs.pass.comment_in.Goals as goal

pub returns : goal.returns
returns c =
    let p = ranked c.args.spot.side c.args.spot.offset c.args.rank in
    searched c.args.entries.now c.args.spot.side c.args.spot.offset c.args.rank c.find.result c.map.result _ (λ e n k. search rules)
    (first_from_find _ _ _ (λ e. p e ≡ true) (λ e. p e ≡ false) c.find.ensures.ran (YieldsList-from_slice c.args.entries.now c.iter.ensures.rest) (λ x q k. search (rules, tests)) (λ x q k. search (rules, tests)))
    c.map.ensures.cases
