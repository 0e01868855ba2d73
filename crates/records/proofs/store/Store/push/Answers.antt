use Rattle.std.proofs.Common.{refl}
use Rattle.records.proofs.store.Store.push.Goals as goal

pub returns : goal.returns
returns c =
    record {
      row = λ s t from free us v x y. c.push.ensures.row s t from free c.args.self.now.free us v x y;
      lender = refl;
    }
