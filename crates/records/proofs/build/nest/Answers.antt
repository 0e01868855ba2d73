use Rattle.std.proofs.Common.{refl}
use Rattle.records.proofs.Standing.{drawn_over}
use Rattle.records.proofs.build.nest.Goals as goal

pub returns : goal.returns
returns c =
    record {
      row = λ s from last us x.
          drawn_over s c.args.slots.now c.take.new.slots from c.args.free.now c.take.new.head c.args.first last c.unwrap_or.result us _ c.take.result c.take.ensures c.unwrap_or.ensures refl refl refl x;
    }
