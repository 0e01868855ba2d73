use Rattle.comments.proofs.Kept.{alike}
use Rattle.comments.proofs.agree.carry_both.Goals as goal

pub returns : goal.returns
returns g c =
    record {
      first = c.carry.ensures.made;
      second = c.carry-2.ensures.made;
      alike =
          λ e side.
          alike side (g.A.Store.lists c.args.a.now side) (g.B.Store.lists c.args.b.now side) (g.A.Store.lists c.carry.new.store side) (g.B.Store.lists c.carry-2.new.store side) c.args.moves.now
          (c.carry.ensures.made side)
          (c.carry-2.ensures.made side)
          (e side);
    }
