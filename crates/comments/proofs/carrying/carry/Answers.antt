use Rattle.std.proofs.Common.{◌≡◌, ℕ, List, get_or, take, ap, ◌∙◌}
use Rattle.std.proofs.lemmas.List.{take_more, take_all}
use Rattle.comments.specs.declared.place.Move.{Move}
use Rattle.comments.specs.declared.store.Side.{Side}
use Rattle.comments.specs.Lists.{carried}
use Rattle.comments.proofs.Turn.{both}
use Rattle.comments.proofs.Kept.{gathered_by, once_by}
use Rattle.comments.proofs.carrying.carry.Goals as goal

abbrev nowhere : Move
nowhere = record { from = record { lo = 0; hi = 0 }; to = record { lo = 0; hi = 0 } }

pub loop-m-preserved : goal.loop-m-preserved
loop-m-preserved g c = (
  both (g.S.Store.lists c.loop-m.store) (g.S.Store.lists c.move_list.new.self) (g.S.Store.lists c.move_list-in-loop-m.new.self) (g.S.Store.lists c.args.store.now)
      c.args.moves.now c.loop-m.m-index (get_or c.args.moves.now c.loop-m.m-index nowhere)
      c.loop-m.invariant.0
      (take_more c.args.moves.now c.loop-m.m-index nowhere c.loop-m-test.true)
      c.move_list.ensures.moved
      c.move_list-in-loop-m.ensures.moved,
  c.move_list-in-loop-m.ensures.vacant ∙ c.move_list.ensures.vacant ∙ c.loop-m.invariant.1,
)

pub returns : goal.returns
returns g c =
    let s = c.args.moves.now in
    let old = g.S.Store.lists c.args.store.now in
    let new = g.S.Store.lists c.loop-m.store in
    let end : take c.loop-m.m-index s ≡ s = take_all c.loop-m.m-index s c.loop-m-test.false in
    let all : (side : Side) (k : ℕ) → g.S.Store.lists c.loop-m.store side k ≡ carried side (g.S.Store.lists c.args.store.now side) s k =
    λ side k. c.loop-m.invariant.0 side k ∙ ap (λ (xs : List Move). carried side (old side) xs k) end
    in
    record {
      made = all;
      vacant = c.loop-m.invariant.1;
      gathered = λ side. gathered_by side (old side) (new side) s (all side);
      once = λ side. once_by side (old side) (new side) s (all side);
    }
