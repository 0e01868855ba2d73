use Rattle.register.proofs.Moves.{shift_leading, shift_trailing, room_kept}
use Rattle.register.proofs.store.RegisterStore.move_list.Goals as goal

pub returns-in-Leading-clause-moved : goal.returns-in-Leading-clause-moved
returns-in-Leading-clause-moved c = shift_leading _ _ _ _ _ c.if-from-to.false c.in-Leading.is c.put_together.ensures.lists

pub returns-in-Leading-clause-vacant : goal.returns-in-Leading-clause-vacant
returns-in-Leading-clause-vacant c = room_kept _ _ _ _ c.put_together.ensures.beyond

pub returns-in-Trailing-clause-moved : goal.returns-in-Trailing-clause-moved
returns-in-Trailing-clause-moved c = shift_trailing _ _ _ _ _ c.if-from-to.false c.in-Trailing.is c.put_together-in-Trailing.ensures.lists

pub returns-in-Trailing-clause-vacant : goal.returns-in-Trailing-clause-vacant
returns-in-Trailing-clause-vacant c = room_kept _ _ _ _ c.put_together-in-Trailing.ensures.beyond
