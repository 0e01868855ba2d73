use Rattle.spliced.specs.Linked.{links}
use Rattle.spliced.proofs.Reading.{Left}
use Rattle.spliced.proofs.notes.Notes.comment.Given as goal

abbrev pub invariant-loop : goal.invariant-loop
invariant-loop l = Left (links l.self.slots.now) l.first l.at l.counter
