use Rattle.std.proofs.Common.{ℕ, List, length}
use Rattle.chain.specs.Chain.{room}
use Rattle.records.specs.Siblings.{Siblings, Loose, siblings_at, weight}
use Rattle.records.proofs.Steps.{Left}
use Rattle.records.proofs.give_back.give_back_tree.Given as goal

abbrev pub invariant-loop-here : goal.invariant-loop-here
invariant-loop-here l =
    ∥ ((f : Siblings) × (ks : List ℕ) × Loose l.slots l.free l.here f ks) ∥₁
    × ((f : Siblings) (ks : List ℕ) → Loose l.initial.slots l.initial.free l.initial.here f ks
    → Left l.initial.slots l.slots l.free l.here f ks)

abbrev pub decreases-loop-here : goal.decreases-loop-here
decreases-loop-here l = weight (siblings_at (room (length l.slots)) l.slots l.here)
