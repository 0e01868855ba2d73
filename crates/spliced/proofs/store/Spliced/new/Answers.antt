use Rattle.std.proofs.Common.{◌≡◌, ℕ, [], sym}
use Rattle.comments.specs.declared.store.Side.{Side}
use Rattle.spliced.specs.Heads.{listed}
use Rattle.spliced.specs.Layout.{Laid}
use Rattle.spliced.proofs.Fresh.{fresh}
use Rattle.spliced.proofs.store.Spliced.new.Goals.{After-new-2}
use Rattle.spliced.proofs.store.Spliced.new.Goals as goal

made :
    (c : After-new-2)
    → Laid c.new.result.slots.now c.new-2.result.slots.now c.new.result.free c.new-2.result.free 0
    × ((side : Side) (k : ℕ) → listed c.new.result.slots.now c.new-2.result.slots.now side k ≡ [])
made c =
    fresh _ _ _ _ _ _ (sym c.new.ensures.beyond.0) (sym c.new-2.ensures.beyond.0) c.new.ensures.chain c.new-2.ensures.chain c.new-2.ensures.unused

pub invariant_of-result : goal.invariant_of-result
invariant_of-result c = record { laid = ∣ (made c).0 ∣₁ }

pub returns-clause-empty : goal.returns-clause-empty
returns-clause-empty c = (made c.before).1
