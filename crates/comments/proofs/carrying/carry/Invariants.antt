use Rattle.std.proofs.Common.{◌≡◌, ℕ, take}
use Rattle.comments.specs.declared.store.Side.{Side}
use Rattle.comments.specs.Lists.{carried}
use Rattle.comments.proofs.carrying.carry.Given as goal

abbrev pub invariant-loop-m : goal.invariant-loop-m
invariant-loop-m g l =
    ((side : Side) (k : ℕ) → g.S.Store.lists l.store side k ≡ carried side (g.S.Store.lists l.initial.store side) (take l.m-index l.moves) k)
    × (g.S.Store.vacant l.store ≡ g.S.Store.vacant l.initial.store)
