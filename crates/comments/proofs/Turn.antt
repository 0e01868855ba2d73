-- One turn of a carry.
use Rattle.std.proofs.Common.{◌≡◌, ℕ, ◌+◌, List, [], ◌∷◌, ◌++◌, take, sym, ap, ◌∙◌}
use mathlib.Core.Path.{fun_ext}
use Rattle.comments.specs.declared.place.Move.{Move}
use Rattle.comments.specs.declared.store.Side.{Side}
use Rattle.comments.specs.declared.store.Side.TheVariants.{Leading, Trailing}
use Rattle.comments.specs.Lists.{Lists, edge, moved, shifted, carried}
use Rattle.comments.proofs.Joins.{carried_more}

-- one more move made on one side
turn :
    (side : Side)
    (f h : ℕ → List ℕ)
    (xs : List Move)
    (i : ℕ)
    (m : Move)
    → ((k : ℕ) → h k ≡ carried side f (take i xs) k)
    → take (i + 1) xs ≡ take i xs ++ (m ∷ [])
    → (k : ℕ) → moved side h (edge side m.from) (edge side m.to) k ≡ carried side f (take (i + 1) xs) k
turn side f h xs i m inv s k =
    ap (λ (F : ℕ → List ℕ). moved side F (edge side m.from) (edge side m.to) k) (fun_ext inv)
    ∙ ap (λ (F : ℕ → List ℕ). F k) (sym (carried_more side f (take i xs) m) ∙ ap (carried side f) (sym s))

-- the leading lists moved, then the trailing ones
pub both :
    (f g h old : Lists)
    (xs : List Move)
    (i : ℕ)
    (m : Move)
    → ((side : Side) (k : ℕ) → f side k ≡ carried side (old side) (take i xs) k)
    → take (i + 1) xs ≡ take i xs ++ (m ∷ [])
    → ((side : Side) (k : ℕ) → g side k ≡ shifted Leading f m.from.lo m.to.lo side k)
    → ((side : Side) (k : ℕ) → h side k ≡ shifted Trailing g m.from.hi m.to.hi side k)
    → (side : Side) (k : ℕ) → h side k ≡ carried side (old side) (take (i + 1) xs) k
both f g h old xs i m inv s lead trail Leading k =
    trail Leading k ∙ lead Leading k ∙ turn Leading (old Leading) (f Leading) xs i m (inv Leading) s k
both f g h old xs i m inv s lead trail Trailing k =
    trail Trailing k ∙ turn Trailing (old Trailing) (g Trailing) xs i m (λ j. lead Trailing j ∙ inv Trailing j) s k
