use Rattle.std.proofs.Common.{rules, tests, ◌≡◌, ℕ, ◌<◌, Bool, true, false, Decides, refl, sym}
use Rattle.std.specs.Bool.{MatchBool}
use Rattle.comments.specs.declared.store.Side.{Side}
use Rattle.comments.specs.declared.store.Side.TheVariants.{Leading, Trailing}
use mathlib.Core.Bool.{true≢false}
use Rattle.comments.specs.Lists.{Lists}
use Rattle.comments.proofs.Below.{below_from_all}
use Rattle.comments.proofs.agree.same_lists.Goals as goal

-- The lists at an offset are alike on both sides.
abbrev Alike : Lists → Lists → ℕ → Type 0
Alike f g k = (f Leading k ≡ g Leading k) × (f Trailing k ≡ g Trailing k)

decided : (f g : Lists) (n : ℕ) (r : Bool) → MatchBool r ((k : ℕ) → k < n → Alike f g k) ((k : ℕ) × (k < n) × (Alike f g k → ⊥)) → Decides r ((side : Side) (k : ℕ) → k < n → f side k ≡ g side k)
decided f g n true h = ((λ _ side k l. on side k (h k l)), λ _. refl)
  where
    on : (side : Side) (k : ℕ) → Alike f g k → f side k ≡ g side k
    on Leading k a = a.0
    on Trailing k a = a.1
decided f g n false h = ((λ e. absurd (true≢false (sym e))), λ e. absurd (h.2 (e Leading h.0 h.1, e Trailing h.0 h.1)))

pub returns : goal.returns
returns g c =
    let f = g.A.Store.lists c.args.a.now in
    let h = g.B.Store.lists c.args.b.now in
    decided f h c.args.end c.all.result
    (below_from_all _ _ _ _ _ (Alike f h) (λ k. Alike f h k → ⊥) c.all.ensures.ran refl (λ x q k. search (rules, tests)) (λ x q k. search (rules, tests)))
