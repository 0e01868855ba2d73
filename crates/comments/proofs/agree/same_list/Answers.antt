use Rattle.std.proofs.Common.{rules, tests, ◌≡◌, ℕ, suc, ◌<◌, List, [], ◌∷◌, length, sym, refl, ap, ◌∙◌, arith}
use mathlib.Core.Bool.{true≢false}
use Rattle.std.specs.Prelude.{◌≢◌, Bool, true, false}
use Rattle.std.specs.Bool.{MatchBool, Decides}
use Rattle.std.specs.List.{slice_get}
use Rattle.comments.proofs.Below.{below_from_all}
use Rattle.comments.proofs.agree.same_list.Goals as goal

-- lists of one length with the same elements are one list
same_nth : (xs ys : List ℕ) → length xs ≡ length ys → ((k : ℕ) → k < length xs → slice_get xs k ≡ slice_get ys k) → xs ≡ ys
same_nth [] [] l h = refl
same_nth [] (y ∷ ys) l h = absurd (omega arith)
same_nth (x ∷ xs) [] l h = absurd (omega arith)
same_nth (x ∷ xs) (y ∷ ys) l h =
    let e = h 0 (omega arith) in
    let i : xs ≡ ys = same_nth xs ys (omega arith) (λ k q. h (suc k) (omega arith)) in
    cc

decided : (xs ys : List ℕ) (n : ℕ) (r : Bool) → n ≡ length xs → n ≡ length ys → MatchBool r ((k : ℕ) → k < n → slice_get xs k ≡ slice_get ys k) ((k : ℕ) × (k < n) × (slice_get xs k ≢ slice_get ys k)) → Decides r (xs ≡ ys)
decided xs ys n true a b h = ((λ _. same_nth xs ys (sym a ∙ b) (λ k l. h k (omega (arith, a)))), λ _. refl)
decided xs ys n false a b h = ((λ e. absurd (true≢false (sym e))), λ e. absurd (h.2 (ap (λ (zs : List ℕ). slice_get zs h.0) e)))

pub returns-then-n-count : goal.returns-then-n-count
returns-then-n-count g c =
    let xs = g.A.Store.lists c.args.a.now c.args.spot.side c.args.spot.offset in
    let ys = g.B.Store.lists c.args.b.now c.args.spot.side c.args.spot.offset in
    decided xs ys c.count-n.result c.all.result
    c.count-n.ensures.value
    (c.if-n-count.true ∙ c.count.ensures.value)
    (below_from_all _ _ _ _ _ (λ k. slice_get xs k ≡ slice_get ys k) (λ k. slice_get xs k ≢ slice_get ys k) c.all.ensures.ran refl (λ x q k. search (rules, tests)) (λ x q k. search (rules, tests)))
