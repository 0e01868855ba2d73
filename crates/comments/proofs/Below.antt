-- What `all` answers over the numbers below another.
use Rattle.std.proofs.Common.{◌≡◌, ℕ, ◌<◌, Bool, true, false, List, length, subst, arith, get_or}
use Rattle.std.specs.Prelude.{Option}
use Rattle.std.specs.Option.{MatchOption}
use Rattle.std.specs.Bool.{MatchBool}
use Rattle.std.specs.Fn.{Called}
use Rattle.std.specs.Iterator.{YieldsThen}
use Rattle.std.specs.List.{range_with_len, FoldsTo, AllWithin, HoldsAt}
use Rattle.std.specs.declared.ops.Range.{Range}
use Rattle.std.proofs.iter.Yields.{nat_range_steps}
use Rattle.std.proofs.lemmas.Iterator.{cases_from_all, YieldsList-from_range}
use Rattle.std.proofs.lemmas.List.FromFn.{length-range_with_len, get_or-range_with_len}
use denote.Param.Members.{Mut}

pub below_from_all :
    {F : Type 0} {g : Mut F (ℕ × Unit {0}) Bool} (s u : Range ℕ) (f : F) (n : ℕ) (r : Bool) (Yes No : ℕ → Type 0)
    → (xs : List ℕ) × (o : Option ℕ) × (j : F) × YieldsThen nat_range_steps s xs o u × FoldsTo (λ p x q. Called g p (x, tt) true q) f xs j × MatchOption o (r ≡ true) (λ x. (r ≡ false) × ((h : F) × Called g j (x, tt) false h))
    → s ≡ record { start = 0; end = n }
    → ((x : ℕ) (q : F) → Called g f (x, tt) true q → (q ≡ f) × Yes x)
    → ((x : ℕ) (q : F) → Called g f (x, tt) false q → No x)
    → MatchBool r ((k : ℕ) → k < n → Yes k) ((k : ℕ) × (k < n) × No k)
below_from_all s u f n r Yes No ran e hold fail = told r (cases_from_all u f r Yes No ran (YieldsList-from_range 0 n n e (omega arith)) hold fail)
  where
    there : (k : ℕ) → k < n → get_or (range_with_len 0 n) k 0 ≡ k
    there k l = omega (arith, get_or-range_with_len 0 n k 0 l)

    told : (b : Bool) → MatchBool b (AllWithin Yes (range_with_len 0 n) 0 (length (range_with_len 0 n))) ((k : ℕ) × (k < length (range_with_len 0 n)) × HoldsAt No (range_with_len 0 n) k) → MatchBool b ((k : ℕ) → k < n → Yes k) ((k : ℕ) × (k < n) × No k)
    told true h = λ k l. subst Yes (there k l) (h k 0 (omega arith) (omega (arith, length-range_with_len 0 n)))
    told false h = let l : h.0 < n = omega (arith, h.1, length-range_with_len 0 n) in (h.0, l, subst No (there h.0 l) (h.2 0))
