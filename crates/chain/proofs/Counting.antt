-- How often a list has a number, and that a list which has each slot at most once is no longer than there are slots.
use Rattle.std.proofs.Common.{◌≡◌, ℕ, zero, suc, ◌+◌, ◌<◌, ◌≤◌, eqb, ◌⊎◌, List, [], ◌∷◌, ◌++◌, length, sym, refl, inl, inr, ⊎_elim, arith}
use Rattle.std.proofs.lemmas.Bool.{cases_eq, cond-true, cond-false, eq-eqb, ne_eqb}
use Rattle.std.specs.List.{AllByRecursion as All}
use Rattle.chain.specs.Chain.{is, times}

pub is_same : (k : ℕ) → is k k ≡ 1
unfolding is
is_same k = cond-true (eqb k k) 1 0 (eq-eqb k k refl)

pub is_equal : (k j : ℕ) → k ≡ j → is k j ≡ 1
unfolding is
is_equal k j e = cond-true (eqb k j) 1 0 (eq-eqb k j e)

pub is_unlike : (k j : ℕ) → (k ≡ j → ⊥) → is k j ≡ 0
unfolding is
is_unlike k j e = cond-false (eqb k j) 1 0 (ne_eqb k j e)

pub is_cases : (k j : ℕ) → ((k ≡ j) × (is k j ≡ 1)) ⊎ ((k ≡ j → ⊥) × (is k j ≡ 0))
is_cases k j = ⊎_elim (λ e. inl (e, is_equal k j e)) (λ e. inr (e, is_unlike k j e)) (cases_eq k j)

pub times_append : (k : ℕ) (xs ys : List ℕ) → times k (xs ++ ys) ≡ times k xs + times k ys
times_append k [] ys = omega arith
times_append k (x ∷ xs) ys = let i = times_append k xs ys in omega arith

-- a sum over the numbers from 1 to n
abbrev over : (ℕ → ℕ) → ℕ → ℕ
over g zero = 0
over g (suc n) = g (suc n) + over g n

over_zero : (n : ℕ) → over (λ k. 0) n ≡ 0
over_zero zero = refl
over_zero (suc n) = omega (arith, over_zero n)

over_past : (j n : ℕ) → n < j → over (λ k. is k j) n ≡ 0
over_past j zero q = refl
over_past j (suc n) q = omega (arith, is_unlike (suc n) j (λ e. omega arith), over_past j n (omega arith))

over_is : (j n : ℕ) → 0 < j → j ≤ n → over (λ k. is k j) n ≡ 1
over_is j zero p q = absurd (omega arith)
over_is j (suc n) p q =
    ⊎_elim
    (λ e. omega (arith, e.1, over_past j n (omega (arith, e.0))))
    (λ e. omega (arith, e.1, over_is j n p (let d : suc n ≡ j → ⊥ = e.0 in omega arith)))
    (is_cases (suc n) j)

over_sum : (f g : ℕ → ℕ) (n : ℕ) → over (λ k. f k + g k) n ≡ over f n + over g n
over_sum f g zero = refl
over_sum f g (suc n) = omega (arith, over_sum f g n)

over_most : (g : ℕ → ℕ) (n : ℕ) → ((k : ℕ) → g k ≤ 1) → over g n ≤ n
over_most g zero h = omega arith
over_most g (suc n) h = omega (arith, h (suc n), over_most g n h)

length_over : (n : ℕ) (ks : List ℕ) → All (λ k. (0 < k) × (k ≤ n)) ks → length ks ≡ over (λ k. times k ks) n
length_over n [] h = sym (over_zero n)
length_over n (j ∷ ks) h =
    omega (arith, over_sum (λ k. is k j) (λ k. times k ks) n, over_is j n h.0.0 h.0.1, length_over n ks h.1)

pub no_longer : (n : ℕ) (ks : List ℕ) → All (λ k. (0 < k) × (k ≤ n)) ks → ((k : ℕ) → times k ks ≤ 1) → length ks ≤ n
no_longer n ks h once = omega (arith, length_over n ks h, over_most (λ k. times k ks) n once)
