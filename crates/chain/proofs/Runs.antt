-- The slots from one on: how many they are, and how often each stands among them.
use Rattle.std.proofs.Common.{◌≡◌, ℕ, zero, suc, ◌+◌, ◌<◌, ◌≤◌, ◌≢◌, length, refl, ⊎_elim, arith}
use Rattle.chain.specs.Chain.{times, slots_from}
use Rattle.chain.proofs.Counting.{is_unlike, is_cases}

pub length_from : (k n : ℕ) → length (slots_from k n) ≡ n
length_from k zero = refl
length_from k (suc n) = omega (arith, length_from (suc k) n)

-- the slots from j on, each once
pub times_before : (k j n : ℕ) → k < j → times k (slots_from j n) ≡ 0
times_before k j zero l = refl
times_before k j (suc n) l = omega (arith, is_unlike k j (λ e. omega arith), times_before k (suc j) n (omega arith))

pub times_from : (k j n : ℕ) → j ≤ k → k < j + n → times k (slots_from j n) ≡ 1
times_from k j zero l r = absurd (omega arith)
times_from k j (suc n) l r =
    ⊎_elim
    (λ e. omega (arith, e.1, times_before k (suc j) n (omega (arith, e.0))))
    (λ e. omega (arith, e.1, times_from k (suc j) n (let ne : k ≢ j = e.0 in omega arith) (omega arith)))
    (is_cases k j)

pub times_behind : (k j n : ℕ) → j + n ≤ k → times k (slots_from j n) ≡ 0
times_behind k j zero l = refl
times_behind k j (suc n) l = omega (arith, is_unlike k j (λ e. omega arith), times_behind k (suc j) n (omega arith))
