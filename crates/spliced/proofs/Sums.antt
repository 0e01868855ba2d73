-- Sums over the lists of notes, of which a note is in at most one.
use Rattle.std.proofs.Common.{◌≡◌, ℕ, suc, ◌+◌, ◌<◌, ◌≤◌, ◌≢◌, List, [], ◌∷◌, length, get_or, set, sum_by, ap, arith, length-set}
use Rattle.std.proofs.lemmas.List.Sums.{sum_by-set, sum_by-cons, get_or-le-sum_by}
use Rattle.std.proofs.lemmas.List.{get_or-set_other}

-- two lists at different places have no more than all
pub two_of : (f : List ℕ → ℕ) (xs : List (List ℕ)) (i j : ℕ) → f [] ≡ 0 → j ≢ i → i < length xs → j < length xs → f (get_or xs i []) + f (get_or xs j []) ≤ sum_by f xs
two_of f xs i j z ne li lj =
    let a = sum_by-set f xs i [] [] li in
    let len : length (set xs i []) ≡ length xs = length-set xs i [] in
    let b = get_or-le-sum_by f (set xs i []) j [] (omega arith) in
    let c : f (get_or (set xs i []) j []) ≡ f (get_or xs j []) = ap f (get_or-set_other xs i j [] [] ne) in
    omega arith

-- lists of which none is empty have as many elements as there are lists, at least
pub none_empty : (xs : List (List ℕ)) → ((i : ℕ) → i < length xs → 0 < length (get_or xs i [])) → length xs ≤ sum_by length xs
none_empty [] h = omega arith
none_empty (x ∷ xs) h =
    omega (arith, sum_by-cons length x xs, h 0 (omega arith), none_empty xs (λ i l. h (suc i) (omega arith)))
