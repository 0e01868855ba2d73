-- The free and the occupied records are all there are: each slot is met once, so a list of all that are met is as long as
-- there are slots.
use Rattle.std.proofs.Common.{◌≡◌, ℕ, zero, suc, ◌+◌, ◌<◌, ◌≤◌, eqb, List, [], ◌∷◌, ◌++◌, length, refl, ap, ◌∙◌, ⊎_elim, arith}
use Rattle.std.proofs.lemmas.Bool.{cases_eq, cases_lt, cond-true, cond-false, eq-eqb, ne_eqb}
use Rattle.std.proofs.lemmas.List.{length-append}
use Rattle.std.specs.List.{AllByRecursion as All}
use Rattle.chain.specs.Chain.{room, times}
use Rattle.chain.proofs.Counting.{is_same, is_unlike, times_append, no_longer}
use Rattle.grammar.specs.Tree.{Tree, node, nil, ◌▸◌}
use Rattle.grammar.specs.Tree as trees
use Rattle.records.specs.Siblings.{size}
use Rattle.records.proofs.Pigeon.{slots_of, times_slots, length_slots}
use Rattle.records.proofs.Measures.{size_forest}
use Rattle.toolkit.specs.Ledger.{Entry, siblings, tree, counts, occupied, Balanced}
use Rattle.toolkit.specs.Run.{strike}
use Rattle.toolkit.proofs.Books.{at_most}
use Rattle.toolkit.proofs.Runs.{times_strike}

-- the slots of all trees
abbrev all_slots : List Entry → List ℕ
all_slots [] = []
all_slots (p ∷ ps) = slots_of (siblings p) ++ all_slots ps

times_all : (k : ℕ) (ps : List Entry) → times k (all_slots ps) ≡ counts k ps
times_all k [] = refl
times_all k (p ∷ ps) = omega (arith, times_append k (slots_of (siblings p)) (all_slots ps), times_slots k (siblings p), times_all k ps)

tree_size : (p : Entry) → trees.size (tree p) ≡ size (siblings p)
unfolding trees.size
tree_size p = omega (arith, size_forest p.kids)

length_all : (ps : List Entry) → length (all_slots ps) ≡ occupied ps
length_all [] = refl
length_all (p ∷ ps) = omega (arith, length-append (slots_of (siblings p)) (all_slots ps), length_slots (siblings p), tree_size p, length_all ps)

length_strike : (k : ℕ) (ks : List ℕ) → 0 < times k ks → length (strike k ks) + 1 ≡ length ks
length_strike k [] p = absurd (omega arith)
length_strike k (j ∷ ks) p =
    ⊎_elim
    (λ e. (let x : length (strike k (j ∷ ks)) ≡ length ks = ap length (cond-true (eqb k j) ks (j ∷ strike k ks) (eq-eqb k j e)) in omega arith))
    (λ ne.
    let x : length (strike k (j ∷ ks)) ≡ suc (length (strike k ks)) = ap length (cond-false (eqb k j) ks (j ∷ strike k ks) (ne_eqb k j ne)) in
    omega (arith, length_strike k ks (omega (arith, is_unlike k j ne))))
    (cases_eq k j)

-- a list that has each number from 1 to n is at least n long
no_shorter : (n : ℕ) (xs : List ℕ) → ((k : ℕ) → 0 < k → k ≤ n → 0 < times k xs) → n ≤ length xs
no_shorter zero xs h = omega arith
no_shorter (suc n) xs h =
    let top : 0 < times (suc n) xs = h (suc n) (omega arith) (omega arith) in
    let rest : n ≤ length (strike (suc n) xs) =
    no_shorter n (strike (suc n) xs)
    (λ k p q. omega (arith, h k p (omega arith), times_strike k (suc n) xs, is_unlike k (suc n) (λ e. omega arith)))
    in
    omega (arith, length_strike (suc n) xs top)

-- what is met is a slot
slots_all : (n : ℕ) (xs : List ℕ) → ((k : ℕ) → (0 < k → n < k) → times k xs ≡ 0) → All (λ k. (0 < k) × (k ≤ n)) xs
slots_all n [] h = tt
slots_all n (x ∷ xs) h = ((positive, small), slots_all n xs (λ k q. omega (arith, h k q)))
  where
    positive : 0 < x
    positive =
        ⊎_elim (λ z. absurd (omega (arith, h x (λ p. omega arith), is_same x))) (λ nz. omega arith) (cases_eq x 0)

    small : x ≤ n
    small = ⊎_elim (λ lt. absurd (omega (arith, h x (λ p. lt), is_same x))) (λ le. le) (cases_lt n x)

pub balanced : Balanced
balanced a ks ps b =
    let n = room (length a.slots) in
    let xs = ks ++ all_slots ps in
    let met : (k : ℕ) → times k xs ≡ times k ks + counts k ps = λ k. omega (arith, times_append k ks (all_slots ps), times_all k ps) in
    let least : n ≤ length xs = no_shorter n xs (λ k p q. omega (arith, met k, b.once k (p, q))) in
    let most : length xs ≤ n =
    no_longer n xs (slots_all n xs (λ k q. met k ∙ b.past k q))
    (λ k. omega (arith, met k, at_most a ks ps b k))
    in
    omega (arith, length-append ks (all_slots ps), length_all ps)
