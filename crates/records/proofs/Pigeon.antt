-- No siblings have more records than there are slots; so a walk with that many steps finds them whole.
use Rattle.std.proofs.Common.{◌≡◌, ℕ, zero, suc, ◌<◌, ◌≤◌, List, [], ◌∷◌, ◌++◌, length, sym, refl, subst, arith}
use Rattle.std.proofs.lemmas.List.{length-append}
use Rattle.std.specs.List.{AllByRecursion as All}
use Rattle.chain.specs.Chain.{room, times}
use Rattle.chain.proofs.Counting.{times_append, no_longer}
use Rattle.records.specs.declared.record.Record.{Record}
use Rattle.records.specs.Record.{head_of, at}
use Rattle.records.specs.Siblings.{Siblings, none, sibling, size, count, Holds, siblings_at}

-- the slots of siblings, in walk order
abbrev pub slots_of : Siblings → List ℕ
slots_of none = []
slots_of (sibling k d kids rest) = k ∷ (slots_of kids ++ slots_of rest)

pub times_slots : (k : ℕ) (f : Siblings) → times k (slots_of f) ≡ count k f
times_slots k none = refl
times_slots k (sibling j d kids rest) =
    omega (arith, times_append k (slots_of kids) (slots_of rest), times_slots k kids, times_slots k rest)

pub length_slots : (f : Siblings) → length (slots_of f) ≡ size f
length_slots none = refl
length_slots (sibling j d kids rest) =
    omega (arith, length-append (slots_of kids) (slots_of rest), length_slots kids, length_slots rest)

all_append : (P : ℕ → Type 0) (xs ys : List ℕ) → All P xs → All P ys → All P (xs ++ ys)
all_append P [] ys a b = b
all_append P (x ∷ xs) ys a b = (a.0, all_append P xs ys a.1 b)

in_slots : (s : List Record) (here : ℕ) (f : Siblings) → Holds s here f → All (λ k. (0 < k) × (k ≤ room (length s))) (slots_of f)
in_slots s here none h = tt
in_slots s here (sibling k d kids rest) h =
    ((h.1, h.2), all_append (λ j. (0 < j) × (j ≤ room (length s))) (slots_of kids) (slots_of rest) (in_slots s (at s k).first kids h.4) (in_slots s (at s k).next rest h.5))

pub size_most : (s : List Record) (here : ℕ) (f : Siblings) → Holds s here f → ((k : ℕ) → count k f ≤ 1) → size f ≤ room (length s)
size_most s here f h a =
    omega (arith, length_slots f, no_longer (room (length s)) (slots_of f) (in_slots s here f h) (λ k. omega (arith, times_slots k f, a k)))

-- a walk finds the siblings
pub found : (n : ℕ) (s : List Record) (here : ℕ) (f : Siblings) → Holds s here f → size f ≤ n → siblings_at n s here ≡ f
found zero s here none h l = refl
found zero s here (sibling k d kids rest) h l = absurd (omega arith)
found (suc n) s zero none h l = refl
found (suc n) s (suc i) none h l = absurd (let e : suc i ≡ 0 = h in omega arith)
found (suc n) s zero (sibling k d kids rest) h l = absurd (let e : 0 ≡ k = h.0 in let p : 0 < k = h.1 in omega arith)
found (suc n) s (suc i) (sibling k d kids rest) h l =
    let e : k ≡ suc i = sym h.0 in
    let a : siblings_at n s (at s (suc i)).first ≡ kids = found n s (at s (suc i)).first kids (subst (λ x. Holds s (at s x).first kids) e h.4) (omega arith) in
    let b : siblings_at n s (at s (suc i)).next ≡ rest = found n s (at s (suc i)).next rest (subst (λ x. Holds s (at s x).next rest) e h.5) (omega arith) in
    let l : head_of (at s (suc i)) ≡ d = subst (λ x. head_of (at s x) ≡ d) e h.3 in
    cc
