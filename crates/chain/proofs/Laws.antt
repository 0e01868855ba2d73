-- What is true of every chain, for the layers that keep chains: a head has one chain, which has no slot twice and is no
-- longer than there are slots; a record that is not on it may be linked anew; two chains are joined by one link.
use Rattle.std.proofs.Common.{◌≡◌, ℕ, zero, suc, ◌+◌, ◌-◌, ◌<◌, ◌≤◌, ◌≢◌, ◌⊎◌, List, [], ◌∷◌, ◌++◌, length, set, sym, refl, ap, ◌∙◌, subst, inl, inr, ⊎_elim, arith, length-set}
use Rattle.std.proofs.lemmas.List.{get_or-set_same, get_or-set_other}
use Rattle.std.specs.List.{AllByRecursion as All}
use Rattle.chain.specs.Chain.{room, Slot, link_at, Chain, is, times}
use Rattle.chain.proofs.Counting.{is_same, is_cases, times_append, no_longer}

-- a head has one chain
pub chain_unique : (m : List ℕ) (h : ℕ) (ks js : List ℕ) → Chain m h ks → Chain m h js → ks ≡ js
chain_unique m h [] [] c d = refl
chain_unique m h [] (j ∷ js) c d = absurd (omega (arith, d.0, d.1.0))
chain_unique m h (k ∷ ks) [] c d = absurd (omega (arith, c.0, c.1.0))
chain_unique m h (k ∷ ks) (j ∷ js) c d =
    let e : j ≡ k = sym d.0 ∙ c.0 in
    let i : ks ≡ js = chain_unique m (link_at m k) ks js c.2 (subst (λ (x : ℕ). Chain m (link_at m x) js) e d.2) in
    cc

-- a slot of the chain begins a chain that is no longer
pub chain_from : (m : List ℕ) (h k : ℕ) (ks : List ℕ) → Chain m h ks → 0 < times k ks → (js : List ℕ) × Chain m k js × (length js ≤ length ks)
chain_from m h k [] c t = absurd (omega arith)
chain_from m h k (j ∷ ks) c t =
    ⊎_elim
    (λ e. (j ∷ ks, (e.0, c.1, c.2), omega arith))
    (λ e. let p = chain_from m (link_at m j) k ks c.2 (omega (arith, e.1)) in (p.0, p.1, omega (arith, p.2)))
    (is_cases k j)

-- no slot is on a chain twice
pub chain_once : (m : List ℕ) (h : ℕ) (ks : List ℕ) → Chain m h ks → (k : ℕ) → times k ks ≤ 1
chain_once m h [] c k = omega arith
chain_once m h (j ∷ ks) c k =
    ⊎_elim
    (λ e. ⊎_elim (λ none. omega (arith, e.1)) (λ some. absurd (again e.0 (omega arith))) (nought (times k ks)))
    (λ e. omega (arith, e.1, chain_once m (link_at m j) ks c.2 k))
    (is_cases k j)
  where
    nought : (n : ℕ) → (n ≡ 0) ⊎ (0 < n)
    nought zero = inl refl
    nought (suc n) = inr (omega arith)

    again : k ≡ j → 0 < times k ks → ⊥
    again e t =
        let p = chain_from m (link_at m j) k ks c.2 t in
        let same : p.0 ≡ j ∷ ks = chain_unique m k p.0 (j ∷ ks) p.1 (e, c.1, c.2) in
        omega (arith, ap length same, p.2)

pub chain_slots : (m : List ℕ) (h : ℕ) (ks : List ℕ) → Chain m h ks → All (λ k. Slot (length m) k) ks
chain_slots m h [] c = tt
chain_slots m h (k ∷ ks) c = (c.1, chain_slots m (link_at m k) ks c.2)

-- no chain is longer than there are slots
pub chain_short : (m : List ℕ) (h : ℕ) (ks : List ℕ) → Chain m h ks → length ks ≤ room (length m)
chain_short m h ks c = no_longer (room (length m)) ks (chain_slots m h ks c) (chain_once m h ks c)

-- what is on a chain is a slot
pub chain_slot : (m : List ℕ) (h k : ℕ) (ks : List ℕ) → Chain m h ks → 0 < times k ks → Slot (length m) k
chain_slot m h k [] c t = absurd (omega arith)
chain_slot m h k (j ∷ ks) c t =
    ⊎_elim
    (λ e. subst (λ (x : ℕ). Slot (length m) x) (sym e.0) c.1)
    (λ e. chain_slot m (link_at m j) k ks c.2 (omega (arith, e.1)))
    (is_cases k j)

-- a chain stands where the records that are on it keep their links
pub chain_kept :
    (m n : List ℕ)
    (h : ℕ)
    (ks : List ℕ)
    → length n ≡ length m
    → ((k : ℕ) → 0 < k → 0 < times k ks → link_at n k ≡ link_at m k)
    → Chain m h ks
    → Chain n h ks
chain_kept m n h [] l same c = c
chain_kept m n h (k ∷ ks) l same c =
    let here : link_at n k ≡ link_at m k = same k c.1.0 (omega (arith, is_same k)) in (
      c.0,
      subst (λ (x : ℕ). Slot x k) (sym l) c.1,
      subst (λ (x : ℕ). Chain n x ks) (sym here) (chain_kept m n (link_at m k) ks l (λ j p t. same j p (omega arith)) c.2),
    )

pub link_at_set : (m : List ℕ) (k v : ℕ) → Slot (length m) k → link_at (set m (k - 1) v) k ≡ v
link_at_set m k v s = get_or-set_same m (k - 1) v 0 (omega (arith, s.0, s.1))

pub link_at_other : (m : List ℕ) (k j v : ℕ) → 0 < k → 0 < j → (j ≡ k → ⊥) → link_at (set m (k - 1) v) j ≡ link_at m j
link_at_other m k j v p q ne = let d : j - 1 ≢ k - 1 = λ e. ne (omega arith) in get_or-set_other m (k - 1) (j - 1) v 0 d

-- a record that is not on a chain may be linked anew
pub chain_past : (m : List ℕ) (h x v : ℕ) (ks : List ℕ) → 0 < x → times x ks ≡ 0 → Chain m h ks → Chain (set m (x - 1) v) h ks
chain_past m h x v ks p off c =
    chain_kept m (set m (x - 1) v) h ks (length-set m (x - 1) v)
    (λ k q t. link_at_other m x k v p q (λ e. omega (arith, ap (λ (y : ℕ). times y ks) e)))
    c

-- a slot before a chain that it is not on
pub chain_push : (m : List ℕ) (h x : ℕ) (ks : List ℕ) → Slot (length m) x → times x ks ≡ 0 → Chain m h ks → Chain (set m (x - 1) h) x (x ∷ ks)
chain_push m h x ks s off c = (
  refl,
  subst (λ (n : ℕ). Slot n x) (sym (length-set m (x - 1) h)) s,
  subst (λ (y : ℕ). Chain (set m (x - 1) h) y ks) (sym (link_at_set m x h s)) (chain_past m h x h ks s.0 off c),
)

-- two chains become one where the last record of the first is led to the head of the second
pub chain_join :
    (m : List ℕ)
    (h x y : ℕ)
    (ks js : List ℕ)
    → Chain m h (ks ++ (x ∷ []))
    → Chain m y js
    → times x js ≡ 0
    → Chain (set m (x - 1) y) h ((ks ++ (x ∷ [])) ++ js)
chain_join m h x y [] js c d off = (
  c.0,
  subst (λ (n : ℕ). Slot n x) (sym (length-set m (x - 1) y)) c.1,
  subst (λ (z : ℕ). Chain (set m (x - 1) y) z js) (sym (link_at_set m x y c.1)) (chain_past m y x y js c.1.0 off d),
)
chain_join m h x y (k ∷ ks) js c d off =
    let once : times x (k ∷ (ks ++ (x ∷ []))) ≤ 1 = chain_once m h (k ∷ (ks ++ (x ∷ []))) c x in
    let last : times x (ks ++ (x ∷ [])) ≡ times x ks + (is x x + 0) = times_append x ks (x ∷ []) in
    let ne : k ≡ x → ⊥ = λ e. omega (arith, is_same x, ap (is x) e) in
    let sx : Slot (length m) x = chain_slot m (link_at m k) x (ks ++ (x ∷ [])) c.2 (omega (arith, is_same x)) in (
      c.0,
      subst (λ (n : ℕ). Slot n k) (sym (length-set m (x - 1) y)) c.1,
      subst (λ (z : ℕ). Chain (set m (x - 1) y) z ((ks ++ (x ∷ [])) ++ js)) (sym (link_at_other m x k y sx.0 c.1.0 ne))
          (chain_join m (link_at m k) x y ks js c.2 d off),
    )
