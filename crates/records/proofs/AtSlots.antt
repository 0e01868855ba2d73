-- What is read and written at a slot, and the free chain in terms of the records.
use Rattle.std.proofs.Common.{◌≡◌, ℕ, ◌-◌, ◌<◌, ◌≤◌, ◌≢◌, List, length, set, sym, ap, ◌∙◌, ⊎_elim, arith}
use Rattle.std.proofs.lemmas.Bool.{cases_lt}
use Rattle.std.proofs.lemmas.List.{length-map, get_or-map, get_or_past, get_or-set_same, get_or-set_other, set-set}
use Rattle.chain.specs.Chain.{room, Slot, link_at}
use Rattle.records.specs.declared.record.Record.{Record}
use Rattle.records.specs.Record.{at, links, vacant, relinked}

pub length_links : (s : List Record) → length (links s) ≡ length s
length_links s = length-map s (λ (r : Record). r.next)

-- the link of a slot is the next of its record
pub link_of_lem : (s : List Record) (k : ℕ) → link_at (links s) k ≡ (at s k).next
link_of_lem s k =
    ⊎_elim
    (λ l. get_or-map (λ (r : Record). r.next) s (k - 1) (vacant 0) 0 l)
    (λ l. get_or_past (links s) (k - 1) 0 (omega (arith, length_links s)) ∙ ap (λ (r : Record). r.next) (sym (get_or_past s (k - 1) (vacant 0) l)))
    (cases_lt (k - 1) (length s))

-- one write
pub at_same : (s : List Record) (k : ℕ) (r : Record) → 0 < k → k ≤ room (length s) → at (set s (k - 1) r) k ≡ r
at_same s k r p q = get_or-set_same s (k - 1) r (vacant 0) (omega arith)

pub at_other : (s : List Record) (k j : ℕ) (r : Record) → 0 < k → 0 < j → j ≢ k → at (set s (k - 1) r) j ≡ at s j
at_other s k j r p q h = get_or-set_other s (k - 1) (j - 1) r (vacant 0) (omega arith)

-- a record given back, as the code has it
pub released :
    (s u t : List Record)
    (h k : ℕ)
    (r : Record)
    → Slot (length s) k
    → u ≡ set s (k - 1) (relinked (at s k) h)
    → r ≡ at u k
    → t ≡ set u (k - 1) (vacant r.next)
    → t ≡ set s (k - 1) (vacant h)
released s u t h k r sl eu er et =
    et
    ∙ ap (λ (v : List Record). set v (k - 1) (vacant r.next)) eu
    ∙ set-set s (k - 1) (relinked (at s k) h) (vacant r.next)
    ∙ ap (λ (n : ℕ). set s (k - 1) (vacant n)) next
  where
    next : r.next ≡ h
    next =
        ap (λ (q : Record). q.next) (er ∙ ap (λ (v : List Record). at v k) eu ∙ at_same s k (relinked (at s k) h) sl.0 sl.1)
