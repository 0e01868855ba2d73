-- What changes elsewhere leave: siblings stand where their own records keep heads and links, and so does the free chain.
use Rattle.std.proofs.Common.{◌≡◌, ℕ, ◌+◌, ◌-◌, ◌<◌, ◌≤◌, ◌≢◌, ◌⊎◌, List, length, set, sym, refl, ap, ◌∙◌, subst, inl, inr, ⊎_elim, arith, length-set}
use Rattle.std.proofs.lemmas.Bool.{cases_eq}
use Rattle.chain.specs.Chain.{room, Chain, is, times}
use Rattle.chain.proofs.Counting.{is_same, is_cases}
use Rattle.chain.proofs.Laws.{chain_kept}
use Rattle.records.specs.declared.record.Record.{Record}
use Rattle.records.specs.declared.record.Mark.TheVariants as mark
use Rattle.records.specs.Record.{head_of, at, links}
use Rattle.records.specs.Siblings.{Siblings, none, sibling, count, Holds, Plain}
use Rattle.records.proofs.AtSlots.{length_links, link_of_lem, at_same, at_other}

-- two records with the same head and links
abbrev pub Alike : Record → Record → Type 0
Alike q r = (head_of q ≡ head_of r) × (q.first ≡ r.first) × (q.next ≡ r.next)

pub alike : {q r : Record} → q ≡ r → Alike q r
alike e = (ap head_of e, ap (λ x. x.first) e, ap (λ x. x.next) e)

-- what holds of a forest's own records alone
pub frame :
    (s t : List Record)
    (here : ℕ)
    (f : Siblings)
    → length t ≡ length s
    → ((k : ℕ) → 0 < k → 0 < count k f → Alike (at t k) (at s k))
    → Holds s here f
    → Holds t here f
frame s t here none l same h = h
frame s t here (sibling k d kids rest) l same h =
    let e : Alike (at t k) (at s k) = same k h.1 (omega (arith, is_same k)) in (
      h.0,
      h.1,
      omega (arith, h.2),
      e.0 ∙ h.3,
      frame s t (at t k).first kids l (λ j p q. same j p (omega arith)) (subst (λ x. Holds s x kids) (sym e.1) h.4),
      frame s t (at t k).next rest l (λ j p q. same j p (omega arith)) (subst (λ x. Holds s x rest) (sym e.2) h.5),
    )

pub frame_chain :
    (s t : List Record)
    (here : ℕ)
    (ks : List ℕ)
    → length t ≡ length s
    → ((k : ℕ) → 0 < k → 0 < times k ks → (at t k).next ≡ (at s k).next)
    → Chain (links s) here ks
    → Chain (links t) here ks
frame_chain s t here ks l same h =
    chain_kept (links s) (links t) here ks (length_links t ∙ l ∙ sym (length_links s)) (λ k p q. link_of_lem t k ∙ same k p q ∙ sym (link_of_lem s k)) h

-- a write elsewhere
pub outside :
    (s : List Record)
    (here : ℕ)
    (f : Siblings)
    (k : ℕ)
    (r : Record)
    → 0 < k
    → count k f ≡ 0
    → Holds s here f
    → Holds (set s (k - 1) r) here f
outside s here f k r p z h =
    frame s (set s (k - 1) r) here f (length-set s (k - 1) r)
    (λ j q c. let ne : j ≢ k = (λ e. let b : 0 < count k f = subst (λ x. 0 < count x f) e c in omega arith) in alike (at_other s k j r p q ne))
    h

pub outside_chain :
    (s : List Record)
    (here : ℕ)
    (ks : List ℕ)
    (k : ℕ)
    (r : Record)
    → 0 < k
    → times k ks ≡ 0
    → Chain (links s) here ks
    → Chain (links (set s (k - 1) r)) here ks
outside_chain s here ks k r p z h =
    frame_chain s (set s (k - 1) r) here ks (length-set s (k - 1) r)
    (λ j q c. let ne : j ≢ k = (λ e. let b : 0 < times k ks = subst (λ x. 0 < times x ks) e c in omega arith) in ap (λ x. x.next) (at_other s k j r p q ne))
    h

-- the forest at a slot is one
pub only : (s : List Record) (here : ℕ) (f g : Siblings) → Holds s here f → Holds s here g → f ≡ g
only s here none none h i = refl
only s here none (sibling k d kids rest) h i = absurd (let z : 0 < 0 = omega (arith, h, i.0, i.1) in omega arith)
only s here (sibling k d kids rest) none h i = absurd (let z : 0 < 0 = omega (arith, i, h.0, h.1) in omega arith)
only s here (sibling k d kids rest) (sibling j e kids' rest') h i =
    let same : k ≡ j = sym h.0 ∙ i.0 in
    let a : kids ≡ kids' = only s (at s k).first kids kids' h.4 (subst (λ x. Holds s (at s x).first kids') (sym same) i.4) in
    let b : rest ≡ rest' = only s (at s k).next rest rest' h.5 (subst (λ x. Holds s (at s x).next rest') (sym same) i.5) in
    let l : d ≡ e = sym h.3 ∙ ap (λ x. head_of (at s x)) same ∙ i.3 in
    cc

-- every slot of a forest is in range
pub in_range : (s : List Record) (here : ℕ) (f : Siblings) (k : ℕ) → Holds s here f → 0 < count k f → (0 < k) × (k ≤ room (length s))
in_range s here none k h c = absurd (omega arith)
in_range s here (sibling j d kids rest) k h c =
    ⊎_elim
    (λ e. (subst (λ x. 0 < x) (sym e.0) h.1, subst (λ x. x ≤ room (length s)) (sym e.0) h.2))
    (λ e. ⊎_elim (λ z. in_range s (at s j).first kids k h.4 z) (λ z. in_range s (at s j).next rest k h.5 z) (either (is k j) (count k kids) (count k rest) e.1 c))
    (is_cases k j)
  where
    either : (a b c : ℕ) → a ≡ 0 → 0 < a + b + c → (0 < b) ⊎ (0 < c)
    either a b c z p = ⊎_elim (λ e. inr (omega arith)) (λ ne. inl (omega arith)) (cases_eq b 0)

-- a write that marks nothing
pub plain_write : (s : List Record) (j : ℕ) (r : Record) → 0 < j → j ≤ room (length s) → ((at s j).mark ≡ mark.Unmarked → r.mark ≡ mark.Unmarked) → Plain s (set s (j - 1) r)
plain_write s j r p l e k q z =
    ⊎_elim
    (λ w. ap (λ (i : ℕ). (at (set s (j - 1) r) i).mark) w ∙ ap (λ (y : Record). y.mark) (at_same s j r p l) ∙ e (subst (λ i. (at s i).mark ≡ mark.Unmarked) w z))
    (λ ne. ap (λ (y : Record). y.mark) (at_other s j k r p q ne) ∙ z)
    (cases_eq k j)
