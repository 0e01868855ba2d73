-- Rows that stand wherever there are records enough: nothing is asked of whoever puts them up.
use Rattle.std.proofs.Common.{◌≡◌, ℕ, ◌+◌, ◌-◌, ◌<◌, ◌≤◌, ◌≢◌, List, length, set, Some, None, Option, unwrap_or, sym, ap, ◌∙◌, subst, arith, MatchOption}
use Rattle.chain.specs.Chain.{Slot, link_at}
use Rattle.grammar.specs.Tree.{Head, Tree, Forest, node, nil, ◌▸◌, ◌⊕◌, size, sizes}
use Rattle.records.specs.declared.record.Record.{Record}
use Rattle.records.specs.declared.record.Mark.TheVariants as mark
use Rattle.records.specs.Record.{head_of, links}
use Rattle.records.specs.Siblings.{forest}
use Rattle.records.specs.Siblings as siblings
use Rattle.records.specs.Building.{Row, Stands}
use Rattle.records.proofs.AtSlots.{link_of_lem}
use Rattle.records.proofs.Measures.{size_forest}
use Rattle.records.proofs.Rows.{row_room, row_last, row_nested}

pub sizes_nested : (h : Head) (us : Forest) → sizes (node h us ▸ nil) ≡ 1 + sizes us
unfolding size sizes
sizes_nested h us = omega arith

pub sizes_behind : (us vs : Forest) → sizes (us ⊕ vs) ≡ sizes us + sizes vs
unfolding size sizes
sizes_behind nil vs = omega arith
sizes_behind (u ▸ us) vs = omega (arith, sizes_behind us vs)

row_size : (s t : List Record) (ks : List ℕ) (free first last : ℕ) (us : Forest) (x : Row s t ks free first last us) → length ks ≡ sizes us + length x.chain
row_size s t ks free first last us x =
    let e : sizes us ≡ siblings.size x.siblings = ap sizes (sym x.trees) ∙ size_forest x.siblings in
    omega (arith, x.left)

module _ (s t u : List Record) (from free : ℕ) (first last : ℕ) (us : Forest) (x : Stands s from t free first last us) where
  -- a parent was put over the row, if a record was left for it
  pub stands_nested :
      (free' k : ℕ)
      (h : Head)
      → (Slot (length t) free → (ks : List ℕ) → Row s t ks free first last us → Row s u ks free' k k (node h us ▸ nil))
      → Stands s from u free' k k (node h us ▸ nil)
  stands_nested free' k h nested ks c n =
      let m : sizes us < length ks = omega (arith, n, sizes_nested h us) in
      let r : Row s t ks free first last us = x ks c (omega arith) in
      nested (row_room s t ks free first last us r m) ks r

  -- a tree was put behind the row
  pub stands_behind :
      (e : List Record)
      (rest child first' last' : ℕ)
      (v : Tree)
      → Stands t free e rest child child (v ▸ nil)
      → ((last ≢ 0 → Slot (length e) last) → (ks : List ℕ) (r : Row s t ks free first last us) → Row t e r.chain rest child child (v ▸ nil) → Row s u ks rest first' last' (us ⊕ (v ▸ nil)))
      → Stands s from u rest first' last' (us ⊕ (v ▸ nil))
  stands_behind e rest child first' last' v y pushed ks c n =
      let z : sizes us + sizes (v ▸ nil) ≤ length ks = omega (arith, n, sizes_behind us (v ▸ nil)) in
      let r : Row s t ks free first last us = x ks c (omega arith) in
      let w : Row t e r.chain rest child child (v ▸ nil) = y r.chain r.loose.1 (omega (arith, row_size s t ks free first last us r)) in
      pushed (λ ne. row_last s t e ks free first last us r w.length ne) ks r w

-- a parent that was drawn, as the code has it
pub drawn_over :
    (s t u : List Record)
    (from free free' first last n : ℕ)
    (us : Forest)
    (p : Record)
    (r : Option ℕ)
    → MatchOption r ((Slot (length t) free → ⊥) × (free' ≡ free) × (u ≡ t)) (λ k. (k ≡ free) × Slot (length t) k × (free' ≡ link_at (links t) k) × (u ≡ set t (k - 1) p))
    → n ≡ unwrap_or r 0
    → p.first ≡ first
    → p.next ≡ 0
    → p.mark ≡ mark.Unmarked
    → Stands s from t free first last us
    → Stands s from u free' n n (node (head_of p) us ▸ nil)
drawn_over s t u from free free' first last n us p None d e e1 e2 em x =
    stands_nested s t u from free first last us x free' n (head_of p) (λ sl ks r. absurd (d.0 sl))
drawn_over s t u from free free' first last n us p (Some k) d e e1 e2 em x =
    subst (λ i. Stands s from u free' i i (node (head_of p) us ▸ nil)) (sym e)
    (stands_nested s t u from free first last us x free' k (head_of p)
    (λ sl ks r. row_nested s t u ks free free' first last k us p sl d.0 (d.2 ∙ link_of_lem t k) d.3 e1 e2 em r))
