-- A whole call on the records of a store: that they lie well again, and what they mean then.
use Rattle.std.proofs.Common.{◌≡◌, ℕ, ◌+◌, ◌-◌, ◌<◌, ◌≤◌, List, [], ◌∷◌, length, get_or, Some, None, Option, sym, ap, subst, arith}
use mathlib.Core.Logic.{∥∥₁_elim}
use native.Mathlib.Bridge.{le_prop}
use Rattle.std.proofs.lemmas.List.{length-map}
use Rattle.comments.specs.declared.store.Side.{Side}
use Rattle.chain.specs.Chain.{room, Slot, Chain, times}
use Rattle.chain.proofs.Laws.{chain_unique}
use Rattle.spliced.specs.declared.heads.NoteList.{NoteList}
use Rattle.spliced.specs.Linked.{links}
use Rattle.spliced.specs.Notes.{Note}
use Rattle.spliced.specs.Heads.{Head, list_at, At}
use Rattle.spliced.specs.Layout.{Fit, used, Laid}
use Rattle.spliced.proofs.Sums.{none_empty}
use Rattle.spliced.proofs.Steps.{last_slot, fit_long}

-- what follows of a layout follows where there is one
pub slot_from : {P : Type 0} (n k : ℕ) → ∥ P ∥₁ → (P → Slot n k) → Slot n k
slot_from n k h f = (∥∥₁_elim h le_prop (λ p. (f p).0), ∥∥₁_elim h le_prop (λ p. (f p).1))

pub none_from : {P : Type 0} (n : ℕ) → ∥ P ∥₁ → (P → n ≡ 0) → n ≡ 0
none_from n h f = let l : n ≤ 0 = ∥∥₁_elim h le_prop (λ p. omega (arith, f p)) in omega arith

module _ (notes : List Note) (heads : List Head) (fn fh held : ℕ) where
  pub rooms : room (length (links heads)) ≡ room (length heads)
  rooms = ap room (length-map heads (λ (h : Head). h.next))

  pub below : (side : Side) (k slot : ℕ) (l : NoteList) → At heads side k slot l → slot - 1 < room (length (links heads))
  below side k slot l a = omega (arith, rooms, a.slot_in.0, a.slot_in.1)

  pub fit_at : (side : Side) (k slot : ℕ) (l : NoteList) (p : Laid notes heads fn fh held) → At heads side k slot l → Fit (links notes) (Some l) (get_or p.0 (slot - 1) [])
  fit_at side k slot l p a = subst (λ (o : Option NoteList). Fit (links notes) o (get_or p.0 (slot - 1) [])) a.holds (p.3.each (slot - 1) (below side k slot l a))

  -- the last note of a list that was found is a slot
  pub last_note : (side : Side) (k slot : ℕ) (l : NoteList) → At heads side k slot l → Laid notes heads fn fh held → Slot (length notes) l.last
  last_note side k slot l a p =
      subst (λ (n : ℕ). Slot n l.last) (length-map notes (λ (n : Note). n.next)) (last_slot (links notes) l (get_or p.0 (slot - 1) []) (fit_at side k slot l p a))

  -- its head is not among the unused
  pub not_unused : (side : Side) (k slot : ℕ) (l : NoteList) → At heads side k slot l → Laid notes heads fn fh held → (ks : List ℕ) → Chain (links heads) fh ks → times slot ks ≡ 0
  not_unused side k slot l a p ks c =
      let e : ks ≡ p.2 = chain_unique (links heads) fh ks p.2 c p.3.heads in
      let up : slot - 1 + 1 ≡ slot = omega (arith, a.slot_in.0) in
      let o : times (slot - 1 + 1) p.2 + used (list_at heads (slot - 1)) ≡ 1 = p.3.once (slot - 1) (below side k slot l a) in
      omega (arith, o, ap used a.holds, ap (λ (x : ℕ). times x p.2) up, ap (times slot) e)

  -- where there is room, a note and a head are unused
  pub free_note : held < room (length notes) → Laid notes heads fn fh held → Slot (length notes) fn
  free_note r p = go p.1 p.3.notes p.3.counted
    where
      long : length (links notes) ≡ length notes
      long = length-map notes (λ (n : Note). n.next)

      go : (ns : List ℕ) → Chain (links notes) fn ns → length ns + held ≡ room (length (links notes)) → Slot (length notes) fn
      go [] c e = absurd (omega (arith, ap room long))
      go (x ∷ ns) c e = subst (λ (n : ℕ). Slot n fn) long (subst (λ (k : ℕ). Slot (length (links notes)) k) (sym c.0) c.1)

  pub free_head : held < room (length heads) → Laid notes heads fn fh held → Slot (length heads) fh
  free_head r p = go p.2 p.3.heads p.3.once
    where
      long : length (links heads) ≡ length heads
      long = length-map heads (λ (h : Head). h.next)

      full : (o : Option NoteList) (ks : List ℕ) → used o ≡ 1 → Fit (links notes) o ks → 0 < length ks
      full None ks u f = absurd (omega arith)
      full (Some l) ks u f = fit_long (links notes) l ks f

      go : (hs : List ℕ) → Chain (links heads) fh hs → ((i : ℕ) → i < room (length (links heads)) → times (i + 1) hs + used (list_at heads i) ≡ 1) → Slot (length heads) fh
      go [] c once =
          absurd (let n = none_empty p.0 (λ i q. full (list_at heads i) (get_or p.0 i []) (omega (arith, once i (omega (arith, p.3.wide)))) (p.3.each i (omega (arith, p.3.wide)))) in omega (arith, p.3.total, p.3.wide, ap room long))
      go (x ∷ hs) c once = subst (λ (n : ℕ). Slot n fh) long (subst (λ (k : ℕ). Slot (length (links heads)) k) (sym c.0) c.1)
