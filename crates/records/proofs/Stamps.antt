-- A mark is no part of what a slot stands for.
use Rattle.std.proofs.Common.{◌≡◌, ℕ, ◌-◌, ◌<◌, List, length, sym, ap, subst, ⊎_elim, length-set}
use Rattle.std.proofs.lemmas.Bool.{cases_eq}
use Rattle.chain.specs.Chain.{Slot}
use Rattle.records.specs.declared.record.Record.{Record}
use Rattle.records.specs.declared.record.Mark.{Mark}
use Rattle.records.specs.Record.{head_of, at, marked, stamped}
use Rattle.records.specs.Siblings.{Siblings, Loose}
use Rattle.records.proofs.AtSlots.{at_same, at_other}
use Rattle.records.proofs.Frame.{Alike, alike, frame, frame_chain}

pub stamped_alike : (s : List Record) (k : ℕ) (m : Mark) → Slot (length s) k → (j : ℕ) → 0 < j → Alike (at (stamped s k m) j) (at s j)
stamped_alike s k m sl j q =
    ⊎_elim
    (λ e. subst (λ i. Alike (at (stamped s k m) i) (at s i)) (sym e) here)
    (λ ne. alike (at_other s k j (marked (at s k) m) sl.0 q ne))
    (cases_eq j k)
  where
    same : at (stamped s k m) k ≡ marked (at s k) m
    same = at_same s k (marked (at s k) m) sl.0 sl.1

    here : Alike (at (stamped s k m) k) (at s k)
    here = (ap head_of same, ap (λ (r : Record). r.first) same, ap (λ (r : Record). r.next) same)

pub loose_stamped :
    (s : List Record)
    (free k : ℕ)
    (m : Mark)
    (f : Siblings)
    (ks : List ℕ)
    (h : ℕ)
    → Slot (length s) k
    → Loose s free h f ks
    → Loose (stamped s k m) free h f ks
loose_stamped s free k m f ks h sl x =
    let l : length (stamped s k m) ≡ length s = length-set s (k - 1) (marked (at s k) m) in (
      frame s (stamped s k m) h f l (λ j q z. stamped_alike s k m sl j q) x.0,
      frame_chain s (stamped s k m) free ks l (λ j q z. (stamped_alike s k m sl j q).2) x.1,
      x.2,
    )
