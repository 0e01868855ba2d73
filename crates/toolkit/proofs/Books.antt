-- What follows from a ledger: no slot is met twice, a marked record is a root, and an entry can be picked out.
use Rattle.std.proofs.Common.{◌≡◌, ℕ, ◌+◌, ◌<◌, ◌≤◌, ◌≢◌, List, [], ◌∷◌, length, sym, refl, ap, ◌∙◌, subst, ⊎_elim, arith}
use Rattle.std.proofs.lemmas.Bool.{cases_eq, cases_lt}
use Rattle.chain.specs.Chain.{room, Slot, is, times}
use Rattle.chain.proofs.Counting.{is_same, is_cases}
use Rattle.records.specs.declared.record.Record.{Record}
use Rattle.records.specs.declared.record.Mark.TheVariants as mark
use Rattle.records.specs.Record.{at}
use Rattle.records.specs.Siblings.{count, Holds}
use Rattle.records.specs.Formed.{Sound}
use Rattle.records.proofs.Frame.{alike, frame}
use Rattle.toolkit.specs.Ledger.{State, Entry, siblings, tree, counts, roots, Stand, Ledger, Without, first, later}

-- no slot is met twice
pub at_most : (a : State) (ks : List ℕ) (ps : List Entry) → Ledger a ks ps → (k : ℕ) → times k ks + counts k ps ≤ 1
at_most a ks ps b k =
    ⊎_elim
    (λ z. omega (arith, b.past k (λ q. omega arith)))
    (λ nz. ⊎_elim (λ lt. omega (arith, b.past k (λ q. lt))) (λ le. omega (arith, b.once k (omega arith, le))) (cases_lt (room (length a.slots)) k))
    (cases_eq k 0)

pub roots_counts : (k : ℕ) (ps : List Entry) → roots k ps ≤ counts k ps
roots_counts k [] = omega arith
roots_counts k (p ∷ ps) = omega (arith, roots_counts k ps)

pub without_counts : {p : Entry} {ps qs : List Entry} → Without p ps qs → (j : ℕ) → counts j ps ≡ count j (siblings p) + counts j qs
without_counts first j = refl
without_counts (later w) j = omega (arith, without_counts w j)

pub without_roots : {p : Entry} {ps qs : List Entry} → Without p ps qs → (j : ℕ) → roots j ps ≡ is j p.root + roots j qs
without_roots first j = refl
without_roots (later w) j = omega (arith, without_roots w j)

-- the entry with a root, and the others
pub record Picked (s : List Record) (k : ℕ) (ps : List Entry) : Type 0 where
  pub entry : Entry
  pub others : List Entry
  pub root : entry.root ≡ k
  pub without : Without entry ps others
  pub holds : Holds s k (siblings entry)
  pub mark : (at s k).mark ≡ entry.mark
  pub sound : Sound entry.mark (tree entry)
  pub stand : Stand s others

pub pick : (s : List Record) (k : ℕ) (ps : List Entry) → 0 < roots k ps → Stand s ps → Picked s k ps
pick s k [] r h = absurd (omega arith)
pick s k (p ∷ ps) r h =
    ⊎_elim
    (λ e.
    record {
      entry = p;
      others = ps;
      root = sym e.0;
      without = first;
      holds = subst (λ i. Holds s i (siblings p)) (sym e.0) h.0;
      mark = subst (λ i. (at s i).mark ≡ p.mark) (sym e.0) h.1;
      sound = h.2;
      stand = h.3;
    })
    (λ e.
    let y : Picked s k ps = pick s k ps (omega (arith, e.1)) h.3 in
    record {
      entry = y.entry;
      others = p ∷ y.others;
      root = y.root;
      without = later y.without;
      holds = y.holds;
      mark = y.mark;
      sound = y.sound;
      stand = (h.0, h.1, h.2, y.stand);
    })
    (is_cases k p.root)

-- entries stand where their records stay
pub frame_stand :
    (s t : List Record)
    (ps : List Entry)
    → length t ≡ length s
    → ((k : ℕ) → 0 < k → 0 < counts k ps → at t k ≡ at s k)
    → Stand s ps
    → Stand t ps
frame_stand s t [] l same h = tt
frame_stand s t (p ∷ ps) l same h = (
  frame s t p.root (siblings p) l (λ k q z. alike (same k q (omega arith))) h.0,
  ap (λ (r : Record). r.mark) (same p.root h.0.1 (omega (arith, is_same p.root))) ∙ h.1,
  h.2,
  frame_stand s t ps l (λ k q z. same k q (omega arith)) h.3,
)

-- a record that is marked is a root
pub marked_root : (a : State) (ks : List ℕ) (ps : List Entry) (k : ℕ) → Ledger a ks ps → Slot (length a.slots) k → (at a.slots k).mark ≢ mark.Unmarked → 0 < roots k ps
marked_root a ks ps k b sl m =
    ⊎_elim (λ z. absurd (m (b.unmarked k sl z))) (λ nz. omega arith) (cases_eq (roots k ps) 0)
