-- A tree given back: the ledger before, what the records' layer gives, and the ledger after.
use Rattle.std.proofs.Common.{◌≡◌, ℕ, ◌+◌, ◌<◌, ◌≤◌, ◌≢◌, List, length, sym, refl, ap, ◌∙◌, subst, ⊎_elim, arith}
use mathlib.Core.Logic.{∥∥₁_map}
use Rattle.std.proofs.lemmas.Bool.{cases_eq}
use Rattle.chain.specs.Chain.{room, Slot, is, times}
use Rattle.chain.proofs.Counting.{is_same, is_unlike}
use Rattle.records.specs.declared.record.Record.{Record}
use Rattle.records.specs.declared.record.Mark.TheVariants as mark
use Rattle.records.specs.Record.{mark_number, at, marked, stamped}
use Rattle.records.specs.Siblings.{Siblings, count, Loose, Given}
use Rattle.records.proofs.AtSlots.{at_same, at_other}
use Rattle.toolkit.specs.declared.trees.Key.{Key}
use Rattle.toolkit.specs.declared.trees.Tree.{Tree as Held}
use Rattle.toolkit.specs.declared.trees.Tree.TheVariants as held
use Rattle.toolkit.specs.Keys.{key}
use Rattle.toolkit.specs.Ledger.{State, Entry, siblings, counts, roots, Ledger}
use Rattle.toolkit.specs.Calls.{Valid, Released, Unloaded}
use Rattle.toolkit.proofs.Books.{at_most, without_counts, without_roots, Picked, pick, frame_stand, marked_root}

module _ (a : State) (k : ℕ) (sl : Slot (length a.slots) k) (m : (at a.slots k).mark ≢ mark.Unmarked) where
  pub picked : (ks : List ℕ) (ps : List Entry) → Ledger a ks ps → Picked a.slots k ps
  picked ks ps b = pick a.slots k ps (marked_root a ks ps k b sl m) b.stand

  -- the tree at a marked root, and the free chain
  pub loose : (ks : List ℕ) (ps : List Entry) → Ledger a ks ps → (x : Picked a.slots k ps) → Loose a.slots a.free k (siblings x.entry) ks
  loose ks ps b x = (x.holds, b.chain, λ j. omega (arith, at_most a ks ps b j, without_counts x.without j))

  pub ready : ∥ ((ks : List ℕ) × (ps : List Entry) × Ledger a ks ps) ∥₁ → ∥ ((f : Siblings) × (ks : List ℕ) × Loose a.slots a.free k f ks) ∥₁
  ready h =
      ∥∥₁_map h
      (λ y. let x = picked y.0 y.1 y.2 in (siblings x.entry, y.0, loose y.0 y.1 y.2 x))

  -- once its records are on the free chain, the ledger is right again
  pub released_by :
      (t : Key)
      (z : State)
      → t.root ≡ k
      → (at a.slots k).mark ≡ t.mark
      → (ks : List ℕ) (ps : List Entry)
      → Ledger a ks ps
      → length z.slots ≡ length a.slots
      → (x : Picked a.slots k ps)
      → Given (stamped a.slots k mark.Unmarked) z.slots (siblings x.entry) ks z.free
      → (p : Entry) × (js : List ℕ) × (qs : List Entry) × Released a t z ks ps p js qs
  released_by t z ek em ks ps b l x g = (
    x.entry,
    g.0,
    x.others,
    record {
      root = x.root ∙ sym ek;
      mark = sym x.mark ∙ em;
      others = x.without;
      ledger =
          record {
            chain = g.1;
            stand = frame_stand a.slots z.slots x.others l (λ j q c. elsewhere j q (omega (arith, most j, w j)) (omega (arith, most j, w j))) x.stand;
            once = λ j q. omega (arith, b.once j (subst (λ n. Slot n j) l q), w j, g.2 j);
            past = λ j q. omega (arith, b.past j (subst (λ n. 0 < j → room n < j) l q), w j, g.2 j);
            unmarked = λ j q c. g.4 j q.0 (cleared j (subst (λ n. Slot n j) l q) c);
          };
      free = λ j. omega (arith, g.2 j);
      freed = g.5;
      same = λ j q c. elsewhere j q (omega arith) (omega arith);
    },
  )
    where
      w : (j : ℕ) → counts j ps ≡ count j (siblings x.entry) + counts j x.others
      w = without_counts x.without

      most : (j : ℕ) → times j ks + counts j ps ≤ 1
      most = at_most a ks ps b

      root_in : count k (siblings x.entry) ≢ 0
      root_in e = let u : is k x.entry.root ≡ 1 = subst (λ i. is k i ≡ 1) (sym x.root) (is_same k) in omega arith

      elsewhere : (j : ℕ) → 0 < j → count j (siblings x.entry) ≡ 0 → times j ks ≡ 0 → at z.slots j ≡ at a.slots j
      elsewhere j q c e =
          let ne : j ≢ k = λ y. root_in (subst (λ i. count i (siblings x.entry) ≡ 0) y c) in
          g.3 j q (omega arith) ∙ at_other a.slots k j (marked (at a.slots k) mark.Unmarked) sl.0 q ne

      cleared : (j : ℕ) → Slot (length a.slots) j → roots j x.others ≡ 0 → (at (stamped a.slots k mark.Unmarked) j).mark ≡ mark.Unmarked
      cleared j q c =
          ⊎_elim
          (λ e. subst (λ i. (at (stamped a.slots k mark.Unmarked) i).mark ≡ mark.Unmarked) (sym e) (ap (λ (r : Record). r.mark) (at_same a.slots k (marked (at a.slots k) mark.Unmarked) sl.0 sl.1)))
          (λ ne.
          let o : is j x.entry.root ≡ 0 = is_unlike j x.entry.root (λ e. ne (e ∙ x.root)) in
          ap (λ (r : Record). r.mark) (at_other a.slots k j (marked (at a.slots k) mark.Unmarked) sl.0 q.0 ne)
          ∙ b.unmarked j q (omega (arith, without_roots x.without j)))
          (cases_eq j k)

-- a tree that a caller holds stands for a mark
pub key_marked : (t : Held) → (key t).mark ≢ mark.Unmarked
key_marked (held.Loaded t) e = let n : ◌≡◌ {A = ℕ} 1 0 = ap mark_number e in omega arith
key_marked (held.Fixed t) e = let n : ◌≡◌ {A = ℕ} 2 0 = ap mark_number e in omega arith

-- the mark of a key is that of an outstanding tree
pub keyed : (a : State) (t : Key) → Valid a t → t.mark ≢ mark.Unmarked → (at a.slots t.root).mark ≢ mark.Unmarked
keyed a t v m e = m (sym v.mark ∙ e)

-- unload, from what the records' layer gives
pub unloaded :
    (a z : State)
    (t : Key)
    → t.mark ≢ mark.Unmarked
    → Valid a t
    → z.number ≡ a.number
    → length z.slots ≡ length a.slots
    → ((f : Siblings) (ks : List ℕ) → Loose a.slots a.free t.root f ks → Given (stamped a.slots t.root mark.Unmarked) z.slots f ks z.free)
    → Unloaded a t z
unloaded a z t m v n l given =
    record {
      number = n;
      length = l;
      released = λ ks ps b.
          let x = picked a t.root v.slot (keyed a t v m) ks ps b in
          released_by a t.root v.slot (keyed a t v m) t z refl v.mark ks ps b l x
          (given (siblings x.entry) ks (loose a t.root v.slot (keyed a t v m) ks ps b x));
    }

-- and the invariant of the pool
pub still_accounted : (a z : State) (t : Key) → Unloaded a t z → ∥ ((ks : List ℕ) × (ps : List Entry) × Ledger a ks ps) ∥₁ → ∥ ((ks : List ℕ) × (ps : List Entry) × Ledger z ks ps) ∥₁
still_accounted a z t u h =
    ∥∥₁_map h (λ y. let x = u.released y.0 y.1 y.2 in (x.1, x.2, x.3.ledger))

-- the same for a tree that the caller holds, as the code has it
module _ (a z : State) (t : Held) (k : Key) (ek : k ≡ key t) (v : Valid a k) where
  pub held_ready : ∥ ((ks : List ℕ) × (ps : List Entry) × Ledger a ks ps) ∥₁ → ∥ ((f : Siblings) × (ks : List ℕ) × Loose a.slots a.free k.root f ks) ∥₁
  held_ready h = ready a k.root v.slot (keyed a k v (λ e. key_marked t (ap (λ (x : Key). x.mark) (sym ek) ∙ e))) h

  pub held_unloaded :
      z.number ≡ a.number
      → length z.slots ≡ length a.slots
      → ((f : Siblings) (ks : List ℕ) → Loose a.slots a.free k.root f ks → Given (stamped a.slots k.root mark.Unmarked) z.slots f ks z.free)
      → Valid a (key t) × Unloaded a (key t) z
  held_unloaded n l given =
      subst (λ (x : Key). Valid a x × Unloaded a x z) ek
      (v, unloaded a z k (λ e. key_marked t (ap (λ (x : Key). x.mark) (sym ek) ∙ e)) v n l given)
