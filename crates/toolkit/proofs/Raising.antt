-- A tree put up from free records, and its root marked: one more entry of the ledger.
use Rattle.std.proofs.Common.{◌≡◌, ℕ, ◌+◌, ◌-◌, ◌<◌, ◌≤◌, ◌≢◌, List, ◌∷◌, length, sym, refl, ap, ◌∙◌, subst, arith, length-set}
use mathlib.Core.Logic.{∥∥₁_map}
use Rattle.chain.specs.Chain.{room, Slot, is, times}
use Rattle.chain.proofs.Counting.{is_same}
use Rattle.token.specs.declared.Token.{Token}
use Rattle.grammar.specs.Tree.{Head, Tree, Forest, node, nil, ◌▸◌}
use Rattle.grammar.specs.Tree as trees
use Rattle.grammar.specs.Claim.{Reads}
use Rattle.records.specs.declared.record.Record.{Record}
use Rattle.records.specs.declared.record.Mark.TheVariants as mark
use Rattle.records.specs.Record.{at, marked, stamped}
use Rattle.records.specs.Siblings.{Siblings, none, sibling, forest, size, count, Holds, Loose, Kept}
use Rattle.records.specs.Building.{Row, Stands}
use Rattle.records.specs.Formed.{Sound}
use Rattle.records.proofs.AtSlots.{at_same, at_other}
use Rattle.records.proofs.Frame.{Alike, frame, frame_chain}
use Rattle.records.proofs.Stamps.{stamped_alike}
use Rattle.records.proofs.Measures.{size_forest}
use Rattle.records.proofs.Suits.{derived_sound}
use Rattle.toolkit.specs.declared.trees.Key.{Key}
use Rattle.toolkit.specs.Ledger.{State, state, Entry, siblings, counts, roots, Ledger}
use Rattle.toolkit.specs.Calls.{Raised, Loading}
use Rattle.toolkit.proofs.Books.{at_most, frame_stand}

-- siblings that stand for one tree are one record with its children
pub single : (g : Siblings) (u : Tree) → forest g ≡ u ▸ nil → (k : ℕ) × (d : Head) × (A : Siblings) × (g ≡ sibling k d A none) × (node d (forest A) ≡ u)
single none u e = let z : ◌≡◌ {A = ℕ} 0 1 = cc in absurd (omega arith)
single (sibling k d A none) u e = let x : node d (forest A) ≡ u = cc in (k, d, A, refl, x)
single (sibling k d A (sibling j c B C)) u e =
    let x : node c (forest B) ▸ forest C ≡ nil = cc in
    let z : ◌≡◌ {A = ℕ} 0 1 = cc in
    absurd (omega arith)

-- the key of a loaded tree of the pool
abbrev pub loaded_key : State → ℕ → Key
loaded_key a k = record { pool = a.number; root = k; mark = mark.Loaded }

pub tree_size : (u : Tree) → trees.sizes (u ▸ nil) ≡ trees.size u
unfolding trees.size trees.sizes
tree_size (node h us) = omega arith

module _ (a : State) (t : List Record) (free root : ℕ) (u : Tree) (ks : List ℕ) (ps : List Entry) (b : Ledger a ks ps) (lt : length t ≡ length a.slots) (sound : Sound mark.Loaded u) where
  entered :
      (k : ℕ)
      (d : Head)
      (A : Siblings)
      (js : List ℕ)
      → node d (forest A) ≡ u
      → Loose t free root (sibling k d A none) js
      → ((j : ℕ) → count j (sibling k d A none) + times j js ≡ times j ks)
      → Kept a.slots t none ks
      → length ks ≡ trees.size u + length js
      → ((j : ℕ) → 0 < j → (at a.slots j).mark ≡ mark.Unmarked → (at t j).mark ≡ mark.Unmarked)
      → (p : Entry) × (is : List ℕ) × Raised a u (loaded_key a root) (state a.number (stamped t root mark.Loaded) free) ks ps p is
  entered k d A js eu h c kept len plain = (
    p,
    js,
    record {
      root = refl;
      mark = refl;
      tree = eu;
      ledger =
          record {
            chain = frame_chain t z free js lz (λ i q x. (same i q).2) h.1;
            stand = (
              frame t z root (siblings p) lz (λ i q x. same i q) (subst (λ i. Holds t root (sibling i d A none)) (sym h.0.0) h.0),
              ap (λ (r : Record). r.mark) zr,
              subst (λ x. Sound mark.Loaded x) (sym eu) sound,
              frame_stand a.slots z ps (lz ∙ lt) old b.stand,
            );
            once = λ i q. omega (arith, b.once i (subst (λ n. Slot n i) (lz ∙ lt) q), c i, ap (is i) h.0.0);
            past = λ i q. omega (arith, b.past i (subst (λ n. 0 < i → room n < i) (lz ∙ lt) q), c i, ap (is i) h.0.0);
            unmarked = λ i q x. unmarked i (subst (λ n. Slot n i) (lz ∙ lt) q) x;
          };
      drawn = λ j. omega (arith, c j, ap (is j) h.0.0);
      free = len;
      same = λ j q x. zo j q (off j x) ∙ kept j q x;
    },
  )
    where
      p : Entry
      p = record { root = root; mark = mark.Loaded; head = d; kids = A }

      z : List Record
      z = stamped t root mark.Loaded

      lz : length z ≡ length t
      lz = length-set t (root - 1) (marked (at t root) mark.Loaded)

      sl : Slot (length t) root
      sl = (omega (arith, h.0.0, h.0.1), omega (arith, h.0.0, h.0.2))

      same : (i : ℕ) → 0 < i → Alike (at z i) (at t i)
      same i q = stamped_alike t root mark.Loaded sl i q

      zr : at z root ≡ marked (at t root) mark.Loaded
      zr = at_same t root (marked (at t root) mark.Loaded) sl.0 sl.1

      zo : (i : ℕ) → 0 < i → i ≢ root → at z i ≡ at t i
      zo i q ne = at_other t root i (marked (at t root) mark.Loaded) sl.0 q ne

      -- the root was free
      free_root : 0 < times root ks
      free_root = omega (arith, c root, subst (λ v. is root v ≡ 1) h.0.0 (is_same root))

      off : (i : ℕ) → 0 + times i ks ≡ 0 → i ≢ root
      off i x e = let y : 0 + times root ks ≡ 0 = subst (λ v. 0 + times v ks ≡ 0) e x in omega (arith, free_root)

      old : (i : ℕ) → 0 < i → 0 < counts i ps → at z i ≡ at a.slots i
      old i q x =
          let y : 0 + times i ks ≡ 0 = omega (arith, at_most a ks ps b i) in
          zo i q (off i y) ∙ kept i q y

      unmarked : (i : ℕ) → Slot (length a.slots) i → is i root + roots i ps ≡ 0 → (at z i).mark ≡ mark.Unmarked
      unmarked i q x =
          let ne : i ≢ root = λ e. let y : is i root ≡ 1 = subst (λ v. is i v ≡ 1) e (is_same i) in omega arith in
          ap (λ (r : Record). r.mark) (zo i q.0 ne) ∙ plain i q.0 (b.unmarked i q (omega arith))

  pub raised_by : Row a.slots t ks free root root (u ▸ nil) → (p : Entry) × (js : List ℕ) × Raised a u (loaded_key a root) (state a.number (stamped t root mark.Loaded) free) ks ps p js
  raised_by m =
      let x = single m.siblings u m.trees in
      let e : trees.size u ≡ size m.siblings = sym (tree_size u) ∙ ap trees.sizes (sym m.trees) ∙ size_forest m.siblings in
      entered x.0 x.1 x.2 m.chain x.4
      (subst (λ g. Loose t free root g m.chain) x.3 m.loose)
      (λ j. subst (λ g. count j g + times j m.chain ≡ times j ks) x.3 (m.drawn j))
      m.same
      (omega (arith, m.left))
      m.plain

-- so what the reader puts up, where records enough are free, is what `read` promises
pub loading :
    (a : State)
    (t : List Record)
    (free root : ℕ)
    (ts : List Token)
    (u : Tree)
    → Reads ts u
    → trees.depth u ≤ 512
    → length t ≡ length a.slots
    → ((ks : List ℕ) (ps : List Entry) → Ledger a ks ps → trees.size u ≤ length ks)
    → Stands a.slots a.free t free root root (u ▸ nil)
    → Loading a ts (loaded_key a root) (state a.number (stamped t root mark.Loaded) free)
loading a t free root ts u r d l enough stands =
    record {
      tree = u;
      derived = r;
      nests = d;
      pool = refl;
      mark = refl;
      number = refl;
      length = length-set t (root - 1) (marked (at t root) mark.Loaded) ∙ l;
      raised = λ ks ps b.
          raised_by a t free root u ks ps b l (derived_sound ts u r d)
          (stands ks b.chain (omega (arith, enough ks ps b, tree_size u)));
    }

-- and the invariant of the pool
pub still_accounted : (a z : State) (ts : List Token) (k : Key) → Loading a ts k z → ∥ ((ks : List ℕ) × (ps : List Entry) × Ledger a ks ps) ∥₁ → ∥ ((ks : List ℕ) × (ps : List Entry) × Ledger z ks ps) ∥₁
still_accounted a z ts k m h =
    ∥∥₁_map h (λ y. let x = m.raised y.0 y.1 y.2 in (x.1, x.0 ∷ y.1, x.2.ledger))
