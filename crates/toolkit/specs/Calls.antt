-- The calls on a pool: for each, the relation between the pool before, the arguments, the answer and the pool after.
--
--   Valid a t         the key t is one of the pool a: its number is the pool's, and its root is a slot with its mark
--   Answer X          what a call answers: it is done, with what it leaves, or it is refused, and why
--   Fresh s a         a pool just made over the records s: all records are free, and those that have no slot as they were
--   Unload a t r z    unload of the tree t, answered r, led from the pool a to the pool z
--   Read a ts r z     read of the tokens ts, answered r (the key of the tree), led from the pool a to the pool z
--
-- Assumes nothing.
use Rattle.std.specs.Prelude.{◌≡◌, ℕ, ◌+◌, ◌<◌, ◌≤◌, ◌⊎◌, List, [], ◌∷◌, length, Ok, Err, Result}
use Rattle.chain.specs.Chain.{room, Slot, times, Beyond}
use Rattle.token.specs.declared.Token.{Token}
use Rattle.grammar.specs.Tree.{Tree, size, depth}
use Rattle.grammar.specs.Claim.{Reads}
use Rattle.refusal.specs.declared.Refusal.{Refusal}
use Rattle.refusal.specs.declared.Refusal.TheVariants as refusal
use Rattle.records.specs.declared.record.Record.{Record}
use Rattle.records.specs.declared.record.Mark.TheVariants as mark
use Rattle.records.specs.Record.{at}
use Rattle.records.specs.Siblings.{none, count, Kept}
use Rattle.records.specs.Siblings as records
use Rattle.toolkit.specs.declared.trees.Key.{Key}
use Rattle.toolkit.specs.declared.trees.Returned.{Returned}
use Rattle.toolkit.specs.Ledger.{State, Entry, siblings, tree, Ledger, Without}

pub record Valid (a : State) (t : Key) : Type 0 where
  pub pool : t.pool ≡ a.number
  pub slot : Slot (length a.slots) t.root
  pub mark : (at a.slots t.root).mark ≡ t.mark

pub data Answer (X : Type 0) : Type 0 where
  done : X → Answer X
  refused : Refusal → Answer X

abbrev pub answer : {X T : Type 0} → Result X (Returned T) → Answer X
answer (Ok x) = done x
answer (Err e) = refused e.refusal

-- a refused call hands back what it was given
abbrev pub HandsBack : {X T : Type 0} → Result X (Returned T) → T → Type 0
HandsBack (Ok x) t = Unit {0}
HandsBack (Err e) t = e.given ≡ t

pub record Fresh (n : ℕ) (s : List Record) (a : State) : Type 0 where
  pub number : a.number ≡ n
  pub ledger : (ks : List ℕ) × Ledger a ks [] × (length ks ≡ room (length s))
  pub beyond : Beyond s a.slots

-- what became of the tree with the key t, where the free chain was ks and the outstanding trees were ps
pub record Released (a : State) (t : Key) (z : State) (ks : List ℕ) (ps : List Entry) (p : Entry) (js : List ℕ) (qs : List Entry) : Type 0 where
  pub root : p.root ≡ t.root
  pub mark : p.mark ≡ t.mark
  pub others : Without p ps qs
  pub ledger : Ledger z js qs
  pub free : (k : ℕ) → times k js ≡ count k (siblings p) + times k ks
  pub freed : length js ≡ records.size (siblings p) + length ks
  pub same : Kept a.slots z.slots (siblings p) ks

pub record Unloaded (a : State) (t : Key) (z : State) : Type 0 where
  pub number : z.number ≡ a.number
  pub length : length z.slots ≡ length a.slots
  pub released : (ks : List ℕ) (ps : List Entry) → Ledger a ks ps → (p : Entry) × (js : List ℕ) × (qs : List Entry) × Released a t z ks ps p js qs

abbrev pub Unload : State → Key → Answer (Unit {0}) → State → Type 0
Unload a t (done _) z = Valid a t × Unloaded a t z
Unload a t (refused e) z = (Valid a t → ⊥) × (e ≡ refusal.InvalidSlot t.root) × (z ≡ a)

-- the tree u, put up from free records under the key t, where the free chain was ks and the outstanding trees were ps
pub record Raised (a : State) (u : Tree) (t : Key) (z : State) (ks : List ℕ) (ps : List Entry) (p : Entry) (js : List ℕ) : Type 0 where
  pub root : p.root ≡ t.root
  pub mark : p.mark ≡ t.mark
  pub tree : tree p ≡ u
  pub ledger : Ledger z js (p ∷ ps)
  pub drawn : (j : ℕ) → times j ks ≡ count j (siblings p) + times j js
  pub free : length ks ≡ size u + length js
  pub same : Kept a.slots z.slots none ks

pub record Loading (a : State) (ts : List Token) (t : Key) (z : State) : Type 0 where
  pub tree : Tree
  pub derived : Reads ts tree
  pub nests : depth tree ≤ 512
  pub pool : t.pool ≡ a.number
  pub mark : t.mark ≡ mark.Loaded
  pub number : z.number ≡ a.number
  pub length : length z.slots ≡ length a.slots
  pub raised : (ks : List ℕ) (ps : List Entry) → Ledger a ks ps → (p : Entry) × (js : List ℕ) × Raised a tree t z ks ps p js

-- the causes for which a rule is refused, each without those before it
abbrev pub Refuses : State → List Token → Refusal → Type 0
Refuses a ts refusal.NoDerivation = (u : Tree) → Reads ts u → ⊥
Refuses a ts refusal.TooDeep = ((u : Tree) × Reads ts u × (512 < depth u)) ⊎ ((500 ≤ length ts) × ((u : Tree) → Reads ts u → ⊥))
Refuses a ts (refusal.TooFewRecords n) =
    (u : Tree) × Reads ts u × (depth u ≤ 512) × (n ≡ size u) × ((ks : List ℕ) (ps : List Entry) → Ledger a ks ps → length ks < size u)
Refuses a ts (refusal.InvalidSlot s) = ⊥
Refuses a ts (refusal.Misplaced s) = ⊥
Refuses a ts (refusal.BufferTooShort n) = ⊥

abbrev pub Read : State → List Token → Answer Key → State → Type 0
Read a ts (done t) z = Loading a ts t z
Read a ts (refused e) z = Refuses a ts e × (z ≡ a)
