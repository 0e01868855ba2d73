-- The ledger of a pool: each record is found once, on the free chain or in one outstanding tree.
--
--   State             what a pool holds: its number, its records, and where the free chain begins
--   state n s f       the pool with the number n, the records s and the free chain from f on
--   Entry             an outstanding tree: its root's slot, its mark, its root's head, and its children
--   siblings p        the entry's records with their slots
--   tree p            the entry's tree, with no slots
--   counts k ps       how often the entries' trees have the slot k
--   roots k ps        how often k is a root of the entries
--   Stand s ps        each entry's tree is what its root stands for, bears its mark, and is sound
--   Ledger a ks ps    the pool a has the free chain ks and the outstanding trees ps, and nothing is lost or met twice
--   occupied ps       how many records the entries' trees have
--   Balanced          in every ledger the free and the occupied records are as many as there are slots
--   Without p ps qs   the entries ps are p and, in their order, the others qs
--
-- Assumes nothing.
use Rattle.std.specs.Prelude.{◌≡◌, ℕ, ◌+◌, ◌<◌, List, [], ◌∷◌, length}
use Rattle.chain.specs.Chain.{room, Slot, Chain, is, times}
use Rattle.grammar.specs.Tree.{Head, Tree, node, size}
use Rattle.records.specs.declared.record.Record.{Record}
use Rattle.records.specs.declared.record.Mark.{Mark}
use Rattle.records.specs.declared.record.Mark.TheVariants as mark
use Rattle.records.specs.Record.{at, links}
use Rattle.records.specs.Siblings.{Siblings, none, sibling, forest, count, Holds}
use Rattle.records.specs.Formed.{Sound}

pub record State : Type 0 where
  pub number : ℕ
  pub slots : List Record
  pub free : ℕ

abbrev pub state : ℕ → List Record → ℕ → State
state n s f = record { number = n; slots = s; free = f }

pub record Entry : Type 0 where
  pub root : ℕ
  pub mark : Mark
  pub head : Head
  pub kids : Siblings

abbrev pub siblings : Entry → Siblings
siblings p = sibling p.root p.head p.kids none

abbrev pub tree : Entry → Tree
tree p = node p.head (forest p.kids)

abbrev pub counts : ℕ → List Entry → ℕ
counts k [] = 0
counts k (p ∷ ps) = count k (siblings p) + counts k ps

abbrev pub roots : ℕ → List Entry → ℕ
roots k [] = 0
roots k (p ∷ ps) = is k p.root + roots k ps

abbrev pub Stand : List Record → List Entry → Type 0
Stand s [] = Unit {0}
Stand s (p ∷ ps) = Holds s p.root (siblings p) × ((at s p.root).mark ≡ p.mark) × Sound p.mark (tree p) × Stand s ps

pub record Ledger (a : State) (ks : List ℕ) (ps : List Entry) : Type 0 where
  pub chain : Chain (links a.slots) a.free ks
  pub stand : Stand a.slots ps
  pub once : (k : ℕ) → Slot (length a.slots) k → times k ks + counts k ps ≡ 1
  pub past : (k : ℕ) → (0 < k → room (length a.slots) < k) → times k ks + counts k ps ≡ 0
  pub unmarked : (k : ℕ) → Slot (length a.slots) k → roots k ps ≡ 0 → (at a.slots k).mark ≡ mark.Unmarked

pub data Without (p : Entry) : List Entry → List Entry → Type 0 where
  first : {ps : List Entry} → Without p (p ∷ ps) ps
  later : {q : Entry} {ps qs : List Entry} → Without p ps qs → Without p (q ∷ ps) (q ∷ qs)

abbrev pub occupied : List Entry → ℕ
occupied [] = 0
occupied (p ∷ ps) = size (tree p) + occupied ps

abbrev pub Balanced : Type 0
Balanced = (a : State) (ks : List ℕ) (ps : List Entry) → Ledger a ks ps → length ks + occupied ps ≡ room (length a.slots)
