-- The second pass.
use Rattle.std.proofs.Common.{◌≡◌, ℕ, ◌≤◌, List, length, subst, arith}
use native.Mathlib.Bridge.{le_prop}
use mathlib.Core.Logic.{∥∥₁_elim}
use mathlib.Core.HLevel.{×_prop}
use Rattle.chain.specs.Chain.{Slot}
use Rattle.records.specs.declared.record.Record.{Record}
use Rattle.records.specs.declared.store.Store.{Store}
use Rattle.records.specs.Siblings.{Siblings, none, sibling, forest, Holds}
use Rattle.records.specs.Building.{Row as RowAt}
use Rattle.recognizer.specs.Passes.{Built, Ready}
use Rattle.token.specs.declared.Token.{Token}
use Rattle.grammar.specs.Tree.{Tree, Forest, node, nil, ◌▸◌, size, sizes, depth}
use Rattle.grammar.specs.Claim as claim
use Rattle.grammar.proofs.Exact.{unambiguous}
use Rattle.reader.specs.Width.{NotScript}
use Rattle.recognizer.specs.Width.{Scripted}
use Rattle.reader.specs.Rows.{single}
use Rattle.records.specs.declared.build.Children.{Children}
use Rattle.recognizer.specs.declared.found.Found.{Found}
use Rattle.reader.specs.declared.unread.Unread.{Unread}
use Rattle.reader.specs.declared.unread.Unread.TheVariants.{NoDerivation, TooDeep}

-- what is found is the tree that the tokens derive
pub the_tree : {K : Type 0} (ts : List Token) (R : K → K → Children → Forest → Type 0) (e x : K) (f : Found) → Scripted ts R e x f → (t : Tree) → claim.Reads ts t → R x e (single f.slot) (t ▸ nil)
the_tree ts R e x f s t d = subst (λ (u : Tree). R x e (single f.slot) (u ▸ nil)) (unambiguous ts s.tree t s.derived d) s.row

-- what is refused has no reading within the limit
pub not_found : (ts : List Token) (e : Unread) → NotScript ts e → (t : Tree) → claim.Reads ts t → depth t ≤ 512 → ⊥
not_found ts NoDerivation n t d le = n t d
not_found ts TooDeep n t d le = omega (arith, n.1 t d)

one_size : (t : Tree) → sizes (t ▸ nil) ≡ size t
unfolding size sizes
one_size (node h us) = omega arith

-- the slot of a tree that stands in records is a slot
root_slot : (s t : List Record) (ks : List ℕ) (free root : ℕ) (u : Tree) → RowAt s t ks free root root (u ▸ nil) → Slot (length t) root
root_slot s t ks free root u m = by m.siblings m.trees m.loose.0
  where
    by : (g : Siblings) → forest g ≡ u ▸ nil → Holds t root g → Slot (length t) root
    by none e h = let z : ◌≡◌ {A = ℕ} 0 1 = cc in absurd (omega arith)
    by (sibling k d kids rest) e h = (omega (arith, h.0, h.1), omega (arith, h.0, h.2))

pub root_is_slot : (ts : List Token) (e x : Store) (k : ℕ) → ∥ ((t : Tree) × (ks : List ℕ) × Ready ts e t ks) ∥₁ → ((t : Tree) → claim.Reads ts t → depth t ≤ 512 → Built e x k t) → Slot (length x.slots.now) k
root_is_slot ts e x k h b = ∥∥₁_elim h (×_prop le_prop le_prop) (λ y. let r = y.2 in root_slot e.slots.now x.slots.now y.1 x.free k y.0 ((b y.0 r.derived r.nests).tree y.1 r.chain (omega (arith, r.enough, one_size y.0))))
