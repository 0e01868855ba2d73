-- What the second pass leaves in a store.
--
--   Built e x k t     from the store e to the store x, over the same records, the tree t was put up from free records, at the slot k
--   Ready ts e t ks   the tokens ts derive the tree t, which is at most 512 deep, and the free chain ks of the store e has records enough
--   LoadedAt e x k t  the same as Built, and then the record at k was marked as the root of a loaded tree
--
-- Assumes nothing.
use Rattle.std.specs.Prelude.{◌≡◌, ℕ, ◌≤◌, List, length}
use Rattle.chain.specs.Chain.{SameLoan, Chain}
use Rattle.token.specs.declared.Token.{Token}
use Rattle.grammar.specs.Tree.{Tree, nil, ◌▸◌, size, depth}
use Rattle.grammar.specs.Claim.{Reads}
use Rattle.records.specs.Record.{links, stamped}
use Rattle.records.specs.declared.record.Record.{Record}
use Rattle.records.specs.declared.record.Mark.TheVariants as mark
use Rattle.records.specs.Building.{Stands}
use Rattle.records.specs.declared.store.Store.{Store}

pub record Built (e x : Store) (k : ℕ) (t : Tree) : Type 0 where
  pub lender : SameLoan e.slots x.slots
  pub tree : Stands e.slots.now e.free x.slots.now x.free k k (t ▸ nil)

pub record Ready (ts : List Token) (e : Store) (t : Tree) (ks : List ℕ) : Type 0 where
  pub derived : Reads ts t
  pub nests : depth t ≤ 512
  pub chain : Chain (links e.slots.now) e.free ks
  pub enough : size t ≤ length ks

pub record LoadedAt (e x : Store) (k : ℕ) (t : Tree) : Type 0 where
  pub lender : SameLoan e.slots x.slots
  pub records : List Record
  pub tree : Stands e.slots.now e.free records x.free k k (t ▸ nil)
  pub marked : x.slots.now ≡ stamped records k mark.Loaded
