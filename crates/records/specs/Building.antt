-- Trees that are put up from free records, a row of siblings at a time.
--
--   rooted h us                     the tree with the head h over the trees us
--   last_of f                       the slot of the last of the siblings f, or 0
--   behind f g                      the siblings f, and g behind them
--   Row s t ks free first last us   from the records s with the free chain ks the trees us were put up, as a row of siblings from the
--                                   slot `first` to the slot `last`: t are the records then, and the rest of the free chain begins at `free`.
--                                   No record that was not free has changed, and none has been marked
--   Stands s from t free first last us   so it is, wherever the free chain that began at `from` had records enough for the trees us
--
-- Assumes nothing.
use Rattle.std.specs.Prelude.{◌≡◌, ℕ, ◌+◌, ◌≤◌, List, length}
use Rattle.chain.specs.Chain.{Chain, times}
use Rattle.grammar.specs.Tree.{head, Tree, Forest, node, sizes}
use Rattle.records.specs.declared.record.Head.{Head}
use Rattle.records.specs.declared.record.Record.{Record}
use Rattle.records.specs.Record.{links}
use Rattle.records.specs.Siblings.{Siblings, none, sibling, forest, size, count, Loose, Kept, Plain}

abbrev pub rooted : Head → Forest → Tree
rooted h us = node (head h.form h.lo h.hi) us

abbrev pub last_of : Siblings → ℕ
last_of none = 0
last_of (sibling k d kids none) = k
last_of (sibling k d kids (sibling j e more rest)) = last_of (sibling j e more rest)

abbrev pub behind : Siblings → Siblings → Siblings
behind none g = g
behind (sibling k d kids rest) g = sibling k d kids (behind rest g)

pub record Row (s t : List Record) (ks : List ℕ) (free first last : ℕ) (us : Forest) : Type 0 where
  pub siblings : Siblings
  pub chain : List ℕ
  pub loose : Loose t free first siblings chain
  pub trees : forest siblings ≡ us
  pub ends : last_of siblings ≡ last
  pub drawn : (k : ℕ) → count k siblings + times k chain ≡ times k ks
  pub left : length ks ≡ size siblings + length chain
  pub length : length t ≡ length s
  pub same : Kept s t none ks
  pub plain : Plain s t

abbrev pub Stands : List Record → ℕ → List Record → ℕ → ℕ → ℕ → Forest → Type 0
Stands s from t free first last us = (ks : List ℕ) → Chain (links s) from ks → sizes us ≤ length ks → Row s t ks free first last us
