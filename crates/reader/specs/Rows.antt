-- Rows of siblings, as a sink knows them.
--
--   single n      the row of the one tree at n
--   Nested        from e to x, a parent with the head h was put over the row r, at n
--   Pushed        from e to x, the tree at c was put behind the row r, which became r2
--
-- R t s r us says: since s, and as t is now, the trees us stand in the row r.
--
-- Assumes nothing.
use Rattle.std.specs.Prelude.{ℕ}
use Rattle.grammar.specs.Tree.{Tree, Forest, nil, ◌▸◌, ◌⊕◌}
use Rattle.records.specs.Building.{rooted}
use Rattle.records.specs.declared.build.Children.{Children}
use Rattle.records.specs.declared.record.Head.{Head}

abbrev pub single : ℕ → Children
single n = record { first = n; last = n }

pub record Nested {K : Type 0} (R : K → K → Children → Forest → Type 0) (e x : K) (h : Head) (r : Children) (n : ℕ) : Type 0 where
  pub at : (s : K) (us : Forest) → R e s r us → R x s (single n) (rooted h us ▸ nil)

pub record Pushed {K : Type 0} (R : K → K → Children → Forest → Type 0) (e x : K) (r : Children) (c : ℕ) (r2 : Children) : Type 0 where
  pub at : (s m : K) (us : Forest) (v : Tree) → R m s r us → R e m (single c) (v ▸ nil) → R x s r2 (us ⊕ (v ▸ nil))
