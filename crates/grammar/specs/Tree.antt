-- Trees of records: what a record holds, its children in order, and how trees are counted and walked.
--
--   Head           a record's form (its kind and operator) and its place
--   node h us      a tree: its root's head, and its children's trees in order
--   size t         the number of its records
--   depth t        how deep it nests: a root has depth 1, every other record is one deeper than its parent
--   walk t         its heads in walk order: a parent before its children, these in order
--
-- Assumes nothing.
use Rattle.std.specs.Prelude.{ℕ, ◌+◌, max, List, [], ◌∷◌, ◌++◌}
use Rattle.kinds.specs.declared.form.Form.{Form}

pub record Head : Type 0 where
  pub form : Form
  pub lo : ℕ
  pub hi : ℕ

mutual
  pub data Tree : Type 0 where
    node : Head → Forest → Tree

  pub data Forest : Type 0 where
    nil : Forest
    ◌▸◌ : Tree → Forest → Forest

infixr 60 ◌▸◌
infixr 55 ◌⊕◌
abbrev pub ◌⊕◌ : Forest → Forest → Forest
nil ⊕ vs = vs
(u ▸ us) ⊕ vs = u ▸ (us ⊕ vs)

abbrev pub head_of : Tree → Head
head_of (node h us) = h

abbrev pub head : Form → ℕ → ℕ → Head
head f l h = record { form = f; lo = l; hi = h }

unfoldable mutual
  pub size : Tree → ℕ
  size (node h us) = 1 + sizes us

  pub sizes : Forest → ℕ
  sizes nil = 0
  sizes (u ▸ us) = size u + sizes us

unfoldable mutual
  pub depth : Tree → ℕ
  depth (node h us) = 1 + depths us

  pub depths : Forest → ℕ
  depths nil = 0
  depths (u ▸ us) = max (depth u) (depths us)

unfoldable mutual
  pub walk : Tree → List Head
  walk (node h us) = h ∷ walks us

  pub walks : Forest → List Head
  walks nil = []
  walks (u ▸ us) = walk u ++ walks us
