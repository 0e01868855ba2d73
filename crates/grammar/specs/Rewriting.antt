-- The core form in words: rules, each a single step anywhere in the tree, repeated until nothing changes.
--
--   Step t u         one of the rules, once, somewhere in t, gives u
--   Comes t n        some steps lead from t to n
--   Full t           every sequence in t has an element
--   GoodFull         every good tree is full
--   CoreLaw          from a tree without the places that do not count, some steps lead to its core form; wherever steps lead and no more can be made,
--                    that is the core form; and in the core form none can be made
--   StepsShrink      each step makes the tree smaller, so there is an end to them
--
-- Assumes nothing.
use Rattle.std.specs.Prelude.{◌≡◌, ◌<◌, Bool, true, false, T}
use Rattle.grammar.specs.Tree.{Head, Tree, Forest, node, nil, ◌▸◌, ◌⊕◌, size}
use Rattle.grammar.specs.Layout.{Good}
use Rattle.grammar.specs.Core.{Link, Role, r_par, r_seq, r_void, r_idle, r_if, r_block, r_rest, r_chain, role, clear, core}

abbrev pub some? : Forest → Bool
some? nil = false
some? (u ▸ us) = true

-- From some element of a sequence on.
pub data Redex : Forest → Forest → Type 0 where
  -- nested sequences are joined
  joined_in : (M : Head) (ws vs : Forest) → role M ≡ r_seq → T (some? ws) → Redex (node M ws ▸ vs) (ws ⊕ vs)
  -- before the last, `void` gives way to its operand
  gives_way : (M : Head) (ws : Forest) (v : Tree) (vs : Forest) → role M ≡ r_void → Redex (node M ws ▸ (v ▸ vs)) (ws ⊕ (v ▸ vs))
  -- before the last, what is idle goes
  goes : (M : Head) (ws : Forest) (v : Tree) (vs : Forest) → role M ≡ r_idle → Redex (node M ws ▸ (v ▸ vs)) (v ▸ vs)

pub data Step : Tree → Tree → Type 0 where
  -- pairs are out
  pair_out : (L : Head) (u : Tree) (us : Forest) → role L ≡ r_par → Step (node L (u ▸ us)) u
  -- chains of one operator are lists
  chain_in : (L M : Head) (o : Link) (us ws vs : Forest) → role L ≡ r_chain o → role M ≡ r_chain o → Step (node L (us ⊕ (node M ws ▸ vs))) (node L (us ⊕ (ws ⊕ vs)))
  -- sequences are settled
  settles : (L : Head) (us : Forest) {ys zs : Forest} → role L ≡ r_seq → Redex ys zs → Step (node L (us ⊕ ys)) (node L (us ⊕ zs))
  -- a Block that is the first body of an If and holds one statement counts as that statement
  unblocks : (L M : Head) (e x : Tree) (vs : Forest) → role L ≡ r_if → role M ≡ r_block → Step (node L (e ▸ (node M (x ▸ nil) ▸ vs))) (node L (e ▸ (x ▸ vs)))
  -- and so anywhere
  inside : (L : Head) (us : Forest) {u w : Tree} (vs : Forest) → Step u w → Step (node L (us ⊕ (u ▸ vs))) (node L (us ⊕ (w ▸ vs)))

pub data Comes : Tree → Tree → Type 0 where
  done : {t : Tree} → Comes t t
  more : {t u n : Tree} → Step t u → Comes u n → Comes t n

abbrev pub full : Role → Forest → Bool
full r_par us = true
full r_seq us = some? us
full r_void us = true
full r_idle us = true
full r_if us = true
full r_block us = true
full r_rest us = true
full (r_chain o) us = true

unfoldable mutual
  pub Full : Tree → Type 0
  Full (node L us) = T (full (role L) us) × Fulls us

  pub Fulls : Forest → Type 0
  Fulls nil = Unit {0}
  Fulls (u ▸ us) = Full u × Fulls us

abbrev pub GoodFull : Type 0
GoodFull = (t : Tree) → Good t → Full t

abbrev pub CoreLaw : Type 0
CoreLaw = (t : Tree) → Full t → Comes (clear t) (core t) × ((n : Tree) → Comes (clear t) n → ((u : Tree) → Step n u → ⊥) → n ≡ core t) × ((u : Tree) → Step (core t) u → ⊥)

abbrev pub StepsShrink : Type 0
StepsShrink = (t u : Tree) → Step t u → size u < size t
