-- What a slot stands for: the tree that is found by following the first children and the next siblings.
--
--   Siblings            a chain of siblings, each with its slot, its head and its children
--   forest f            the same with no slots: the trees that they are
--   size f, depth f     the number of its records, and how deep it nests
--   Measured            siblings have as many records, and nest as deep, as their trees
--   count k f           how often it has the slot k
--   Holds s h f         from the slot h on the records s are the siblings f
--   Loose s free h f ks the siblings f stand at the slot h, the free chain from `free` on is ks, and no slot is met twice
--   Kept s t f ks       the records that neither f nor ks has are in t as they were in s
--   Plain s t           no record is marked in t that was not in s
--   Moved f ks g js     g and js have together the slots that f and ks have together
--   Given s t f ks free f was given back whole: the free chain from `free` on has its records and those of ks
--
-- Assumes nothing.
use Rattle.std.specs.Prelude.{◌≡◌, ℕ, zero, suc, ◌+◌, ◌*◌, ◌<◌, ◌≤◌, max, List, length}
use Rattle.chain.specs.Chain.{room, Chain, is, times}
use Rattle.grammar.specs.Tree.{Head, Forest, node, nil, ◌▸◌}
use Rattle.grammar.specs.Tree as trees
use Rattle.records.specs.declared.record.Record.{Record}
use Rattle.records.specs.declared.record.Mark.TheVariants as mark
use Rattle.records.specs.Record.{head_of, at, links}

pub data Siblings : Type 0 where
  none : Siblings
  sibling : ℕ → Head → Siblings → Siblings → Siblings

abbrev pub forest : Siblings → Forest
forest none = nil
forest (sibling k d kids rest) = node d (forest kids) ▸ forest rest

abbrev pub size : Siblings → ℕ
size none = 0
size (sibling k d kids rest) = 1 + size kids + size rest

abbrev pub depth : Siblings → ℕ
depth none = 0
depth (sibling k d kids rest) = max (1 + depth kids) (depth rest)

abbrev pub Measured : Type 0
Measured = (f : Siblings) → (trees.sizes (forest f) ≡ size f) × (trees.depths (forest f) ≡ depth f)

abbrev pub count : ℕ → Siblings → ℕ
count k none = 0
count k (sibling j d kids rest) = is k j + count k kids + count k rest

abbrev pub Holds : List Record → ℕ → Siblings → Type 0
Holds s here none = here ≡ 0
Holds s here (sibling k d kids rest) =
    (here ≡ k) × (0 < k) × (k ≤ room (length s)) × (head_of (at s k) ≡ d) × Holds s (at s k).first kids × Holds s (at s k).next rest

-- each record of the siblings and of the free chain stands once, and in one of them
abbrev pub Apart : Siblings → List ℕ → Type 0
Apart f ks = (k : ℕ) → count k f + times k ks ≤ 1

abbrev pub Loose : List Record → ℕ → ℕ → Siblings → List ℕ → Type 0
Loose s free here f ks = Holds s here f × Chain (links s) free ks × Apart f ks

abbrev pub Kept : List Record → List Record → Siblings → List ℕ → Type 0
Kept s t f ks = (k : ℕ) → 0 < k → count k f + times k ks ≡ 0 → at t k ≡ at s k

abbrev pub Plain : List Record → List Record → Type 0
Plain s t = (k : ℕ) → 0 < k → (at s k).mark ≡ mark.Unmarked → (at t k).mark ≡ mark.Unmarked

abbrev pub Moved : Siblings → List ℕ → Siblings → List ℕ → Type 0
Moved f ks g js = (k : ℕ) → count k g + times k js ≡ count k f + times k ks

abbrev pub Given : List Record → List Record → Siblings → List ℕ → ℕ → Type 0
Given s t f ks free =
    (js : List ℕ) × Chain (links t) free js × Moved f ks none js × Kept s t f ks × Plain s t × (length js ≡ size f + length ks)

-- what a walk finds at a slot, in so many steps down and along
abbrev pub siblings_at : ℕ → List Record → ℕ → Siblings
siblings_at zero s here = none
siblings_at (suc n) s zero = none
siblings_at (suc n) s (suc k) =
    sibling (suc k) (head_of (at s (suc k))) (siblings_at n s (at s (suc k)).first) (siblings_at n s (at s (suc k)).next)

-- the turns that give siblings back: two for a record, one for a record on the chain of the roots
abbrev pub weight : Siblings → ℕ
weight none = 0
weight (sibling k d kids rest) = 1 + 2 * size kids + weight rest
