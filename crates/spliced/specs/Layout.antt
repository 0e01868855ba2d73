-- How the records of a store lie: which notes each list has, and which records are unused.
--
--   Fit m o ks        the list o, in notes whose links are m, has the notes ks; no list has none
--   Layout            the whole: m has the links of the notes and hm those of the heads, ls what each head holds, fn and fh
--                     begin the chains of unused notes and heads, `held` counts the comments; owned has the notes of each
--                     head's list, ns and hs the unused notes and heads, and loose the notes that are on their way from one
--                     list to another
--   Idle s n          no head past the slot n holds a list
--   Laid              notes and heads have such a layout, and no note is on its way
--
-- Assumes nothing.
use Rattle.std.specs.Prelude.{◌≡◌, ℕ, ◌+◌, ◌<◌, ◌≤◌, true, List, [], ◌∷◌, ◌++◌, length, Some, None, sum_by, Option, slice_index_or}
use Rattle.comments.specs.declared.store.Side.{Side}
use Rattle.chain.specs.Chain.{room, Chain, times}
use Rattle.spliced.specs.declared.heads.NoteList.{NoteList}
use Rattle.spliced.specs.Linked.{links}
use Rattle.spliced.specs.Notes.{Note}
use Rattle.spliced.specs.Heads.{Head, list_at, key}

abbrev pub Fit : List ℕ → Option NoteList → List ℕ → Type 0
Fit m None ks = ks ≡ []
Fit m (Some l) ks = ((front : List ℕ) × (ks ≡ front ++ (l.last ∷ []))) × Chain m l.first ks

abbrev pub used : Option NoteList → ℕ
used None = 0
used (Some l) = 1

pub record Layout (m hm : List ℕ) (ls : ℕ → Option NoteList) (fn fh held : ℕ) (owned : List (List ℕ)) (ns hs loose : List ℕ) : Type 0 where
  pub wide : length owned ≡ room (length hm)
  pub each : (i : ℕ) → i < room (length hm) → Fit m (ls i) (slice_index_or owned i [])
  -- the unused notes form one chain, and no note is in two lists, or in one twice
  pub notes : Chain m fn ns
  pub apart : (k : ℕ) → times k ns + times k loose + sum_by (times k) owned ≤ 1
  -- each head is on the chain of the unused, or holds a list
  pub heads : Chain hm fh hs
  pub once : (i : ℕ) → i < room (length hm) → times (i + 1) hs + used (ls i) ≡ 1
  -- no two heads hold lists of one side and offset
  pub keys : (i j : ℕ) (side : Side) (k : ℕ) → i < room (length hm) → j < room (length hm) → key side k (ls i) ≡ true → key side k (ls j) ≡ true → i ≡ j
  -- as many notes are in lists as there are comments, and the others are unused
  pub counted : length ns + held ≡ room (length m)
  pub total : length loose + sum_by length owned ≡ held

abbrev pub Idle : List Head → ℕ → Type 0
Idle s n = (n ≤ room (length s)) × ((i : ℕ) → n ≤ i → i < room (length s) → used (list_at s i) ≡ 0)

abbrev pub Laid : List Note → List Head → ℕ → ℕ → ℕ → Type 0
Laid notes heads fn fh held =
    (owned : List (List ℕ)) × (ns : List ℕ) × (hs : List ℕ) × Layout (links notes) (links heads) (list_at heads) fn fh held owned ns hs []
