-- What is proved of the grammar.
--
--   Unambiguous       no token list has two readings
--   ReadDerives       the reader accepts exactly the token lists that have a reading, and gives it
--   DerivedGood       what is derived is a good script, and writing it gives the codes of its tokens back
--   PartGood, PartDerives    the same two for every part of a script, at its site, with what follows it
--   PartsPlaced       the place of every derived part runs from its first token's lo to its last token's hi
--   ScriptsPlaced     and so for a script; one with no tokens has the place 0 to 0
--   SizesBounded      a reading has at most one record more than tokens, and nests at most as deep as it has records
--   GoodDerives       tokens that are spelled as a good script is written have a reading, with the script's shape
--   FoundWritten      what `parse` finds for a goal, good or not, is written with exactly the tokens that it ate
--
-- Assumes nothing.
use Rattle.std.specs.Prelude.{◌≡◌, ℕ, ◌+◌, ◌≤◌, ◌<◌, List, [], ◌∷◌, ◌++◌, Bool, true, false, ◌↔◌, T, length}
use Rattle.std.proofs.Math.Option.{some}
use Rattle.token.specs.declared.Token.{Token}
use Rattle.token.specs.declared.Code.{Code}
use Rattle.grammar.specs.Site.{Site, at, start, body, block_only, stmt, closed, init, var_init, var_in, prop, plain_name, valued_name, key_name, root, ok, in_head}
use Rattle.grammar.specs.Tree.{head_of, Tree, size, depth}
use Rattle.grammar.specs.Layout.{attr, Good, wr}
use Rattle.grammar.specs.Derives.{lo_of, Derives}
use Rattle.grammar.specs.Shape.{codes, shape}
use Rattle.grammar.specs.Parser.{Goal, ex, stm, blk, dec, prp, nam, scr, parse}
use Rattle.grammar.specs.Read.{read}

-- The token list ts reads as the tree t.
abbrev pub Reads : List Token → Tree → Type 0
Reads ts t = Derives root t ts []

abbrev pub Unambiguous : Type 0
Unambiguous = (ts : List Token) (t u : Tree) → Reads ts t → Reads ts u → t ≡ u

abbrev pub ReadDerives : Type 0
ReadDerives = (ts : List Token) (t : Tree) → (read ts ≡ some t) ↔ Reads ts t

abbrev pub DerivedGood : Type 0
DerivedGood = (ts : List Token) (t : Tree) → Reads ts t → T (ok root (attr t)) × Good t × (wr false t [] ≡ codes ts)

abbrev pub GoodDerives : Type 0
GoodDerives = (ts : List Token) (t : Tree) → T (ok root (attr t)) → Good t → wr false t [] ≡ codes ts → (u : Tree) × (shape u ≡ shape t) × Reads ts u

abbrev pub PartGood : Type 0
PartGood = (s : Site) (t : Tree) (ks r : List Token) → Derives s t ks r → T (ok s (attr t)) × Good t × (codes ks ≡ wr (in_head s) t (codes r))

abbrev pub PartDerives : Type 0
PartDerives = (s : Site) (t : Tree) → T (ok s (attr t)) → Good t → (ks : List Token) (k : List Code) → codes ks ≡ wr (in_head s) t k → (u : Tree) × (r : List Token) × (shape u ≡ shape t) × (codes r ≡ k) × Derives s u ks r

-- Every site but that of a whole script.
abbrev pub is_part : Site → Bool
is_part (at p) = true
is_part start = true
is_part body = true
is_part block_only = true
is_part stmt = true
is_part closed = true
is_part init = true
is_part var_init = true
is_part var_in = true
is_part prop = true
is_part plain_name = true
is_part valued_name = true
is_part key_name = true
is_part root = false

-- Where the last token ends.
abbrev pub hi_of : List Token → ℕ
hi_of [] = 0
hi_of (k ∷ []) = k.hi
hi_of (k ∷ (j ∷ ks)) = hi_of (j ∷ ks)

abbrev pub PartsPlaced : Type 0
PartsPlaced = (s : Site) (t : Tree) (ks r : List Token) → T (is_part s) → Derives s t ks r → (p : List Token) × (ks ≡ p ++ r) × (0 < length p) × ((head_of t).lo ≡ lo_of p) × ((head_of t).hi ≡ hi_of p)

abbrev pub ScriptsPlaced : Type 0
ScriptsPlaced = (ts : List Token) (t : Tree) → Reads ts t → ((head_of t).lo ≡ lo_of ts) × ((head_of t).hi ≡ hi_of ts)

abbrev pub SizesBounded : Type 0
SizesBounded = (ts : List Token) (t : Tree) → Reads ts t → (size t ≤ length ts + 1) × (depth t ≤ size t)

-- Is what is read for the goal written in a head?
abbrev pub is_head : Goal → Bool
is_head (ex p) = false
is_head stm = false
is_head blk = false
is_head dec = true
is_head prp = false
is_head nam = false
is_head scr = false

abbrev pub FoundWritten : Type 0
FoundWritten = (n : ℕ) (b : Bool) (q : Goal) (ks : List Token) (t : Tree) (r : List Token) → parse n b q ks ≡ some (t, r) → codes ks ≡ wr (is_head q) t (codes r)
