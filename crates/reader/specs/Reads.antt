-- What the reader of the grammar answers, and what a refusal says of it.
--
--   Reads b q ks t r      from some bound on, the grammar's reader finds t for the goal q at ks, and r follows
--   Runs b s h ks y       from some bound on, it completes the record of which s is left to do, with y
--   own s                 how many tokens of its own each run of s eats, at the least: 1 or 0
--   Bad e room d          what a refusal says of a tree of the depth d, where room is allowed
--   NotParsed ks b q room e     what it says of all that the grammar's reader may find at ks
--   graft us o            what o answers, with the children us before its own
--
-- Assumes nothing.
use Rattle.std.specs.Prelude.{◌≡◌, ℕ, ◌<◌, ◌≤◌, Bool, true, false, cond, ◌&&◌, List}
use Rattle.std.proofs.Math.Option.{Option, none, some}
use Rattle.token.specs.declared.Token.{Token}
use Rattle.grammar.specs.Tree.{Tree, Forest, ◌⊕◌, depth}
use Rattle.grammar.specs.Parser.{Goal, Do, fail, fin, eat, sub, peek, more, items, stms, operand, names, behind, Ran, ran, parse, perform}
use Rattle.reader.specs.declared.unread.Unread.{Unread}
use Rattle.reader.specs.declared.unread.Unread.TheVariants.{NoDerivation, TooDeep}

-- Does every run of s eat a token of its own?
abbrev pub eats : Do → Bool
eats fail = true
eats (fin f) = false
eats (eat c s) = true
eats (sub m q s) = eats s
eats (peek c s t) = eats s && eats t
eats (more m q s) = eats s
eats (items q c s) = eats s
eats (stms s) = eats s
eats (operand s t) = eats s && eats t
eats (names s) = eats s
eats (behind s) = eats s

abbrev pub own : Do → ℕ
own s = cond (eats s) 1 0

abbrev pub Reads : Bool → Goal → List Token → Tree → List Token → Type 0
Reads b q ks t r = (k : ℕ) × ((m : ℕ) → k ≤ m → parse m b q ks ≡ some (t, r))

abbrev pub Runs : Bool → Do → ℕ → List Token → Ran → Type 0
Runs b s h ks y = (k : ℕ) × ((m : ℕ) → k ≤ m → perform m b s h ks ≡ some y)

abbrev pub Bad : Unread → ℕ → ℕ → Type 0
Bad NoDerivation room d = ⊥
Bad TooDeep room d = room < d

abbrev pub NotParsed : List Token → Bool → Goal → ℕ → Unread → Type 0
NotParsed ks b q room e = (n : ℕ) (t : Tree) (r : List Token) → parse n b q ks ≡ some (t, r) → Bad e room (depth t)

abbrev pub graft : Forest → Option Ran → Option Ran
graft us none = none
graft us (some y) = some (ran y.form (us ⊕ y.kids) y.upto y.left)
