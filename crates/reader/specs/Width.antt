-- What is said of a whole script.
--
--   plain s          in what is left to do, no child is read as a script
--   NotScript ts e   ts has no reading; or it has 500 tokens or more, and every reading is deeper than 512
--
-- Assumes nothing.
use Rattle.std.specs.Prelude.{ℕ, ◌<◌, ◌≤◌, Bool, true, false, cond, ◌&&◌, List, length, nat_lt}
use Rattle.token.specs.declared.Token.{Token}
use Rattle.grammar.specs.Tree.{Tree, depth}
use Rattle.grammar.specs.Claim as claim
use Rattle.grammar.specs.Parser.{Goal, ex, stm, blk, dec, prp, nam, scr, Do, fail, fin, eat, sub, peek, more, items, stms, operand, names, behind}
use Rattle.reader.specs.declared.unread.Unread.{Unread}
use Rattle.reader.specs.declared.unread.Unread.TheVariants.{NoDerivation, TooDeep}

abbrev pub not_script : Goal → Bool
not_script (ex p) = true
not_script stm = true
not_script blk = true
not_script dec = true
not_script prp = true
not_script nam = true
not_script scr = false

abbrev pub plain : Do → Bool
plain fail = true
plain (fin f) = true
plain (eat c s) = plain s
plain (sub m q s) = not_script q && plain s
plain (peek c s t) = plain s && plain t
plain (more m q s) = not_script q && plain s
plain (items q c s) = not_script q && plain s
plain (stms s) = plain s
plain (operand s t) = plain s && plain t
plain (names s) = plain s
plain (behind s) = plain s

abbrev pub NotScript : List Token → Unread → Type 0
NotScript ts NoDerivation = (t : Tree) → claim.Reads ts t → ⊥
NotScript ts TooDeep = (500 ≤ length ts) × ((t : Tree) → claim.Reads ts t → 512 < depth t)

-- A list of n tokens whose script is refused so: one of fewer than 500 is never too deep.
abbrev pub refused_of : ℕ → Unread → Unread
refused_of n NoDerivation = NoDerivation
refused_of n TooDeep = cond (nat_lt n 500) NoDerivation TooDeep
