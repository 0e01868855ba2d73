-- The reader of whole scripts.
--
--   read ts     the tree that the tokens ts read as, or none: what `parse` finds, if nothing is left over, the tree is a good script, and it
--               is written with the codes of ts
--
-- Assumes nothing.
use Rattle.std.specs.Prelude.{◌+◌, ◌*◌, Bool, true, false, cond, ◌&&◌, List, [], ◌∷◌, length}
use Rattle.std.proofs.Math.Option.{Option, none, some}
use Rattle.token.specs.Same.{same_code}
use Rattle.token.specs.declared.Token.{Token}
use Rattle.token.specs.declared.Code.{Code}
use Rattle.grammar.specs.Site.{root, ok}
use Rattle.grammar.specs.Tree.{Tree}
use Rattle.grammar.specs.Layout.{attr, good, wr}
use Rattle.grammar.specs.Shape.{codes}
use Rattle.grammar.specs.Parser.{Res, scr, parse}

abbrev pub same_codes : List Code → List Code → Bool
same_codes [] [] = true
same_codes [] (d ∷ ds) = false
same_codes (c ∷ cs) [] = false
same_codes (c ∷ cs) (d ∷ ds) = same_code c d && same_codes cs ds

abbrev pub empty : List Token → Bool
empty [] = true
empty (k ∷ ks) = false

abbrev pub entire : List Token → Tree → List Token → Bool
entire ts t r = empty r && (ok root (attr t) && (good t && same_codes (codes ts) (wr false t [])))

abbrev pub checked : List Token → Res → Option Tree
checked ts none = none
checked ts (some x) = cond (entire ts x.0 x.1) (some x.0) none

unfoldable pub read : List Token → Option Tree
read ts = checked ts (parse (8 * length ts + 8) true scr ts)
