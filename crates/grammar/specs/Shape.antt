-- Trees and tokens without places.
--
--   codes ks     the codes of the tokens ks
--   shape t      the tree t with every place set to 0
--
-- Assumes nothing.
use Rattle.std.specs.Prelude.{List, [], ◌∷◌}
use Rattle.token.specs.declared.Token.{Token}
use Rattle.token.specs.declared.Code.{Code}
use Rattle.grammar.specs.Tree.{head, Tree, Forest, node, nil, ◌▸◌}

abbrev pub codes : List Token → List Code
codes [] = []
codes (k ∷ ks) = k.code ∷ codes ks

unfoldable mutual
  pub shape : Tree → Tree
  shape (node h us) = node (head h.form 0 0) (shapes us)

  pub shapes : Forest → Forest
  shapes nil = nil
  shapes (u ▸ us) = shape u ▸ shapes us
