-- The records of siblings are as many, and nest as deep, as the trees that they stand for.
use Rattle.std.proofs.Common.{◌≡◌, refl, arith}
use Rattle.grammar.specs.Tree.{node, nil, ◌▸◌}
use Rattle.grammar.specs.Tree as trees
use Rattle.records.specs.Siblings.{Siblings, none, sibling, forest, size, depth, Measured}

pub size_forest : (f : Siblings) → trees.sizes (forest f) ≡ size f
unfolding trees.size trees.sizes
size_forest none = refl
size_forest (sibling k d kids rest) = omega (arith, size_forest kids, size_forest rest)

pub depth_forest : (f : Siblings) → trees.depths (forest f) ≡ depth f
unfolding trees.depth trees.depths
depth_forest none = refl
depth_forest (sibling k d kids rest) = omega (arith, depth_forest kids, depth_forest rest)

pub measured : Measured
measured f = (size_forest f, depth_forest f)
