-- The worked examples, by computing.
use mathlib.Core.Path.{refl}
use Rattle.grammar.specs.Layout.{attr, good, wr}
use Rattle.grammar.specs.Parser.{parse}
use Rattle.grammar.specs.Read.{read}
use Rattle.grammar.specs.Core.{clear, settled, flat, effs, opened, operands}
use Rattle.grammar.specs.Examples.{ExamplesHold, CoresHold}

pub examples_hold : ExamplesHold
unfolding read parse attr good wr
examples_hold = (refl, (refl, (refl, (refl, (refl, (refl, (refl, (refl, (refl, (refl, (refl, (refl, (refl, (refl, (refl, (refl, (refl, (refl, (refl, (refl, (refl, (refl, (refl, (refl, (refl, (refl, (refl, (refl, (refl, (refl, (refl, (refl, (refl, (refl, (refl, (refl, (refl, (refl, (refl, (refl, (refl, (refl, (refl, (refl, (refl, (refl, (refl, (refl, (refl, (refl, (refl, (refl, (refl, (refl, (refl, (refl, (refl, (refl, (refl, (refl, (refl, (refl, (refl, (refl, (refl, (refl, (refl, (refl, (refl, (refl, (refl, (refl, (refl, (refl, (refl, (refl, (refl, (refl, (refl, (refl, (refl, (refl, tt))))))))))))))))))))))))))))))))))))))))))))))))))))))))))))))))))))))))))))))))))

pub cores_hold : CoresHold
unfolding read parse attr good wr clear settled flat effs opened operands
cores_hold = (refl, (refl, (refl, (refl, (refl, (refl, (refl, (refl, (refl, (refl, (refl, (refl, (refl, (refl, (refl, (refl, (refl, (refl, (refl, (refl, (refl, (refl, (refl, (refl, (refl, (refl, (refl, (refl, tt))))))))))))))))))))))))))))
