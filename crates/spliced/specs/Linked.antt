-- Records that each hold something, and lead to another.
--
--   links s    the links of the records
--
-- Assumes nothing.
use Rattle.std.specs.Prelude.{ℕ, List, map}
use Rattle.spliced.specs.declared.linked.Linked.{Linked}

abbrev pub links : {X : Type 0} → List (Linked X) → List ℕ
links s = map (λ r. r.next) s
