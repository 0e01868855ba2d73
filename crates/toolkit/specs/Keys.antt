-- What a pool compares with its records.
--
--   Key      a pool's number, a root, and the mark that the type of what the caller holds stands for
--   key t    the key of a tree that the caller holds
--
-- Assumes nothing.
use Rattle.records.specs.declared.record.Mark.TheVariants as mark
use Rattle.toolkit.specs.declared.trees.Key.{Key}
use Rattle.toolkit.specs.declared.trees.Tree.{Tree}
use Rattle.toolkit.specs.declared.trees.Tree.TheVariants as held

abbrev pub key : Tree → Key
key (held.Loaded t) = record { pool = t.pool; root = t.root; mark = mark.Loaded }
key (held.Fixed t) = record { pool = t.pool; root = t.root; mark = mark.Fixed }
