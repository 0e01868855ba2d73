-- What is promised of a whole script.
--
--   Whole ts f       the grammar's reader finds a script in ts, of the shape f, with nothing left over; no other tree can be a
--                    reading of ts; the sink has it
--   Scripted ts f    ts reads as a script of the shape f that is at most 512 deep; the sink has it
--   Recognized ts n  ts reads as a tree of n records that is at most 512 deep
--
-- What a refusal says is the reader's `NotScript`.
--
-- Assumes nothing.
use Rattle.std.specs.Prelude.{◌≡◌, ℕ, ◌≤◌, true, List, [], length}
use Rattle.token.specs.declared.Token.{Token}
use Rattle.grammar.specs.Tree.{Tree, Forest, nil, ◌▸◌, size, depth}
use Rattle.grammar.specs.Claim as claim
use Rattle.grammar.specs.Parser.{scr}
use Rattle.reader.specs.Reads.{Reads}
use Rattle.recognizer.specs.Reads.{Shape}
use Rattle.reader.specs.Rows.{single}
use Rattle.records.specs.declared.build.Children.{Children}
use Rattle.recognizer.specs.declared.found.Found.{Found}

pub record Whole {K : Type 0} (ts : List Token) (R : K → K → Children → Forest → Type 0) (e x : K) (f : Found) : Type 0 where
  pub tree : Tree
  pub shape : Shape tree f
  pub found : Reads true scr ts tree []
  pub only : (u : Tree) → claim.Reads ts u → u ≡ tree
  pub few : f.below.records ≤ length ts
  pub row : R x e (single f.slot) (tree ▸ nil)
  pub done : f.ahead.now ≡ []

pub record Scripted {K : Type 0} (ts : List Token) (R : K → K → Children → Forest → Type 0) (e x : K) (f : Found) : Type 0 where
  pub tree : Tree
  pub derived : claim.Reads ts tree
  pub shape : Shape tree f
  pub nests : depth tree ≤ 512
  pub few : f.below.records ≤ length ts
  pub row : R x e (single f.slot) (tree ▸ nil)
  pub done : f.ahead.now ≡ []

pub record Recognized (ts : List Token) (n : ℕ) : Type 0 where
  pub tree : Tree
  pub derived : claim.Reads ts tree
  pub nests : depth tree ≤ 512
  pub records : n ≡ size tree
