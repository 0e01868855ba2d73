-- What a tree is, from its root's form and the summary of its children.
--
--   open_of f       which children of a record of the form f are in the open, so that an `in` in them is one of the record
--   head_parts i t u    how many parts of a For's head are there
--   marks a b c d   the first four children, each if it is marked
--   marked ms cs    an `in` stands in the open in one of cs that ms marks
--   bare o cs       an `in` stands in the open in one of those of cs
--   opening_of f    what a record of the form f begins with: a token, or its first child
--   begins o cs     what it begins with, over children with the attributes cs
--   tail_of f       whether an `else` behind a record of the form f could be its own
--   dangling t cs   whether it would be
--   whole_of f      whether a record of the form f is a single one, whatever its children
--
-- Assumes nothing.
use Rattle.std.specs.Prelude.{ℕ, ◌+◌, Bool, true, false, cond, not, ◌&&◌, ◌||◌, List, [], ◌∷◌, eqb, leb}
use Rattle.kinds.specs.declared.form.Form.{Form}
use Rattle.kinds.specs.declared.form.Form.TheVariants as form
use Rattle.kinds.specs.declared.form.Key.{Key}
use Rattle.kinds.specs.declared.form.Key.TheVariants as key
use Rattle.kinds.specs.declared.form.Own.{Own}
use Rattle.kinds.specs.declared.form.Own.TheVariants as own
use Rattle.kinds.specs.declared.operator.Side.{Side}
use Rattle.kinds.specs.declared.operator.Side.TheVariants as side
use Rattle.grammar.specs.Site.{Attr, Begin, is_sort, valued}
use Rattle.grammar.specs.Layout.{is_plain}
use Rattle.fitting.specs.Traits.{begin_of}
use Rattle.fitting.specs.Summary.{number, first, leading, last, any_bare}
use Rattle.fitting.specs.declared.traits.Begin.TheVariants as first_token
use Rattle.fitting.specs.declared.derived.Open.{Open}
use Rattle.fitting.specs.declared.derived.Open.TheVariants as opens
use Rattle.fitting.specs.declared.derived.Opening.{Opening}
use Rattle.fitting.specs.declared.derived.Opening.TheVariants as opening
use Rattle.fitting.specs.declared.derived.Tail.{Tail}
use Rattle.fitting.specs.declared.derived.Tail.TheVariants as tail

abbrev pub marks : Bool → Bool → Bool → Bool → Open
marks a b c d = opens.Marked (a ∷ (b ∷ (c ∷ (d ∷ []))))

abbrev pub prop_open : Key → Open
prop_open key.Fixed = marks true false false false
prop_open key.Computed = marks false false false false

abbrev pub fn_open : Own → Open
fn_open own.Nameless = marks false false false false
fn_open own.Named = marks true false false false

-- How many of the init, the test and the update of a For are there.
abbrev pub head_parts : Bool → Bool → Bool → ℕ
head_parts i t u = cond i 1 0 + cond t 1 0 + cond u 1 0

abbrev pub for_open : Bool → Bool → Bool → Open
for_open true true true = marks true true true true
for_open true true false = marks true true true false
for_open true false true = marks true true true false
for_open true false false = marks true true false false
for_open false true true = marks true true true false
for_open false true false = marks true true false false
for_open false false true = marks true true false false
for_open false false false = marks true false false false

abbrev pub open_of : Form → Open
open_of form.Free = marks false false false false
open_of (form.Name b) = marks false false false false
open_of form.Num = marks false false false false
open_of form.Str = marks false false false false
open_of (form.Word w) = marks false false false false
open_of form.This = marks false false false false
open_of form.Array = marks false false false false
open_of form.Object = marks false false false false
open_of (form.Prop k) = prop_open k
open_of (form.Fn o) = fn_open o
open_of form.Arrow = opens.Last
open_of (form.Unary o) = marks true false false false
open_of (form.Update o s) = marks true false false false
open_of (form.Bin o) = marks true true false false
open_of (form.Assign o) = marks true true false false
open_of form.Cond = marks true false true false
open_of form.Seq = opens.All
open_of form.Paren = marks false false false false
open_of form.Call = marks true false false false
open_of (form.New a) = marks true false false false
open_of (form.Member k) = marks true false false false
open_of (form.Chain l e) = marks true false false false
open_of form.Await = marks true false false false
open_of form.Yield = marks true false false false
open_of form.Script = marks false false false false
open_of form.ExprStmt = marks true false false false
open_of form.Var = opens.All
open_of form.Return = marks true false false false
open_of form.If = marks false true true false
open_of form.While = marks false true false false
open_of (form.For i t u) = for_open i t u
open_of form.ForIn = marks true false true false
open_of form.Block = marks false false false false
open_of form.Labeled = marks true true false false
open_of form.Empty = marks false false false false
open_of (form.Hole s) = marks false false false false

abbrev pub marked : List Bool → List Attr → Bool
marked [] cs = false
marked (m ∷ ms) [] = false
marked (m ∷ ms) (c ∷ cs) = (m && c.bare_in) || marked ms cs

abbrev pub bare : Open → List Attr → Bool
bare (opens.Marked ms) cs = marked ms (leading cs)
bare opens.Last cs = (last cs).bare_in
bare opens.All cs = any_bare cs

abbrev pub prop_opening : Key → Opening
prop_opening key.Fixed = opening.Child
prop_opening key.Computed = opening.Token first_token.Other

abbrev pub update_opening : Side → Opening
update_opening side.Before = opening.Token first_token.Other
update_opening side.After = opening.Child

abbrev pub opening_of : Form → Opening
opening_of form.Free = opening.Token first_token.Other
opening_of (form.Name b) = opening.Token first_token.Other
opening_of form.Num = opening.Token first_token.Other
opening_of form.Str = opening.Token first_token.Other
opening_of (form.Word w) = opening.Token first_token.Other
opening_of form.This = opening.Token first_token.Other
opening_of form.Array = opening.Token first_token.Other
opening_of form.Object = opening.Token first_token.Brace
opening_of (form.Prop k) = prop_opening k
opening_of (form.Fn o) = opening.Token first_token.Function
opening_of form.Arrow = opening.Token first_token.Other
opening_of (form.Unary o) = opening.Token first_token.Other
opening_of (form.Update o s) = update_opening s
opening_of (form.Bin o) = opening.Child
opening_of (form.Assign o) = opening.Child
opening_of form.Cond = opening.Child
opening_of form.Seq = opening.Child
opening_of form.Paren = opening.Token first_token.Other
opening_of form.Call = opening.Child
opening_of (form.New a) = opening.Token first_token.Other
opening_of (form.Member k) = opening.Child
opening_of (form.Chain l e) = opening.Child
opening_of form.Await = opening.Token first_token.Other
opening_of form.Yield = opening.Token first_token.Other
opening_of form.Script = opening.Child
opening_of form.ExprStmt = opening.Child
opening_of form.Var = opening.Token first_token.Other
opening_of form.Return = opening.Token first_token.Other
opening_of form.If = opening.Token first_token.Other
opening_of form.While = opening.Token first_token.Other
opening_of (form.For i t u) = opening.Token first_token.Other
opening_of form.ForIn = opening.Token first_token.Other
opening_of form.Block = opening.Token first_token.Brace
opening_of form.Labeled = opening.Child
opening_of form.Empty = opening.Token first_token.Other
opening_of (form.Hole s) = opening.Token first_token.Other

abbrev pub begins : Opening → List Attr → Begin
begins (opening.Token b) cs = begin_of b
begins opening.Child cs = (first cs).begin

abbrev pub tail_of : Form → Tail
tail_of form.Free = tail.Nothing
tail_of (form.Name b) = tail.Nothing
tail_of form.Num = tail.Nothing
tail_of form.Str = tail.Nothing
tail_of (form.Word w) = tail.Nothing
tail_of form.This = tail.Nothing
tail_of form.Array = tail.Nothing
tail_of form.Object = tail.Nothing
tail_of (form.Prop k) = tail.Nothing
tail_of (form.Fn o) = tail.Nothing
tail_of form.Arrow = tail.Nothing
tail_of (form.Unary o) = tail.Nothing
tail_of (form.Update o s) = tail.Nothing
tail_of (form.Bin o) = tail.Nothing
tail_of (form.Assign o) = tail.Nothing
tail_of form.Cond = tail.Nothing
tail_of form.Seq = tail.Nothing
tail_of form.Paren = tail.Nothing
tail_of form.Call = tail.Nothing
tail_of (form.New a) = tail.Nothing
tail_of (form.Member k) = tail.Nothing
tail_of (form.Chain l e) = tail.Nothing
tail_of form.Await = tail.Nothing
tail_of form.Yield = tail.Nothing
tail_of form.Script = tail.Nothing
tail_of form.ExprStmt = tail.Nothing
tail_of form.Var = tail.Nothing
tail_of form.Return = tail.Nothing
tail_of form.If = tail.Else
tail_of form.While = tail.Body
tail_of (form.For i t u) = tail.Body
tail_of form.ForIn = tail.Body
tail_of form.Block = tail.Nothing
tail_of form.Labeled = tail.Body
tail_of form.Empty = tail.Nothing
tail_of (form.Hole s) = tail.Nothing

abbrev pub dangling : Tail → List Attr → Bool
dangling tail.Nothing cs = false
dangling tail.Body cs = (last cs).dangles
dangling tail.Else cs = cond (leb 3 (number cs)) (last cs).dangles true

abbrev pub whole_of : Form → Bool
whole_of form.Free = false
whole_of (form.Name b) = is_plain b
whole_of form.Num = true
whole_of form.Str = true
whole_of (form.Word w) = false
whole_of form.This = false
whole_of form.Array = false
whole_of form.Object = false
whole_of (form.Prop k) = false
whole_of (form.Fn o) = false
whole_of form.Arrow = false
whole_of (form.Unary o) = false
whole_of (form.Update o s) = false
whole_of (form.Bin o) = false
whole_of (form.Assign o) = false
whole_of form.Cond = false
whole_of form.Seq = false
whole_of form.Paren = false
whole_of form.Call = false
whole_of (form.New a) = false
whole_of (form.Member k) = false
whole_of (form.Chain l e) = false
whole_of form.Await = false
whole_of form.Yield = false
whole_of form.Script = false
whole_of form.ExprStmt = false
whole_of form.Var = false
whole_of form.Return = false
whole_of form.If = false
whole_of form.While = false
whole_of (form.For i t u) = false
whole_of form.ForIn = false
whole_of form.Block = false
whole_of form.Labeled = false
whole_of form.Empty = false
whole_of (form.Hole s) = false

abbrev pub declares : Form → Bool
declares form.Free = false
declares (form.Name b) = false
declares form.Num = false
declares form.Str = false
declares (form.Word w) = false
declares form.This = false
declares form.Array = false
declares form.Object = false
declares (form.Prop k) = false
declares (form.Fn o) = false
declares form.Arrow = false
declares (form.Unary o) = false
declares (form.Update o s) = false
declares (form.Bin o) = false
declares (form.Assign o) = false
declares form.Cond = false
declares form.Seq = false
declares form.Paren = false
declares form.Call = false
declares (form.New a) = false
declares (form.Member k) = false
declares (form.Chain l e) = false
declares form.Await = false
declares form.Yield = false
declares form.Script = false
declares form.ExprStmt = false
declares form.Var = true
declares form.Return = false
declares form.If = false
declares form.While = false
declares (form.For i t u) = false
declares form.ForIn = false
declares form.Block = false
declares form.Labeled = false
declares form.Empty = false
declares (form.Hole s) = false

-- one Name without a value
abbrev pub one_name : List Attr → Bool
one_name cs = eqb (number cs) 1 && not (is_sort valued (first cs))
