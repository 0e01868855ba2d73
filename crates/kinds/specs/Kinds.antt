-- The kinds and their ranks, and the kind of a form.
--
--   rank k       the place of the kind k in the list of kinds: 0 for a free record, 1 to 35 for the others
--   kind_of f    the kind of a record of the form f
--
-- Assumes nothing.
use Rattle.std.specs.Prelude.{ℕ}
use Rattle.kinds.specs.declared.kind.Kind.{Kind}
use Rattle.kinds.specs.declared.kind.Kind.TheVariants as kind
use Rattle.kinds.specs.declared.form.Form.{Form}
use Rattle.kinds.specs.declared.form.Form.TheVariants as form

abbrev pub rank : Kind → ℕ
rank kind.Free = 0
rank kind.Name = 1
rank kind.Num = 2
rank kind.Str = 3
rank kind.Word = 4
rank kind.This = 5
rank kind.Array = 6
rank kind.Object = 7
rank kind.Prop = 8
rank kind.Fn = 9
rank kind.Arrow = 10
rank kind.Unary = 11
rank kind.Update = 12
rank kind.Bin = 13
rank kind.Assign = 14
rank kind.Cond = 15
rank kind.Seq = 16
rank kind.Paren = 17
rank kind.Call = 18
rank kind.New = 19
rank kind.Member = 20
rank kind.Chain = 21
rank kind.Await = 22
rank kind.Yield = 23
rank kind.Script = 24
rank kind.ExprStmt = 25
rank kind.Var = 26
rank kind.Return = 27
rank kind.If = 28
rank kind.While = 29
rank kind.For = 30
rank kind.ForIn = 31
rank kind.Block = 32
rank kind.Labeled = 33
rank kind.Empty = 34
rank kind.Hole = 35

abbrev pub kind_of : Form → Kind
kind_of form.Free = kind.Free
kind_of (form.Name b) = kind.Name
kind_of form.Num = kind.Num
kind_of form.Str = kind.Str
kind_of (form.Word w) = kind.Word
kind_of form.This = kind.This
kind_of form.Array = kind.Array
kind_of form.Object = kind.Object
kind_of (form.Prop k) = kind.Prop
kind_of (form.Fn o) = kind.Fn
kind_of form.Arrow = kind.Arrow
kind_of (form.Unary o) = kind.Unary
kind_of (form.Update o s) = kind.Update
kind_of (form.Bin o) = kind.Bin
kind_of (form.Assign o) = kind.Assign
kind_of form.Cond = kind.Cond
kind_of form.Seq = kind.Seq
kind_of form.Paren = kind.Paren
kind_of form.Call = kind.Call
kind_of (form.New a) = kind.New
kind_of (form.Member k) = kind.Member
kind_of (form.Chain l e) = kind.Chain
kind_of form.Await = kind.Await
kind_of form.Yield = kind.Yield
kind_of form.Script = kind.Script
kind_of form.ExprStmt = kind.ExprStmt
kind_of form.Var = kind.Var
kind_of form.Return = kind.Return
kind_of form.If = kind.If
kind_of form.While = kind.While
kind_of (form.For i t u) = kind.For
kind_of form.ForIn = kind.ForIn
kind_of form.Block = kind.Block
kind_of form.Labeled = kind.Labeled
kind_of form.Empty = kind.Empty
kind_of (form.Hole s) = kind.Hole
