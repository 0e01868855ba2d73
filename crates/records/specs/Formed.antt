-- What an outstanding tree keeps, whatever was cut from it or hung into it.
--
--   suited s f     a record of the form f may stand at the site s, as far as its sort goes: a Hole stands for what may be cut there
--   Formed t       in every record of t the children are those that its kind and operator ask for
--   rooted m f     a record of the form f can be the root of a tree with the mark m: a loaded and a fixed tree are scripts, a
--                  piece is an expression or a statement
--   Sound m t      t has a root for its mark, is formed, and nests at most 512 deep
--   DerivedSound   a derived tree that nests at most 512 deep is sound as a loaded tree
--
-- Assumes nothing.
use Rattle.std.specs.Prelude.{◌≤◌, Bool, true, false, ◌&&◌, ◌||◌, T, List, ◌==◌}
use Rattle.kinds.specs.Kinds.{rank, kind_of}
use Rattle.kinds.specs.declared.kind.Kind.{Kind}
use Rattle.kinds.specs.declared.kind.Kind.TheVariants as kind
use Rattle.kinds.specs.declared.form.Form.{Form}
use Rattle.kinds.specs.declared.form.Form.TheVariants as form
use Rattle.kinds.specs.declared.form.Sort.TheVariants as hole
use Rattle.grammar.specs.Site.{Sort, sort_rank, expression, statement, block, declaration, property, valued, script, nothing, Site, at, start, body, block_only, stmt, closed, init, var_init, var_in, prop, plain_name, valued_name, key_name, root}
use Rattle.grammar.specs.Layout.{Lay, end, stop, tok, kid, layout, sort_of, attrs}
use Rattle.token.specs.declared.Token.{Token}
use Rattle.grammar.specs.Claim.{Reads}
use Rattle.grammar.specs.Tree.{Tree, Forest, node, nil, ◌▸◌, head_of, depth}
use Rattle.records.specs.declared.record.Mark.{Mark}
use Rattle.records.specs.declared.record.Mark.TheVariants as mark

abbrev pub of : Sort → Form → Bool
of s f = sort_rank s == sort_rank (sort_of f)

abbrev pub of_kind : Kind → Form → Bool
of_kind k f = rank k == rank (kind_of f)

abbrev pub hole_sort : Form → Sort
hole_sort (form.Hole hole.Expression) = expression
hole_sort (form.Hole hole.Statement) = statement
hole_sort form.Free = nothing
hole_sort (form.Name b) = nothing
hole_sort form.Num = nothing
hole_sort form.Str = nothing
hole_sort (form.Word w) = nothing
hole_sort form.This = nothing
hole_sort form.Array = nothing
hole_sort form.Object = nothing
hole_sort (form.Prop k) = nothing
hole_sort (form.Fn o) = nothing
hole_sort form.Arrow = nothing
hole_sort (form.Unary o) = nothing
hole_sort (form.Update o s) = nothing
hole_sort (form.Bin o) = nothing
hole_sort (form.Assign o) = nothing
hole_sort form.Cond = nothing
hole_sort form.Seq = nothing
hole_sort form.Paren = nothing
hole_sort form.Call = nothing
hole_sort (form.New a) = nothing
hole_sort (form.Member k) = nothing
hole_sort (form.Chain l e) = nothing
hole_sort form.Await = nothing
hole_sort form.Yield = nothing
hole_sort form.Script = nothing
hole_sort form.ExprStmt = nothing
hole_sort form.Var = nothing
hole_sort form.Return = nothing
hole_sort form.If = nothing
hole_sort form.While = nothing
hole_sort (form.For i t u) = nothing
hole_sort form.ForIn = nothing
hole_sort form.Block = nothing
hole_sort form.Labeled = nothing
hole_sort form.Empty = nothing

abbrev pub holed : Sort → Form → Bool
holed s f = sort_rank s == sort_rank (hole_sort f)

-- an expression, or a Hole of one
abbrev pub value_like : Form → Bool
value_like f = of expression f || holed expression f

abbrev pub statement_like : Form → Bool
statement_like f = of statement f || (of block f || (of declaration f || holed statement f))

abbrev pub suited : Site → Form → Bool
suited (at p) f = value_like f
suited start f = value_like f
suited body f = of block f || value_like f
suited block_only f = of block f
suited stmt f = statement_like f
suited closed f = statement_like f
suited init f = value_like f
suited var_init f = of declaration f
suited var_in f = of declaration f
suited prop f = of property f
suited plain_name f = of expression f && of_kind kind.Name f
suited key_name f = of expression f && (of_kind kind.Name f || (of_kind kind.Num f || of_kind kind.Str f))
suited valued_name f = of valued f
suited root f = of script f

abbrev pub suits : Lay → Forest → Bool
suits end nil = true
suits end (u ▸ us) = false
suits stop nil = true
suits stop (u ▸ us) = false
suits (tok c ls) us = suits ls us
suits (kid i s ls) nil = false
suits (kid i s ls) (u ▸ us) = suited s (head_of u).form && suits ls us

unfoldable mutual
  pub formed : Tree → Bool
  formed (node h us) = suits (layout h.form (attrs us)) us && all_formed us

  pub all_formed : Forest → Bool
  all_formed nil = true
  all_formed (u ▸ us) = formed u && all_formed us

abbrev pub Formed : Tree → Type 0
Formed t = T (formed t)

abbrev pub rooted : Mark → Form → Bool
rooted mark.Unmarked f = false
rooted mark.Loaded f = of script f
rooted mark.Fixed f = of script f
rooted mark.Piece f = of expression f || (of statement f || (of block f || of declaration f))

pub record Sound (m : Mark) (t : Tree) : Type 0 where
  pub root : T (rooted m (head_of t).form)
  pub formed : Formed t
  pub nests : depth t ≤ 512

abbrev pub DerivedSound : Type 0
DerivedSound = (ts : List Token) (t : Tree) → Reads ts t → depth t ≤ 512 → Sound mark.Loaded t
