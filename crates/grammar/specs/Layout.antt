-- The grammar: what each form writes, tokens and children in order; and what follows of a tree from that.
--
--   Lay               what is written: `tok c` a token, `child s` a child at the site s, `inside s` one between brackets,
--                     `end` nothing more, `stop` a `;`, or nothing in the head of a For or a ForIn
--   layout f cs       what a record of the form f writes, whose children have the attributes cs. Few forms look at cs: those
--                     with a list of children look how long it is, If, Return and Yield whether the last child is there, Var which Names
--                     have values, For and ForIn whether their first child is a Var
--   attr_of f cs      the attributes of a tree, from its root's form and its children's attributes
--   fit_kids l cs     there are as many children as the layout l has sites, and each may stand at its site
--   Good t            in every record of t the children fit
--   wr h t k          what t writes (h: in a head), and then k
--
-- Assumes nothing.
use Rattle.std.specs.Prelude.{Bool, true, false, cond, not, ◌&&◌, ◌||◌, List, [], ◌∷◌, T}
use Rattle.token.specs.Same.{same_code}
use Rattle.token.specs.declared.Code.{Code}
use Rattle.token.specs.declared.Code.TheVariants as code
use Rattle.kinds.specs.Levels.{Standing, primary, standing, is_c, is_target, left_slot, right_slot}
use Rattle.kinds.specs.declared.form.Form.{Form}
use Rattle.kinds.specs.declared.form.Form.TheVariants as form
use Rattle.kinds.specs.declared.form.Binding.{Binding}
use Rattle.kinds.specs.declared.form.Binding.TheVariants as binding
use Rattle.kinds.specs.declared.form.Key.{Key}
use Rattle.kinds.specs.declared.form.Key.TheVariants as key
use Rattle.kinds.specs.declared.form.Own.{Own}
use Rattle.kinds.specs.declared.form.Own.TheVariants as own
use Rattle.kinds.specs.declared.form.Arguments.{Arguments}
use Rattle.kinds.specs.declared.form.Arguments.TheVariants as arguments
use Rattle.kinds.specs.declared.form.Link.{Link}
use Rattle.kinds.specs.declared.form.Link.TheVariants as link
use Rattle.kinds.specs.declared.form.Entry.{Entry}
use Rattle.kinds.specs.declared.form.Entry.TheVariants as entry
use Rattle.kinds.specs.declared.operator.Side.{Side}
use Rattle.kinds.specs.declared.operator.Side.TheVariants as side
use Rattle.kinds.specs.declared.operator.BinaryOperator.{BinaryOperator}
use Rattle.kinds.specs.declared.operator.BinaryOperator.TheVariants as binary
use Rattle.kinds.specs.declared.level.Slot.TheVariants as slot
use Rattle.grammar.specs.Codes.{open_paren, close_paren, open_bracket, close_bracket, open_brace, close_brace, semicolon, comma, dot, colon, question, question_dot, arrow, equals, word_this, word_function, word_in, word_new, word_await, word_yield, word_var, word_return, word_if, word_else, word_while, word_for, constant_code, unary_code, update_code, binary_code}
use Rattle.grammar.specs.Site.{Sort, expression, statement, block, declaration, property, valued, script, nothing, Begin, brace, function, other, Attr, is_sort, Site, at, start, body, block_only, stmt, closed, init, var_init, var_in, prop, plain_name, valued_name, key_name, ok, in_head}
use Rattle.grammar.specs.Tree.{Tree, Forest, node, nil, ◌▸◌}

pub data Lay : Type 0 where
  end stop : Lay
  tok : Code → Lay → Lay
  kid : Bool → Site → Lay → Lay

abbrev pub child : Site → Lay → Lay
child s ls = kid false s ls

abbrev pub inside : Site → Lay → Lay
inside s ls = kid true s ls

-- Lists. `, x` for each of cs, and then ls; and the same without the first comma.
abbrev pub commas : Bool → Site → List Attr → Lay → Lay
commas i s [] ls = ls
commas i s (c ∷ cs) ls = tok comma (kid i s (commas i s cs ls))

abbrev pub listed : Site → List Attr → Lay → Lay
listed s [] ls = ls
listed s (c ∷ cs) ls = inside s (commas true s cs ls)

-- Statements one after the other.
abbrev pub run : List Attr → Lay → Lay
run [] ls = ls
run (c ∷ cs) ls = inside stmt (run cs ls)

abbrev pub rest : List Attr → List Attr
rest [] = []
rest (c ∷ cs) = cs

abbrev pub but_last : List Attr → List Attr
but_last [] = []
but_last (c ∷ []) = []
but_last (c ∷ (d ∷ cs)) = c ∷ but_last (d ∷ cs)

abbrev pub arguments_of : List Attr → Lay
arguments_of cs = tok open_paren (listed (at slot.Assignment) cs (tok close_paren end))

abbrev pub parameters : List Attr → Lay → Lay
parameters cs ls = tok open_paren (listed plain_name cs (tok close_paren ls))

-- The Names of a Var: the next Name, or (true) the value of the Name before.
abbrev pub names : List Attr → Bool → Lay
names [] true = child (at slot.Assignment) stop
names (c ∷ cs) true = child (at slot.Assignment) (names cs false)
names [] false = stop
names (c ∷ cs) false = tok comma (cond (is_sort valued c) (child valued_name (tok equals (names cs true))) (child plain_name (names cs false)))

abbrev pub var_of : List Attr → Lay
var_of [] = child plain_name stop
var_of (c ∷ cs) = cond (is_sort valued c) (child valued_name (tok equals (names cs true))) (child plain_name (names cs false))

abbrev pub prop_of : Key → Lay
prop_of key.Fixed = child key_name (tok colon (inside (at slot.Assignment) end))
prop_of key.Computed = tok open_bracket (inside (at slot.Assignment) (tok close_bracket (tok colon (inside (at slot.Assignment) end))))

abbrev pub fn_of : Own → List Attr → Lay
fn_of own.Nameless cs = parameters (but_last cs) (inside block_only end)
fn_of own.Named cs = child plain_name (parameters (but_last (rest cs)) (inside block_only end))

abbrev pub update_of : Side → Code → Lay
update_of side.Before c = tok c (child (at slot.Target) end)
update_of side.After c = child (at slot.Target) (tok c end)

abbrev pub seq_of : List Attr → Lay
seq_of cs = child (at slot.Assignment) (tok comma (child (at slot.Assignment) (commas false (at slot.Assignment) (rest (rest cs)) end)))

abbrev pub new_of : Arguments → List Attr → Lay
new_of arguments.Listed cs = child (at slot.Member) (arguments_of (rest cs))
new_of arguments.Unlisted cs = child (at slot.New) end

-- A Name or a computed key, behind an object.
abbrev pub key_of : Key → Lay
key_of key.Fixed = tok dot (inside plain_name end)
key_of key.Computed = tok open_bracket (inside (at slot.Expression) (tok close_bracket end))

abbrev pub link_of : Link → Entry → List Attr → Lay
link_of link.Name entry.Optional cs = child (at slot.Optional) (tok question_dot (inside plain_name end))
link_of link.Key entry.Optional cs = child (at slot.Optional) (tok question_dot (key_of key.Computed))
link_of link.Call entry.Optional cs = child (at slot.Optional) (tok question_dot (arguments_of (rest cs)))
link_of link.Name entry.Tail cs = child (at slot.Chain) (key_of key.Fixed)
link_of link.Key entry.Tail cs = child (at slot.Chain) (key_of key.Computed)
link_of link.Call entry.Tail cs = child (at slot.Chain) (arguments_of (rest cs))

abbrev pub yield_of : List Attr → Lay
yield_of [] = end
yield_of (c ∷ cs) = child (at slot.Assignment) end

abbrev pub return_of : List Attr → Lay
return_of [] = tok semicolon end
return_of (c ∷ cs) = child (at slot.Expression) (tok semicolon end)

abbrev pub bodies_of : List Attr → Lay
bodies_of [] = child stmt end
bodies_of (c ∷ []) = child stmt end
bodies_of (c ∷ (d ∷ cs)) = child closed (tok word_else (child stmt end))

abbrev pub tested : Lay → Lay
tested ls = tok open_paren (inside (at slot.Expression) (tok close_paren ls))

-- The three parts of a For's head.
abbrev pub init_site : List Attr → Site
init_site [] = init
init_site (c ∷ cs) = cond (is_sort declaration c) var_init init

abbrev pub part : Bool → Site → Lay → Lay
part true s ls = child s ls
part false s ls = ls

abbrev pub for_of : Bool → Bool → Bool → List Attr → Lay
for_of i t u cs =
    tok open_paren (part i (init_site cs) (tok semicolon (part t (at slot.Expression) (tok semicolon (part u (at slot.Expression) (tok close_paren (child stmt end)))))))

abbrev pub left_site : List Attr → Site
left_site [] = at slot.Target
left_site (c ∷ cs) = cond (is_sort declaration c) var_in (at slot.Target)

abbrev pub layout : Form → List Attr → Lay
layout form.Free cs = end
layout (form.Name b) cs = tok code.Name end
layout form.Num cs = tok code.Number end
layout form.Str cs = tok code.String end
layout (form.Word w) cs = tok (constant_code w) end
layout form.This cs = tok word_this end
layout form.Array cs = tok open_bracket (listed (at slot.Assignment) cs (tok close_bracket end))
layout form.Object cs = tok open_brace (listed prop cs (tok close_brace end))
layout (form.Prop k) cs = prop_of k
layout (form.Fn o) cs = tok word_function (fn_of o cs)
layout form.Arrow cs = parameters (but_last cs) (tok arrow (child body end))
layout (form.Unary o) cs = tok (unary_code o) (child (at slot.Unary) end)
layout (form.Update o s) cs = update_of s (update_code o)
layout (form.Bin o) cs = child (at (left_slot o)) (tok (binary_code o) (child (at (right_slot o)) end))
layout (form.Assign o) cs = child (at slot.Target) (tok (code.AssignOperator o) (child (at slot.Assignment) end))
layout form.Cond cs = child (at slot.ShortCircuit) (tok question (inside (at slot.Assignment) (tok colon (child (at slot.Assignment) end))))
layout form.Seq cs = seq_of cs
layout form.Paren cs = tok open_paren (inside (at slot.Expression) (tok close_paren end))
layout form.Call cs = child (at slot.Call) (arguments_of (rest cs))
layout (form.New a) cs = tok word_new (new_of a cs)
layout (form.Member k) cs = child (at slot.Call) (key_of k)
layout (form.Chain l e) cs = link_of l e cs
layout form.Await cs = tok word_await (child (at slot.Unary) end)
layout form.Yield cs = tok word_yield (yield_of cs)
layout form.Script cs = run cs end
layout form.ExprStmt cs = child start (tok semicolon end)
layout form.Var cs = tok word_var (var_of cs)
layout form.Return cs = tok word_return (return_of cs)
layout form.If cs = tok word_if (tested (bodies_of (rest cs)))
layout form.While cs = tok word_while (tested (child stmt end))
layout (form.For i t u) cs = tok word_for (for_of i t u cs)
layout form.ForIn cs = tok word_for (tok open_paren (child (left_site cs) (tok word_in (inside (at slot.Expression) (tok close_paren (child stmt end))))))
layout form.Block cs = tok open_brace (run cs (tok close_brace end))
layout form.Labeled cs = child plain_name (tok colon (child stmt end))
layout form.Empty cs = tok semicolon end
layout (form.Hole s) cs = end

abbrev pub name_sort : Binding → Sort
name_sort binding.Plain = expression
name_sort binding.Valued = valued

abbrev pub sort_of : Form → Sort
sort_of form.Free = nothing
sort_of (form.Name b) = name_sort b
sort_of form.Num = expression
sort_of form.Str = expression
sort_of (form.Word w) = expression
sort_of form.This = expression
sort_of form.Array = expression
sort_of form.Object = expression
sort_of (form.Prop k) = property
sort_of (form.Fn o) = expression
sort_of form.Arrow = expression
sort_of (form.Unary o) = expression
sort_of (form.Update o s) = expression
sort_of (form.Bin o) = expression
sort_of (form.Assign o) = expression
sort_of form.Cond = expression
sort_of form.Seq = expression
sort_of form.Paren = expression
sort_of form.Call = expression
sort_of (form.New a) = expression
sort_of (form.Member k) = expression
sort_of (form.Chain l e) = expression
sort_of form.Await = expression
sort_of form.Yield = expression
sort_of form.Script = script
sort_of form.ExprStmt = statement
sort_of form.Var = declaration
sort_of form.Return = statement
sort_of form.If = statement
sort_of form.While = statement
sort_of (form.For i t u) = statement
sort_of form.ForIn = statement
sort_of form.Block = block
sort_of form.Labeled = statement
sort_of form.Empty = statement
sort_of (form.Hole s) = nothing

abbrev pub in_operator : BinaryOperator → Bool
in_operator binary.Coalesce = false
in_operator binary.Or = false
in_operator binary.And = false
in_operator binary.BitOr = false
in_operator binary.BitXor = false
in_operator binary.BitAnd = false
in_operator binary.Equal = false
in_operator binary.NotEqual = false
in_operator binary.StrictEqual = false
in_operator binary.StrictNotEqual = false
in_operator binary.Less = false
in_operator binary.LessOrEqual = false
in_operator binary.Greater = false
in_operator binary.GreaterOrEqual = false
in_operator binary.In = true
in_operator binary.Instanceof = false
in_operator binary.LeftShift = false
in_operator binary.RightShift = false
in_operator binary.UnsignedRightShift = false
in_operator binary.Add = false
in_operator binary.Subtract = false
in_operator binary.Multiply = false
in_operator binary.Divide = false
in_operator binary.Remainder = false
in_operator binary.Exponent = false

abbrev pub is_in : Form → Bool
is_in form.Free = false
is_in (form.Name b) = false
is_in form.Num = false
is_in form.Str = false
is_in (form.Word w) = false
is_in form.This = false
is_in form.Array = false
is_in form.Object = false
is_in (form.Prop k) = false
is_in (form.Fn o) = false
is_in form.Arrow = false
is_in (form.Unary o) = false
is_in (form.Update o s) = false
is_in (form.Bin o) = in_operator o
is_in (form.Assign o) = false
is_in form.Cond = false
is_in form.Seq = false
is_in form.Paren = false
is_in form.Call = false
is_in (form.New a) = false
is_in (form.Member k) = false
is_in (form.Chain l e) = false
is_in form.Await = false
is_in form.Yield = false
is_in form.Script = false
is_in form.ExprStmt = false
is_in form.Var = false
is_in form.Return = false
is_in form.If = false
is_in form.While = false
is_in (form.For i t u) = false
is_in form.ForIn = false
is_in form.Block = false
is_in form.Labeled = false
is_in form.Empty = false
is_in (form.Hole s) = false

-- Does an `in` stand in the open in a child that is itself in the open?
abbrev pub any_open : Lay → List Attr → Bool
any_open end cs = false
any_open stop cs = false
any_open (tok c ls) cs = any_open ls cs
any_open (kid i s ls) [] = false
any_open (kid i s ls) (c ∷ cs) = (not i && c.bare_in) || any_open ls cs

abbrev pub code_begin : Code → Begin
code_begin c = cond (same_code c open_brace) brace (cond (same_code c word_function) function other)

abbrev pub first_begin : List Attr → Begin
first_begin [] = other
first_begin (c ∷ cs) = c.begin

abbrev pub begin_of : Lay → List Attr → Begin
begin_of end cs = other
begin_of stop cs = other
begin_of (tok c ls) cs = code_begin c
begin_of (kid i s ls) cs = first_begin cs

abbrev pub last_dangles : List Attr → Bool
last_dangles [] = false
last_dangles (c ∷ []) = c.dangles
last_dangles (c ∷ (d ∷ cs)) = last_dangles (d ∷ cs)

abbrev pub if_dangles : List Attr → Bool
if_dangles [] = true
if_dangles (c ∷ []) = true
if_dangles (c ∷ (d ∷ [])) = true
if_dangles (c ∷ (d ∷ (e ∷ cs))) = last_dangles (e ∷ cs)

abbrev pub dangles_of : Form → List Attr → Bool
dangles_of form.Free cs = false
dangles_of (form.Name b) cs = false
dangles_of form.Num cs = false
dangles_of form.Str cs = false
dangles_of (form.Word w) cs = false
dangles_of form.This cs = false
dangles_of form.Array cs = false
dangles_of form.Object cs = false
dangles_of (form.Prop k) cs = false
dangles_of (form.Fn o) cs = false
dangles_of form.Arrow cs = false
dangles_of (form.Unary o) cs = false
dangles_of (form.Update o s) cs = false
dangles_of (form.Bin o) cs = false
dangles_of (form.Assign o) cs = false
dangles_of form.Cond cs = false
dangles_of form.Seq cs = false
dangles_of form.Paren cs = false
dangles_of form.Call cs = false
dangles_of (form.New a) cs = false
dangles_of (form.Member k) cs = false
dangles_of (form.Chain l e) cs = false
dangles_of form.Await cs = false
dangles_of form.Yield cs = false
dangles_of form.Script cs = false
dangles_of form.ExprStmt cs = false
dangles_of form.Var cs = false
dangles_of form.Return cs = false
dangles_of form.If cs = if_dangles cs
dangles_of form.While cs = last_dangles cs
dangles_of (form.For i t u) cs = last_dangles cs
dangles_of form.ForIn cs = last_dangles cs
dangles_of form.Block cs = false
dangles_of form.Labeled cs = last_dangles cs
dangles_of form.Empty cs = false
dangles_of (form.Hole s) cs = false

abbrev pub one_name : List Attr → Bool
one_name [] = false
one_name (c ∷ []) = not (is_sort valued c)
one_name (c ∷ (d ∷ cs)) = false

abbrev pub is_plain : Binding → Bool
is_plain binding.Plain = true
is_plain binding.Valued = false

abbrev pub single_of : Form → List Attr → Bool
single_of form.Free cs = false
single_of (form.Name b) cs = is_plain b
single_of form.Num cs = true
single_of form.Str cs = true
single_of (form.Word w) cs = false
single_of form.This cs = false
single_of form.Array cs = false
single_of form.Object cs = false
single_of (form.Prop k) cs = false
single_of (form.Fn o) cs = false
single_of form.Arrow cs = false
single_of (form.Unary o) cs = false
single_of (form.Update o s) cs = false
single_of (form.Bin o) cs = false
single_of (form.Assign o) cs = false
single_of form.Cond cs = false
single_of form.Seq cs = false
single_of form.Paren cs = false
single_of form.Call cs = false
single_of (form.New a) cs = false
single_of (form.Member k) cs = false
single_of (form.Chain l e) cs = false
single_of form.Await cs = false
single_of form.Yield cs = false
single_of form.Script cs = false
single_of form.ExprStmt cs = false
single_of form.Var cs = one_name cs
single_of form.Return cs = false
single_of form.If cs = false
single_of form.While cs = false
single_of (form.For i t u) cs = false
single_of form.ForIn cs = false
single_of form.Block cs = false
single_of form.Labeled cs = false
single_of form.Empty cs = false
single_of (form.Hole s) cs = false

abbrev pub first_standing : List Attr → Standing
first_standing [] = primary
first_standing (c ∷ cs) = c.standing

abbrev pub attr_of : Form → List Attr → Attr
attr_of f cs = record {
  sort = sort_of f;
  standing = standing f (is_c (first_standing cs)) (is_target (first_standing cs));
  bare_in = is_in f || any_open (layout f cs) cs;
  begin = begin_of (layout f cs) cs;
  dangles = dangles_of f cs;
  single = single_of f cs;
}

unfoldable mutual
  pub attr : Tree → Attr
  attr (node h us) = attr_of h.form (attrs us)

  pub attrs : Forest → List Attr
  attrs nil = []
  attrs (u ▸ us) = attr u ∷ attrs us

abbrev pub fit_kids : Lay → List Attr → Bool
fit_kids end [] = true
fit_kids end (c ∷ cs) = false
fit_kids stop [] = true
fit_kids stop (c ∷ cs) = false
fit_kids (tok j ls) cs = fit_kids ls cs
fit_kids (kid i s ls) [] = false
fit_kids (kid i s ls) (c ∷ cs) = ok s c && fit_kids ls cs

unfoldable mutual
  pub good : Tree → Bool
  good (node h us) = fit_kids (layout h.form (attrs us)) (attrs us) && goods us

  pub goods : Forest → Bool
  goods nil = true
  goods (u ▸ us) = good u && goods us

abbrev pub Good : Tree → Type 0
Good t = T (good t)

-- What is written, from what the children write at their sites.
abbrev pub Text : Type 0
Text = Bool → List Code → List Code

abbrev pub stopped : Bool → List Code → List Code
stopped true k = k
stopped false k = semicolon ∷ k

abbrev pub fill : Bool → Lay → List Text → List Code → List Code
fill h end ws k = k
fill h stop ws k = stopped h k
fill h (tok j ls) ws k = j ∷ fill h ls ws k
fill h (kid i s ls) [] k = fill h ls [] k
fill h (kid i s ls) (w ∷ ws) k = w (in_head s) (fill h ls ws k)

unfoldable mutual
  pub wr : Bool → Tree → List Code → List Code
  wr h (node d us) k = fill h (layout d.form (attrs us)) (wrs us) k

  pub wrs : Forest → List Text
  wrs nil = []
  wrs (u ▸ us) = (λ h k. wr h u k) ∷ wrs us
