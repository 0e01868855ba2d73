-- A reader that computes: it looks at the next token, and at the standing of what it has read, and never goes back.
--
--   Do              what is left to do of a record: eat a token, read a child for a goal, look at the next token, and at last
--                   give the form
--   opening c ks    what to do at the token c that begins an expression, with ks behind it
--   After, after c  what the token c does behind an expression
--   takes b p s g   an expression of the standing s, read for the slot p, goes on with the token that does g (b: `in` may stand here)
--   parse n b q ks  a tree for the goal q at the head of ks, and what follows it; n bounds the steps
--
-- Assumes nothing.
use Rattle.std.specs.Prelude.{ℕ, zero, suc, Bool, true, false, cond, ◌&&◌, List, [], ◌∷◌}
use Rattle.std.proofs.Math.Option.{Option, none, some}
use Rattle.token.specs.Same.{same_code}
use Rattle.token.specs.declared.Token.{Token}
use Rattle.kinds.specs.Levels.{Standing, sequence, assignment, conditional, coalescing, disjunction, conjunction, bit_or, bit_xor, bit_and, equality, relation, shift, sum, product, power, update, optional, call, call_member, member, is_c, is_o, fits}
use Rattle.token.specs.declared.Code.{Code}
use Rattle.token.specs.declared.Code.TheVariants as code
use Rattle.token.specs.declared.word.Word.{Word}
use Rattle.token.specs.declared.word.Word.TheVariants as word
use Rattle.token.specs.declared.punctuator.Punctuator.{Punctuator}
use Rattle.token.specs.declared.punctuator.Punctuator.TheVariants as punctuator
use Rattle.token.specs.declared.operator.Operator.{Operator}
use Rattle.token.specs.declared.operator.Operator.TheVariants as operator
use Rattle.token.specs.declared.operator.AssignOperator.{AssignOperator}
use Rattle.kinds.specs.declared.operator.UnaryOperator.TheVariants as unary_op
use Rattle.kinds.specs.declared.operator.UpdateOperator.{UpdateOperator}
use Rattle.kinds.specs.declared.operator.UpdateOperator.TheVariants as update_op
use Rattle.kinds.specs.declared.operator.BinaryOperator.{BinaryOperator}
use Rattle.kinds.specs.declared.operator.BinaryOperator.TheVariants as binary
use Rattle.kinds.specs.declared.form.Constant.TheVariants as constant
use Rattle.kinds.specs.declared.form.Form.{Form}
use Rattle.kinds.specs.declared.form.Form.TheVariants as form
use Rattle.kinds.specs.declared.form.Binding.TheVariants as binding
use Rattle.kinds.specs.declared.form.Key.TheVariants as key
use Rattle.kinds.specs.declared.form.Own.TheVariants as own
use Rattle.kinds.specs.declared.form.Arguments.TheVariants as arguments
use Rattle.kinds.specs.declared.form.Link.TheVariants as link
use Rattle.kinds.specs.declared.form.Entry.TheVariants as entry
use Rattle.kinds.specs.declared.operator.Side.TheVariants as side
use Rattle.kinds.specs.declared.level.Slot.{Slot}
use Rattle.kinds.specs.declared.level.Slot.TheVariants as slot
use Rattle.grammar.specs.Codes.{open_paren, close_paren, open_bracket, close_bracket, open_brace, close_brace, semicolon, comma, dot, colon, question, question_dot, arrow, equals, word_this, word_function, word_in, word_new, word_await, word_yield, word_var, word_return, word_if, word_else, word_while, word_for, constant_code, unary_code, update_code, binary_code}
use Rattle.grammar.specs.Site.{Attr, is_expression}
use Rattle.grammar.specs.Tree.{head, head_of, Tree, Forest, node, nil, ◌▸◌}
use Rattle.grammar.specs.Layout.{attr, code_begin}
use Rattle.kinds.specs.Levels.{right_slot}
use Rattle.grammar.specs.Site.{is_other}
use Rattle.grammar.specs.Derives.{lo_of}

-- What to read: an expression for a slot, a statement, a Block, a Var in a head, a Prop, a Name of a Var, a script.
pub data Goal : Type 0 where
  ex : Slot → Goal
  stm blk dec prp nam scr : Goal

-- May an `in` stand in the open in a child: as in its parent, always, never.
pub data Mode : Type 0 where
  same free shut : Mode

abbrev pub mode : Mode → Bool → Bool
mode same b = b
mode free b = true
mode shut b = false

pub data Do : Type 0 where
  fail : Do
  fin : Form → Do
  eat : Code → Do → Do
  sub : Mode → Goal → Do → Do
  -- look whether the next token is this one
  peek : Code → Do → Do → Do
  -- `, x` as long as there is a comma
  more : Mode → Goal → Do → Do
  -- `x , x ..` up to this token, which is not eaten
  items : Goal → Code → Do → Do
  -- statements up to `}` or the end
  stms : Do → Do
  -- an operand, if the next token can begin one
  operand : Do → Do → Do
  -- the Names of a Var, from the first, and from behind one
  names behind : Do → Do

abbrev pub starts : Code → List Token → Bool
starts c [] = false
starts c (k ∷ ks) = same_code k.code c

-- What follows the `)` that closes the d-th open `(`.
abbrev pub down : ℕ → List Token → (ℕ → List Token) → List Token
down zero ks f = ks
down (suc d) ks f = f d

abbrev pub skip : ℕ → List Token → List Token
skip d [] = []
skip d (k ∷ ks) = cond (same_code k.code open_paren) (skip (suc d) ks) (cond (same_code k.code close_paren) (down d ks (λ e. skip e ks)) (skip d ks))

-- Expressions, by their first token.
abbrev pub list_up_to : Code → Do → Do
list_up_to c s = items (ex slot.Assignment) c (eat c s)

abbrev pub params_then : Do → Do
params_then s = eat open_paren (items (ex slot.Identifier) close_paren (eat close_paren s))

abbrev pub arrow_do : Do
arrow_do = params_then (eat arrow (peek open_brace (sub free blk (fin form.Arrow)) (sub same (ex slot.Assignment) (fin form.Arrow))))

abbrev pub paren_do : Do
paren_do = eat open_paren (sub free (ex slot.Expression) (eat close_paren (fin form.Paren)))

abbrev pub unary_do : Code → Form → Do
unary_do c f = eat c (sub same (ex slot.Unary) (fin f))

abbrev pub fn_do : Do
fn_do = eat word_function (peek open_paren (params_then (sub free blk (fin (form.Fn own.Nameless)))) (sub free (ex slot.Identifier) (params_then (sub free blk (fin (form.Fn own.Named))))))

abbrev pub new_do : Do
new_do = eat word_new (sub same (ex slot.New) (peek open_paren (eat open_paren (list_up_to close_paren (fin (form.New arguments.Listed)))) (fin (form.New arguments.Unlisted))))

abbrev pub yield_do : Do
yield_do = eat word_yield (operand (sub same (ex slot.Assignment) (fin form.Yield)) (fin form.Yield))

abbrev pub word_do : Word → Do
word_do word.Null = eat (constant_code constant.Null) (fin (form.Word constant.Null))
word_do word.True = eat (constant_code constant.True) (fin (form.Word constant.True))
word_do word.False = eat (constant_code constant.False) (fin (form.Word constant.False))
word_do word.This = eat word_this (fin form.This)
word_do word.Function = fn_do
word_do word.Typeof = unary_do (unary_code unary_op.Typeof) (form.Unary unary_op.Typeof)
word_do word.Void = unary_do (unary_code unary_op.Void) (form.Unary unary_op.Void)
word_do word.Delete = unary_do (unary_code unary_op.Delete) (form.Unary unary_op.Delete)
word_do word.In = fail
word_do word.Instanceof = fail
word_do word.New = new_do
word_do word.Await = unary_do word_await form.Await
word_do word.Yield = yield_do
word_do word.Var = fail
word_do word.Return = fail
word_do word.If = fail
word_do word.Else = fail
word_do word.While = fail
word_do word.For = fail

abbrev pub punctuator_do : Punctuator → List Token → Do
punctuator_do punctuator.OpenParen ks = cond (starts arrow (skip 0 ks)) arrow_do paren_do
punctuator_do punctuator.CloseParen ks = fail
punctuator_do punctuator.OpenBracket ks = eat open_bracket (list_up_to close_bracket (fin form.Array))
punctuator_do punctuator.CloseBracket ks = fail
punctuator_do punctuator.OpenBrace ks = eat open_brace (items prp close_brace (eat close_brace (fin form.Object)))
punctuator_do punctuator.CloseBrace ks = fail
punctuator_do punctuator.Semicolon ks = fail
punctuator_do punctuator.Comma ks = fail
punctuator_do punctuator.Dot ks = fail
punctuator_do punctuator.Colon ks = fail
punctuator_do punctuator.Question ks = fail
punctuator_do punctuator.QuestionDot ks = fail
punctuator_do punctuator.Arrow ks = fail

abbrev pub update_do : UpdateOperator → Do
update_do o = eat (update_code o) (sub same (ex slot.Call) (fin (form.Update o side.Before)))

abbrev pub operator_do : Operator → Do
operator_do operator.Not = unary_do (unary_code unary_op.Not) (form.Unary unary_op.Not)
operator_do operator.BitNot = unary_do (unary_code unary_op.BitNot) (form.Unary unary_op.BitNot)
operator_do operator.Increment = update_do update_op.Increment
operator_do operator.Decrement = update_do update_op.Decrement
operator_do operator.Plus = unary_do (unary_code unary_op.Plus) (form.Unary unary_op.Plus)
operator_do operator.Minus = unary_do (unary_code unary_op.Minus) (form.Unary unary_op.Minus)
operator_do operator.Multiply = fail
operator_do operator.Divide = fail
operator_do operator.Remainder = fail
operator_do operator.Exponent = fail
operator_do operator.LeftShift = fail
operator_do operator.RightShift = fail
operator_do operator.UnsignedRightShift = fail
operator_do operator.Less = fail
operator_do operator.LessOrEqual = fail
operator_do operator.Greater = fail
operator_do operator.GreaterOrEqual = fail
operator_do operator.Equal = fail
operator_do operator.NotEqual = fail
operator_do operator.StrictEqual = fail
operator_do operator.StrictNotEqual = fail
operator_do operator.BitAnd = fail
operator_do operator.BitXor = fail
operator_do operator.BitOr = fail
operator_do operator.And = fail
operator_do operator.Or = fail
operator_do operator.Coalesce = fail

abbrev pub opening : Code → List Token → Do
opening code.Name ks = eat code.Name (fin (form.Name binding.Plain))
opening code.Number ks = eat code.Number (fin form.Num)
opening code.String ks = eat code.String (fin form.Str)
opening (code.Word w) ks = word_do w
opening (code.Punctuator p) ks = punctuator_do p ks
opening (code.Operator o) ks = operator_do o
opening (code.AssignOperator o) ks = fail

abbrev pub works : Do → Bool
works fail = false
works (fin f) = true
works (eat c s) = true
works (sub m q s) = true
works (peek c s t) = true
works (more m q s) = true
works (items q c s) = true
works (stms s) = true
works (operand s t) = true
works (names s) = true
works (behind s) = true

-- Can the token begin an expression?
abbrev pub opens : Code → Bool
opens c = works (opening c [])

abbrev pub first_opens : List Token → Bool
first_opens [] = false
first_opens (k ∷ ks) = opens k.code

abbrev pub expr_do : List Token → Do
expr_do [] = fail
expr_do (k ∷ ks) = opening k.code ks

-- Statements.
abbrev pub block_do : Do
block_do = eat open_brace (stms (eat close_brace (fin form.Block)))

abbrev pub test_then : Code → Do → Do
test_then c s = eat c (eat open_paren (sub free (ex slot.Expression) (eat close_paren (sub free stm s))))

abbrev pub for_body : Form → Do
for_body f = eat close_paren (sub free stm (fin f))

abbrev pub for_update : Bool → Bool → Do
for_update i t = eat semicolon (peek close_paren (for_body (form.For i t false)) (sub free (ex slot.Expression) (for_body (form.For i t true))))

abbrev pub for_test : Bool → Do
for_test i = eat semicolon (peek semicolon (for_update i false) (sub free (ex slot.Expression) (for_update i true)))

abbrev pub in_or : Do
in_or = peek word_in (eat word_in (sub free (ex slot.Expression) (for_body form.ForIn))) (for_test true)

abbrev pub for_do : Do
for_do = eat word_for (eat open_paren (peek semicolon (for_test false) (peek word_var (sub shut dec in_or) (sub shut (ex slot.Expression) in_or))))

abbrev pub if_do : Do
if_do = test_then word_if (peek word_else (eat word_else (sub free stm (fin form.If))) (fin form.If))

abbrev pub return_do : Do
return_do = eat word_return (peek semicolon (eat semicolon (fin form.Return)) (sub free (ex slot.Expression) (eat semicolon (fin form.Return))))

-- A Labeled and an ExprStmt both begin with an expression.
abbrev pub plain_do : Do
plain_do = sub free (ex slot.Expression) (peek colon (eat colon (sub free stm (fin form.Labeled))) (eat semicolon (fin form.ExprStmt)))

abbrev pub stm_word : Word → Do
stm_word word.Null = fail
stm_word word.True = fail
stm_word word.False = fail
stm_word word.This = fail
stm_word word.Function = fail
stm_word word.Typeof = fail
stm_word word.Void = fail
stm_word word.Delete = fail
stm_word word.In = fail
stm_word word.Instanceof = fail
stm_word word.New = fail
stm_word word.Await = fail
stm_word word.Yield = fail
stm_word word.Var = eat word_var (names (eat semicolon (fin form.Var)))
stm_word word.Return = return_do
stm_word word.If = if_do
stm_word word.Else = fail
stm_word word.While = test_then word_while (fin form.While)
stm_word word.For = for_do

abbrev pub stm_punctuator : Punctuator → Do
stm_punctuator punctuator.OpenParen = fail
stm_punctuator punctuator.CloseParen = fail
stm_punctuator punctuator.OpenBracket = fail
stm_punctuator punctuator.CloseBracket = fail
stm_punctuator punctuator.OpenBrace = block_do
stm_punctuator punctuator.CloseBrace = fail
stm_punctuator punctuator.Semicolon = eat semicolon (fin form.Empty)
stm_punctuator punctuator.Comma = fail
stm_punctuator punctuator.Dot = fail
stm_punctuator punctuator.Colon = fail
stm_punctuator punctuator.Question = fail
stm_punctuator punctuator.QuestionDot = fail
stm_punctuator punctuator.Arrow = fail

abbrev pub stm_opening : Code → Do
stm_opening code.Name = fail
stm_opening code.Number = fail
stm_opening code.String = fail
stm_opening (code.Word w) = stm_word w
stm_opening (code.Punctuator p) = stm_punctuator p
stm_opening (code.Operator o) = fail
stm_opening (code.AssignOperator o) = fail

abbrev pub stm_do : List Token → Do
stm_do [] = fail
stm_do (k ∷ ks) = cond (opens k.code && is_other (code_begin k.code)) plain_do (stm_opening k.code)

abbrev pub prop_do : Do
prop_do = peek open_bracket (eat open_bracket (sub free (ex slot.Assignment) (eat close_bracket (eat colon (sub free (ex slot.Assignment) (fin (form.Prop key.Computed))))))) (sub free (ex slot.PropertyName) (eat colon (sub free (ex slot.Assignment) (fin (form.Prop key.Fixed)))))

abbrev pub tail_of : List Token → List Token
tail_of [] = []
tail_of (k ∷ ks) = ks

abbrev pub name_do : List Token → Do
name_do ks = eat code.Name (fin (form.Name (cond (starts equals (tail_of ks)) binding.Valued binding.Plain)))

abbrev pub prefix : Goal → List Token → Do
prefix (ex p) ks = expr_do ks
prefix stm ks = stm_do ks
prefix blk ks = block_do
prefix dec ks = eat word_var (names (fin form.Var))
prefix prp ks = prop_do
prefix nam ks = name_do ks
prefix scr ks = stms (fin form.Script)

-- What a token does behind an expression.
pub data After : Type 0 where
  operates : BinaryOperator → After
  assigns : AssignOperator → After
  counts : UpdateOperator → After
  separates asks names_it keys calls links ends cannot : After

abbrev pub word_after : Word → After
word_after word.Null = cannot
word_after word.True = cannot
word_after word.False = cannot
word_after word.This = cannot
word_after word.Function = cannot
word_after word.Typeof = cannot
word_after word.Void = cannot
word_after word.Delete = cannot
word_after word.In = operates binary.In
word_after word.Instanceof = operates binary.Instanceof
word_after word.New = cannot
word_after word.Await = cannot
word_after word.Yield = cannot
word_after word.Var = cannot
word_after word.Return = cannot
word_after word.If = cannot
word_after word.Else = cannot
word_after word.While = cannot
word_after word.For = cannot

abbrev pub punctuator_after : Punctuator → After
punctuator_after punctuator.OpenParen = calls
punctuator_after punctuator.CloseParen = ends
punctuator_after punctuator.OpenBracket = keys
punctuator_after punctuator.CloseBracket = ends
punctuator_after punctuator.OpenBrace = cannot
punctuator_after punctuator.CloseBrace = ends
punctuator_after punctuator.Semicolon = ends
punctuator_after punctuator.Comma = separates
punctuator_after punctuator.Dot = names_it
punctuator_after punctuator.Colon = ends
punctuator_after punctuator.Question = asks
punctuator_after punctuator.QuestionDot = links
punctuator_after punctuator.Arrow = cannot

abbrev pub operator_after : Operator → After
operator_after operator.Not = cannot
operator_after operator.BitNot = cannot
operator_after operator.Increment = counts update_op.Increment
operator_after operator.Decrement = counts update_op.Decrement
operator_after operator.Plus = operates binary.Add
operator_after operator.Minus = operates binary.Subtract
operator_after operator.Multiply = operates binary.Multiply
operator_after operator.Divide = operates binary.Divide
operator_after operator.Remainder = operates binary.Remainder
operator_after operator.Exponent = operates binary.Exponent
operator_after operator.LeftShift = operates binary.LeftShift
operator_after operator.RightShift = operates binary.RightShift
operator_after operator.UnsignedRightShift = operates binary.UnsignedRightShift
operator_after operator.Less = operates binary.Less
operator_after operator.LessOrEqual = operates binary.LessOrEqual
operator_after operator.Greater = operates binary.Greater
operator_after operator.GreaterOrEqual = operates binary.GreaterOrEqual
operator_after operator.Equal = operates binary.Equal
operator_after operator.NotEqual = operates binary.NotEqual
operator_after operator.StrictEqual = operates binary.StrictEqual
operator_after operator.StrictNotEqual = operates binary.StrictNotEqual
operator_after operator.BitAnd = operates binary.BitAnd
operator_after operator.BitXor = operates binary.BitXor
operator_after operator.BitOr = operates binary.BitOr
operator_after operator.And = operates binary.And
operator_after operator.Or = operates binary.Or
operator_after operator.Coalesce = operates binary.Coalesce

abbrev pub after : Code → After
after code.Name = cannot
after code.Number = cannot
after code.String = cannot
after (code.Word w) = word_after w
after (code.Punctuator p) = punctuator_after p
after (code.Operator o) = operator_after o
after (code.AssignOperator o) = assigns o

abbrev pub next : List Token → After
next [] = ends
next (k ∷ ks) = after k.code

-- The same without operators that behave alike.
pub data Frame : Type 0 where
  f_seq f_asg f_cnd f_nul f_or f_and f_bor f_xor f_band f_eq f_rel f_in f_shf f_add f_mul f_pow f_post f_mem f_call f_link f_end f_never : Frame

abbrev pub binary_frame : BinaryOperator → Frame
binary_frame binary.Coalesce = f_nul
binary_frame binary.Or = f_or
binary_frame binary.And = f_and
binary_frame binary.BitOr = f_bor
binary_frame binary.BitXor = f_xor
binary_frame binary.BitAnd = f_band
binary_frame binary.Equal = f_eq
binary_frame binary.NotEqual = f_eq
binary_frame binary.StrictEqual = f_eq
binary_frame binary.StrictNotEqual = f_eq
binary_frame binary.Less = f_rel
binary_frame binary.LessOrEqual = f_rel
binary_frame binary.Greater = f_rel
binary_frame binary.GreaterOrEqual = f_rel
binary_frame binary.In = f_in
binary_frame binary.Instanceof = f_rel
binary_frame binary.LeftShift = f_shf
binary_frame binary.RightShift = f_shf
binary_frame binary.UnsignedRightShift = f_shf
binary_frame binary.Add = f_add
binary_frame binary.Subtract = f_add
binary_frame binary.Multiply = f_mul
binary_frame binary.Divide = f_mul
binary_frame binary.Remainder = f_mul
binary_frame binary.Exponent = f_pow

abbrev pub frame : After → Frame
frame (operates o) = binary_frame o
frame (assigns o) = f_asg
frame (counts o) = f_post
frame separates = f_seq
frame asks = f_cnd
frame names_it = f_mem
frame keys = f_mem
frame calls = f_call
frame links = f_link
frame ends = f_end
frame cannot = f_never

-- Which slot the first child of such a form stands in.
abbrev pub first_slot : Frame → Slot
first_slot f_seq = slot.Assignment
first_slot f_asg = slot.Target
first_slot f_cnd = slot.ShortCircuit
first_slot f_nul = slot.Coalesce
first_slot f_or = slot.LogicalOr
first_slot f_and = slot.LogicalAnd
first_slot f_bor = slot.BitwiseOr
first_slot f_xor = slot.BitwiseXor
first_slot f_band = slot.BitwiseAnd
first_slot f_eq = slot.Equality
first_slot f_rel = slot.Relational
first_slot f_in = slot.Relational
first_slot f_shf = slot.Shift
first_slot f_add = slot.Additive
first_slot f_mul = slot.Multiplicative
first_slot f_pow = slot.Update
first_slot f_post = slot.Target
first_slot f_mem = slot.Optional
first_slot f_call = slot.Optional
first_slot f_link = slot.Optional
first_slot f_end = slot.Expression
first_slot f_never = slot.Expression

-- The standing of the form, over a first child of the standing s.
abbrev pub grown : Frame → Standing → Standing
grown f_seq s = sequence
grown f_asg s = assignment
grown f_cnd s = conditional
grown f_nul s = coalescing
grown f_or s = disjunction
grown f_and s = conjunction
grown f_bor s = bit_or
grown f_xor s = bit_xor
grown f_band s = bit_and
grown f_eq s = equality
grown f_rel s = relation
grown f_in s = relation
grown f_shf s = shift
grown f_add s = sum
grown f_mul s = product
grown f_pow s = power
grown f_post s = update
grown f_mem s = cond (is_o s) optional (cond (is_c s) call_member member)
grown f_call s = cond (is_o s) optional call
grown f_link s = optional
grown f_end s = s
grown f_never s = s

-- Is it a form at all, where `in` may stand (b) or may not?
abbrev pub is_frame : Bool → Frame → Bool
is_frame b f_seq = true
is_frame b f_asg = true
is_frame b f_cnd = true
is_frame b f_nul = true
is_frame b f_or = true
is_frame b f_and = true
is_frame b f_bor = true
is_frame b f_xor = true
is_frame b f_band = true
is_frame b f_eq = true
is_frame b f_rel = true
is_frame b f_in = b
is_frame b f_shf = true
is_frame b f_add = true
is_frame b f_mul = true
is_frame b f_pow = true
is_frame b f_post = true
is_frame b f_mem = true
is_frame b f_call = true
is_frame b f_link = true
is_frame b f_end = false
is_frame b f_never = false

abbrev pub takes : Bool → Slot → Standing → Frame → Bool
takes b p s g = is_frame b g && (fits (first_slot g) s && fits p (grown g s))

-- A statement, a Block .. does not go on.
abbrev pub goes_on : Bool → Goal → Attr → Frame → Bool
goes_on b (ex p) a g = is_expression a && takes b p a.standing g
goes_on b stm a g = false
goes_on b blk a g = false
goes_on b dec a g = false
goes_on b prp a g = false
goes_on b nam a g = false
goes_on b scr a g = false

abbrev pub frame_do : After → Standing → Do
frame_do (operates o) s = eat (binary_code o) (sub same (ex (right_slot o)) (fin (form.Bin o)))
frame_do (assigns o) s = eat (code.AssignOperator o) (sub same (ex slot.Assignment) (fin (form.Assign o)))
frame_do (counts o) s = eat (update_code o) (fin (form.Update o side.After))
frame_do separates s = eat comma (sub same (ex slot.Assignment) (more same (ex slot.Assignment) (fin form.Seq)))
frame_do asks s = eat question (sub free (ex slot.Assignment) (eat colon (sub same (ex slot.Assignment) (fin form.Cond))))
frame_do names_it s = eat dot (sub free (ex slot.Identifier) (fin (cond (is_o s) (form.Chain link.Name entry.Tail) (form.Member key.Fixed))))
frame_do keys s = eat open_bracket (sub free (ex slot.Expression) (eat close_bracket (fin (cond (is_o s) (form.Chain link.Key entry.Tail) (form.Member key.Computed)))))
frame_do calls s = eat open_paren (list_up_to close_paren (fin (cond (is_o s) (form.Chain link.Call entry.Tail) form.Call)))
frame_do links s = eat question_dot (peek open_paren (eat open_paren (list_up_to close_paren (fin (form.Chain link.Call entry.Optional)))) (peek open_bracket (eat open_bracket (sub free (ex slot.Expression) (eat close_bracket (fin (form.Chain link.Key entry.Optional))))) (sub free (ex slot.Identifier) (fin (form.Chain link.Name entry.Optional)))))
frame_do ends s = fail
frame_do cannot s = fail

-- Look ahead until there is something to do.
abbrev pub at_stop : List Token → Bool
at_stop [] = true
at_stop (k ∷ ks) = same_code k.code close_brace

abbrev pub settle : Do → List Token → Do
settle fail ks = fail
settle (fin f) ks = fin f
settle (eat c s) ks = eat c s
settle (sub m q s) ks = sub m q s
settle (peek c s t) ks = cond (starts c ks) (settle s ks) (settle t ks)
settle (more m q s) ks = cond (starts comma ks) (eat comma (sub m q (more m q s))) (settle s ks)
settle (items q c s) ks = cond (starts c ks) (settle s ks) (sub free q (more free q s))
settle (stms s) ks = cond (at_stop ks) (settle s ks) (sub free stm (stms s))
settle (operand s t) ks = cond (first_opens ks) (settle s ks) (settle t ks)
settle (names s) ks = sub free nam (peek equals (eat equals (sub same (ex slot.Assignment) (behind s))) (behind s))
settle (behind s) ks = cond (starts comma ks) (eat comma (names s)) (settle s ks)

-- What is known when a record is complete: its form, its children, where its last token ends, what follows.
pub record Ran : Type 0 where
  pub form : Form
  pub kids : Forest
  pub upto : ℕ
  pub left : List Token

abbrev pub ran : Form → Forest → ℕ → List Token → Ran
ran f us h r = record { form = f; kids = us; upto = h; left = r }

abbrev pub bind : {A B : Type 0} → Option A → (A → Option B) → Option B
bind none f = none
bind (some x) f = f x

abbrev pub Res : Type 0
Res = Option (Tree × List Token)

-- One step, over what reads children and what does the rest.
module _ (P : Bool → Goal → List Token → Res) (R : Bool → Do → ℕ → List Token → Option Ran) where
  abbrev pub exec : Bool → Do → ℕ → List Token → Option Ran
  exec b fail h ks = none
  exec b (fin f) h ks = some (ran f nil h ks)
  exec b (eat c s) h [] = none
  exec b (eat c s) h (k ∷ ks) = cond (same_code k.code c) (R b s k.hi ks) none
  exec b (sub m q s) h ks = bind (P (mode m b) q ks) λ x. bind (R b s (head_of x.0).hi x.1) λ y. some (ran y.form (x.0 ▸ y.kids) y.upto y.left)
  exec b (peek c s t) h ks = none
  exec b (more m q s) h ks = none
  exec b (items q c s) h ks = none
  exec b (stms s) h ks = none
  exec b (operand s t) h ks = none
  exec b (names s) h ks = none
  exec b (behind s) h ks = none

abbrev pub begun : List Token → Ran → Tree
begun ks y = node (head y.form (lo_of ks) y.upto) y.kids

abbrev pub grown_on : Tree → Ran → Tree
grown_on t y = node (head y.form (head_of t).lo y.upto) (t ▸ y.kids)

unfoldable mutual
  pub parse : ℕ → Bool → Goal → List Token → Res
  parse zero b q ks = none
  parse (suc n) b q ks = bind (perform n b (prefix q ks) 0 ks) λ y. loop n b q (begun ks y) y.left

  pub loop : ℕ → Bool → Goal → Tree → List Token → Res
  loop zero b q t ks = none
  loop (suc n) b q t ks =
      cond (goes_on b q (attr t) (frame (next ks)))
      (bind (perform n b (frame_do (next ks) (attr t).standing) (head_of t).hi ks) λ y. loop n b q (grown_on t y) y.left)
      (some (t, ks))

  pub perform : ℕ → Bool → Do → ℕ → List Token → Option Ran
  perform zero b s h ks = none
  perform (suc n) b s h ks = exec (parse n) (perform n) b (settle s ks) h ks
