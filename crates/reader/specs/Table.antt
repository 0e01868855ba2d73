-- What the code's tables stand for in the reader of the grammar.
--
--   Peeked ks c   c is the code of the first token of ks, if there is one
--   goal_of mode_of do_of     the goal, the mode, and what is left to do, that a value of the code stands for
--   do_or_fail    the same, or that there is nothing to do
--   to_do         the next thing to do
--   turn_of       what a token does behind an expression
--   linked        the form of a member or a call
--
-- Assumes nothing.
use Rattle.std.specs.Prelude.{◌≡◌, Bool, true, false, T, List, [], ◌∷◌, Some, None, Option}
use Rattle.token.specs.declared.Token.{Token}
use Rattle.token.specs.declared.Code.{Code}
use Rattle.kinds.specs.declared.form.Form.{Form}
use Rattle.kinds.specs.declared.form.Form.TheVariants as form
use Rattle.kinds.specs.declared.form.Key.TheVariants as key
use Rattle.kinds.specs.declared.form.Own.TheVariants as own
use Rattle.kinds.specs.declared.form.Arguments.TheVariants as arguments
use Rattle.kinds.specs.declared.form.Link.{Link}
use Rattle.kinds.specs.declared.form.Link.TheVariants as link
use Rattle.kinds.specs.declared.form.Entry.TheVariants as entry
use Rattle.kinds.specs.declared.level.Slot.TheVariants as slot
use Rattle.grammar.specs.Codes.{open_paren, close_paren, open_bracket, close_bracket, open_brace, close_brace, semicolon, comma, colon, question, question_dot, arrow, equals, word_var, word_if, word_else, word_while}
use Rattle.grammar.specs.Parser as parser
use Rattle.kinds.specs.Levels.{Standing, standing, is_c, is_o, is_target}
use Rattle.grammar.specs.Parser.{Do, fail, fin, eat, sub, peek, more, items, stms, operand, names, behind, for_test, for_update, for_body, in_or, block_do, return_do, plain_do, for_do, prop_do, fn_do, new_do, yield_do, test_then, params_then, frame_do, frame, is_frame, grown}
use Rattle.reader.specs.declared.goal.Goal.{Goal}
use Rattle.reader.specs.declared.goal.Goal.TheVariants.{Expression, Statement, Block as BlockG, Declaration, Property as PropertyG, Name}
use Rattle.reader.specs.declared.goal.Mode.{Mode}
use Rattle.reader.specs.declared.goal.Mode.TheVariants.{Same, Free, Shut}
use Rattle.reader.specs.declared.rest.List.{List as ListR}
use Rattle.reader.specs.declared.rest.List.TheVariants.{Elements, Properties, Arguments, ArrowParameters, Parameters}
use Rattle.reader.specs.declared.rest.Body.{Body}
use Rattle.reader.specs.declared.rest.Body.TheVariants.{Block as BlockB, Script}
use Rattle.reader.specs.declared.rest.Tested.{Tested}
use Rattle.reader.specs.declared.rest.Tested.TheVariants.{If, While}
use Rattle.reader.specs.declared.rest.Declared.{Declared}
use Rattle.reader.specs.declared.rest.Declared.TheVariants.{Statement as StatementD, Head}
use Rattle.reader.specs.declared.rest.Rest.{Rest}
use Rattle.reader.specs.declared.rest.Rest.TheVariants as rest
use Rattle.reader.specs.declared.turn.Turn.{Turn}
use Rattle.reader.specs.declared.turn.Turn.TheVariants as turn
use Rattle.reader.specs.declared.step.Step.{Step}
use Rattle.reader.specs.declared.step.Step.TheVariants as step

-- The code of the first token, if there is one.
abbrev pub Peeked : List Token → Option Code → Type 0
Peeked ks None = ks ≡ []
Peeked ks (Some c) = (k : Token) × (r : List Token) × (k.code ≡ c) × (ks ≡ k ∷ r)

abbrev pub goal_of : Goal → parser.Goal
goal_of (Expression p) = parser.ex p
goal_of Statement = parser.stm
goal_of BlockG = parser.blk
goal_of Declaration = parser.dec
goal_of PropertyG = parser.prp
goal_of Name = parser.nam

abbrev pub mode_of : Mode → parser.Mode
mode_of Same = parser.same
mode_of Free = parser.free
mode_of Shut = parser.shut

abbrev pub part_of : ListR → Goal
part_of Elements = Expression slot.Assignment
part_of Properties = PropertyG
part_of (Arguments f) = Expression slot.Assignment
part_of ArrowParameters = Expression slot.Identifier
part_of (Parameters o) = Expression slot.Identifier

abbrev pub open_of : ListR → Code
open_of Elements = open_bracket
open_of Properties = open_brace
open_of (Arguments f) = open_paren
open_of ArrowParameters = open_paren
open_of (Parameters o) = open_paren

abbrev pub close_of : ListR → Code
close_of Elements = close_bracket
close_of Properties = close_brace
close_of (Arguments f) = close_paren
close_of ArrowParameters = close_paren
close_of (Parameters o) = close_paren

abbrev pub arrow_body : Do
arrow_body = peek open_brace (sub parser.free parser.blk (fin form.Arrow)) (sub parser.same (parser.ex slot.Assignment) (fin form.Arrow))

-- Behind the list.
abbrev pub behind_of : ListR → Do
behind_of Elements = fin form.Array
behind_of Properties = fin form.Object
behind_of (Arguments f) = fin f
behind_of ArrowParameters = eat arrow arrow_body
behind_of (Parameters o) = sub parser.free parser.blk (fin (form.Fn o))

abbrev pub parts_of : ListR → Do
parts_of l = items (goal_of (part_of l)) (close_of l) (eat (close_of l) (behind_of l))

abbrev pub more_of : ListR → Do
more_of l = more parser.free (goal_of (part_of l)) (eat (close_of l) (behind_of l))

abbrev pub body_end : Body → Do
body_end BlockB = eat close_brace (fin form.Block)
body_end Script = fin form.Script

abbrev pub else_do : Do
else_do = peek word_else (eat word_else (sub parser.free parser.stm (fin form.If))) (fin form.If)

abbrev pub tested_end : Tested → Do
tested_end If = else_do
tested_end While = fin form.While

abbrev pub tested_word : Tested → Code
tested_word If = word_if
tested_word While = word_while

abbrev pub var_end : Declared → Do
var_end StatementD = eat semicolon (fin form.Var)
var_end Head = fin form.Var

abbrev pub value : Do → Do
value s = sub parser.same (parser.ex slot.Assignment) s

abbrev pub inner : Do → Do
inner s = sub parser.free (parser.ex slot.Assignment) s

abbrev pub any : Do → Do
any s = sub parser.free (parser.ex slot.Expression) s

abbrev pub do_of : Rest → Do
do_of (rest.Done f) = fin f
do_of (rest.Token c f) = eat c (fin f)
do_of (rest.Last m q f) = sub (mode_of m) (goal_of q) (fin f)
do_of (rest.TokenLast c m q f) = eat c (sub (mode_of m) (goal_of q) (fin f))
do_of (rest.Closed q c f) = sub parser.free (goal_of q) (eat c (fin f))
do_of (rest.Enclosed o q c f) = eat o (sub parser.free (goal_of q) (eat c (fin f)))
do_of (rest.Open l) = eat (open_of l) (parts_of l)
do_of (rest.Items l) = parts_of l
do_of (rest.More l) = more_of l
do_of (rest.Next l) = sub parser.free (goal_of (part_of l)) (more_of l)
do_of rest.ArrowSign = eat arrow arrow_body
do_of rest.ArrowBody = arrow_body
do_of rest.Function = fn_do
do_of rest.FunctionHead = peek open_paren (eat open_paren (parts_of (Parameters own.Nameless))) (sub parser.free (parser.ex slot.Identifier) (eat open_paren (parts_of (Parameters own.Named))))
do_of rest.New = new_do
do_of rest.NewCallee = sub parser.same (parser.ex slot.New) (peek open_paren (eat open_paren (parts_of (Arguments (form.New arguments.Listed)))) (fin (form.New arguments.Unlisted)))
do_of rest.NewArguments = peek open_paren (eat open_paren (parts_of (Arguments (form.New arguments.Listed)))) (fin (form.New arguments.Unlisted))
do_of rest.Yield = yield_do
do_of rest.YieldOperand = operand (value (fin form.Yield)) (fin form.Yield)
do_of rest.Comma = eat comma (value (more parser.same (parser.ex slot.Assignment) (fin form.Seq)))
do_of rest.Element = value (more parser.same (parser.ex slot.Assignment) (fin form.Seq))
do_of rest.MoreElements = more parser.same (parser.ex slot.Assignment) (fin form.Seq)
do_of rest.Question = eat question (inner (eat colon (value (fin form.Cond))))
do_of rest.Middle = inner (eat colon (value (fin form.Cond)))
do_of rest.OptionalSign = eat question_dot (peek open_paren (eat open_paren (parts_of (Arguments (form.Chain link.Call entry.Optional)))) (peek open_bracket (eat open_bracket (any (eat close_bracket (fin (form.Chain link.Key entry.Optional))))) (sub parser.free (parser.ex slot.Identifier) (fin (form.Chain link.Name entry.Optional)))))
do_of rest.Link = peek open_paren (eat open_paren (parts_of (Arguments (form.Chain link.Call entry.Optional)))) (peek open_bracket (eat open_bracket (any (eat close_bracket (fin (form.Chain link.Key entry.Optional))))) (sub parser.free (parser.ex slot.Identifier) (fin (form.Chain link.Name entry.Optional))))
do_of rest.Block = block_do
do_of (rest.Statements b) = stms (body_end b)
do_of (rest.Test t) = test_then (tested_word t) (tested_end t)
do_of (rest.TestOpen t) = eat open_paren (any (eat close_paren (sub parser.free parser.stm (tested_end t))))
do_of (rest.TestInside t) = any (eat close_paren (sub parser.free parser.stm (tested_end t)))
do_of (rest.TestClose t) = eat close_paren (sub parser.free parser.stm (tested_end t))
do_of (rest.TestBody t) = sub parser.free parser.stm (tested_end t)
do_of rest.Else = else_do
do_of rest.Return = return_do
do_of rest.ReturnValue = peek semicolon (eat semicolon (fin form.Return)) (any (eat semicolon (fin form.Return)))
do_of rest.Plain = plain_do
do_of rest.PlainEnd = peek colon (eat colon (sub parser.free parser.stm (fin form.Labeled))) (eat semicolon (fin form.ExprStmt))
do_of rest.For = for_do
do_of rest.ForOpen = eat open_paren (peek semicolon (for_test false) (peek word_var (sub parser.shut parser.dec in_or) (sub parser.shut (parser.ex slot.Expression) in_or)))
do_of rest.ForInit = peek semicolon (for_test false) (peek word_var (sub parser.shut parser.dec in_or) (sub parser.shut (parser.ex slot.Expression) in_or))
do_of rest.ForHead = in_or
do_of rest.ForObject = any (for_body form.ForIn)
do_of (rest.ForTest i) = peek semicolon (for_update i false) (any (for_update i true))
do_of (rest.ForSecond i) = for_update i true
do_of (rest.ForUpdate i t) = peek close_paren (for_body (form.For i t false)) (any (for_body (form.For i t true)))
do_of rest.Property = prop_do
do_of rest.ComputedKey = inner (eat close_bracket (eat colon (inner (fin (form.Prop key.Computed)))))
do_of rest.KeyClose = eat close_bracket (eat colon (inner (fin (form.Prop key.Computed))))
do_of (rest.Var d) = eat word_var (names (var_end d))
do_of (rest.Names d) = names (var_end d)
do_of (rest.Bound d) = peek equals (eat equals (value (behind (var_end d)))) (behind (var_end d))
do_of (rest.Value d) = value (behind (var_end d))
do_of (rest.MoreNames d) = behind (var_end d)

-- Where nothing begins, what is left to do fails.
abbrev pub do_or_fail : Option Rest → Do
do_or_fail None = fail
do_or_fail (Some r) = do_of r

abbrev pub to_do : Step → Do
to_do (step.Finish f) = fin f
to_do (step.Eat c r) = eat c (do_of r)
to_do (step.Read m q r) = sub (mode_of m) (goal_of q) (do_of r)

abbrev pub turn_of : Turn → parser.After
turn_of (turn.Operates o) = parser.operates o
turn_of (turn.Assigns o) = parser.assigns o
turn_of (turn.Counts o) = parser.counts o
turn_of turn.Separates = parser.separates
turn_of turn.Asks = parser.asks
turn_of turn.Names = parser.names_it
turn_of turn.Keys = parser.keys
turn_of turn.Calls = parser.calls
turn_of turn.Links = parser.links
turn_of turn.Ends = parser.ends
turn_of turn.Cannot = parser.cannot

-- The form of a member or a call, as a tail of an optional chain or outside of one.
abbrev pub linked : Link → Bool → Form
linked l true = form.Chain l entry.Tail
linked link.Name false = form.Member key.Fixed
linked link.Key false = form.Member key.Computed
linked link.Call false = form.Call

-- What is left to do behind an expression of any standing that is, or is not, a link of an optional chain.
abbrev pub Turns : parser.After → Bool → Do → Type 0
Turns a chained d = (s : Standing) → is_o s ≡ chained → d ≡ frame_do a s

-- The form is of the standing that the expression before it grows to.
abbrev pub Grows : parser.After → Bool → Form → Type 0
Grows a chained f = (s : Standing) → is_o s ≡ chained → (b : Bool) → T (is_frame b (frame a)) → standing f (is_c s) (is_target s) ≡ grown (frame a) s
