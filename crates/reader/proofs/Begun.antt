-- What begins a record and what goes on with one eats a token, and has no script in it.
use Rattle.std.proofs.Common.{Bool, true, false, cond, ◌&&◌, T, List, [], ◌∷◌}
use Rattle.token.specs.declared.Token.{Token}
use Rattle.token.specs.declared.Code.{Code}
use Rattle.token.specs.declared.Code.TheVariants as code
use Rattle.token.specs.declared.word.Word.{Word}
use Rattle.token.specs.declared.word.Word.TheVariants as word
use Rattle.token.specs.declared.punctuator.Punctuator.{Punctuator}
use Rattle.token.specs.declared.punctuator.Punctuator.TheVariants as punctuator
use Rattle.token.specs.declared.operator.Operator.{Operator}
use Rattle.token.specs.declared.operator.Operator.TheVariants as operator
use Rattle.kinds.specs.Levels.{Standing}
use Rattle.grammar.specs.Layout.{code_begin}
use Rattle.grammar.specs.Site.{is_other}
use Rattle.grammar.specs.Codes.{arrow}
use Rattle.grammar.proofs.Tests.{and_l, and_r, and_i}
use Rattle.grammar.specs.Parser.{Do, starts, opens, skip, prefix, opening, word_do, punctuator_do, operator_do, expr_do, stm_do, stm_opening, stm_word, stm_punctuator, arrow_do, paren_do, plain_do, frame_do, After, operates, assigns, counts, separates, asks, names_it, keys, calls, links, ends, cannot}
use Rattle.reader.specs.Table.{goal_of}
use Rattle.reader.specs.Reads.{eats}
use Rattle.reader.specs.Width.{plain}
use Rattle.reader.specs.declared.goal.Goal.{Goal}
use Rattle.reader.specs.declared.goal.Goal.TheVariants.{Expression, Statement, Block, Declaration, Property, Name}

-- One walk over the words and one over the punctuators serve expressions and statements alike.
abbrev both : Do → Bool
both s = eats s && plain s

pub either : (f : Do → Bool) (b : Bool) (s t : Do) → T (f s) → T (f t) → T (f (cond b s t))
either f true s t h k = h
either f false s t h k = k

word_both : (w : Word) → T (both (word_do w) && both (stm_word w))
word_both word.Null = tt
word_both word.True = tt
word_both word.False = tt
word_both word.This = tt
word_both word.Function = tt
word_both word.Typeof = tt
word_both word.Void = tt
word_both word.Delete = tt
word_both word.In = tt
word_both word.Instanceof = tt
word_both word.New = tt
word_both word.Await = tt
word_both word.Yield = tt
word_both word.Var = tt
word_both word.Return = tt
word_both word.If = tt
word_both word.Else = tt
word_both word.While = tt
word_both word.For = tt

punctuator_both : (p : Punctuator) (ks : List Token) → T (both (punctuator_do p ks) && both (stm_punctuator p))
punctuator_both punctuator.OpenParen ks = and_i (both (cond (starts arrow (skip 0 ks)) arrow_do paren_do)) _ (either both (starts arrow (skip 0 ks)) arrow_do paren_do tt tt) tt
punctuator_both punctuator.CloseParen ks = tt
punctuator_both punctuator.OpenBracket ks = tt
punctuator_both punctuator.CloseBracket ks = tt
punctuator_both punctuator.OpenBrace ks = tt
punctuator_both punctuator.CloseBrace ks = tt
punctuator_both punctuator.Semicolon ks = tt
punctuator_both punctuator.Comma ks = tt
punctuator_both punctuator.Dot ks = tt
punctuator_both punctuator.Colon ks = tt
punctuator_both punctuator.Question ks = tt
punctuator_both punctuator.QuestionDot ks = tt
punctuator_both punctuator.Arrow ks = tt

operator_both : (o : Operator) → T (both (operator_do o))
operator_both operator.Not = tt
operator_both operator.BitNot = tt
operator_both operator.Increment = tt
operator_both operator.Decrement = tt
operator_both operator.Plus = tt
operator_both operator.Minus = tt
operator_both operator.Multiply = tt
operator_both operator.Divide = tt
operator_both operator.Remainder = tt
operator_both operator.Exponent = tt
operator_both operator.LeftShift = tt
operator_both operator.RightShift = tt
operator_both operator.UnsignedRightShift = tt
operator_both operator.Less = tt
operator_both operator.LessOrEqual = tt
operator_both operator.Greater = tt
operator_both operator.GreaterOrEqual = tt
operator_both operator.Equal = tt
operator_both operator.NotEqual = tt
operator_both operator.StrictEqual = tt
operator_both operator.StrictNotEqual = tt
operator_both operator.BitAnd = tt
operator_both operator.BitXor = tt
operator_both operator.BitOr = tt
operator_both operator.And = tt
operator_both operator.Or = tt
operator_both operator.Coalesce = tt

opening_both : (c : Code) (ks : List Token) → T (both (opening c ks))
opening_both code.Name ks = tt
opening_both code.Number ks = tt
opening_both code.String ks = tt
opening_both (code.Word w) ks = and_l (both (word_do w)) _ (word_both w)
opening_both (code.Punctuator p) ks = and_l (both (punctuator_do p ks)) _ (punctuator_both p ks)
opening_both (code.Operator o) ks = operator_both o
opening_both (code.AssignOperator o) ks = tt

stm_opening_both : (c : Code) → T (both (stm_opening c))
stm_opening_both code.Name = tt
stm_opening_both code.Number = tt
stm_opening_both code.String = tt
stm_opening_both (code.Word w) = and_r (both (word_do w)) _ (word_both w)
stm_opening_both (code.Punctuator p) = and_r (both (punctuator_do p [])) _ (punctuator_both p [])
stm_opening_both (code.Operator o) = tt
stm_opening_both (code.AssignOperator o) = tt

expr_both : (ks : List Token) → T (both (expr_do ks))
expr_both [] = tt
expr_both (k ∷ ks) = opening_both k.code ks

stm_both : (ks : List Token) → T (both (stm_do ks))
stm_both [] = tt
stm_both (k ∷ ks) = either both (opens k.code && is_other (code_begin k.code)) plain_do (stm_opening k.code) tt (stm_opening_both k.code)

pub prefix_both : (q : Goal) (ks : List Token) → T (both (prefix (goal_of q) ks))
prefix_both (Expression p) ks = expr_both ks
prefix_both Statement ks = stm_both ks
prefix_both Block ks = tt
prefix_both Declaration ks = tt
prefix_both Property ks = tt
prefix_both Name ks = tt

pub frame_both : (a : After) (s : Standing) → T (both (frame_do a s))
frame_both (operates o) s = tt
frame_both (assigns o) s = tt
frame_both (counts o) s = tt
frame_both separates s = tt
frame_both asks s = tt
frame_both names_it s = tt
frame_both keys s = tt
frame_both calls s = tt
frame_both links s = tt
frame_both ends s = tt
frame_both cannot s = tt
