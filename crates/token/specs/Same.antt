-- When two codes are the same, as a test that computes.
--
--   word_rank w         the place of w in the list of words, from 0; so for the punctuators and both sorts of operators
--   same_code a b       whether a and b are one code: of one sort, and of one rank within it
--   DecidesEquality     same_code is true of a code and itself, and of no two different ones
--
-- Assumes nothing.
use Rattle.std.specs.Prelude.{ℕ, ◌≡◌, Bool, ◌&&◌, T, eqb}
use Rattle.token.specs.declared.Code.{Code}
use Rattle.token.specs.declared.Code.TheVariants as code
use Rattle.token.specs.declared.word.Word.{Word}
use Rattle.token.specs.declared.word.Word.TheVariants as word
use Rattle.token.specs.declared.punctuator.Punctuator.{Punctuator}
use Rattle.token.specs.declared.punctuator.Punctuator.TheVariants as punctuator
use Rattle.token.specs.declared.operator.Operator.{Operator}
use Rattle.token.specs.declared.operator.Operator.TheVariants as operator
use Rattle.token.specs.declared.operator.AssignOperator.{AssignOperator}
use Rattle.token.specs.declared.operator.AssignOperator.TheVariants as assign

abbrev pub word_rank : Word → ℕ
word_rank word.Null = 0
word_rank word.True = 1
word_rank word.False = 2
word_rank word.This = 3
word_rank word.Function = 4
word_rank word.Typeof = 5
word_rank word.Void = 6
word_rank word.Delete = 7
word_rank word.In = 8
word_rank word.Instanceof = 9
word_rank word.New = 10
word_rank word.Await = 11
word_rank word.Yield = 12
word_rank word.Var = 13
word_rank word.Return = 14
word_rank word.If = 15
word_rank word.Else = 16
word_rank word.While = 17
word_rank word.For = 18

abbrev pub punctuator_rank : Punctuator → ℕ
punctuator_rank punctuator.OpenParen = 0
punctuator_rank punctuator.CloseParen = 1
punctuator_rank punctuator.OpenBracket = 2
punctuator_rank punctuator.CloseBracket = 3
punctuator_rank punctuator.OpenBrace = 4
punctuator_rank punctuator.CloseBrace = 5
punctuator_rank punctuator.Semicolon = 6
punctuator_rank punctuator.Comma = 7
punctuator_rank punctuator.Dot = 8
punctuator_rank punctuator.Colon = 9
punctuator_rank punctuator.Question = 10
punctuator_rank punctuator.QuestionDot = 11
punctuator_rank punctuator.Arrow = 12

abbrev pub operator_rank : Operator → ℕ
operator_rank operator.Not = 0
operator_rank operator.BitNot = 1
operator_rank operator.Increment = 2
operator_rank operator.Decrement = 3
operator_rank operator.Plus = 4
operator_rank operator.Minus = 5
operator_rank operator.Multiply = 6
operator_rank operator.Divide = 7
operator_rank operator.Remainder = 8
operator_rank operator.Exponent = 9
operator_rank operator.LeftShift = 10
operator_rank operator.RightShift = 11
operator_rank operator.UnsignedRightShift = 12
operator_rank operator.Less = 13
operator_rank operator.LessOrEqual = 14
operator_rank operator.Greater = 15
operator_rank operator.GreaterOrEqual = 16
operator_rank operator.Equal = 17
operator_rank operator.NotEqual = 18
operator_rank operator.StrictEqual = 19
operator_rank operator.StrictNotEqual = 20
operator_rank operator.BitAnd = 21
operator_rank operator.BitXor = 22
operator_rank operator.BitOr = 23
operator_rank operator.And = 24
operator_rank operator.Or = 25
operator_rank operator.Coalesce = 26

abbrev pub assign_rank : AssignOperator → ℕ
assign_rank assign.Assign = 0
assign_rank assign.ExponentAssign = 1
assign_rank assign.MultiplyAssign = 2
assign_rank assign.DivideAssign = 3
assign_rank assign.RemainderAssign = 4
assign_rank assign.PlusAssign = 5
assign_rank assign.MinusAssign = 6
assign_rank assign.LeftShiftAssign = 7
assign_rank assign.RightShiftAssign = 8
assign_rank assign.UnsignedRightShiftAssign = 9
assign_rank assign.BitAndAssign = 10
assign_rank assign.BitXorAssign = 11
assign_rank assign.BitOrAssign = 12
assign_rank assign.AndAssign = 13
assign_rank assign.OrAssign = 14
assign_rank assign.CoalesceAssign = 15

-- The place of a code's sort in the list of sorts.
abbrev pub sort : Code → ℕ
sort code.Name = 0
sort code.Number = 1
sort code.String = 2
sort (code.Word w) = 3
sort (code.Punctuator p) = 4
sort (code.Operator o) = 5
sort (code.AssignOperator o) = 6

-- The place of a code within its sort.
abbrev pub rank : Code → ℕ
rank code.Name = 0
rank code.Number = 0
rank code.String = 0
rank (code.Word w) = word_rank w
rank (code.Punctuator p) = punctuator_rank p
rank (code.Operator o) = operator_rank o
rank (code.AssignOperator o) = assign_rank o

abbrev pub same_code : Code → Code → Bool
same_code a b = eqb (sort a) (sort b) && eqb (rank a) (rank b)

abbrev pub DecidesEquality : Type 0
DecidesEquality = (a b : Code) → (T (same_code a b) → a ≡ b) × (a ≡ b → T (same_code a b))
