-- Every word, punctuator and operator, in the order of the code's enums.
--
--   words, punctuators, operators, assigns     each member of its enum, once
--
-- Assumes nothing.
use Rattle.std.specs.Prelude.{List, [], ◌∷◌}
use Rattle.token.specs.declared.word.Word.{Word}
use Rattle.token.specs.declared.word.Word.TheVariants as word
use Rattle.token.specs.declared.punctuator.Punctuator.{Punctuator}
use Rattle.token.specs.declared.punctuator.Punctuator.TheVariants as punctuator
use Rattle.token.specs.declared.operator.Operator.{Operator}
use Rattle.token.specs.declared.operator.Operator.TheVariants as operator
use Rattle.token.specs.declared.operator.AssignOperator.{AssignOperator}
use Rattle.token.specs.declared.operator.AssignOperator.TheVariants as assign

abbrev pub words : List Word
words =
    word.Null ∷ word.True ∷ word.False ∷ word.This ∷ word.Function ∷ word.Typeof ∷ word.Void ∷ word.Delete
    ∷ word.In ∷ word.Instanceof ∷ word.New ∷ word.Await ∷ word.Yield ∷ word.Var ∷ word.Return ∷ word.If ∷ word.Else
    ∷ word.While ∷ word.For ∷ []

abbrev pub punctuators : List Punctuator
punctuators =
    punctuator.OpenParen ∷ punctuator.CloseParen ∷ punctuator.OpenBracket ∷ punctuator.CloseBracket
    ∷ punctuator.OpenBrace ∷ punctuator.CloseBrace ∷ punctuator.Semicolon ∷ punctuator.Comma ∷ punctuator.Dot
    ∷ punctuator.Colon ∷ punctuator.Question ∷ punctuator.QuestionDot ∷ punctuator.Arrow ∷ []

abbrev pub operators : List Operator
operators =
    operator.Not ∷ operator.BitNot ∷ operator.Increment ∷ operator.Decrement ∷ operator.Plus ∷ operator.Minus
    ∷ operator.Multiply ∷ operator.Divide ∷ operator.Remainder ∷ operator.Exponent ∷ operator.LeftShift
    ∷ operator.RightShift ∷ operator.UnsignedRightShift ∷ operator.Less ∷ operator.LessOrEqual ∷ operator.Greater
    ∷ operator.GreaterOrEqual ∷ operator.Equal ∷ operator.NotEqual ∷ operator.StrictEqual ∷ operator.StrictNotEqual
    ∷ operator.BitAnd ∷ operator.BitXor ∷ operator.BitOr ∷ operator.And ∷ operator.Or ∷ operator.Coalesce ∷ []

abbrev pub assigns : List AssignOperator
assigns =
    assign.Assign ∷ assign.ExponentAssign ∷ assign.MultiplyAssign ∷ assign.DivideAssign ∷ assign.RemainderAssign
    ∷ assign.PlusAssign ∷ assign.MinusAssign ∷ assign.LeftShiftAssign ∷ assign.RightShiftAssign
    ∷ assign.UnsignedRightShiftAssign ∷ assign.BitAndAssign ∷ assign.BitXorAssign ∷ assign.BitOrAssign
    ∷ assign.AndAssign ∷ assign.OrAssign ∷ assign.CoalesceAssign ∷ []
