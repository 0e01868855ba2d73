-- The token of each operator, and of each word that is a value.
--
--   constant_code c                                 the code of the word that the constant c is
--   unary_code o, update_code o, binary_code o      the code of the token that the operator o is written with
--
-- Assumes nothing.
use Rattle.token.specs.declared.Code.{Code}
use Rattle.token.specs.declared.Code.TheVariants as code
use Rattle.token.specs.declared.word.Word.TheVariants as word
use Rattle.token.specs.declared.operator.Operator.TheVariants as operator
use Rattle.kinds.specs.declared.operator.UnaryOperator.{UnaryOperator}
use Rattle.kinds.specs.declared.operator.UnaryOperator.TheVariants as unary
use Rattle.kinds.specs.declared.operator.UpdateOperator.{UpdateOperator}
use Rattle.kinds.specs.declared.operator.UpdateOperator.TheVariants as update
use Rattle.kinds.specs.declared.operator.BinaryOperator.{BinaryOperator}
use Rattle.kinds.specs.declared.operator.BinaryOperator.TheVariants as binary
use Rattle.kinds.specs.declared.form.Constant.{Constant}
use Rattle.kinds.specs.declared.form.Constant.TheVariants as constant

abbrev pub constant_code : Constant → Code
constant_code constant.Null = code.Word word.Null
constant_code constant.True = code.Word word.True
constant_code constant.False = code.Word word.False

abbrev pub unary_code : UnaryOperator → Code
unary_code unary.Minus = code.Operator operator.Minus
unary_code unary.Plus = code.Operator operator.Plus
unary_code unary.Not = code.Operator operator.Not
unary_code unary.BitNot = code.Operator operator.BitNot
unary_code unary.Typeof = code.Word word.Typeof
unary_code unary.Void = code.Word word.Void
unary_code unary.Delete = code.Word word.Delete

abbrev pub update_code : UpdateOperator → Code
update_code update.Increment = code.Operator operator.Increment
update_code update.Decrement = code.Operator operator.Decrement

abbrev pub binary_code : BinaryOperator → Code
binary_code binary.Coalesce = code.Operator operator.Coalesce
binary_code binary.Or = code.Operator operator.Or
binary_code binary.And = code.Operator operator.And
binary_code binary.BitOr = code.Operator operator.BitOr
binary_code binary.BitXor = code.Operator operator.BitXor
binary_code binary.BitAnd = code.Operator operator.BitAnd
binary_code binary.Equal = code.Operator operator.Equal
binary_code binary.NotEqual = code.Operator operator.NotEqual
binary_code binary.StrictEqual = code.Operator operator.StrictEqual
binary_code binary.StrictNotEqual = code.Operator operator.StrictNotEqual
binary_code binary.Less = code.Operator operator.Less
binary_code binary.LessOrEqual = code.Operator operator.LessOrEqual
binary_code binary.Greater = code.Operator operator.Greater
binary_code binary.GreaterOrEqual = code.Operator operator.GreaterOrEqual
binary_code binary.In = code.Word word.In
binary_code binary.Instanceof = code.Word word.Instanceof
binary_code binary.LeftShift = code.Operator operator.LeftShift
binary_code binary.RightShift = code.Operator operator.RightShift
binary_code binary.UnsignedRightShift = code.Operator operator.UnsignedRightShift
binary_code binary.Add = code.Operator operator.Plus
binary_code binary.Subtract = code.Operator operator.Minus
binary_code binary.Multiply = code.Operator operator.Multiply
binary_code binary.Divide = code.Operator operator.Divide
binary_code binary.Remainder = code.Operator operator.Remainder
binary_code binary.Exponent = code.Operator operator.Exponent
