-- The slots of operands are those that the grammar's reader asks for.
use Rattle.std.proofs.Common.{◌≡◌, refl}
use Rattle.kinds.specs.Levels.{left_slot}
use Rattle.kinds.specs.declared.operator.BinaryOperator.{BinaryOperator}
use Rattle.kinds.specs.declared.operator.BinaryOperator.TheVariants as binary
use Rattle.grammar.specs.Parser.{binary_frame, first_slot}

pub left_first : (o : BinaryOperator) → left_slot o ≡ first_slot (binary_frame o)
left_first binary.Coalesce = refl
left_first binary.Or = refl
left_first binary.And = refl
left_first binary.BitOr = refl
left_first binary.BitXor = refl
left_first binary.BitAnd = refl
left_first binary.Equal = refl
left_first binary.NotEqual = refl
left_first binary.StrictEqual = refl
left_first binary.StrictNotEqual = refl
left_first binary.Less = refl
left_first binary.LessOrEqual = refl
left_first binary.Greater = refl
left_first binary.GreaterOrEqual = refl
left_first binary.In = refl
left_first binary.Instanceof = refl
left_first binary.LeftShift = refl
left_first binary.RightShift = refl
left_first binary.UnsignedRightShift = refl
left_first binary.Add = refl
left_first binary.Subtract = refl
left_first binary.Multiply = refl
left_first binary.Divide = refl
left_first binary.Remainder = refl
left_first binary.Exponent = refl
