-- How tightly an expression holds together, and what fits each slot.
--
--   binary_level o      the level of a binary operator, 3 to 13
--   form_level f        the level of a form, 0 to 16; a form that is no expression is of level 16, and asks nothing
--   Standing            all that a slot can ask of an expression: its level, its class, whether it is a target, a plain
--                       Name, or a key
--   standing f c t      the standing of an expression of the form f, whose first child is (c) of the class C, (t) a target
--   level s             the level of a standing
--   is_n is_c is_o is_m     the four classes of level 16: `new` without a list; a call or a member of one; a link of an
--                       optional chain; all others
--   is_target s         a Name, a Member, or a pair round a target
--   fits p s            an expression of the standing s may stand bare in the slot p
--   slot_of l           the slot that takes what is of the level l, 4 to 13, and all that is tighter
--   left_slot o, right_slot o    the slots of the operands of a binary operator
--
-- Assumes nothing.
use Rattle.std.specs.Prelude.{ℕ, Bool, true, false, cond, ◌&&◌, ◌||◌, Some, None, Option, ◌==◌, nat_le}
use Rattle.kinds.specs.declared.form.Form.{Form}
use Rattle.kinds.specs.declared.form.Form.TheVariants as form
use Rattle.kinds.specs.declared.form.Binding.{Binding}
use Rattle.kinds.specs.declared.form.Binding.TheVariants as binding
use Rattle.kinds.specs.declared.form.Arguments.{Arguments}
use Rattle.kinds.specs.declared.form.Arguments.TheVariants as arguments
use Rattle.kinds.specs.declared.operator.BinaryOperator.{BinaryOperator}
use Rattle.kinds.specs.declared.operator.BinaryOperator.TheVariants as binary
use Rattle.kinds.specs.declared.level.Slot.{Slot}
use Rattle.kinds.specs.declared.level.Slot.TheVariants as slot
use Rattle.kinds.specs.declared.level.Class.{Class}
use Rattle.kinds.specs.declared.level.Class.TheVariants as class

abbrev pub binary_level : BinaryOperator → ℕ
binary_level binary.Coalesce = 3
binary_level binary.Or = 3
binary_level binary.And = 4
binary_level binary.BitOr = 5
binary_level binary.BitXor = 6
binary_level binary.BitAnd = 7
binary_level binary.Equal = 8
binary_level binary.NotEqual = 8
binary_level binary.StrictEqual = 8
binary_level binary.StrictNotEqual = 8
binary_level binary.Less = 9
binary_level binary.LessOrEqual = 9
binary_level binary.Greater = 9
binary_level binary.GreaterOrEqual = 9
binary_level binary.In = 9
binary_level binary.Instanceof = 9
binary_level binary.LeftShift = 10
binary_level binary.RightShift = 10
binary_level binary.UnsignedRightShift = 10
binary_level binary.Add = 11
binary_level binary.Subtract = 11
binary_level binary.Multiply = 12
binary_level binary.Divide = 12
binary_level binary.Remainder = 12
binary_level binary.Exponent = 13

abbrev pub form_level : Form → ℕ
form_level form.Free = 16
form_level (form.Name b) = 16
form_level form.Num = 16
form_level form.Str = 16
form_level (form.Word w) = 16
form_level form.This = 16
form_level form.Array = 16
form_level form.Object = 16
form_level (form.Prop k) = 16
form_level (form.Fn o) = 16
form_level form.Arrow = 1
form_level (form.Unary o) = 14
form_level (form.Update o s) = 15
form_level (form.Bin o) = binary_level o
form_level (form.Assign o) = 1
form_level form.Cond = 2
form_level form.Seq = 0
form_level form.Paren = 16
form_level form.Call = 16
form_level (form.New a) = 16
form_level (form.Member k) = 16
form_level (form.Chain l e) = 16
form_level form.Await = 14
form_level form.Yield = 1
form_level form.Script = 16
form_level form.ExprStmt = 16
form_level form.Var = 16
form_level form.Return = 16
form_level form.If = 16
form_level form.While = 16
form_level (form.For i t u) = 16
form_level form.ForIn = 16
form_level form.Block = 16
form_level form.Labeled = 16
form_level form.Empty = 16
form_level (form.Hole s) = 16

pub data Standing : Type 0 where
  sequence assignment conditional coalescing disjunction conjunction bit_or bit_xor bit_and equality relation shift sum product power unary update bare_new optional call call_member primary literal member name : Standing

-- The place in this list: looser before tighter.
abbrev pub order : Standing → ℕ
order sequence = 0
order assignment = 1
order conditional = 2
order coalescing = 3
order disjunction = 4
order conjunction = 5
order bit_or = 6
order bit_xor = 7
order bit_and = 8
order equality = 9
order relation = 10
order shift = 11
order sum = 12
order product = 13
order power = 14
order unary = 15
order update = 16
order bare_new = 17
order optional = 18
order call = 19
order call_member = 20
order primary = 21
order literal = 22
order member = 23
order name = 24

abbrev pub level : Standing → ℕ
level sequence = 0
level assignment = 1
level conditional = 2
level coalescing = 3
level disjunction = 3
level conjunction = 4
level bit_or = 5
level bit_xor = 6
level bit_and = 7
level equality = 8
level relation = 9
level shift = 10
level sum = 11
level product = 12
level power = 13
level unary = 14
level update = 15
level bare_new = 16
level optional = 16
level call = 16
level call_member = 16
level primary = 16
level literal = 16
level member = 16
level name = 16

abbrev pub binary_standing : BinaryOperator → Standing
binary_standing binary.Coalesce = coalescing
binary_standing binary.Or = disjunction
binary_standing binary.And = conjunction
binary_standing binary.BitOr = bit_or
binary_standing binary.BitXor = bit_xor
binary_standing binary.BitAnd = bit_and
binary_standing binary.Equal = equality
binary_standing binary.NotEqual = equality
binary_standing binary.StrictEqual = equality
binary_standing binary.StrictNotEqual = equality
binary_standing binary.Less = relation
binary_standing binary.LessOrEqual = relation
binary_standing binary.Greater = relation
binary_standing binary.GreaterOrEqual = relation
binary_standing binary.In = relation
binary_standing binary.Instanceof = relation
binary_standing binary.LeftShift = shift
binary_standing binary.RightShift = shift
binary_standing binary.UnsignedRightShift = shift
binary_standing binary.Add = sum
binary_standing binary.Subtract = sum
binary_standing binary.Multiply = product
binary_standing binary.Divide = product
binary_standing binary.Remainder = product
binary_standing binary.Exponent = power

abbrev pub name_standing : Binding → Standing
name_standing binding.Plain = name
name_standing binding.Valued = primary

abbrev pub new_standing : Arguments → Standing
new_standing arguments.Listed = primary
new_standing arguments.Unlisted = bare_new

abbrev pub standing : Form → Bool → Bool → Standing
standing form.Free c t = primary
standing (form.Name b) c t = name_standing b
standing form.Num c t = literal
standing form.Str c t = literal
standing (form.Word w) c t = primary
standing form.This c t = primary
standing form.Array c t = primary
standing form.Object c t = primary
standing (form.Prop k) c t = primary
standing (form.Fn o) c t = primary
standing form.Arrow c t = assignment
standing (form.Unary o) c t = unary
standing (form.Update o s) c t = update
standing (form.Bin o) c t = binary_standing o
standing (form.Assign o) c t = assignment
standing form.Cond c t = conditional
standing form.Seq c t = sequence
standing form.Paren c t = cond t member primary
standing form.Call c t = call
standing (form.New a) c t = new_standing a
standing (form.Member k) c t = cond c call_member member
standing (form.Chain l e) c t = optional
standing form.Await c t = unary
standing form.Yield c t = assignment
standing form.Script c t = primary
standing form.ExprStmt c t = primary
standing form.Var c t = primary
standing form.Return c t = primary
standing form.If c t = primary
standing form.While c t = primary
standing (form.For i e u) c t = primary
standing form.ForIn c t = primary
standing form.Block c t = primary
standing form.Labeled c t = primary
standing form.Empty c t = primary
standing (form.Hole s) c t = primary

abbrev pub is_n : Standing → Bool
is_n s = order s == 17

abbrev pub is_o : Standing → Bool
is_o s = order s == 18

abbrev pub is_c : Standing → Bool
is_c s = nat_le 19 (order s) && nat_le (order s) 20

abbrev pub is_m : Standing → Bool
is_m s = nat_le 21 (order s)

abbrev pub is_target : Standing → Bool
is_target s = order s == 20 || nat_le 23 (order s)

-- The class of a form whose first child is, or is not, of the class C.
abbrev pub member_class : Bool → Class
member_class true = class.C
member_class false = class.M

abbrev pub new_class : Arguments → Class
new_class arguments.Listed = class.M
new_class arguments.Unlisted = class.N

abbrev pub top_class : Form → Bool → Class
top_class form.Free c = class.M
top_class (form.Name b) c = class.M
top_class form.Num c = class.M
top_class form.Str c = class.M
top_class (form.Word w) c = class.M
top_class form.This c = class.M
top_class form.Array c = class.M
top_class form.Object c = class.M
top_class (form.Prop k) c = class.M
top_class (form.Fn o) c = class.M
top_class form.Arrow c = class.M
top_class (form.Unary o) c = class.M
top_class (form.Update o s) c = class.M
top_class (form.Bin o) c = class.M
top_class (form.Assign o) c = class.M
top_class form.Cond c = class.M
top_class form.Seq c = class.M
top_class form.Paren c = class.M
top_class form.Call c = class.C
top_class (form.New a) c = new_class a
top_class (form.Member k) c = member_class c
top_class (form.Chain l e) c = class.O
top_class form.Await c = class.M
top_class form.Yield c = class.M
top_class form.Script c = class.M
top_class form.ExprStmt c = class.M
top_class form.Var c = class.M
top_class form.Return c = class.M
top_class form.If c = class.M
top_class form.While c = class.M
top_class (form.For i t u) c = class.M
top_class form.ForIn c = class.M
top_class form.Block c = class.M
top_class form.Labeled c = class.M
top_class form.Empty c = class.M
top_class (form.Hole s) c = class.M

abbrev pub class_of : Form → Bool → Option Class
class_of f c = cond (form_level f == 16) (Some (top_class f c)) None

-- Whether a form is a target, if its first child is, or is not, one.
abbrev pub plain_name : Binding → Bool
plain_name binding.Plain = true
plain_name binding.Valued = false

abbrev pub target_of : Form → Bool → Bool
target_of form.Free t = false
target_of (form.Name b) t = plain_name b
target_of form.Num t = false
target_of form.Str t = false
target_of (form.Word w) t = false
target_of form.This t = false
target_of form.Array t = false
target_of form.Object t = false
target_of (form.Prop k) t = false
target_of (form.Fn o) t = false
target_of form.Arrow t = false
target_of (form.Unary o) t = false
target_of (form.Update o s) t = false
target_of (form.Bin o) t = false
target_of (form.Assign o) t = false
target_of form.Cond t = false
target_of form.Seq t = false
target_of form.Paren t = t
target_of form.Call t = false
target_of (form.New a) t = false
target_of (form.Member k) t = true
target_of (form.Chain l e) t = false
target_of form.Await t = false
target_of form.Yield t = false
target_of form.Script t = false
target_of form.ExprStmt t = false
target_of form.Var t = false
target_of form.Return t = false
target_of form.If t = false
target_of form.While t = false
target_of (form.For i e u) t = false
target_of form.ForIn t = false
target_of form.Block t = false
target_of form.Labeled t = false
target_of form.Empty t = false
target_of (form.Hole s) t = false

abbrev pub fits : Slot → Standing → Bool
fits slot.Expression s = true
fits slot.Assignment s = nat_le 1 (level s)
fits slot.ShortCircuit s = nat_le 3 (level s)
fits slot.LogicalOr s = order s == 4 || nat_le 4 (level s)
fits slot.Coalesce s = order s == 3 || nat_le 5 (level s)
fits slot.LogicalAnd s = nat_le 4 (level s)
fits slot.BitwiseOr s = nat_le 5 (level s)
fits slot.BitwiseXor s = nat_le 6 (level s)
fits slot.BitwiseAnd s = nat_le 7 (level s)
fits slot.Equality s = nat_le 8 (level s)
fits slot.Relational s = nat_le 9 (level s)
fits slot.Shift s = nat_le 10 (level s)
fits slot.Additive s = nat_le 11 (level s)
fits slot.Multiplicative s = nat_le 12 (level s)
fits slot.Exponentiation s = nat_le 13 (level s)
fits slot.Unary s = nat_le 14 (level s)
fits slot.Update s = nat_le 15 (level s)
fits slot.New s = is_m s || is_n s
fits slot.Member s = is_m s
fits slot.Call s = is_m s || is_c s
fits slot.Optional s = is_m s || (is_c s || is_o s)
fits slot.Chain s = is_o s
fits slot.Target s = is_target s
fits slot.Identifier s = order s == 24
fits slot.PropertyName s = order s == 22 || order s == 24

-- The slot of a level of operators.
abbrev pub slot_of : ℕ → Slot
slot_of l =
    cond (l == 4) slot.LogicalAnd
    (cond (l == 5) slot.BitwiseOr
    (cond (l == 6) slot.BitwiseXor
    (cond (l == 7) slot.BitwiseAnd
    (cond (l == 8) slot.Equality
    (cond (l == 9) slot.Relational
    (cond (l == 10) slot.Shift
    (cond (l == 11) slot.Additive
    (cond (l == 12) slot.Multiplicative
    slot.Exponentiation))))))))

-- The slots of a binary operator.
abbrev pub left_slot : BinaryOperator → Slot
left_slot binary.Coalesce = slot.Coalesce
left_slot binary.Or = slot.LogicalOr
left_slot binary.And = slot.LogicalAnd
left_slot binary.BitOr = slot.BitwiseOr
left_slot binary.BitXor = slot.BitwiseXor
left_slot binary.BitAnd = slot.BitwiseAnd
left_slot binary.Equal = slot.Equality
left_slot binary.NotEqual = slot.Equality
left_slot binary.StrictEqual = slot.Equality
left_slot binary.StrictNotEqual = slot.Equality
left_slot binary.Less = slot.Relational
left_slot binary.LessOrEqual = slot.Relational
left_slot binary.Greater = slot.Relational
left_slot binary.GreaterOrEqual = slot.Relational
left_slot binary.In = slot.Relational
left_slot binary.Instanceof = slot.Relational
left_slot binary.LeftShift = slot.Shift
left_slot binary.RightShift = slot.Shift
left_slot binary.UnsignedRightShift = slot.Shift
left_slot binary.Add = slot.Additive
left_slot binary.Subtract = slot.Additive
left_slot binary.Multiply = slot.Multiplicative
left_slot binary.Divide = slot.Multiplicative
left_slot binary.Remainder = slot.Multiplicative
left_slot binary.Exponent = slot.Update

abbrev pub right_slot : BinaryOperator → Slot
right_slot binary.Coalesce = slot.BitwiseOr
right_slot binary.Or = slot.LogicalAnd
right_slot binary.And = slot.BitwiseOr
right_slot binary.BitOr = slot.BitwiseXor
right_slot binary.BitXor = slot.BitwiseAnd
right_slot binary.BitAnd = slot.Equality
right_slot binary.Equal = slot.Relational
right_slot binary.NotEqual = slot.Relational
right_slot binary.StrictEqual = slot.Relational
right_slot binary.StrictNotEqual = slot.Relational
right_slot binary.Less = slot.Shift
right_slot binary.LessOrEqual = slot.Shift
right_slot binary.Greater = slot.Shift
right_slot binary.GreaterOrEqual = slot.Shift
right_slot binary.In = slot.Shift
right_slot binary.Instanceof = slot.Shift
right_slot binary.LeftShift = slot.Additive
right_slot binary.RightShift = slot.Additive
right_slot binary.UnsignedRightShift = slot.Additive
right_slot binary.Add = slot.Multiplicative
right_slot binary.Subtract = slot.Multiplicative
right_slot binary.Multiply = slot.Exponentiation
right_slot binary.Divide = slot.Exponentiation
right_slot binary.Remainder = slot.Exponentiation
right_slot binary.Exponent = slot.Exponentiation
