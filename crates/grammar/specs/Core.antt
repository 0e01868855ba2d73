-- The core form of a tree: what is left of it when all that may differ between two writings of one rule is taken away.
--
--   Role, role h     what a record is for the core form: a pair, a sequence, a `void`, idle (it has no effect: Fn, Arrow, Num, Str, Word),
--                    a chain of `&&`, `||` or `??`, an If, a Block, any other
--   clear t          t without the places that do not count: only those of Name, Num and Str do
--   core t           the core form: pairs are out; chains of one operator are lists; nested sequences are joined; before a sequence's
--                    last element `void` gives way to its operand and what is idle goes; a Block of one statement that is the
--                    first body of an If is that statement
--
-- Assumes nothing.
use Rattle.std.specs.Prelude.{Bool, true, false, cond}
use Rattle.kinds.specs.declared.form.Form.{Form}
use Rattle.kinds.specs.declared.form.Form.TheVariants as form
use Rattle.kinds.specs.declared.operator.UnaryOperator.{UnaryOperator}
use Rattle.kinds.specs.declared.operator.UnaryOperator.TheVariants as unary
use Rattle.kinds.specs.declared.operator.BinaryOperator.{BinaryOperator}
use Rattle.kinds.specs.declared.operator.BinaryOperator.TheVariants as binary
use Rattle.grammar.specs.Tree.{Head, head, Tree, Forest, node, nil, ◌▸◌, ◌⊕◌}

-- The operators whose chains are lists: `&&`, `||`, `??`.
pub data Link : Type 0 where
  conjoins disjoins coalesces : Link

pub data Role : Type 0 where
  r_par r_seq r_void r_idle r_if r_block r_rest : Role
  r_chain : Link → Role

abbrev pub operator_role : BinaryOperator → Role
operator_role binary.Coalesce = r_chain coalesces
operator_role binary.Or = r_chain disjoins
operator_role binary.And = r_chain conjoins
operator_role binary.BitOr = r_rest
operator_role binary.BitXor = r_rest
operator_role binary.BitAnd = r_rest
operator_role binary.Equal = r_rest
operator_role binary.NotEqual = r_rest
operator_role binary.StrictEqual = r_rest
operator_role binary.StrictNotEqual = r_rest
operator_role binary.Less = r_rest
operator_role binary.LessOrEqual = r_rest
operator_role binary.Greater = r_rest
operator_role binary.GreaterOrEqual = r_rest
operator_role binary.In = r_rest
operator_role binary.Instanceof = r_rest
operator_role binary.LeftShift = r_rest
operator_role binary.RightShift = r_rest
operator_role binary.UnsignedRightShift = r_rest
operator_role binary.Add = r_rest
operator_role binary.Subtract = r_rest
operator_role binary.Multiply = r_rest
operator_role binary.Divide = r_rest
operator_role binary.Remainder = r_rest
operator_role binary.Exponent = r_rest

abbrev pub unary_role : UnaryOperator → Role
unary_role unary.Minus = r_rest
unary_role unary.Plus = r_rest
unary_role unary.Not = r_rest
unary_role unary.BitNot = r_rest
unary_role unary.Typeof = r_rest
unary_role unary.Void = r_void
unary_role unary.Delete = r_rest

abbrev pub form_role : Form → Role
form_role form.Free = r_rest
form_role (form.Name b) = r_rest
form_role form.Num = r_idle
form_role form.Str = r_idle
form_role (form.Word w) = r_idle
form_role form.This = r_rest
form_role form.Array = r_rest
form_role form.Object = r_rest
form_role (form.Prop p) = r_rest
form_role (form.Fn o) = r_idle
form_role form.Arrow = r_idle
form_role (form.Unary o) = unary_role o
form_role (form.Update o z) = r_rest
form_role (form.Bin o) = operator_role o
form_role (form.Assign o) = r_rest
form_role form.Cond = r_rest
form_role form.Seq = r_seq
form_role form.Paren = r_par
form_role form.Call = r_rest
form_role (form.New a) = r_rest
form_role (form.Member p) = r_rest
form_role (form.Chain l e) = r_rest
form_role form.Await = r_rest
form_role form.Yield = r_rest
form_role form.Script = r_rest
form_role form.ExprStmt = r_rest
form_role form.Var = r_rest
form_role form.Return = r_rest
form_role form.If = r_if
form_role form.While = r_rest
form_role (form.For i t u) = r_rest
form_role form.ForIn = r_rest
form_role form.Block = r_block
form_role form.Labeled = r_rest
form_role form.Empty = r_rest
form_role (form.Hole z) = r_rest

abbrev pub role : Head → Role
role h = form_role h.form

abbrev pub is_seq : Role → Bool
is_seq r_par = false
is_seq r_seq = true
is_seq r_void = false
is_seq r_idle = false
is_seq r_if = false
is_seq r_block = false
is_seq r_rest = false
is_seq (r_chain o) = false

abbrev pub is_block : Role → Bool
is_block r_par = false
is_block r_seq = false
is_block r_void = false
is_block r_idle = false
is_block r_if = false
is_block r_block = true
is_block r_rest = false
is_block (r_chain o) = false

abbrev pub same_link : Link → Link → Bool
same_link conjoins conjoins = true
same_link conjoins disjoins = false
same_link conjoins coalesces = false
same_link disjoins conjoins = false
same_link disjoins disjoins = true
same_link disjoins coalesces = false
same_link coalesces conjoins = false
same_link coalesces disjoins = false
same_link coalesces coalesces = true

-- Is it a chain of o?
abbrev pub chains : Link → Role → Bool
chains o r_par = false
chains o r_seq = false
chains o r_void = false
chains o r_idle = false
chains o r_if = false
chains o r_block = false
chains o r_rest = false
chains o (r_chain p) = same_link o p

-- Places count only for Name, Num and Str.
abbrev pub counts : Form → Bool
counts form.Free = false
counts (form.Name b) = true
counts form.Num = true
counts form.Str = true
counts (form.Word w) = false
counts form.This = false
counts form.Array = false
counts form.Object = false
counts (form.Prop p) = false
counts (form.Fn o) = false
counts form.Arrow = false
counts (form.Unary o) = false
counts (form.Update o z) = false
counts (form.Bin o) = false
counts (form.Assign o) = false
counts form.Cond = false
counts form.Seq = false
counts form.Paren = false
counts form.Call = false
counts (form.New a) = false
counts (form.Member p) = false
counts (form.Chain l e) = false
counts form.Await = false
counts form.Yield = false
counts form.Script = false
counts form.ExprStmt = false
counts form.Var = false
counts form.Return = false
counts form.If = false
counts form.While = false
counts (form.For i t u) = false
counts form.ForIn = false
counts form.Block = false
counts form.Labeled = false
counts form.Empty = false
counts (form.Hole z) = false

unfoldable mutual
  pub clear : Tree → Tree
  clear (node h us) = node (cond (counts h.form) h (head h.form 0 0)) (clears us)

  pub clears : Forest → Forest
  clears nil = nil
  clears (u ▸ us) = clear u ▸ clears us

-- What is left of a record before a sequence's last: of a sequence its elements', of a `void` its operand's, of what is idle nothing.
abbrev pub left : Role → Tree → Forest → Forest
left r_par t all = t ▸ nil
left r_seq t all = all
left r_void t all = all
left r_idle t all = nil
left r_if t all = t ▸ nil
left r_block t all = t ▸ nil
left r_rest t all = t ▸ nil
left (r_chain o) t all = t ▸ nil

unfoldable mutual
  pub effs : Tree → Forest
  effs (node L us) = left (role L) (node L us) (effss us)

  pub effss : Forest → Forest
  effss nil = nil
  effss (u ▸ us) = effs u ⊕ effss us

-- What a sequence's last element gives to it.
abbrev pub lasts : Tree → Forest
lasts (node L us) = cond (is_seq (role L)) us (node L us ▸ nil)

-- A sequence's elements, settled.
unfoldable pub flat : Forest → Forest
flat nil = nil
flat (u ▸ nil) = lasts u
flat (u ▸ (v ▸ us)) = effs u ⊕ flat (v ▸ us)

-- What an operand gives to a chain of o.
abbrev pub items : Link → Tree → Forest
items o (node L us) = cond (chains o (role L)) us (node L us ▸ nil)

unfoldable pub operands : Link → Forest → Forest
operands o nil = nil
operands o (u ▸ us) = items o u ⊕ operands o us

-- The first body of an If: of a Block with one statement that statement, as often as need be.
abbrev pub sole : Tree → Forest → Tree
sole t nil = t
sole t (u ▸ nil) = u
sole t (u ▸ (v ▸ us)) = t

unfoldable mutual
  pub opened : Tree → Tree
  opened (node L us) = cond (is_block (role L)) (sole (node L us) (openeds us)) (node L us)

  pub openeds : Forest → Forest
  openeds nil = nil
  openeds (u ▸ us) = opened u ▸ openeds us

abbrev pub first_body : Forest → Forest
first_body nil = nil
first_body (u ▸ nil) = u ▸ nil
first_body (u ▸ (v ▸ us)) = u ▸ (opened v ▸ us)

-- A record over children in core form.
abbrev pub join : Role → Head → Forest → Tree
join r_par L nil = node L nil
join r_par L (u ▸ us) = u
join r_seq L us = node L (flat us)
join r_void L us = node L us
join r_idle L us = node L us
join r_if L us = node L (first_body us)
join r_block L us = node L us
join r_rest L us = node L us
join (r_chain o) L us = node L (operands o us)

unfoldable mutual
  pub settled : Tree → Tree
  settled (node L us) = join (role L) L (settleds us)

  pub settleds : Forest → Forest
  settleds nil = nil
  settleds (u ▸ us) = settled u ▸ settleds us

abbrev pub core : Tree → Tree
core t = settled (clear t)
