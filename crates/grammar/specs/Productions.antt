-- The productions of ECMA-262 that are in scope, each as a fact about derivations, in the document's names. Two things to know: an operand of a looser
-- nonterminal is reached by the productions `x-is-y`; and where the document has LeftHandSideExpression (or UnaryExpression behind `++`) and then asks for a
-- valid target, here stands SimpleTarget. CallOrMemberExpression takes what is a MemberExpression or a CallExpression; OptionalFirst what may stand before `?.`.
--
-- Assumes nothing.
use Rattle.std.specs.Prelude.{ℕ, true, false, List, [], ◌∷◌}
use Rattle.token.specs.declared.Token.{Token}
use Rattle.token.specs.declared.Code.TheVariants as code
use Rattle.token.specs.declared.operator.AssignOperator.{AssignOperator}
use Rattle.kinds.specs.declared.operator.UnaryOperator.TheVariants as unary
use Rattle.kinds.specs.declared.operator.UpdateOperator.TheVariants as update
use Rattle.kinds.specs.declared.operator.BinaryOperator.TheVariants as binary
use Rattle.kinds.specs.declared.form.Constant.TheVariants as constant
use Rattle.kinds.specs.declared.form.Form.TheVariants as form
use Rattle.kinds.specs.declared.form.Binding.TheVariants as binding
use Rattle.kinds.specs.declared.form.Key.TheVariants as key
use Rattle.kinds.specs.declared.form.Own.TheVariants as own
use Rattle.kinds.specs.declared.form.Arguments.TheVariants as arguments
use Rattle.kinds.specs.declared.form.Link.TheVariants as link
use Rattle.kinds.specs.declared.form.Entry.TheVariants as entry
use Rattle.kinds.specs.declared.operator.Side.TheVariants as side
use Rattle.kinds.specs.declared.level.Slot.TheVariants as slot
use Rattle.grammar.specs.Codes.{open_paren, close_paren, open_bracket, close_bracket, open_brace, close_brace, semicolon, comma, dot, colon, question, question_dot, arrow, equals, word_this, word_function, word_in, word_new, word_await, word_yield, word_var, word_return, word_if, word_else, word_while, word_for, constant_code, unary_code, update_code, binary_code}
use Rattle.grammar.specs.Site.{at, start, body, block_only, stmt, closed, init, var_init, var_in, prop, plain_name, valued_name, key_name, root}
use Rattle.grammar.specs.Tree.{head, head_of, Tree, Forest, node, nil, ◌▸◌}
use Rattle.grammar.specs.Layout.{Lay, end, tok, child, inside, commas, listed, run, but_last, arguments_of, parameters, names, fn_of, var_of, init_site, left_site, layout, attr, attrs}
use Rattle.grammar.specs.Derives.{token, lo_of, Derives, Follows}

abbrev pub Expression : Tree → List Token → List Token → Type 0
Expression t ks r = Derives (at slot.Expression) t ks r

abbrev pub AssignmentExpression : Tree → List Token → List Token → Type 0
AssignmentExpression t ks r = Derives (at slot.Assignment) t ks r

abbrev pub ShortCircuitExpression : Tree → List Token → List Token → Type 0
ShortCircuitExpression t ks r = Derives (at slot.ShortCircuit) t ks r

abbrev pub LogicalORExpression : Tree → List Token → List Token → Type 0
LogicalORExpression t ks r = Derives (at slot.LogicalOr) t ks r

abbrev pub CoalesceExpressionHead : Tree → List Token → List Token → Type 0
CoalesceExpressionHead t ks r = Derives (at slot.Coalesce) t ks r

abbrev pub LogicalANDExpression : Tree → List Token → List Token → Type 0
LogicalANDExpression t ks r = Derives (at slot.LogicalAnd) t ks r

abbrev pub BitwiseORExpression : Tree → List Token → List Token → Type 0
BitwiseORExpression t ks r = Derives (at slot.BitwiseOr) t ks r

abbrev pub BitwiseXORExpression : Tree → List Token → List Token → Type 0
BitwiseXORExpression t ks r = Derives (at slot.BitwiseXor) t ks r

abbrev pub BitwiseANDExpression : Tree → List Token → List Token → Type 0
BitwiseANDExpression t ks r = Derives (at slot.BitwiseAnd) t ks r

abbrev pub EqualityExpression : Tree → List Token → List Token → Type 0
EqualityExpression t ks r = Derives (at slot.Equality) t ks r

abbrev pub RelationalExpression : Tree → List Token → List Token → Type 0
RelationalExpression t ks r = Derives (at slot.Relational) t ks r

abbrev pub ShiftExpression : Tree → List Token → List Token → Type 0
ShiftExpression t ks r = Derives (at slot.Shift) t ks r

abbrev pub AdditiveExpression : Tree → List Token → List Token → Type 0
AdditiveExpression t ks r = Derives (at slot.Additive) t ks r

abbrev pub MultiplicativeExpression : Tree → List Token → List Token → Type 0
MultiplicativeExpression t ks r = Derives (at slot.Multiplicative) t ks r

abbrev pub ExponentiationExpression : Tree → List Token → List Token → Type 0
ExponentiationExpression t ks r = Derives (at slot.Exponentiation) t ks r

abbrev pub UnaryExpression : Tree → List Token → List Token → Type 0
UnaryExpression t ks r = Derives (at slot.Unary) t ks r

abbrev pub UpdateExpression : Tree → List Token → List Token → Type 0
UpdateExpression t ks r = Derives (at slot.Update) t ks r

abbrev pub NewExpression : Tree → List Token → List Token → Type 0
NewExpression t ks r = Derives (at slot.New) t ks r

abbrev pub MemberExpression : Tree → List Token → List Token → Type 0
MemberExpression t ks r = Derives (at slot.Member) t ks r

abbrev pub CallOrMemberExpression : Tree → List Token → List Token → Type 0
CallOrMemberExpression t ks r = Derives (at slot.Call) t ks r

abbrev pub OptionalFirst : Tree → List Token → List Token → Type 0
OptionalFirst t ks r = Derives (at slot.Optional) t ks r

abbrev pub OptionalExpression : Tree → List Token → List Token → Type 0
OptionalExpression t ks r = Derives (at slot.Chain) t ks r

abbrev pub SimpleTarget : Tree → List Token → List Token → Type 0
SimpleTarget t ks r = Derives (at slot.Target) t ks r

abbrev pub StatementExpression : Tree → List Token → List Token → Type 0
StatementExpression t ks r = Derives start t ks r

abbrev pub ConciseBody : Tree → List Token → List Token → Type 0
ConciseBody t ks r = Derives body t ks r

abbrev pub FunctionBody : Tree → List Token → List Token → Type 0
FunctionBody t ks r = Derives block_only t ks r

abbrev pub Statement : Tree → List Token → List Token → Type 0
Statement t ks r = Derives stmt t ks r

abbrev pub StatementBeforeElse : Tree → List Token → List Token → Type 0
StatementBeforeElse t ks r = Derives closed t ks r

abbrev pub ForVarInit : Tree → List Token → List Token → Type 0
ForVarInit t ks r = Derives var_init t ks r

abbrev pub ForInVar : Tree → List Token → List Token → Type 0
ForInVar t ks r = Derives var_in t ks r

abbrev pub PropertyDefinition : Tree → List Token → List Token → Type 0
PropertyDefinition t ks r = Derives prop t ks r

abbrev pub IdentifierName : Tree → List Token → List Token → Type 0
IdentifierName t ks r = Derives plain_name t ks r

abbrev pub DeclaredName : Tree → List Token → List Token → Type 0
DeclaredName t ks r = Derives valued_name t ks r

abbrev pub LiteralPropertyName : Tree → List Token → List Token → Type 0
LiteralPropertyName t ks r = Derives key_name t ks r

abbrev pub Script : Tree → List Token → List Token → Type 0
Script t ks r = Derives root t ks r

abbrev pub NoInExpression : Tree → List Token → List Token → Type 0
NoInExpression t ks r = Derives init t ks r

-- The left side of a ForIn that is no Var: SimpleTarget again, under the name that the document's production suggests.
abbrev pub ForInTarget : Tree → List Token → List Token → Type 0
ForInTarget t ks r = Derives (at slot.Target) t ks r

-- The first part of a head: an expression or a Var.
abbrev pub ForInit : Tree → List Token → List Token → Type 0
ForInit t ks r = Derives (init_site (attr t ∷ [])) t ks r

abbrev pub ForInLeft : Tree → List Token → List Token → Type 0
ForInLeft t ks r = Derives (left_site (attr t ∷ [])) t ks r

-- The lists of the grammar, up to and with the token that closes them: a layout filled from ks on, h0 and h as in Follows.
abbrev pub ListOf : Lay → Forest → List Token → List Token → ℕ → ℕ → Type 0
ListOf ls us ks r h0 h = Follows false ls us ks r h0 h

abbrev pub ArgumentList : Forest → List Token → List Token → ℕ → ℕ → Type 0
ArgumentList us ks r h0 h = ListOf (arguments_of (attrs us)) us ks r h0 h

abbrev pub Elements : Forest → List Token → List Token → ℕ → ℕ → Type 0
Elements us ks r h0 h = ListOf (listed (at slot.Assignment) (attrs us) (tok close_bracket end)) us ks r h0 h

abbrev pub Properties : Forest → List Token → List Token → ℕ → ℕ → Type 0
Properties us ks r h0 h = ListOf (listed prop (attrs us) (tok close_brace end)) us ks r h0 h

-- Parameters and the body of a function without a name.
abbrev pub Function : Forest → List Token → List Token → ℕ → ℕ → Type 0
Function us ks r h0 h = ListOf (fn_of own.Nameless (attrs us)) us ks r h0 h

abbrev pub ArrowParts : Forest → List Token → List Token → ℕ → ℕ → Type 0
ArrowParts us ks r h0 h = ListOf (layout form.Arrow (attrs us)) us ks r h0 h

abbrev pub MoreElements : Forest → List Token → List Token → ℕ → ℕ → Type 0
MoreElements us ks r h0 h = ListOf (commas false (at slot.Assignment) (attrs us) end) us ks r h0 h

abbrev pub StatementsToBrace : Forest → List Token → List Token → ℕ → ℕ → Type 0
StatementsToBrace us ks r h0 h = ListOf (run (attrs us) (tok close_brace end)) us ks r h0 h

abbrev pub StatementsToEnd : Forest → List Token → List Token → ℕ → ℕ → Type 0
StatementsToEnd us ks r h0 h = ListOf (run (attrs us) end) us ks r h0 h

abbrev pub MoreDeclarations : Forest → List Token → List Token → ℕ → ℕ → Type 0
MoreDeclarations us ks r h0 h = ListOf (names (attrs us) false) us ks r h0 h

abbrev pub Declarations : Forest → List Token → List Token → ℕ → ℕ → Type 0
Declarations us ks r h0 h = ListOf (var_of (attrs us)) us ks r h0 h

-- Each nonterminal that is an alternative of a looser one.
pub record Units : Type 0 where
  -- Expression : AssignmentExpression
  pub assignment_is_expression : {t : Tree} {ks r : List Token} → AssignmentExpression t ks r → Expression t ks r
  -- AssignmentExpression : ShortCircuitExpression
  pub short_circuit_is_assignment : {t : Tree} {ks r : List Token} → ShortCircuitExpression t ks r → AssignmentExpression t ks r
  -- ShortCircuitExpression : LogicalORExpression
  pub logical_or_is_short_circuit : {t : Tree} {ks r : List Token} → LogicalORExpression t ks r → ShortCircuitExpression t ks r
  -- ShortCircuitExpression : CoalesceExpressionHead
  pub coalesce_is_short_circuit : {t : Tree} {ks r : List Token} → CoalesceExpressionHead t ks r → ShortCircuitExpression t ks r
  -- LogicalORExpression : LogicalANDExpression
  pub logical_and_is_logical_or : {t : Tree} {ks r : List Token} → LogicalANDExpression t ks r → LogicalORExpression t ks r
  -- LogicalANDExpression : BitwiseORExpression
  pub bitwise_or_is_logical_and : {t : Tree} {ks r : List Token} → BitwiseORExpression t ks r → LogicalANDExpression t ks r
  -- CoalesceExpressionHead : BitwiseORExpression
  pub bitwise_or_is_coalesce : {t : Tree} {ks r : List Token} → BitwiseORExpression t ks r → CoalesceExpressionHead t ks r
  -- BitwiseORExpression : BitwiseXORExpression
  pub bitwise_xor_is_bitwise_or : {t : Tree} {ks r : List Token} → BitwiseXORExpression t ks r → BitwiseORExpression t ks r
  -- BitwiseXORExpression : BitwiseANDExpression
  pub bitwise_and_is_bitwise_xor : {t : Tree} {ks r : List Token} → BitwiseANDExpression t ks r → BitwiseXORExpression t ks r
  -- BitwiseANDExpression : EqualityExpression
  pub equality_is_bitwise_and : {t : Tree} {ks r : List Token} → EqualityExpression t ks r → BitwiseANDExpression t ks r
  -- EqualityExpression : RelationalExpression
  pub relational_is_equality : {t : Tree} {ks r : List Token} → RelationalExpression t ks r → EqualityExpression t ks r
  -- RelationalExpression : ShiftExpression
  pub shift_is_relational : {t : Tree} {ks r : List Token} → ShiftExpression t ks r → RelationalExpression t ks r
  -- ShiftExpression : AdditiveExpression
  pub additive_is_shift : {t : Tree} {ks r : List Token} → AdditiveExpression t ks r → ShiftExpression t ks r
  -- AdditiveExpression : MultiplicativeExpression
  pub multiplicative_is_additive : {t : Tree} {ks r : List Token} → MultiplicativeExpression t ks r → AdditiveExpression t ks r
  -- MultiplicativeExpression : ExponentiationExpression
  pub exponentiation_is_multiplicative : {t : Tree} {ks r : List Token} → ExponentiationExpression t ks r → MultiplicativeExpression t ks r
  -- ExponentiationExpression : UnaryExpression
  pub unary_is_exponentiation : {t : Tree} {ks r : List Token} → UnaryExpression t ks r → ExponentiationExpression t ks r
  -- UnaryExpression : UpdateExpression
  pub update_is_unary : {t : Tree} {ks r : List Token} → UpdateExpression t ks r → UnaryExpression t ks r
  -- UpdateExpression : NewExpression
  pub new_is_update : {t : Tree} {ks r : List Token} → NewExpression t ks r → UpdateExpression t ks r
  -- UpdateExpression : CallOrMemberExpression
  pub call_is_update : {t : Tree} {ks r : List Token} → CallOrMemberExpression t ks r → UpdateExpression t ks r
  -- UpdateExpression : OptionalExpression
  pub chain_is_update : {t : Tree} {ks r : List Token} → OptionalExpression t ks r → UpdateExpression t ks r
  -- NewExpression : MemberExpression
  pub member_is_new : {t : Tree} {ks r : List Token} → MemberExpression t ks r → NewExpression t ks r
  -- CallOrMemberExpression : MemberExpression
  pub member_is_call : {t : Tree} {ks r : List Token} → MemberExpression t ks r → CallOrMemberExpression t ks r
  -- OptionalFirst : CallOrMemberExpression
  pub call_is_optional : {t : Tree} {ks r : List Token} → CallOrMemberExpression t ks r → OptionalFirst t ks r
  -- OptionalFirst : OptionalExpression
  pub chain_is_optional : {t : Tree} {ks r : List Token} → OptionalExpression t ks r → OptionalFirst t ks r

pub record Productions : Type 0 where
  -- PrimaryExpression : this
  pub this : {r : List Token} {h0 l0 : ℕ} → MemberExpression (node (head form.This (lo_of (token word_this l0 h0 ∷ r)) h0) nil) (token word_this l0 h0 ∷ r) r
  -- PrimaryExpression : IdentifierReference
  pub identifier : {r : List Token} {h0 l0 : ℕ} → MemberExpression (node (head (form.Name binding.Plain) (lo_of (token code.Name l0 h0 ∷ r)) h0) nil) (token code.Name l0 h0 ∷ r) r
  -- Literal : NumericLiteral
  pub number : {r : List Token} {h0 l0 : ℕ} → MemberExpression (node (head form.Num (lo_of (token code.Number l0 h0 ∷ r)) h0) nil) (token code.Number l0 h0 ∷ r) r
  -- Literal : StringLiteral
  pub string : {r : List Token} {h0 l0 : ℕ} → MemberExpression (node (head form.Str (lo_of (token code.String l0 h0 ∷ r)) h0) nil) (token code.String l0 h0 ∷ r) r
  -- Literal : NullLiteral
  pub null : {r : List Token} {h0 l0 : ℕ} → MemberExpression (node (head (form.Word constant.Null) (lo_of (token (constant_code constant.Null) l0 h0 ∷ r)) h0) nil) (token (constant_code constant.Null) l0 h0 ∷ r) r
  -- Literal : BooleanLiteral, true
  pub true_literal : {r : List Token} {h0 l0 : ℕ} → MemberExpression (node (head (form.Word constant.True) (lo_of (token (constant_code constant.True) l0 h0 ∷ r)) h0) nil) (token (constant_code constant.True) l0 h0 ∷ r) r
  -- Literal : BooleanLiteral, false
  pub false_literal : {r : List Token} {h0 l0 : ℕ} → MemberExpression (node (head (form.Word constant.False) (lo_of (token (constant_code constant.False) l0 h0 ∷ r)) h0) nil) (token (constant_code constant.False) l0 h0 ∷ r) r
  -- IdentifierName
  pub identifier_name : {r : List Token} {h0 l0 : ℕ} → IdentifierName (node (head (form.Name binding.Plain) (lo_of (token code.Name l0 h0 ∷ r)) h0) nil) (token code.Name l0 h0 ∷ r) r
  -- BindingIdentifier with an Initializer
  pub declared_name : {r : List Token} {h0 l0 : ℕ} → DeclaredName (node (head (form.Name binding.Valued) (lo_of (token code.Name l0 h0 ∷ r)) h0) nil) (token code.Name l0 h0 ∷ r) r
  -- LiteralPropertyName : IdentifierName
  pub named_key : {r : List Token} {h0 l0 : ℕ} → LiteralPropertyName (node (head (form.Name binding.Plain) (lo_of (token code.Name l0 h0 ∷ r)) h0) nil) (token code.Name l0 h0 ∷ r) r
  -- LiteralPropertyName : StringLiteral
  pub key_string : {r : List Token} {h0 l0 : ℕ} → LiteralPropertyName (node (head form.Str (lo_of (token code.String l0 h0 ∷ r)) h0) nil) (token code.String l0 h0 ∷ r) r
  -- LiteralPropertyName : NumericLiteral
  pub key_number : {r : List Token} {h0 l0 : ℕ} → LiteralPropertyName (node (head form.Num (lo_of (token code.Number l0 h0 ∷ r)) h0) nil) (token code.Number l0 h0 ∷ r) r
  -- ArrayLiteral : [ ElementList ]
  pub array : {us : Forest} {k1 r : List Token} {h h0 l0 : ℕ} → Elements us k1 r h0 h → MemberExpression (node (head form.Array (lo_of (token open_bracket l0 h0 ∷ k1)) h) us) (token open_bracket l0 h0 ∷ k1) r
  -- ObjectLiteral : { PropertyDefinitionList }
  pub object : {us : Forest} {k1 r : List Token} {h h0 l0 : ℕ} → Properties us k1 r h0 h → MemberExpression (node (head form.Object (lo_of (token open_brace l0 h0 ∷ k1)) h) us) (token open_brace l0 h0 ∷ k1) r
  -- PropertyDefinition : LiteralPropertyName : AssignmentExpression
  pub property : {u0 u2 : Tree} {k0 k2 r : List Token} {h1 l1 : ℕ} → LiteralPropertyName u0 k0 (token colon l1 h1 ∷ k2) → AssignmentExpression u2 k2 r → PropertyDefinition (node (head (form.Prop key.Fixed) (lo_of k0) (head_of u2).hi) (u0 ▸ (u2 ▸ nil))) k0 r
  -- PropertyDefinition : [ AssignmentExpression ] : AssignmentExpression
  pub computed_property : {u1 u4 : Tree} {k1 k4 r : List Token} {h0 h2 h3 l0 l2 l3 : ℕ} → AssignmentExpression u1 k1 (token close_bracket l2 h2 ∷ (token colon l3 h3 ∷ k4)) → AssignmentExpression u4 k4 r → PropertyDefinition (node (head (form.Prop key.Computed) (lo_of (token open_bracket l0 h0 ∷ k1)) (head_of u4).hi) (u1 ▸ (u4 ▸ nil))) (token open_bracket l0 h0 ∷ k1) r
  -- ParenthesizedExpression : ( Expression )
  pub parenthesized : {u1 : Tree} {k1 r : List Token} {h0 h2 l0 l2 : ℕ} → Expression u1 k1 (token close_paren l2 h2 ∷ r) → MemberExpression (node (head form.Paren (lo_of (token open_paren l0 h0 ∷ k1)) h2) (u1 ▸ nil)) (token open_paren l0 h0 ∷ k1) r
  -- FunctionExpression : function ( FormalParameters ) { FunctionBody }
  pub function : {us : Forest} {k1 r : List Token} {h h0 l0 : ℕ} → Function us k1 r h0 h → MemberExpression (node (head (form.Fn own.Nameless) (lo_of (token word_function l0 h0 ∷ k1)) h) us) (token word_function l0 h0 ∷ k1) r
  -- FunctionExpression : function BindingIdentifier ( FormalParameters ) { FunctionBody }
  pub named_function : {u1 : Tree} {us : Forest} {k1 k2 r : List Token} {h h0 l0 : ℕ} → IdentifierName u1 k1 k2 → Function us k2 r (head_of u1).hi h → MemberExpression (node (head (form.Fn own.Named) (lo_of (token word_function l0 h0 ∷ k1)) h) (u1 ▸ us)) (token word_function l0 h0 ∷ k1) r
  -- MemberExpression : new MemberExpression Arguments
  pub new_with_list : {u1 : Tree} {us : Forest} {k1 k2 r : List Token} {h h0 l0 : ℕ} → MemberExpression u1 k1 k2 → ArgumentList us k2 r (head_of u1).hi h → MemberExpression (node (head (form.New arguments.Listed) (lo_of (token word_new l0 h0 ∷ k1)) h) (u1 ▸ us)) (token word_new l0 h0 ∷ k1) r
  -- NewExpression : new NewExpression
  pub new_without_list : {u1 : Tree} {k1 r : List Token} {h0 l0 : ℕ} → NewExpression u1 k1 r → NewExpression (node (head (form.New arguments.Unlisted) (lo_of (token word_new l0 h0 ∷ k1)) (head_of u1).hi) (u1 ▸ nil)) (token word_new l0 h0 ∷ k1) r
  -- CallExpression : MemberExpression Arguments, or CallExpression Arguments
  pub call : {u0 : Tree} {us : Forest} {k0 k1 r : List Token} {h : ℕ} → CallOrMemberExpression u0 k0 k1 → ArgumentList us k1 r (head_of u0).hi h → CallOrMemberExpression (node (head form.Call (lo_of k0) h) (u0 ▸ us)) k0 r
  -- MemberExpression : MemberExpression . IdentifierName
  pub member_name : {u0 u2 : Tree} {k0 k2 r : List Token} {h1 l1 : ℕ} → MemberExpression u0 k0 (token dot l1 h1 ∷ k2) → IdentifierName u2 k2 r → MemberExpression (node (head (form.Member key.Fixed) (lo_of k0) (head_of u2).hi) (u0 ▸ (u2 ▸ nil))) k0 r
  -- MemberExpression : MemberExpression [ Expression ]
  pub member_key : {u0 u2 : Tree} {k0 k2 r : List Token} {h1 h3 l1 l3 : ℕ} → MemberExpression u0 k0 (token open_bracket l1 h1 ∷ k2) → Expression u2 k2 (token close_bracket l3 h3 ∷ r) → MemberExpression (node (head (form.Member key.Computed) (lo_of k0) h3) (u0 ▸ (u2 ▸ nil))) k0 r
  -- CallExpression : CallExpression . IdentifierName
  pub call_name : {u0 u2 : Tree} {k0 k2 r : List Token} {h1 l1 : ℕ} → CallOrMemberExpression u0 k0 (token dot l1 h1 ∷ k2) → IdentifierName u2 k2 r → CallOrMemberExpression (node (head (form.Member key.Fixed) (lo_of k0) (head_of u2).hi) (u0 ▸ (u2 ▸ nil))) k0 r
  -- CallExpression : CallExpression [ Expression ]
  pub call_key : {u0 u2 : Tree} {k0 k2 r : List Token} {h1 h3 l1 l3 : ℕ} → CallOrMemberExpression u0 k0 (token open_bracket l1 h1 ∷ k2) → Expression u2 k2 (token close_bracket l3 h3 ∷ r) → CallOrMemberExpression (node (head (form.Member key.Computed) (lo_of k0) h3) (u0 ▸ (u2 ▸ nil))) k0 r
  -- OptionalExpression : MemberExpression, CallExpression or OptionalExpression, then OptionalChain : ?. IdentifierName
  pub optional_name : {u0 u2 : Tree} {k0 k2 r : List Token} {h1 l1 : ℕ} → OptionalFirst u0 k0 (token question_dot l1 h1 ∷ k2) → IdentifierName u2 k2 r → OptionalExpression (node (head (form.Chain link.Name entry.Optional) (lo_of k0) (head_of u2).hi) (u0 ▸ (u2 ▸ nil))) k0 r
  -- OptionalExpression : MemberExpression, CallExpression or OptionalExpression, then OptionalChain : ?. [ Expression ]
  pub optional_key : {u0 u3 : Tree} {k0 k3 r : List Token} {h1 h2 h4 l1 l2 l4 : ℕ} → OptionalFirst u0 k0 (token question_dot l1 h1 ∷ (token open_bracket l2 h2 ∷ k3)) → Expression u3 k3 (token close_bracket l4 h4 ∷ r) → OptionalExpression (node (head (form.Chain link.Key entry.Optional) (lo_of k0) h4) (u0 ▸ (u3 ▸ nil))) k0 r
  -- OptionalExpression : MemberExpression, CallExpression or OptionalExpression, then OptionalChain : ?. Arguments
  pub optional_call : {u0 : Tree} {us : Forest} {k0 k2 r : List Token} {h h1 l1 : ℕ} → OptionalFirst u0 k0 (token question_dot l1 h1 ∷ k2) → ArgumentList us k2 r h1 h → OptionalExpression (node (head (form.Chain link.Call entry.Optional) (lo_of k0) h) (u0 ▸ us)) k0 r
  -- OptionalChain : OptionalChain . IdentifierName
  pub tail_name : {u0 u2 : Tree} {k0 k2 r : List Token} {h1 l1 : ℕ} → OptionalExpression u0 k0 (token dot l1 h1 ∷ k2) → IdentifierName u2 k2 r → OptionalExpression (node (head (form.Chain link.Name entry.Tail) (lo_of k0) (head_of u2).hi) (u0 ▸ (u2 ▸ nil))) k0 r
  -- OptionalChain : OptionalChain [ Expression ]
  pub tail_key : {u0 u2 : Tree} {k0 k2 r : List Token} {h1 h3 l1 l3 : ℕ} → OptionalExpression u0 k0 (token open_bracket l1 h1 ∷ k2) → Expression u2 k2 (token close_bracket l3 h3 ∷ r) → OptionalExpression (node (head (form.Chain link.Key entry.Tail) (lo_of k0) h3) (u0 ▸ (u2 ▸ nil))) k0 r
  -- OptionalChain : OptionalChain Arguments
  pub tail_call : {u0 : Tree} {us : Forest} {k0 k1 r : List Token} {h : ℕ} → OptionalExpression u0 k0 k1 → ArgumentList us k1 r (head_of u0).hi h → OptionalExpression (node (head (form.Chain link.Call entry.Tail) (lo_of k0) h) (u0 ▸ us)) k0 r
  -- AssignmentTarget : IdentifierReference
  pub target_name : {r : List Token} {h0 l0 : ℕ} → SimpleTarget (node (head (form.Name binding.Plain) (lo_of (token code.Name l0 h0 ∷ r)) h0) nil) (token code.Name l0 h0 ∷ r) r
  -- AssignmentTarget : a member, of a MemberExpression or a CallExpression
  pub target_member : {u0 u2 : Tree} {k0 k2 r : List Token} {h1 l1 : ℕ} → CallOrMemberExpression u0 k0 (token dot l1 h1 ∷ k2) → IdentifierName u2 k2 r → SimpleTarget (node (head (form.Member key.Fixed) (lo_of k0) (head_of u2).hi) (u0 ▸ (u2 ▸ nil))) k0 r
  -- AssignmentTarget : a member, of a MemberExpression or a CallExpression
  pub target_key : {u0 u2 : Tree} {k0 k2 r : List Token} {h1 h3 l1 l3 : ℕ} → CallOrMemberExpression u0 k0 (token open_bracket l1 h1 ∷ k2) → Expression u2 k2 (token close_bracket l3 h3 ∷ r) → SimpleTarget (node (head (form.Member key.Computed) (lo_of k0) h3) (u0 ▸ (u2 ▸ nil))) k0 r
  -- AssignmentTarget : ( AssignmentTarget )
  pub target_paren : {u1 : Tree} {k1 r : List Token} {h0 h2 l0 l2 : ℕ} → SimpleTarget u1 k1 (token close_paren l2 h2 ∷ r) → SimpleTarget (node (head form.Paren (lo_of (token open_paren l0 h0 ∷ k1)) h2) (u1 ▸ nil)) (token open_paren l0 h0 ∷ k1) r
  -- UpdateExpression : ++ UnaryExpression
  pub increment_before : {u1 : Tree} {k1 r : List Token} {h0 l0 : ℕ} → SimpleTarget u1 k1 r → UpdateExpression (node (head (form.Update update.Increment side.Before) (lo_of (token (update_code update.Increment) l0 h0 ∷ k1)) (head_of u1).hi) (u1 ▸ nil)) (token (update_code update.Increment) l0 h0 ∷ k1) r
  -- UpdateExpression : LeftHandSideExpression ++
  pub increment_after : {u0 : Tree} {k0 r : List Token} {h1 l1 : ℕ} → SimpleTarget u0 k0 (token (update_code update.Increment) l1 h1 ∷ r) → UpdateExpression (node (head (form.Update update.Increment side.After) (lo_of k0) h1) (u0 ▸ nil)) k0 r
  -- UpdateExpression : -- UnaryExpression
  pub decrement_before : {u1 : Tree} {k1 r : List Token} {h0 l0 : ℕ} → SimpleTarget u1 k1 r → UpdateExpression (node (head (form.Update update.Decrement side.Before) (lo_of (token (update_code update.Decrement) l0 h0 ∷ k1)) (head_of u1).hi) (u1 ▸ nil)) (token (update_code update.Decrement) l0 h0 ∷ k1) r
  -- UpdateExpression : LeftHandSideExpression --
  pub decrement_after : {u0 : Tree} {k0 r : List Token} {h1 l1 : ℕ} → SimpleTarget u0 k0 (token (update_code update.Decrement) l1 h1 ∷ r) → UpdateExpression (node (head (form.Update update.Decrement side.After) (lo_of k0) h1) (u0 ▸ nil)) k0 r
  -- UnaryExpression : - UnaryExpression
  pub unary_minus : {u1 : Tree} {k1 r : List Token} {h0 l0 : ℕ} → UnaryExpression u1 k1 r → UnaryExpression (node (head (form.Unary unary.Minus) (lo_of (token (unary_code unary.Minus) l0 h0 ∷ k1)) (head_of u1).hi) (u1 ▸ nil)) (token (unary_code unary.Minus) l0 h0 ∷ k1) r
  -- UnaryExpression : + UnaryExpression
  pub unary_plus : {u1 : Tree} {k1 r : List Token} {h0 l0 : ℕ} → UnaryExpression u1 k1 r → UnaryExpression (node (head (form.Unary unary.Plus) (lo_of (token (unary_code unary.Plus) l0 h0 ∷ k1)) (head_of u1).hi) (u1 ▸ nil)) (token (unary_code unary.Plus) l0 h0 ∷ k1) r
  -- UnaryExpression : ! UnaryExpression
  pub unary_not : {u1 : Tree} {k1 r : List Token} {h0 l0 : ℕ} → UnaryExpression u1 k1 r → UnaryExpression (node (head (form.Unary unary.Not) (lo_of (token (unary_code unary.Not) l0 h0 ∷ k1)) (head_of u1).hi) (u1 ▸ nil)) (token (unary_code unary.Not) l0 h0 ∷ k1) r
  -- UnaryExpression : ~ UnaryExpression
  pub unary_bitnot : {u1 : Tree} {k1 r : List Token} {h0 l0 : ℕ} → UnaryExpression u1 k1 r → UnaryExpression (node (head (form.Unary unary.BitNot) (lo_of (token (unary_code unary.BitNot) l0 h0 ∷ k1)) (head_of u1).hi) (u1 ▸ nil)) (token (unary_code unary.BitNot) l0 h0 ∷ k1) r
  -- UnaryExpression : typeof UnaryExpression
  pub unary_typeof : {u1 : Tree} {k1 r : List Token} {h0 l0 : ℕ} → UnaryExpression u1 k1 r → UnaryExpression (node (head (form.Unary unary.Typeof) (lo_of (token (unary_code unary.Typeof) l0 h0 ∷ k1)) (head_of u1).hi) (u1 ▸ nil)) (token (unary_code unary.Typeof) l0 h0 ∷ k1) r
  -- UnaryExpression : void UnaryExpression
  pub unary_void : {u1 : Tree} {k1 r : List Token} {h0 l0 : ℕ} → UnaryExpression u1 k1 r → UnaryExpression (node (head (form.Unary unary.Void) (lo_of (token (unary_code unary.Void) l0 h0 ∷ k1)) (head_of u1).hi) (u1 ▸ nil)) (token (unary_code unary.Void) l0 h0 ∷ k1) r
  -- UnaryExpression : delete UnaryExpression
  pub unary_delete : {u1 : Tree} {k1 r : List Token} {h0 l0 : ℕ} → UnaryExpression u1 k1 r → UnaryExpression (node (head (form.Unary unary.Delete) (lo_of (token (unary_code unary.Delete) l0 h0 ∷ k1)) (head_of u1).hi) (u1 ▸ nil)) (token (unary_code unary.Delete) l0 h0 ∷ k1) r
  -- AwaitExpression : await UnaryExpression
  pub await_expression : {u1 : Tree} {k1 r : List Token} {h0 l0 : ℕ} → UnaryExpression u1 k1 r → UnaryExpression (node (head form.Await (lo_of (token word_await l0 h0 ∷ k1)) (head_of u1).hi) (u1 ▸ nil)) (token word_await l0 h0 ∷ k1) r
  -- CoalesceExpression : CoalesceExpressionHead ?? BitwiseORExpression
  pub operator_coalesce : {u0 u2 : Tree} {k0 k2 r : List Token} {h1 l1 : ℕ} → CoalesceExpressionHead u0 k0 (token (binary_code binary.Coalesce) l1 h1 ∷ k2) → BitwiseORExpression u2 k2 r → CoalesceExpressionHead (node (head (form.Bin binary.Coalesce) (lo_of k0) (head_of u2).hi) (u0 ▸ (u2 ▸ nil))) k0 r
  -- LogicalORExpression : LogicalORExpression || LogicalANDExpression
  pub operator_or : {u0 u2 : Tree} {k0 k2 r : List Token} {h1 l1 : ℕ} → LogicalORExpression u0 k0 (token (binary_code binary.Or) l1 h1 ∷ k2) → LogicalANDExpression u2 k2 r → LogicalORExpression (node (head (form.Bin binary.Or) (lo_of k0) (head_of u2).hi) (u0 ▸ (u2 ▸ nil))) k0 r
  -- LogicalANDExpression : LogicalANDExpression && BitwiseORExpression
  pub operator_and : {u0 u2 : Tree} {k0 k2 r : List Token} {h1 l1 : ℕ} → LogicalANDExpression u0 k0 (token (binary_code binary.And) l1 h1 ∷ k2) → BitwiseORExpression u2 k2 r → LogicalANDExpression (node (head (form.Bin binary.And) (lo_of k0) (head_of u2).hi) (u0 ▸ (u2 ▸ nil))) k0 r
  -- BitwiseORExpression : BitwiseORExpression | BitwiseXORExpression
  pub operator_bit_or : {u0 u2 : Tree} {k0 k2 r : List Token} {h1 l1 : ℕ} → BitwiseORExpression u0 k0 (token (binary_code binary.BitOr) l1 h1 ∷ k2) → BitwiseXORExpression u2 k2 r → BitwiseORExpression (node (head (form.Bin binary.BitOr) (lo_of k0) (head_of u2).hi) (u0 ▸ (u2 ▸ nil))) k0 r
  -- BitwiseXORExpression : BitwiseXORExpression ^ BitwiseANDExpression
  pub operator_bit_xor : {u0 u2 : Tree} {k0 k2 r : List Token} {h1 l1 : ℕ} → BitwiseXORExpression u0 k0 (token (binary_code binary.BitXor) l1 h1 ∷ k2) → BitwiseANDExpression u2 k2 r → BitwiseXORExpression (node (head (form.Bin binary.BitXor) (lo_of k0) (head_of u2).hi) (u0 ▸ (u2 ▸ nil))) k0 r
  -- BitwiseANDExpression : BitwiseANDExpression & EqualityExpression
  pub operator_bit_and : {u0 u2 : Tree} {k0 k2 r : List Token} {h1 l1 : ℕ} → BitwiseANDExpression u0 k0 (token (binary_code binary.BitAnd) l1 h1 ∷ k2) → EqualityExpression u2 k2 r → BitwiseANDExpression (node (head (form.Bin binary.BitAnd) (lo_of k0) (head_of u2).hi) (u0 ▸ (u2 ▸ nil))) k0 r
  -- EqualityExpression : EqualityExpression == RelationalExpression
  pub operator_equal : {u0 u2 : Tree} {k0 k2 r : List Token} {h1 l1 : ℕ} → EqualityExpression u0 k0 (token (binary_code binary.Equal) l1 h1 ∷ k2) → RelationalExpression u2 k2 r → EqualityExpression (node (head (form.Bin binary.Equal) (lo_of k0) (head_of u2).hi) (u0 ▸ (u2 ▸ nil))) k0 r
  -- EqualityExpression : EqualityExpression != RelationalExpression
  pub operator_not_equal : {u0 u2 : Tree} {k0 k2 r : List Token} {h1 l1 : ℕ} → EqualityExpression u0 k0 (token (binary_code binary.NotEqual) l1 h1 ∷ k2) → RelationalExpression u2 k2 r → EqualityExpression (node (head (form.Bin binary.NotEqual) (lo_of k0) (head_of u2).hi) (u0 ▸ (u2 ▸ nil))) k0 r
  -- EqualityExpression : EqualityExpression === RelationalExpression
  pub operator_strict_equal : {u0 u2 : Tree} {k0 k2 r : List Token} {h1 l1 : ℕ} → EqualityExpression u0 k0 (token (binary_code binary.StrictEqual) l1 h1 ∷ k2) → RelationalExpression u2 k2 r → EqualityExpression (node (head (form.Bin binary.StrictEqual) (lo_of k0) (head_of u2).hi) (u0 ▸ (u2 ▸ nil))) k0 r
  -- EqualityExpression : EqualityExpression !== RelationalExpression
  pub operator_strict_not_equal : {u0 u2 : Tree} {k0 k2 r : List Token} {h1 l1 : ℕ} → EqualityExpression u0 k0 (token (binary_code binary.StrictNotEqual) l1 h1 ∷ k2) → RelationalExpression u2 k2 r → EqualityExpression (node (head (form.Bin binary.StrictNotEqual) (lo_of k0) (head_of u2).hi) (u0 ▸ (u2 ▸ nil))) k0 r
  -- RelationalExpression : RelationalExpression < ShiftExpression
  pub operator_less : {u0 u2 : Tree} {k0 k2 r : List Token} {h1 l1 : ℕ} → RelationalExpression u0 k0 (token (binary_code binary.Less) l1 h1 ∷ k2) → ShiftExpression u2 k2 r → RelationalExpression (node (head (form.Bin binary.Less) (lo_of k0) (head_of u2).hi) (u0 ▸ (u2 ▸ nil))) k0 r
  -- RelationalExpression : RelationalExpression <= ShiftExpression
  pub operator_less_or_equal : {u0 u2 : Tree} {k0 k2 r : List Token} {h1 l1 : ℕ} → RelationalExpression u0 k0 (token (binary_code binary.LessOrEqual) l1 h1 ∷ k2) → ShiftExpression u2 k2 r → RelationalExpression (node (head (form.Bin binary.LessOrEqual) (lo_of k0) (head_of u2).hi) (u0 ▸ (u2 ▸ nil))) k0 r
  -- RelationalExpression : RelationalExpression > ShiftExpression
  pub operator_greater : {u0 u2 : Tree} {k0 k2 r : List Token} {h1 l1 : ℕ} → RelationalExpression u0 k0 (token (binary_code binary.Greater) l1 h1 ∷ k2) → ShiftExpression u2 k2 r → RelationalExpression (node (head (form.Bin binary.Greater) (lo_of k0) (head_of u2).hi) (u0 ▸ (u2 ▸ nil))) k0 r
  -- RelationalExpression : RelationalExpression >= ShiftExpression
  pub operator_greater_or_equal : {u0 u2 : Tree} {k0 k2 r : List Token} {h1 l1 : ℕ} → RelationalExpression u0 k0 (token (binary_code binary.GreaterOrEqual) l1 h1 ∷ k2) → ShiftExpression u2 k2 r → RelationalExpression (node (head (form.Bin binary.GreaterOrEqual) (lo_of k0) (head_of u2).hi) (u0 ▸ (u2 ▸ nil))) k0 r
  -- RelationalExpression : RelationalExpression in ShiftExpression
  pub operator_in : {u0 u2 : Tree} {k0 k2 r : List Token} {h1 l1 : ℕ} → RelationalExpression u0 k0 (token (binary_code binary.In) l1 h1 ∷ k2) → ShiftExpression u2 k2 r → RelationalExpression (node (head (form.Bin binary.In) (lo_of k0) (head_of u2).hi) (u0 ▸ (u2 ▸ nil))) k0 r
  -- RelationalExpression : RelationalExpression instanceof ShiftExpression
  pub operator_instanceof : {u0 u2 : Tree} {k0 k2 r : List Token} {h1 l1 : ℕ} → RelationalExpression u0 k0 (token (binary_code binary.Instanceof) l1 h1 ∷ k2) → ShiftExpression u2 k2 r → RelationalExpression (node (head (form.Bin binary.Instanceof) (lo_of k0) (head_of u2).hi) (u0 ▸ (u2 ▸ nil))) k0 r
  -- ShiftExpression : ShiftExpression << AdditiveExpression
  pub operator_left_shift : {u0 u2 : Tree} {k0 k2 r : List Token} {h1 l1 : ℕ} → ShiftExpression u0 k0 (token (binary_code binary.LeftShift) l1 h1 ∷ k2) → AdditiveExpression u2 k2 r → ShiftExpression (node (head (form.Bin binary.LeftShift) (lo_of k0) (head_of u2).hi) (u0 ▸ (u2 ▸ nil))) k0 r
  -- ShiftExpression : ShiftExpression >> AdditiveExpression
  pub operator_right_shift : {u0 u2 : Tree} {k0 k2 r : List Token} {h1 l1 : ℕ} → ShiftExpression u0 k0 (token (binary_code binary.RightShift) l1 h1 ∷ k2) → AdditiveExpression u2 k2 r → ShiftExpression (node (head (form.Bin binary.RightShift) (lo_of k0) (head_of u2).hi) (u0 ▸ (u2 ▸ nil))) k0 r
  -- ShiftExpression : ShiftExpression >>> AdditiveExpression
  pub operator_unsigned_right_shift : {u0 u2 : Tree} {k0 k2 r : List Token} {h1 l1 : ℕ} → ShiftExpression u0 k0 (token (binary_code binary.UnsignedRightShift) l1 h1 ∷ k2) → AdditiveExpression u2 k2 r → ShiftExpression (node (head (form.Bin binary.UnsignedRightShift) (lo_of k0) (head_of u2).hi) (u0 ▸ (u2 ▸ nil))) k0 r
  -- AdditiveExpression : AdditiveExpression + MultiplicativeExpression
  pub operator_add : {u0 u2 : Tree} {k0 k2 r : List Token} {h1 l1 : ℕ} → AdditiveExpression u0 k0 (token (binary_code binary.Add) l1 h1 ∷ k2) → MultiplicativeExpression u2 k2 r → AdditiveExpression (node (head (form.Bin binary.Add) (lo_of k0) (head_of u2).hi) (u0 ▸ (u2 ▸ nil))) k0 r
  -- AdditiveExpression : AdditiveExpression - MultiplicativeExpression
  pub operator_subtract : {u0 u2 : Tree} {k0 k2 r : List Token} {h1 l1 : ℕ} → AdditiveExpression u0 k0 (token (binary_code binary.Subtract) l1 h1 ∷ k2) → MultiplicativeExpression u2 k2 r → AdditiveExpression (node (head (form.Bin binary.Subtract) (lo_of k0) (head_of u2).hi) (u0 ▸ (u2 ▸ nil))) k0 r
  -- MultiplicativeExpression : MultiplicativeExpression * ExponentiationExpression
  pub operator_multiply : {u0 u2 : Tree} {k0 k2 r : List Token} {h1 l1 : ℕ} → MultiplicativeExpression u0 k0 (token (binary_code binary.Multiply) l1 h1 ∷ k2) → ExponentiationExpression u2 k2 r → MultiplicativeExpression (node (head (form.Bin binary.Multiply) (lo_of k0) (head_of u2).hi) (u0 ▸ (u2 ▸ nil))) k0 r
  -- MultiplicativeExpression : MultiplicativeExpression / ExponentiationExpression
  pub operator_divide : {u0 u2 : Tree} {k0 k2 r : List Token} {h1 l1 : ℕ} → MultiplicativeExpression u0 k0 (token (binary_code binary.Divide) l1 h1 ∷ k2) → ExponentiationExpression u2 k2 r → MultiplicativeExpression (node (head (form.Bin binary.Divide) (lo_of k0) (head_of u2).hi) (u0 ▸ (u2 ▸ nil))) k0 r
  -- MultiplicativeExpression : MultiplicativeExpression % ExponentiationExpression
  pub operator_remainder : {u0 u2 : Tree} {k0 k2 r : List Token} {h1 l1 : ℕ} → MultiplicativeExpression u0 k0 (token (binary_code binary.Remainder) l1 h1 ∷ k2) → ExponentiationExpression u2 k2 r → MultiplicativeExpression (node (head (form.Bin binary.Remainder) (lo_of k0) (head_of u2).hi) (u0 ▸ (u2 ▸ nil))) k0 r
  -- ExponentiationExpression : UpdateExpression ** ExponentiationExpression
  pub operator_exponent : {u0 u2 : Tree} {k0 k2 r : List Token} {h1 l1 : ℕ} → UpdateExpression u0 k0 (token (binary_code binary.Exponent) l1 h1 ∷ k2) → ExponentiationExpression u2 k2 r → ExponentiationExpression (node (head (form.Bin binary.Exponent) (lo_of k0) (head_of u2).hi) (u0 ▸ (u2 ▸ nil))) k0 r
  -- ConditionalExpression : ShortCircuitExpression ? AssignmentExpression : AssignmentExpression
  pub conditional : {u0 u2 u4 : Tree} {k0 k2 k4 r : List Token} {h1 h3 l1 l3 : ℕ} → ShortCircuitExpression u0 k0 (token question l1 h1 ∷ k2) → AssignmentExpression u2 k2 (token colon l3 h3 ∷ k4) → AssignmentExpression u4 k4 r → AssignmentExpression (node (head form.Cond (lo_of k0) (head_of u4).hi) (u0 ▸ (u2 ▸ (u4 ▸ nil)))) k0 r
  -- AssignmentExpression : LeftHandSideExpression = AssignmentExpression, and with each AssignmentOperator
  pub assignment : (o : AssignOperator) {u0 u2 : Tree} {k0 k2 r : List Token} {h1 l1 : ℕ} → SimpleTarget u0 k0 (token (code.AssignOperator o) l1 h1 ∷ k2) → AssignmentExpression u2 k2 r → AssignmentExpression (node (head (form.Assign o) (lo_of k0) (head_of u2).hi) (u0 ▸ (u2 ▸ nil))) k0 r
  -- ArrowFunction : ( FormalParameters ) => ConciseBody
  pub arrow_function : {us : Forest} {k0 r : List Token} {h : ℕ} → ArrowParts us k0 r 0 h → AssignmentExpression (node (head form.Arrow (lo_of k0) h) us) k0 r
  -- YieldExpression : yield
  pub yield_alone : {r : List Token} {h0 l0 : ℕ} → AssignmentExpression (node (head form.Yield (lo_of (token word_yield l0 h0 ∷ r)) h0) nil) (token word_yield l0 h0 ∷ r) r
  -- YieldExpression : yield AssignmentExpression
  pub yield_operand : {u1 : Tree} {k1 r : List Token} {h0 l0 : ℕ} → AssignmentExpression u1 k1 r → AssignmentExpression (node (head form.Yield (lo_of (token word_yield l0 h0 ∷ k1)) (head_of u1).hi) (u1 ▸ nil)) (token word_yield l0 h0 ∷ k1) r
  -- Expression : Expression , AssignmentExpression (two and more elements make one Seq)
  pub sequence : {u0 u2 : Tree} {us : Forest} {k0 k2 k3 r : List Token} {h h1 l1 : ℕ} → AssignmentExpression u0 k0 (token comma l1 h1 ∷ k2) → AssignmentExpression u2 k2 k3 → MoreElements us k3 r (head_of u2).hi h → Expression (node (head form.Seq (lo_of k0) h) (u0 ▸ (u2 ▸ us))) k0 r
  -- Block : { StatementList }
  pub block_statement : {us : Forest} {k1 r : List Token} {h h0 l0 : ℕ} → StatementsToBrace us k1 r h0 h → Statement (node (head form.Block (lo_of (token open_brace l0 h0 ∷ k1)) h) us) (token open_brace l0 h0 ∷ k1) r
  -- FunctionBody, in braces
  pub function_body : {us : Forest} {k1 r : List Token} {h h0 l0 : ℕ} → StatementsToBrace us k1 r h0 h → FunctionBody (node (head form.Block (lo_of (token open_brace l0 h0 ∷ k1)) h) us) (token open_brace l0 h0 ∷ k1) r
  -- VariableStatement : var VariableDeclarationList ;
  pub var_statement : {us : Forest} {k1 r : List Token} {h h0 l0 : ℕ} → Declarations us k1 r h0 h → Statement (node (head form.Var (lo_of (token word_var l0 h0 ∷ k1)) h) us) (token word_var l0 h0 ∷ k1) r
  -- EmptyStatement : ;
  pub empty_statement : {r : List Token} {h0 l0 : ℕ} → Statement (node (head form.Empty (lo_of (token semicolon l0 h0 ∷ r)) h0) nil) (token semicolon l0 h0 ∷ r) r
  -- ExpressionStatement : Expression ; (it does not begin with { or function)
  pub expression_statement : {u0 : Tree} {k0 r : List Token} {h1 l1 : ℕ} → StatementExpression u0 k0 (token semicolon l1 h1 ∷ r) → Statement (node (head form.ExprStmt (lo_of k0) h1) (u0 ▸ nil)) k0 r
  -- IfStatement : if ( Expression ) Statement
  pub if_statement : {u2 u4 : Tree} {k2 k4 r : List Token} {h0 h1 h3 l0 l1 l3 : ℕ} → Expression u2 k2 (token close_paren l3 h3 ∷ k4) → Statement u4 k4 r → Statement (node (head form.If (lo_of (token word_if l0 h0 ∷ (token open_paren l1 h1 ∷ k2))) (head_of u4).hi) (u2 ▸ (u4 ▸ nil))) (token word_if l0 h0 ∷ (token open_paren l1 h1 ∷ k2)) r
  -- IfStatement : if ( Expression ) Statement else Statement (the first does not end in an If without else)
  pub if_else_statement : {u2 u4 u6 : Tree} {k2 k4 k6 r : List Token} {h0 h1 h3 h5 l0 l1 l3 l5 : ℕ} → Expression u2 k2 (token close_paren l3 h3 ∷ k4) → StatementBeforeElse u4 k4 (token word_else l5 h5 ∷ k6) → Statement u6 k6 r → Statement (node (head form.If (lo_of (token word_if l0 h0 ∷ (token open_paren l1 h1 ∷ k2))) (head_of u6).hi) (u2 ▸ (u4 ▸ (u6 ▸ nil)))) (token word_if l0 h0 ∷ (token open_paren l1 h1 ∷ k2)) r
  -- WhileStatement : while ( Expression ) Statement
  pub while_statement : {u2 u4 : Tree} {k2 k4 r : List Token} {h0 h1 h3 l0 l1 l3 : ℕ} → Expression u2 k2 (token close_paren l3 h3 ∷ k4) → Statement u4 k4 r → Statement (node (head form.While (lo_of (token word_while l0 h0 ∷ (token open_paren l1 h1 ∷ k2))) (head_of u4).hi) (u2 ▸ (u4 ▸ nil))) (token word_while l0 h0 ∷ (token open_paren l1 h1 ∷ k2)) r
  -- ForStatement : for ( ; ; ) Statement
  pub for_bare : {u5 : Tree} {k5 r : List Token} {h0 h1 h2 h3 h4 l0 l1 l2 l3 l4 : ℕ} → Statement u5 k5 r → Statement (node (head (form.For false false false) (lo_of (token word_for l0 h0 ∷ (token open_paren l1 h1 ∷ (token semicolon l2 h2 ∷ (token semicolon l3 h3 ∷ (token close_paren l4 h4 ∷ k5)))))) (head_of u5).hi) (u5 ▸ nil)) (token word_for l0 h0 ∷ (token open_paren l1 h1 ∷ (token semicolon l2 h2 ∷ (token semicolon l3 h3 ∷ (token close_paren l4 h4 ∷ k5))))) r
  -- ForStatement : for ( ; ; Expression ) Statement
  pub for_u : {u4 u6 : Tree} {k4 k6 r : List Token} {h0 h1 h2 h3 h5 l0 l1 l2 l3 l5 : ℕ} → Expression u4 k4 (token close_paren l5 h5 ∷ k6) → Statement u6 k6 r → Statement (node (head (form.For false false true) (lo_of (token word_for l0 h0 ∷ (token open_paren l1 h1 ∷ (token semicolon l2 h2 ∷ (token semicolon l3 h3 ∷ k4))))) (head_of u6).hi) (u4 ▸ (u6 ▸ nil))) (token word_for l0 h0 ∷ (token open_paren l1 h1 ∷ (token semicolon l2 h2 ∷ (token semicolon l3 h3 ∷ k4)))) r
  -- ForStatement : for ( ; Expression ; ) Statement
  pub for_t : {u3 u6 : Tree} {k3 k6 r : List Token} {h0 h1 h2 h4 h5 l0 l1 l2 l4 l5 : ℕ} → Expression u3 k3 (token semicolon l4 h4 ∷ (token close_paren l5 h5 ∷ k6)) → Statement u6 k6 r → Statement (node (head (form.For false true false) (lo_of (token word_for l0 h0 ∷ (token open_paren l1 h1 ∷ (token semicolon l2 h2 ∷ k3)))) (head_of u6).hi) (u3 ▸ (u6 ▸ nil))) (token word_for l0 h0 ∷ (token open_paren l1 h1 ∷ (token semicolon l2 h2 ∷ k3))) r
  -- ForStatement : for ( ; Expression ; Expression ) Statement
  pub for_tu : {u3 u5 u7 : Tree} {k3 k5 k7 r : List Token} {h0 h1 h2 h4 h6 l0 l1 l2 l4 l6 : ℕ} → Expression u3 k3 (token semicolon l4 h4 ∷ k5) → Expression u5 k5 (token close_paren l6 h6 ∷ k7) → Statement u7 k7 r → Statement (node (head (form.For false true true) (lo_of (token word_for l0 h0 ∷ (token open_paren l1 h1 ∷ (token semicolon l2 h2 ∷ k3)))) (head_of u7).hi) (u3 ▸ (u5 ▸ (u7 ▸ nil)))) (token word_for l0 h0 ∷ (token open_paren l1 h1 ∷ (token semicolon l2 h2 ∷ k3))) r
  -- ForStatement : for ( Expression ; ; ) Statement
  pub for_i : {u2 u6 : Tree} {k2 k6 r : List Token} {h0 h1 h3 h4 h5 l0 l1 l3 l4 l5 : ℕ} → ForInit u2 k2 (token semicolon l3 h3 ∷ (token semicolon l4 h4 ∷ (token close_paren l5 h5 ∷ k6))) → Statement u6 k6 r → Statement (node (head (form.For true false false) (lo_of (token word_for l0 h0 ∷ (token open_paren l1 h1 ∷ k2))) (head_of u6).hi) (u2 ▸ (u6 ▸ nil))) (token word_for l0 h0 ∷ (token open_paren l1 h1 ∷ k2)) r
  -- ForStatement : for ( Expression ; ; Expression ) Statement
  pub for_iu : {u2 u5 u7 : Tree} {k2 k5 k7 r : List Token} {h0 h1 h3 h4 h6 l0 l1 l3 l4 l6 : ℕ} → ForInit u2 k2 (token semicolon l3 h3 ∷ (token semicolon l4 h4 ∷ k5)) → Expression u5 k5 (token close_paren l6 h6 ∷ k7) → Statement u7 k7 r → Statement (node (head (form.For true false true) (lo_of (token word_for l0 h0 ∷ (token open_paren l1 h1 ∷ k2))) (head_of u7).hi) (u2 ▸ (u5 ▸ (u7 ▸ nil)))) (token word_for l0 h0 ∷ (token open_paren l1 h1 ∷ k2)) r
  -- ForStatement : for ( Expression ; Expression ; ) Statement
  pub for_it : {u2 u4 u7 : Tree} {k2 k4 k7 r : List Token} {h0 h1 h3 h5 h6 l0 l1 l3 l5 l6 : ℕ} → ForInit u2 k2 (token semicolon l3 h3 ∷ k4) → Expression u4 k4 (token semicolon l5 h5 ∷ (token close_paren l6 h6 ∷ k7)) → Statement u7 k7 r → Statement (node (head (form.For true true false) (lo_of (token word_for l0 h0 ∷ (token open_paren l1 h1 ∷ k2))) (head_of u7).hi) (u2 ▸ (u4 ▸ (u7 ▸ nil)))) (token word_for l0 h0 ∷ (token open_paren l1 h1 ∷ k2)) r
  -- ForStatement : for ( Expression ; Expression ; Expression ) Statement
  pub for_itu : {u2 u4 u6 u8 : Tree} {k2 k4 k6 k8 r : List Token} {h0 h1 h3 h5 h7 l0 l1 l3 l5 l7 : ℕ} → ForInit u2 k2 (token semicolon l3 h3 ∷ k4) → Expression u4 k4 (token semicolon l5 h5 ∷ k6) → Expression u6 k6 (token close_paren l7 h7 ∷ k8) → Statement u8 k8 r → Statement (node (head (form.For true true true) (lo_of (token word_for l0 h0 ∷ (token open_paren l1 h1 ∷ k2))) (head_of u8).hi) (u2 ▸ (u4 ▸ (u6 ▸ (u8 ▸ nil))))) (token word_for l0 h0 ∷ (token open_paren l1 h1 ∷ k2)) r
  -- ForInStatement : for ( LeftHandSideExpression in Expression ) Statement
  pub for_in_statement : {u2 u4 u6 : Tree} {k2 k4 k6 r : List Token} {h0 h1 h3 h5 l0 l1 l3 l5 : ℕ} → ForInLeft u2 k2 (token word_in l3 h3 ∷ k4) → Expression u4 k4 (token close_paren l5 h5 ∷ k6) → Statement u6 k6 r → Statement (node (head form.ForIn (lo_of (token word_for l0 h0 ∷ (token open_paren l1 h1 ∷ k2))) (head_of u6).hi) (u2 ▸ (u4 ▸ (u6 ▸ nil)))) (token word_for l0 h0 ∷ (token open_paren l1 h1 ∷ k2)) r
  -- ReturnStatement : return ;
  pub return_alone : {r : List Token} {h0 h1 l0 l1 : ℕ} → Statement (node (head form.Return (lo_of (token word_return l0 h0 ∷ (token semicolon l1 h1 ∷ r))) h1) nil) (token word_return l0 h0 ∷ (token semicolon l1 h1 ∷ r)) r
  -- ReturnStatement : return Expression ;
  pub return_value : {u1 : Tree} {k1 r : List Token} {h0 h2 l0 l2 : ℕ} → Expression u1 k1 (token semicolon l2 h2 ∷ r) → Statement (node (head form.Return (lo_of (token word_return l0 h0 ∷ k1)) h2) (u1 ▸ nil)) (token word_return l0 h0 ∷ k1) r
  -- LabelledStatement : LabelIdentifier : Statement
  pub labeled_statement : {u0 u2 : Tree} {k0 k2 r : List Token} {h1 l1 : ℕ} → IdentifierName u0 k0 (token colon l1 h1 ∷ k2) → Statement u2 k2 r → Statement (node (head form.Labeled (lo_of k0) (head_of u2).hi) (u0 ▸ (u2 ▸ nil))) k0 r
  -- Script : StatementList
  pub script : {us : Forest} {k0 r : List Token} {h : ℕ} → StatementsToEnd us k0 r 0 h → Script (node (head form.Script (lo_of k0) h) us) k0 r

pub record Lists : Type 0 where
  -- Arguments : ( )
  pub no_arguments : {r : List Token} {l h l2 h0 h2 : ℕ} → ArgumentList nil (token open_paren l h ∷ (token close_paren l2 h2 ∷ r)) r h0 h2
  -- Arguments : ( ArgumentList )
  pub arguments : {u : Tree} {us : Forest} {ks r : List Token} {l i h0 h : ℕ} → ListOf (listed (at slot.Assignment) (attrs (u ▸ us)) (tok close_paren end)) (u ▸ us) ks r i h → ArgumentList (u ▸ us) (token open_paren l i ∷ ks) r h0 h
  -- ArgumentList : AssignmentExpression
  pub first_argument : {u : Tree} {us : Forest} {ks js r : List Token} {h0 h : ℕ} → AssignmentExpression u ks js → ListOf (commas true (at slot.Assignment) (attrs us) (tok close_paren end)) us js r (head_of u).hi h → ListOf (listed (at slot.Assignment) (attrs (u ▸ us)) (tok close_paren end)) (u ▸ us) ks r h0 h
  -- ArgumentList : ArgumentList , AssignmentExpression
  pub next_argument : {u : Tree} {us : Forest} {ks js r : List Token} {l i h0 h : ℕ} → AssignmentExpression u ks js → ListOf (commas true (at slot.Assignment) (attrs us) (tok close_paren end)) us js r (head_of u).hi h → ListOf (commas true (at slot.Assignment) (attrs (u ▸ us)) (tok close_paren end)) (u ▸ us) (token comma l i ∷ ks) r h0 h
  -- the list is over
  pub last_argument : {r : List Token} {l h h0 : ℕ} → ListOf (commas true (at slot.Assignment) [] (tok close_paren end)) nil (token close_paren l h ∷ r) r h0 h
  -- ArrayLiteral : [ ]
  pub no_element : {r : List Token} {l h h0 : ℕ} → Elements nil (token close_bracket l h ∷ r) r h0 h
  -- ElementList : AssignmentExpression
  pub first_element : {u : Tree} {us : Forest} {ks js r : List Token} {h0 h : ℕ} → AssignmentExpression u ks js → ListOf (commas true (at slot.Assignment) (attrs us) (tok close_bracket end)) us js r (head_of u).hi h → ListOf (listed (at slot.Assignment) (attrs (u ▸ us)) (tok close_bracket end)) (u ▸ us) ks r h0 h
  -- ElementList : ElementList , AssignmentExpression
  pub next_element : {u : Tree} {us : Forest} {ks js r : List Token} {l i h0 h : ℕ} → AssignmentExpression u ks js → ListOf (commas true (at slot.Assignment) (attrs us) (tok close_bracket end)) us js r (head_of u).hi h → ListOf (commas true (at slot.Assignment) (attrs (u ▸ us)) (tok close_bracket end)) (u ▸ us) (token comma l i ∷ ks) r h0 h
  -- the list is over
  pub last_element : {r : List Token} {l h h0 : ℕ} → ListOf (commas true (at slot.Assignment) [] (tok close_bracket end)) nil (token close_bracket l h ∷ r) r h0 h
  -- ObjectLiteral : { }
  pub no_property : {r : List Token} {l h h0 : ℕ} → Properties nil (token close_brace l h ∷ r) r h0 h
  -- PropertyDefinitionList : PropertyDefinition
  pub first_property : {u : Tree} {us : Forest} {ks js r : List Token} {h0 h : ℕ} → PropertyDefinition u ks js → ListOf (commas true prop (attrs us) (tok close_brace end)) us js r (head_of u).hi h → ListOf (listed prop (attrs (u ▸ us)) (tok close_brace end)) (u ▸ us) ks r h0 h
  -- PropertyDefinitionList : PropertyDefinitionList , PropertyDefinition
  pub next_property : {u : Tree} {us : Forest} {ks js r : List Token} {l i h0 h : ℕ} → PropertyDefinition u ks js → ListOf (commas true prop (attrs us) (tok close_brace end)) us js r (head_of u).hi h → ListOf (commas true prop (attrs (u ▸ us)) (tok close_brace end)) (u ▸ us) (token comma l i ∷ ks) r h0 h
  -- the list is over
  pub last_property : {r : List Token} {l h h0 : ℕ} → ListOf (commas true prop [] (tok close_brace end)) nil (token close_brace l h ∷ r) r h0 h
  -- Expression : Expression , AssignmentExpression, from the third element on
  pub next_in_sequence : {u : Tree} {us : Forest} {ks js r : List Token} {l i h0 h : ℕ} → AssignmentExpression u ks js → MoreElements us js r (head_of u).hi h → MoreElements (u ▸ us) (token comma l i ∷ ks) r h0 h
  -- the sequence is over
  pub last_in_sequence : {r : List Token} {h : ℕ} → MoreElements nil r r h h
  -- StatementList : StatementList StatementListItem
  pub next_statement : {u : Tree} {us : Forest} {ks js r : List Token} {h0 h : ℕ} → Statement u ks js → StatementsToBrace us js r (head_of u).hi h → StatementsToBrace (u ▸ us) ks r h0 h
  -- { } closes a Block
  pub no_statement : {r : List Token} {l h h0 : ℕ} → StatementsToBrace nil (token close_brace l h ∷ r) r h0 h
  -- ScriptBody : StatementList
  pub next_script_statement : {u : Tree} {us : Forest} {ks js r : List Token} {h0 h : ℕ} → Statement u ks js → StatementsToEnd us js r (head_of u).hi h → StatementsToEnd (u ▸ us) ks r h0 h
  -- the script is over
  pub script_end : {r : List Token} {h : ℕ} → StatementsToEnd nil r r h h
  -- ForStatement : for ( Expression without `in` in the open ; ..
  pub init_expression : {t : Tree} {ks r : List Token} → NoInExpression t ks r → ForInit t ks r
  -- ForStatement : for ( var VariableDeclarationList without `in` in the open ; ..
  pub init_var : {t : Tree} {ks r : List Token} → ForVarInit t ks r → ForInit t ks r
  -- ForInStatement : for ( LeftHandSideExpression in ..
  pub left_target : {t : Tree} {ks r : List Token} → ForInTarget t ks r → ForInLeft t ks r
  -- ForInStatement : for ( var ForBinding in ..
  pub left_var : {t : Tree} {ks r : List Token} → ForInVar t ks r → ForInLeft t ks r
  -- FormalParameters : none, then ) { FunctionBody }
  pub function_no_parameter : {v : Tree} {ks r : List Token} {l i l2 i2 h0 : ℕ} → FunctionBody v ks r → ListOf (parameters (but_last (attrs (v ▸ nil))) (inside block_only end)) (v ▸ nil) (token open_paren l i ∷ (token close_paren l2 i2 ∷ ks)) r h0 (head_of v).hi
  -- FormalParameterList : BindingIdentifier
  pub function_first_parameter : {u v : Tree} {us : Forest} {ks js r : List Token} {l i h0 h : ℕ} → IdentifierName u ks js → ListOf (commas true plain_name (but_last (attrs (v ▸ us))) (tok close_paren (inside block_only end))) (v ▸ us) js r (head_of u).hi h → ListOf (parameters (but_last (attrs (u ▸ (v ▸ us)))) (inside block_only end)) (u ▸ (v ▸ us)) (token open_paren l i ∷ ks) r h0 h
  -- FormalParameterList : FormalParameterList , BindingIdentifier
  pub function_next_parameter : {u v : Tree} {us : Forest} {ks js r : List Token} {l i h0 h : ℕ} → IdentifierName u ks js → ListOf (commas true plain_name (but_last (attrs (v ▸ us))) (tok close_paren (inside block_only end))) (v ▸ us) js r (head_of u).hi h → ListOf (commas true plain_name (but_last (attrs (u ▸ (v ▸ us)))) (tok close_paren (inside block_only end))) (u ▸ (v ▸ us)) (token comma l i ∷ ks) r h0 h
  -- the parameters are over: ) { FunctionBody }
  pub function_last_parameter : {v : Tree} {ks r : List Token} {l i h0 : ℕ} → FunctionBody v ks r → ListOf (commas true plain_name (but_last (attrs (v ▸ nil))) (tok close_paren (inside block_only end))) (v ▸ nil) (token close_paren l i ∷ ks) r h0 (head_of v).hi
  -- FormalParameters : none, then ) => ConciseBody
  pub arrow_no_parameter : {v : Tree} {ks r : List Token} {l i l2 i2 l3 i3 h0 : ℕ} → ConciseBody v ks r → ListOf (parameters (but_last (attrs (v ▸ nil))) (tok arrow (child body end))) (v ▸ nil) (token open_paren l i ∷ (token close_paren l2 i2 ∷ (token arrow l3 i3 ∷ ks))) r h0 (head_of v).hi
  -- FormalParameterList : BindingIdentifier
  pub arrow_first_parameter : {u v : Tree} {us : Forest} {ks js r : List Token} {l i h0 h : ℕ} → IdentifierName u ks js → ListOf (commas true plain_name (but_last (attrs (v ▸ us))) (tok close_paren (tok arrow (child body end)))) (v ▸ us) js r (head_of u).hi h → ListOf (parameters (but_last (attrs (u ▸ (v ▸ us)))) (tok arrow (child body end))) (u ▸ (v ▸ us)) (token open_paren l i ∷ ks) r h0 h
  -- FormalParameterList : FormalParameterList , BindingIdentifier
  pub arrow_next_parameter : {u v : Tree} {us : Forest} {ks js r : List Token} {l i h0 h : ℕ} → IdentifierName u ks js → ListOf (commas true plain_name (but_last (attrs (v ▸ us))) (tok close_paren (tok arrow (child body end)))) (v ▸ us) js r (head_of u).hi h → ListOf (commas true plain_name (but_last (attrs (u ▸ (v ▸ us)))) (tok close_paren (tok arrow (child body end)))) (u ▸ (v ▸ us)) (token comma l i ∷ ks) r h0 h
  -- the parameters are over: ) => ConciseBody
  pub arrow_last_parameter : {v : Tree} {ks r : List Token} {l i l2 i2 h0 : ℕ} → ConciseBody v ks r → ListOf (commas true plain_name (but_last (attrs (v ▸ nil))) (tok close_paren (tok arrow (child body end)))) (v ▸ nil) (token close_paren l i ∷ (token arrow l2 i2 ∷ ks)) r h0 (head_of v).hi
  -- VariableDeclaration : BindingIdentifier
  pub declare_name : {u : Tree} {us : Forest} {ks js r : List Token} {h0 h : ℕ} → IdentifierName u ks js → MoreDeclarations us js r (head_of u).hi h → Declarations (u ▸ us) ks r h0 h
  -- VariableDeclaration : BindingIdentifier = AssignmentExpression
  pub declare_value : {u v : Tree} {us : Forest} {ks js ls r : List Token} {l i h0 h : ℕ} → DeclaredName u ks (token equals l i ∷ js) → AssignmentExpression v js ls → MoreDeclarations us ls r (head_of v).hi h → Declarations (u ▸ (v ▸ us)) ks r h0 h
  -- VariableDeclarationList : VariableDeclarationList , VariableDeclaration
  pub next_declaration : {u : Tree} {us : Forest} {ks r : List Token} {l i h0 h : ℕ} → Declarations (u ▸ us) ks r i h → MoreDeclarations (u ▸ us) (token comma l i ∷ ks) r h0 h
  -- the declarations are over: ;
  pub last_declaration : {r : List Token} {l h0 h : ℕ} → MoreDeclarations nil (token semicolon l h ∷ r) r h0 h
