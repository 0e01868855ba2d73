-- The productions of ECMA-262 that a restriction goes with: a lookahead, the parameter In, the `else` that belongs to the nearest If.
--
--   NoIn t                no `in` stands in the open in t
--   NoneOpen l us         nor in any of the trees us that the layout l leaves in the open
--   NoIns us              nor in any of the trees us
--   HeadDeclarations us ks r h0 h   the declarations of a Var in a head, where no `;` ends them
--
-- Assumes nothing.
use Rattle.std.specs.Prelude.{ℕ, ◌≡◌, Bool, true, false, not, List, ◌∷◌, T}
use Rattle.token.specs.Same.{same_code}
use Rattle.token.specs.declared.Token.{Token}
use Rattle.kinds.specs.declared.operator.BinaryOperator.TheVariants as binary
use Rattle.kinds.specs.declared.form.Form.TheVariants as form
use Rattle.grammar.specs.Codes.{open_brace, comma, equals, word_function, word_var}
use Rattle.grammar.specs.Tree.{Head, head, head_of, Tree, Forest, node, nil, ◌▸◌, ◌⊕◌}
use Rattle.grammar.specs.Layout.{Lay, end, stop, tok, kid, names, var_of, layout, attr, attrs}
use Rattle.grammar.specs.Derives.{token, lo_of, Follows}
use Rattle.grammar.specs.Productions.{Expression, AssignmentExpression, StatementExpression, FunctionBody, ConciseBody, Statement, StatementBeforeElse, NoInExpression, ForVarInit, ForInVar, IdentifierName, DeclaredName}

abbrev pub NoIn : Tree → Type 0
NoIn t = T (not (attr t).bare_in)

abbrev pub NoneOpen : Lay → Forest → Type 0
NoneOpen end us = Unit {0}
NoneOpen stop us = Unit {0}
NoneOpen (tok c ls) us = NoneOpen ls us
NoneOpen (kid i s ls) nil = Unit {0}
NoneOpen (kid true s ls) (u ▸ us) = NoneOpen ls us
NoneOpen (kid false s ls) (u ▸ us) = NoIn u × NoneOpen ls us

abbrev pub NoIns : Forest → Type 0
NoIns nil = Unit {0}
NoIns (u ▸ us) = NoIn u × NoIns us

abbrev pub HeadDeclarations : Forest → List Token → List Token → ℕ → ℕ → Type 0
HeadDeclarations us ks r h0 h = Follows true (var_of (attrs us)) us ks r h0 h

abbrev pub MoreHeadDeclarations : Forest → List Token → List Token → ℕ → ℕ → Type 0
MoreHeadDeclarations us ks r h0 h = Follows true (names (attrs us) false) us ks r h0 h

-- Lookaheads.
pub record Lookaheads : Type 0 where
  -- ExpressionStatement : [lookahead is neither { nor function] Expression ;
  pub statement_expression : {t : Tree} {k : Token} {ks r : List Token} → T (not (same_code k.code open_brace)) → T (not (same_code k.code word_function)) → Expression t (k ∷ ks) r → StatementExpression t (k ∷ ks) r
  -- ConciseBody : { FunctionBody }
  pub block_body : {t : Tree} {ks r : List Token} → FunctionBody t ks r → ConciseBody t ks r
  -- ConciseBody : [lookahead is not {] ExpressionBody
  pub expression_body : {t : Tree} {k : Token} {ks r : List Token} → T (not (same_code k.code open_brace)) → AssignmentExpression t (k ∷ ks) r → ConciseBody t (k ∷ ks) r

-- Which statements may stand before an `else`: these at once, and those that end in a statement if that one may. What remains is an If without else.
pub record BeforeElse : Type 0 where
  pub empty_before_else : {us : Forest} {ks r : List Token} {l h : ℕ} → Statement (node (head form.Empty l h) us) ks r → StatementBeforeElse (node (head form.Empty l h) us) ks r
  pub expression_before_else : {us : Forest} {ks r : List Token} {l h : ℕ} → Statement (node (head form.ExprStmt l h) us) ks r → StatementBeforeElse (node (head form.ExprStmt l h) us) ks r
  pub var_before_else : {us : Forest} {ks r : List Token} {l h : ℕ} → Statement (node (head form.Var l h) us) ks r → StatementBeforeElse (node (head form.Var l h) us) ks r
  pub return_before_else : {us : Forest} {ks r : List Token} {l h : ℕ} → Statement (node (head form.Return l h) us) ks r → StatementBeforeElse (node (head form.Return l h) us) ks r
  pub block_before_else : {us : Forest} {ks r : List Token} {l h : ℕ} → Statement (node (head form.Block l h) us) ks r → StatementBeforeElse (node (head form.Block l h) us) ks r
  pub if_else_before_else : {e u v : Tree} {ks js r : List Token} {l h : ℕ} → Statement (node (head form.If l h) (e ▸ (u ▸ (v ▸ nil)))) ks r → StatementBeforeElse v js r → StatementBeforeElse (node (head form.If l h) (e ▸ (u ▸ (v ▸ nil)))) ks r
  pub while_before_else : {e v : Tree} {ks js r : List Token} {l h : ℕ} → Statement (node (head form.While l h) (e ▸ (v ▸ nil))) ks r → StatementBeforeElse v js r → StatementBeforeElse (node (head form.While l h) (e ▸ (v ▸ nil))) ks r
  pub for_before_else : (i t u : Bool) (us : Forest) {v : Tree} {ks js r : List Token} {l h : ℕ} → Statement (node (head (form.For i t u) l h) (us ⊕ (v ▸ nil))) ks r → StatementBeforeElse v js r → StatementBeforeElse (node (head (form.For i t u) l h) (us ⊕ (v ▸ nil))) ks r
  pub for_in_before_else : {e w v : Tree} {ks js r : List Token} {l h : ℕ} → Statement (node (head form.ForIn l h) (e ▸ (w ▸ (v ▸ nil)))) ks r → StatementBeforeElse v js r → StatementBeforeElse (node (head form.ForIn l h) (e ▸ (w ▸ (v ▸ nil)))) ks r
  pub labeled_before_else : {e v : Tree} {ks js r : List Token} {l h : ℕ} → Statement (node (head form.Labeled l h) (e ▸ (v ▸ nil))) ks r → StatementBeforeElse v js r → StatementBeforeElse (node (head form.Labeled l h) (e ▸ (v ▸ nil))) ks r

-- The parameter In. One law stands for all productions that pass it on: every form but `in` itself has none in the open unless one of its open children has.
pub record WithoutIn : Type 0 where
  pub no_in : (n : Head) (us : Forest) → (n.form ≡ form.Bin binary.In → ⊥) → NoneOpen (layout n.form (attrs us)) us → NoIn (node n us)
  pub in_is_open : (us : Forest) (l h : ℕ) → NoIn (node (head (form.Bin binary.In) l h) us) → ⊥
  -- Expression without the parameter In
  pub no_in_expression : {t : Tree} {ks r : List Token} → NoIn t → Expression t ks r → NoInExpression t ks r
  -- ForStatement : for ( var VariableDeclarationList without the parameter In ; ..
  pub init_of_var : {us : Forest} {ks r : List Token} {l i h : ℕ} → NoIns us → HeadDeclarations us ks r i h → ForVarInit (node (head form.Var (lo_of (token word_var l i ∷ ks)) h) us) (token word_var l i ∷ ks) r
  -- ForInStatement : for ( var ForBinding in ..
  pub var_left : {u : Tree} {ks r : List Token} {l i : ℕ} → IdentifierName u ks r → ForInVar (node (head form.Var (lo_of (token word_var l i ∷ ks)) (head_of u).hi) (u ▸ nil)) (token word_var l i ∷ ks) r
  -- VariableDeclaration : BindingIdentifier
  pub head_name : {u : Tree} {us : Forest} {ks js r : List Token} {h0 h : ℕ} → IdentifierName u ks js → MoreHeadDeclarations us js r (head_of u).hi h → HeadDeclarations (u ▸ us) ks r h0 h
  -- VariableDeclaration : BindingIdentifier = AssignmentExpression
  pub head_value : {u v : Tree} {us : Forest} {ks js ls r : List Token} {l i h0 h : ℕ} → DeclaredName u ks (token equals l i ∷ js) → AssignmentExpression v js ls → MoreHeadDeclarations us ls r (head_of v).hi h → HeadDeclarations (u ▸ (v ▸ us)) ks r h0 h
  -- VariableDeclarationList : VariableDeclarationList , VariableDeclaration
  pub head_next : {u : Tree} {us : Forest} {ks r : List Token} {l i h0 h : ℕ} → HeadDeclarations (u ▸ us) ks r i h → MoreHeadDeclarations (u ▸ us) (token comma l i ∷ ks) r h0 h
  -- the declarations are over
  pub head_last : {r : List Token} {h : ℕ} → MoreHeadDeclarations nil r r h h
