-- A few derivations, put together from the named productions alone, to see that these suffice: nothing of how derivations are made is used.
use mathlib.Core.List.{List, [], ◌∷◌}
use Rattle.token.specs.declared.Token.{Token}
use Rattle.token.specs.declared.Code.{Code}
use Rattle.token.specs.declared.Code.TheVariants as code
use Rattle.grammar.specs.Codes.{open_paren, close_paren, open_brace, close_brace, semicolon, comma, arrow, equals, word_var, word_if, word_else, word_for}
use Rattle.grammar.specs.Tree.{Tree}
use Rattle.grammar.specs.Layout.{attr, attrs}
use Rattle.grammar.specs.Productions.{AssignmentExpression, MemberExpression, CallOrMemberExpression, Expression, Statement}
use Rattle.grammar.specs.Examples.{placed}
use Rattle.grammar.proofs.Document.{units, productions, lists}
use Rattle.grammar.proofs.Contexts.{lookaheads, before_else, without_in}

-- The ladder from the tightest expressions to the looser ones.
call_up : {t : Tree} {ks r : List Token} → CallOrMemberExpression t ks r → AssignmentExpression t ks r
call_up d =
    units.short_circuit_is_assignment (units.logical_or_is_short_circuit (units.logical_and_is_logical_or (units.bitwise_or_is_logical_and (units.bitwise_xor_is_bitwise_or (units.bitwise_and_is_bitwise_xor (units.equality_is_bitwise_and (units.relational_is_equality (units.shift_is_relational (units.additive_is_shift (units.multiplicative_is_additive (units.exponentiation_is_multiplicative (units.unary_is_exponentiation (units.update_is_unary (units.call_is_update d))))))))))))))

up : {t : Tree} {ks r : List Token} → MemberExpression t ks r → AssignmentExpression t ks r
up d = call_up (units.member_is_call d)

all_up : {t : Tree} {ks r : List Token} → MemberExpression t ks r → Expression t ks r
all_up d = units.assignment_is_expression (up d)

abbrev Reads : List Code → Type 0
Reads cs = (t : Tree) × Statement t (placed 0 cs) []

-- f ( a , b ) ;
a_call : Reads (code.Name ∷ open_paren ∷ code.Name ∷ comma ∷ code.Name ∷ close_paren ∷ semicolon ∷ [])
unfolding attrs
a_call = (_, productions.expression_statement (lookaheads.statement_expression tt tt (units.assignment_is_expression (call_up (productions.call (units.member_is_call productions.identifier) (lists.arguments (lists.first_argument (up productions.identifier) (lists.next_argument (up productions.identifier) lists.last_argument))))))))

-- ( a ) => { } ;
an_arrow : Reads (open_paren ∷ code.Name ∷ close_paren ∷ arrow ∷ open_brace ∷ close_brace ∷ semicolon ∷ [])
an_arrow = (_, productions.expression_statement (lookaheads.statement_expression tt tt (units.assignment_is_expression (productions.arrow_function (lists.arrow_first_parameter productions.identifier_name (lists.arrow_last_parameter (lookaheads.block_body (productions.function_body lists.no_statement))))))))

-- if ( a ) b ; else c ;
an_else : Reads (word_if ∷ open_paren ∷ code.Name ∷ close_paren ∷ code.Name ∷ semicolon ∷ word_else ∷ code.Name ∷ semicolon ∷ [])
an_else = (_, productions.if_else_statement (all_up productions.identifier) (before_else.expression_before_else (productions.expression_statement (lookaheads.statement_expression tt tt (all_up productions.identifier)))) (productions.expression_statement (lookaheads.statement_expression tt tt (all_up productions.identifier))))

-- for ( var a = 1 ; ; ) ;
a_head : Reads (word_for ∷ open_paren ∷ word_var ∷ code.Name ∷ equals ∷ code.Number ∷ semicolon ∷ semicolon ∷ close_paren ∷ semicolon ∷ [])
unfolding attr
a_head = (_, productions.for_i (lists.init_var (without_in.init_of_var (tt, (tt, tt)) (without_in.head_value productions.declared_name (up productions.number) without_in.head_last))) productions.empty_statement)

-- a , b , c ;
a_sequence : Reads (code.Name ∷ comma ∷ code.Name ∷ comma ∷ code.Name ∷ semicolon ∷ [])
a_sequence = (_, productions.expression_statement (lookaheads.statement_expression tt tt (productions.sequence (up productions.identifier) (up productions.identifier) (lists.next_in_sequence (up productions.identifier) lists.last_in_sequence))))
