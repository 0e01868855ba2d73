-- Worked examples from the edges of the grammar: a text, its tokens (each given the place 10n + 1 to 10n + 4, where n counts from 0), and the tree
-- that they read as, or none.
--
--   ExamplesHold      the reader gives each of them as written here
--   CoresHold         and so for the core forms of what is read
--
-- Assumes nothing.
use Rattle.std.specs.Prelude.{ℕ, ◌+◌, ◌*◌, ◌≡◌, true, false, List, [], ◌∷◌}
use Rattle.std.proofs.Math.Option.{Option, none, some}
use Rattle.token.specs.declared.Token.{Token}
use Rattle.token.specs.declared.Code.{Code}
use Rattle.token.specs.declared.Code.TheVariants as code
use Rattle.token.specs.declared.word.Word.TheVariants as word
use Rattle.token.specs.declared.operator.Operator.TheVariants as operator
use Rattle.token.specs.declared.operator.AssignOperator.TheVariants as assign
use Rattle.kinds.specs.declared.operator.UnaryOperator.TheVariants as unary
use Rattle.kinds.specs.declared.operator.BinaryOperator.TheVariants as binary
use Rattle.kinds.specs.declared.form.Constant.TheVariants as constant
use Rattle.kinds.specs.declared.form.Form.{Form}
use Rattle.kinds.specs.declared.form.Form.TheVariants as form
use Rattle.kinds.specs.declared.form.Binding.TheVariants as binding
use Rattle.kinds.specs.declared.form.Key.TheVariants as key
use Rattle.kinds.specs.declared.form.Own.TheVariants as own
use Rattle.kinds.specs.declared.form.Arguments.TheVariants as arguments
use Rattle.kinds.specs.declared.form.Link.TheVariants as link
use Rattle.kinds.specs.declared.form.Entry.TheVariants as entry
use Rattle.grammar.specs.Codes.{open_paren, close_paren, open_bracket, close_bracket, open_brace, close_brace, semicolon, comma, dot, colon, question, question_dot, arrow, equals}
use Rattle.grammar.specs.Tree.{head, Tree, Forest, node, nil, ◌▸◌}
use Rattle.grammar.specs.Derives.{token}
use Rattle.grammar.specs.Read.{read}
use Rattle.grammar.specs.Core.{core}

pub record Example : Type 0 where
  pub tokens : List Code
  pub tree : Option Tree

abbrev rec : Form → ℕ → ℕ → Forest → Tree
rec f l h us = node (head f l h) us

abbrev pub placed : ℕ → List Code → List Token
placed n [] = []
placed n (c ∷ cs) = token c (10 * n + 1) (10 * n + 4) ∷ placed (n + 1) cs

abbrev gives : List Code → Option Tree → Example
gives cs t = record { tokens = cs; tree = t }

abbrev pub Hold : List Example → Type 0
Hold [] = Unit {0}
Hold (e ∷ es) = (read (placed 0 e.tokens) ≡ e.tree) × Hold es

abbrev pub examples : List Example
examples =
    -- (no tokens)
    gives ([]) (some (rec form.Script 0 0 nil))
    -- new new a ;
    ∷ gives ((code.Word word.New) ∷ (code.Word word.New) ∷ code.Name ∷ semicolon ∷ []) (some (rec form.Script 1 34 ((rec form.ExprStmt 1 34 ((rec (form.New arguments.Unlisted) 1 24 ((rec (form.New arguments.Unlisted) 11 24 ((rec (form.Name binding.Plain) 21 24 nil) ▸ nil)) ▸ nil)) ▸ nil)) ▸ nil)))
    -- new a ( b ) ( c ) ;
    ∷ gives ((code.Word word.New) ∷ code.Name ∷ open_paren ∷ code.Name ∷ close_paren ∷ open_paren ∷ code.Name ∷ close_paren ∷ semicolon ∷ []) (some (rec form.Script 1 84 ((rec form.ExprStmt 1 84 ((rec form.Call 1 74 ((rec (form.New arguments.Listed) 1 44 ((rec (form.Name binding.Plain) 11 14 nil) ▸ (rec (form.Name binding.Plain) 31 34 nil) ▸ nil)) ▸ (rec (form.Name binding.Plain) 61 64 nil) ▸ nil)) ▸ nil)) ▸ nil)))
    -- new a . b ( c ) ;
    ∷ gives ((code.Word word.New) ∷ code.Name ∷ dot ∷ code.Name ∷ open_paren ∷ code.Name ∷ close_paren ∷ semicolon ∷ []) (some (rec form.Script 1 74 ((rec form.ExprStmt 1 74 ((rec (form.New arguments.Listed) 1 64 ((rec (form.Member key.Fixed) 11 34 ((rec (form.Name binding.Plain) 11 14 nil) ▸ (rec (form.Name binding.Plain) 31 34 nil) ▸ nil)) ▸ (rec (form.Name binding.Plain) 51 54 nil) ▸ nil)) ▸ nil)) ▸ nil)))
    -- new a ( ) . b ( c ) ;
    ∷ gives ((code.Word word.New) ∷ code.Name ∷ open_paren ∷ close_paren ∷ dot ∷ code.Name ∷ open_paren ∷ code.Name ∷ close_paren ∷ semicolon ∷ []) (some (rec form.Script 1 94 ((rec form.ExprStmt 1 94 ((rec form.Call 1 84 ((rec (form.Member key.Fixed) 1 54 ((rec (form.New arguments.Listed) 1 34 ((rec (form.Name binding.Plain) 11 14 nil) ▸ nil)) ▸ (rec (form.Name binding.Plain) 51 54 nil) ▸ nil)) ▸ (rec (form.Name binding.Plain) 71 74 nil) ▸ nil)) ▸ nil)) ▸ nil)))
    -- new a ?. b ;
    ∷ gives ((code.Word word.New) ∷ code.Name ∷ question_dot ∷ code.Name ∷ semicolon ∷ []) none
    -- ( new a ) ?. b ;
    ∷ gives (open_paren ∷ (code.Word word.New) ∷ code.Name ∷ close_paren ∷ question_dot ∷ code.Name ∷ semicolon ∷ []) (some (rec form.Script 1 64 ((rec form.ExprStmt 1 64 ((rec (form.Chain link.Name entry.Optional) 1 54 ((rec form.Paren 1 34 ((rec (form.New arguments.Unlisted) 11 24 ((rec (form.Name binding.Plain) 21 24 nil) ▸ nil)) ▸ nil)) ▸ (rec (form.Name binding.Plain) 51 54 nil) ▸ nil)) ▸ nil)) ▸ nil)))
    -- a ?. b . c ( d ) ;
    ∷ gives (code.Name ∷ question_dot ∷ code.Name ∷ dot ∷ code.Name ∷ open_paren ∷ code.Name ∷ close_paren ∷ semicolon ∷ []) (some (rec form.Script 1 84 ((rec form.ExprStmt 1 84 ((rec (form.Chain link.Call entry.Tail) 1 74 ((rec (form.Chain link.Name entry.Tail) 1 44 ((rec (form.Chain link.Name entry.Optional) 1 24 ((rec (form.Name binding.Plain) 1 4 nil) ▸ (rec (form.Name binding.Plain) 21 24 nil) ▸ nil)) ▸ (rec (form.Name binding.Plain) 41 44 nil) ▸ nil)) ▸ (rec (form.Name binding.Plain) 61 64 nil) ▸ nil)) ▸ nil)) ▸ nil)))
    -- a ?. [ b ] ?. ( c ) ;
    ∷ gives (code.Name ∷ question_dot ∷ open_bracket ∷ code.Name ∷ close_bracket ∷ question_dot ∷ open_paren ∷ code.Name ∷ close_paren ∷ semicolon ∷ []) (some (rec form.Script 1 94 ((rec form.ExprStmt 1 94 ((rec (form.Chain link.Call entry.Optional) 1 84 ((rec (form.Chain link.Key entry.Optional) 1 44 ((rec (form.Name binding.Plain) 1 4 nil) ▸ (rec (form.Name binding.Plain) 31 34 nil) ▸ nil)) ▸ (rec (form.Name binding.Plain) 71 74 nil) ▸ nil)) ▸ nil)) ▸ nil)))
    -- a ?. b = c ;
    ∷ gives (code.Name ∷ question_dot ∷ code.Name ∷ equals ∷ code.Name ∷ semicolon ∷ []) none
    -- a . in ;
    ∷ gives (code.Name ∷ dot ∷ (code.Word word.In) ∷ semicolon ∷ []) none
    -- - a ** b ;
    ∷ gives ((code.Operator operator.Minus) ∷ code.Name ∷ (code.Operator operator.Exponent) ∷ code.Name ∷ semicolon ∷ []) none
    -- ( - a ) ** b ;
    ∷ gives (open_paren ∷ (code.Operator operator.Minus) ∷ code.Name ∷ close_paren ∷ (code.Operator operator.Exponent) ∷ code.Name ∷ semicolon ∷ []) (some (rec form.Script 1 64 ((rec form.ExprStmt 1 64 ((rec (form.Bin binary.Exponent) 1 54 ((rec form.Paren 1 34 ((rec (form.Unary unary.Minus) 11 24 ((rec (form.Name binding.Plain) 21 24 nil) ▸ nil)) ▸ nil)) ▸ (rec (form.Name binding.Plain) 51 54 nil) ▸ nil)) ▸ nil)) ▸ nil)))
    -- a ** - b ;
    ∷ gives (code.Name ∷ (code.Operator operator.Exponent) ∷ (code.Operator operator.Minus) ∷ code.Name ∷ semicolon ∷ []) (some (rec form.Script 1 44 ((rec form.ExprStmt 1 44 ((rec (form.Bin binary.Exponent) 1 34 ((rec (form.Name binding.Plain) 1 4 nil) ▸ (rec (form.Unary unary.Minus) 21 34 ((rec (form.Name binding.Plain) 31 34 nil) ▸ nil)) ▸ nil)) ▸ nil)) ▸ nil)))
    -- await a ** b ;
    ∷ gives ((code.Word word.Await) ∷ code.Name ∷ (code.Operator operator.Exponent) ∷ code.Name ∷ semicolon ∷ []) none
    -- a ?? b || c ;
    ∷ gives (code.Name ∷ (code.Operator operator.Coalesce) ∷ code.Name ∷ (code.Operator operator.Or) ∷ code.Name ∷ semicolon ∷ []) none
    -- a && b ?? c ;
    ∷ gives (code.Name ∷ (code.Operator operator.And) ∷ code.Name ∷ (code.Operator operator.Coalesce) ∷ code.Name ∷ semicolon ∷ []) none
    -- ( a ?? b ) || c ;
    ∷ gives (open_paren ∷ code.Name ∷ (code.Operator operator.Coalesce) ∷ code.Name ∷ close_paren ∷ (code.Operator operator.Or) ∷ code.Name ∷ semicolon ∷ []) (some (rec form.Script 1 74 ((rec form.ExprStmt 1 74 ((rec (form.Bin binary.Or) 1 64 ((rec form.Paren 1 44 ((rec (form.Bin binary.Coalesce) 11 34 ((rec (form.Name binding.Plain) 11 14 nil) ▸ (rec (form.Name binding.Plain) 31 34 nil) ▸ nil)) ▸ nil)) ▸ (rec (form.Name binding.Plain) 61 64 nil) ▸ nil)) ▸ nil)) ▸ nil)))
    -- a ?? b ?? c ;
    ∷ gives (code.Name ∷ (code.Operator operator.Coalesce) ∷ code.Name ∷ (code.Operator operator.Coalesce) ∷ code.Name ∷ semicolon ∷ []) (some (rec form.Script 1 54 ((rec form.ExprStmt 1 54 ((rec (form.Bin binary.Coalesce) 1 44 ((rec (form.Bin binary.Coalesce) 1 24 ((rec (form.Name binding.Plain) 1 4 nil) ▸ (rec (form.Name binding.Plain) 21 24 nil) ▸ nil)) ▸ (rec (form.Name binding.Plain) 41 44 nil) ▸ nil)) ▸ nil)) ▸ nil)))
    -- a || b && c || d ;
    ∷ gives (code.Name ∷ (code.Operator operator.Or) ∷ code.Name ∷ (code.Operator operator.And) ∷ code.Name ∷ (code.Operator operator.Or) ∷ code.Name ∷ semicolon ∷ []) (some (rec form.Script 1 74 ((rec form.ExprStmt 1 74 ((rec (form.Bin binary.Or) 1 64 ((rec (form.Bin binary.Or) 1 44 ((rec (form.Name binding.Plain) 1 4 nil) ▸ (rec (form.Bin binary.And) 21 44 ((rec (form.Name binding.Plain) 21 24 nil) ▸ (rec (form.Name binding.Plain) 41 44 nil) ▸ nil)) ▸ nil)) ▸ (rec (form.Name binding.Plain) 61 64 nil) ▸ nil)) ▸ nil)) ▸ nil)))
    -- ++ a ++ ;
    ∷ gives ((code.Operator operator.Increment) ∷ code.Name ∷ (code.Operator operator.Increment) ∷ semicolon ∷ []) none
    -- a ( ) = b ;
    ∷ gives (code.Name ∷ open_paren ∷ close_paren ∷ equals ∷ code.Name ∷ semicolon ∷ []) none
    -- ( ( a . b ) ) += c ;
    ∷ gives (open_paren ∷ open_paren ∷ code.Name ∷ dot ∷ code.Name ∷ close_paren ∷ close_paren ∷ (code.AssignOperator assign.PlusAssign) ∷ code.Name ∷ semicolon ∷ []) (some (rec form.Script 1 94 ((rec form.ExprStmt 1 94 ((rec (form.Assign assign.PlusAssign) 1 84 ((rec form.Paren 1 64 ((rec form.Paren 11 54 ((rec (form.Member key.Fixed) 21 44 ((rec (form.Name binding.Plain) 21 24 nil) ▸ (rec (form.Name binding.Plain) 41 44 nil) ▸ nil)) ▸ nil)) ▸ nil)) ▸ (rec (form.Name binding.Plain) 81 84 nil) ▸ nil)) ▸ nil)) ▸ nil)))
    -- ( a , b ) = c ;
    ∷ gives (open_paren ∷ code.Name ∷ comma ∷ code.Name ∷ close_paren ∷ equals ∷ code.Name ∷ semicolon ∷ []) none
    -- yield ;
    ∷ gives ((code.Word word.Yield) ∷ semicolon ∷ []) (some (rec form.Script 1 14 ((rec form.ExprStmt 1 14 ((rec form.Yield 1 4 nil) ▸ nil)) ▸ nil)))
    -- yield a ;
    ∷ gives ((code.Word word.Yield) ∷ code.Name ∷ semicolon ∷ []) (some (rec form.Script 1 24 ((rec form.ExprStmt 1 24 ((rec form.Yield 1 14 ((rec (form.Name binding.Plain) 11 14 nil) ▸ nil)) ▸ nil)) ▸ nil)))
    -- yield , a ;
    ∷ gives ((code.Word word.Yield) ∷ comma ∷ code.Name ∷ semicolon ∷ []) (some (rec form.Script 1 34 ((rec form.ExprStmt 1 34 ((rec form.Seq 1 24 ((rec form.Yield 1 4 nil) ▸ (rec (form.Name binding.Plain) 21 24 nil) ▸ nil)) ▸ nil)) ▸ nil)))
    -- ( yield ) ;
    ∷ gives (open_paren ∷ (code.Word word.Yield) ∷ close_paren ∷ semicolon ∷ []) (some (rec form.Script 1 34 ((rec form.ExprStmt 1 34 ((rec form.Paren 1 24 ((rec form.Yield 11 14 nil) ▸ nil)) ▸ nil)) ▸ nil)))
    -- [ yield , yield a ] ;
    ∷ gives (open_bracket ∷ (code.Word word.Yield) ∷ comma ∷ (code.Word word.Yield) ∷ code.Name ∷ close_bracket ∷ semicolon ∷ []) (some (rec form.Script 1 64 ((rec form.ExprStmt 1 64 ((rec form.Array 1 54 ((rec form.Yield 11 14 nil) ▸ (rec form.Yield 31 44 ((rec (form.Name binding.Plain) 41 44 nil) ▸ nil)) ▸ nil)) ▸ nil)) ▸ nil)))
    -- yield ? a : b ;
    ∷ gives ((code.Word word.Yield) ∷ question ∷ code.Name ∷ colon ∷ code.Name ∷ semicolon ∷ []) none
    -- a ? yield : yield ;
    ∷ gives (code.Name ∷ question ∷ (code.Word word.Yield) ∷ colon ∷ (code.Word word.Yield) ∷ semicolon ∷ []) (some (rec form.Script 1 54 ((rec form.ExprStmt 1 54 ((rec form.Cond 1 44 ((rec (form.Name binding.Plain) 1 4 nil) ▸ (rec form.Yield 21 24 nil) ▸ (rec form.Yield 41 44 nil) ▸ nil)) ▸ nil)) ▸ nil)))
    -- a = yield ;
    ∷ gives (code.Name ∷ equals ∷ (code.Word word.Yield) ∷ semicolon ∷ []) (some (rec form.Script 1 34 ((rec form.ExprStmt 1 34 ((rec (form.Assign assign.Assign) 1 24 ((rec (form.Name binding.Plain) 1 4 nil) ▸ (rec form.Yield 21 24 nil) ▸ nil)) ▸ nil)) ▸ nil)))
    -- f ( yield , yield b ) ;
    ∷ gives (code.Name ∷ open_paren ∷ (code.Word word.Yield) ∷ comma ∷ (code.Word word.Yield) ∷ code.Name ∷ close_paren ∷ semicolon ∷ []) (some (rec form.Script 1 74 ((rec form.ExprStmt 1 74 ((rec form.Call 1 64 ((rec (form.Name binding.Plain) 1 4 nil) ▸ (rec form.Yield 21 24 nil) ▸ (rec form.Yield 41 54 ((rec (form.Name binding.Plain) 51 54 nil) ▸ nil)) ▸ nil)) ▸ nil)) ▸ nil)))
    -- yield [ a ] ;
    ∷ gives ((code.Word word.Yield) ∷ open_bracket ∷ code.Name ∷ close_bracket ∷ semicolon ∷ []) (some (rec form.Script 1 44 ((rec form.ExprStmt 1 44 ((rec form.Yield 1 34 ((rec form.Array 11 34 ((rec (form.Name binding.Plain) 21 24 nil) ▸ nil)) ▸ nil)) ▸ nil)) ▸ nil)))
    -- yield * a ;
    ∷ gives ((code.Word word.Yield) ∷ (code.Operator operator.Multiply) ∷ code.Name ∷ semicolon ∷ []) none
    -- yield in a ;
    ∷ gives ((code.Word word.Yield) ∷ (code.Word word.In) ∷ code.Name ∷ semicolon ∷ []) none
    -- ( { a : yield } ) ;
    ∷ gives (open_paren ∷ open_brace ∷ code.Name ∷ colon ∷ (code.Word word.Yield) ∷ close_brace ∷ close_paren ∷ semicolon ∷ []) (some (rec form.Script 1 74 ((rec form.ExprStmt 1 74 ((rec form.Paren 1 64 ((rec form.Object 11 54 ((rec (form.Prop key.Fixed) 21 44 ((rec (form.Name binding.Plain) 21 24 nil) ▸ (rec form.Yield 41 44 nil) ▸ nil)) ▸ nil)) ▸ nil)) ▸ nil)) ▸ nil)))
    -- a + yield ;
    ∷ gives (code.Name ∷ (code.Operator operator.Plus) ∷ (code.Word word.Yield) ∷ semicolon ∷ []) none
    -- ( a ) => ( { } ) ;
    ∷ gives (open_paren ∷ code.Name ∷ close_paren ∷ arrow ∷ open_paren ∷ open_brace ∷ close_brace ∷ close_paren ∷ semicolon ∷ []) (some (rec form.Script 1 84 ((rec form.ExprStmt 1 84 ((rec form.Arrow 1 74 ((rec (form.Name binding.Plain) 11 14 nil) ▸ (rec form.Paren 41 74 ((rec form.Object 51 64 nil) ▸ nil)) ▸ nil)) ▸ nil)) ▸ nil)))
    -- ( a ) => { } ;
    ∷ gives (open_paren ∷ code.Name ∷ close_paren ∷ arrow ∷ open_brace ∷ close_brace ∷ semicolon ∷ []) (some (rec form.Script 1 64 ((rec form.ExprStmt 1 64 ((rec form.Arrow 1 54 ((rec (form.Name binding.Plain) 11 14 nil) ▸ (rec form.Block 41 54 nil) ▸ nil)) ▸ nil)) ▸ nil)))
    -- ( ) => a , b ;
    ∷ gives (open_paren ∷ close_paren ∷ arrow ∷ code.Name ∷ comma ∷ code.Name ∷ semicolon ∷ []) (some (rec form.Script 1 64 ((rec form.ExprStmt 1 64 ((rec form.Seq 1 54 ((rec form.Arrow 1 34 ((rec (form.Name binding.Plain) 31 34 nil) ▸ nil)) ▸ (rec (form.Name binding.Plain) 51 54 nil) ▸ nil)) ▸ nil)) ▸ nil)))
    -- ( a + b ) => c ;
    ∷ gives (open_paren ∷ code.Name ∷ (code.Operator operator.Plus) ∷ code.Name ∷ close_paren ∷ arrow ∷ code.Name ∷ semicolon ∷ []) none
    -- a => b ;
    ∷ gives (code.Name ∷ arrow ∷ code.Name ∷ semicolon ∷ []) none
    -- ( a ) => { } + b ;
    ∷ gives (open_paren ∷ code.Name ∷ close_paren ∷ arrow ∷ open_brace ∷ close_brace ∷ (code.Operator operator.Plus) ∷ code.Name ∷ semicolon ∷ []) none
    -- for ( var a = ( b in c ) ; ; ) ;
    ∷ gives ((code.Word word.For) ∷ open_paren ∷ (code.Word word.Var) ∷ code.Name ∷ equals ∷ open_paren ∷ code.Name ∷ (code.Word word.In) ∷ code.Name ∷ close_paren ∷ semicolon ∷ semicolon ∷ close_paren ∷ semicolon ∷ []) (some (rec form.Script 1 134 ((rec (form.For true false false) 1 134 ((rec form.Var 21 94 ((rec (form.Name binding.Valued) 31 34 nil) ▸ (rec form.Paren 51 94 ((rec (form.Bin binary.In) 61 84 ((rec (form.Name binding.Plain) 61 64 nil) ▸ (rec (form.Name binding.Plain) 81 84 nil) ▸ nil)) ▸ nil)) ▸ nil)) ▸ (rec form.Empty 131 134 nil) ▸ nil)) ▸ nil)))
    -- for ( var a = b in c ; ; ) ;
    ∷ gives ((code.Word word.For) ∷ open_paren ∷ (code.Word word.Var) ∷ code.Name ∷ equals ∷ code.Name ∷ (code.Word word.In) ∷ code.Name ∷ semicolon ∷ semicolon ∷ close_paren ∷ semicolon ∷ []) none
    -- for ( var a in b ) ;
    ∷ gives ((code.Word word.For) ∷ open_paren ∷ (code.Word word.Var) ∷ code.Name ∷ (code.Word word.In) ∷ code.Name ∷ close_paren ∷ semicolon ∷ []) (some (rec form.Script 1 74 ((rec form.ForIn 1 74 ((rec form.Var 21 34 ((rec (form.Name binding.Plain) 31 34 nil) ▸ nil)) ▸ (rec (form.Name binding.Plain) 51 54 nil) ▸ (rec form.Empty 71 74 nil) ▸ nil)) ▸ nil)))
    -- for ( var a = c in b ) ;
    ∷ gives ((code.Word word.For) ∷ open_paren ∷ (code.Word word.Var) ∷ code.Name ∷ equals ∷ code.Name ∷ (code.Word word.In) ∷ code.Name ∷ close_paren ∷ semicolon ∷ []) none
    -- for ( a ? b in c : d ; ; ) ;
    ∷ gives ((code.Word word.For) ∷ open_paren ∷ code.Name ∷ question ∷ code.Name ∷ (code.Word word.In) ∷ code.Name ∷ colon ∷ code.Name ∷ semicolon ∷ semicolon ∷ close_paren ∷ semicolon ∷ []) (some (rec form.Script 1 124 ((rec (form.For true false false) 1 124 ((rec form.Cond 21 84 ((rec (form.Name binding.Plain) 21 24 nil) ▸ (rec (form.Bin binary.In) 41 64 ((rec (form.Name binding.Plain) 41 44 nil) ▸ (rec (form.Name binding.Plain) 61 64 nil) ▸ nil)) ▸ (rec (form.Name binding.Plain) 81 84 nil) ▸ nil)) ▸ (rec form.Empty 121 124 nil) ▸ nil)) ▸ nil)))
    -- for ( a ? b : c in d ; ; ) ;
    ∷ gives ((code.Word word.For) ∷ open_paren ∷ code.Name ∷ question ∷ code.Name ∷ colon ∷ code.Name ∷ (code.Word word.In) ∷ code.Name ∷ semicolon ∷ semicolon ∷ close_paren ∷ semicolon ∷ []) none
    -- for ( a [ b in c ] ; ; ) ;
    ∷ gives ((code.Word word.For) ∷ open_paren ∷ code.Name ∷ open_bracket ∷ code.Name ∷ (code.Word word.In) ∷ code.Name ∷ close_bracket ∷ semicolon ∷ semicolon ∷ close_paren ∷ semicolon ∷ []) (some (rec form.Script 1 114 ((rec (form.For true false false) 1 114 ((rec (form.Member key.Computed) 21 74 ((rec (form.Name binding.Plain) 21 24 nil) ▸ (rec (form.Bin binary.In) 41 64 ((rec (form.Name binding.Plain) 41 44 nil) ▸ (rec (form.Name binding.Plain) 61 64 nil) ▸ nil)) ▸ nil)) ▸ (rec form.Empty 111 114 nil) ▸ nil)) ▸ nil)))
    -- for ( ( ) => a in b ; ; ) ;
    ∷ gives ((code.Word word.For) ∷ open_paren ∷ open_paren ∷ close_paren ∷ arrow ∷ code.Name ∷ (code.Word word.In) ∷ code.Name ∷ semicolon ∷ semicolon ∷ close_paren ∷ semicolon ∷ []) none
    -- for ( a ( ) . b in c ) ;
    ∷ gives ((code.Word word.For) ∷ open_paren ∷ code.Name ∷ open_paren ∷ close_paren ∷ dot ∷ code.Name ∷ (code.Word word.In) ∷ code.Name ∷ close_paren ∷ semicolon ∷ []) (some (rec form.Script 1 104 ((rec form.ForIn 1 104 ((rec (form.Member key.Fixed) 21 64 ((rec form.Call 21 44 ((rec (form.Name binding.Plain) 21 24 nil) ▸ nil)) ▸ (rec (form.Name binding.Plain) 61 64 nil) ▸ nil)) ▸ (rec (form.Name binding.Plain) 81 84 nil) ▸ (rec form.Empty 101 104 nil) ▸ nil)) ▸ nil)))
    -- for ( a ( ) in b ) ;
    ∷ gives ((code.Word word.For) ∷ open_paren ∷ code.Name ∷ open_paren ∷ close_paren ∷ (code.Word word.In) ∷ code.Name ∷ close_paren ∷ semicolon ∷ []) none
    -- for ( { } ; ; ) ;
    ∷ gives ((code.Word word.For) ∷ open_paren ∷ open_brace ∷ close_brace ∷ semicolon ∷ semicolon ∷ close_paren ∷ semicolon ∷ []) (some (rec form.Script 1 74 ((rec (form.For true false false) 1 74 ((rec form.Object 21 34 nil) ▸ (rec form.Empty 71 74 nil) ▸ nil)) ▸ nil)))
    -- if ( a ) if ( b ) c ; else d ;
    ∷ gives ((code.Word word.If) ∷ open_paren ∷ code.Name ∷ close_paren ∷ (code.Word word.If) ∷ open_paren ∷ code.Name ∷ close_paren ∷ code.Name ∷ semicolon ∷ (code.Word word.Else) ∷ code.Name ∷ semicolon ∷ []) (some (rec form.Script 1 124 ((rec form.If 1 124 ((rec (form.Name binding.Plain) 21 24 nil) ▸ (rec form.If 41 124 ((rec (form.Name binding.Plain) 61 64 nil) ▸ (rec form.ExprStmt 81 94 ((rec (form.Name binding.Plain) 81 84 nil) ▸ nil)) ▸ (rec form.ExprStmt 111 124 ((rec (form.Name binding.Plain) 111 114 nil) ▸ nil)) ▸ nil)) ▸ nil)) ▸ nil)))
    -- if ( a ) { if ( b ) c ; } else d ;
    ∷ gives ((code.Word word.If) ∷ open_paren ∷ code.Name ∷ close_paren ∷ open_brace ∷ (code.Word word.If) ∷ open_paren ∷ code.Name ∷ close_paren ∷ code.Name ∷ semicolon ∷ close_brace ∷ (code.Word word.Else) ∷ code.Name ∷ semicolon ∷ []) (some (rec form.Script 1 144 ((rec form.If 1 144 ((rec (form.Name binding.Plain) 21 24 nil) ▸ (rec form.Block 41 114 ((rec form.If 51 104 ((rec (form.Name binding.Plain) 71 74 nil) ▸ (rec form.ExprStmt 91 104 ((rec (form.Name binding.Plain) 91 94 nil) ▸ nil)) ▸ nil)) ▸ nil)) ▸ (rec form.ExprStmt 131 144 ((rec (form.Name binding.Plain) 131 134 nil) ▸ nil)) ▸ nil)) ▸ nil)))
    -- if ( a ) while ( b ) if ( c ) d ; else e ;
    ∷ gives ((code.Word word.If) ∷ open_paren ∷ code.Name ∷ close_paren ∷ (code.Word word.While) ∷ open_paren ∷ code.Name ∷ close_paren ∷ (code.Word word.If) ∷ open_paren ∷ code.Name ∷ close_paren ∷ code.Name ∷ semicolon ∷ (code.Word word.Else) ∷ code.Name ∷ semicolon ∷ []) (some (rec form.Script 1 164 ((rec form.If 1 164 ((rec (form.Name binding.Plain) 21 24 nil) ▸ (rec form.While 41 164 ((rec (form.Name binding.Plain) 61 64 nil) ▸ (rec form.If 81 164 ((rec (form.Name binding.Plain) 101 104 nil) ▸ (rec form.ExprStmt 121 134 ((rec (form.Name binding.Plain) 121 124 nil) ▸ nil)) ▸ (rec form.ExprStmt 151 164 ((rec (form.Name binding.Plain) 151 154 nil) ▸ nil)) ▸ nil)) ▸ nil)) ▸ nil)) ▸ nil)))
    -- if ( a ) ; else ; else ;
    ∷ gives ((code.Word word.If) ∷ open_paren ∷ code.Name ∷ close_paren ∷ semicolon ∷ (code.Word word.Else) ∷ semicolon ∷ (code.Word word.Else) ∷ semicolon ∷ []) none
    -- a : b : ;
    ∷ gives (code.Name ∷ colon ∷ code.Name ∷ colon ∷ semicolon ∷ []) (some (rec form.Script 1 44 ((rec form.Labeled 1 44 ((rec (form.Name binding.Plain) 1 4 nil) ▸ (rec form.Labeled 21 44 ((rec (form.Name binding.Plain) 21 24 nil) ▸ (rec form.Empty 41 44 nil) ▸ nil)) ▸ nil)) ▸ nil)))
    -- { } + a ;
    ∷ gives (open_brace ∷ close_brace ∷ (code.Operator operator.Plus) ∷ code.Name ∷ semicolon ∷ []) (some (rec form.Script 1 44 ((rec form.Block 1 14 nil) ▸ (rec form.ExprStmt 21 44 ((rec (form.Unary unary.Plus) 21 34 ((rec (form.Name binding.Plain) 31 34 nil) ▸ nil)) ▸ nil)) ▸ nil)))
    -- function ( ) { } ;
    ∷ gives ((code.Word word.Function) ∷ open_paren ∷ close_paren ∷ open_brace ∷ close_brace ∷ semicolon ∷ []) none
    -- ( function a ( b ) { return b ; } ) ;
    ∷ gives (open_paren ∷ (code.Word word.Function) ∷ code.Name ∷ open_paren ∷ code.Name ∷ close_paren ∷ open_brace ∷ (code.Word word.Return) ∷ code.Name ∷ semicolon ∷ close_brace ∷ close_paren ∷ semicolon ∷ []) (some (rec form.Script 1 124 ((rec form.ExprStmt 1 124 ((rec form.Paren 1 114 ((rec (form.Fn own.Named) 11 104 ((rec (form.Name binding.Plain) 21 24 nil) ▸ (rec (form.Name binding.Plain) 41 44 nil) ▸ (rec form.Block 61 104 ((rec form.Return 71 94 ((rec (form.Name binding.Plain) 81 84 nil) ▸ nil)) ▸ nil)) ▸ nil)) ▸ nil)) ▸ nil)) ▸ nil)))
    -- var a = 1 , b ;
    ∷ gives ((code.Word word.Var) ∷ code.Name ∷ equals ∷ code.Number ∷ comma ∷ code.Name ∷ semicolon ∷ []) (some (rec form.Script 1 64 ((rec form.Var 1 64 ((rec (form.Name binding.Valued) 11 14 nil) ▸ (rec form.Num 31 34 nil) ▸ (rec (form.Name binding.Plain) 51 54 nil) ▸ nil)) ▸ nil)))
    -- a ( b , ) ;
    ∷ gives (code.Name ∷ open_paren ∷ code.Name ∷ comma ∷ close_paren ∷ semicolon ∷ []) none
    -- ( { [ a ] : b , "c" : 1 } ) ;
    ∷ gives (open_paren ∷ open_brace ∷ open_bracket ∷ code.Name ∷ close_bracket ∷ colon ∷ code.Name ∷ comma ∷ code.String ∷ colon ∷ code.Number ∷ close_brace ∷ close_paren ∷ semicolon ∷ []) (some (rec form.Script 1 134 ((rec form.ExprStmt 1 134 ((rec form.Paren 1 124 ((rec form.Object 11 114 ((rec (form.Prop key.Computed) 21 64 ((rec (form.Name binding.Plain) 31 34 nil) ▸ (rec (form.Name binding.Plain) 61 64 nil) ▸ nil)) ▸ (rec (form.Prop key.Fixed) 81 104 ((rec form.Str 81 84 nil) ▸ (rec form.Num 101 104 nil) ▸ nil)) ▸ nil)) ▸ nil)) ▸ nil)) ▸ nil)))
    -- a
    ∷ gives (code.Name ∷ []) none
    -- if ( a ) return b ; else c ;
    ∷ gives ((code.Word word.If) ∷ open_paren ∷ code.Name ∷ close_paren ∷ (code.Word word.Return) ∷ code.Name ∷ semicolon ∷ (code.Word word.Else) ∷ code.Name ∷ semicolon ∷ []) (some (rec form.Script 1 94 ((rec form.If 1 94 ((rec (form.Name binding.Plain) 21 24 nil) ▸ (rec form.Return 41 64 ((rec (form.Name binding.Plain) 51 54 nil) ▸ nil)) ▸ (rec form.ExprStmt 81 94 ((rec (form.Name binding.Plain) 81 84 nil) ▸ nil)) ▸ nil)) ▸ nil)))
    -- if ( a ) var b ; else ;
    ∷ gives ((code.Word word.If) ∷ open_paren ∷ code.Name ∷ close_paren ∷ (code.Word word.Var) ∷ code.Name ∷ semicolon ∷ (code.Word word.Else) ∷ semicolon ∷ []) (some (rec form.Script 1 84 ((rec form.If 1 84 ((rec (form.Name binding.Plain) 21 24 nil) ▸ (rec form.Var 41 64 ((rec (form.Name binding.Plain) 51 54 nil) ▸ nil)) ▸ (rec form.Empty 81 84 nil) ▸ nil)) ▸ nil)))
    -- if ( a ) while ( b ) ; else ;
    ∷ gives ((code.Word word.If) ∷ open_paren ∷ code.Name ∷ close_paren ∷ (code.Word word.While) ∷ open_paren ∷ code.Name ∷ close_paren ∷ semicolon ∷ (code.Word word.Else) ∷ semicolon ∷ []) (some (rec form.Script 1 104 ((rec form.If 1 104 ((rec (form.Name binding.Plain) 21 24 nil) ▸ (rec form.While 41 84 ((rec (form.Name binding.Plain) 61 64 nil) ▸ (rec form.Empty 81 84 nil) ▸ nil)) ▸ (rec form.Empty 101 104 nil) ▸ nil)) ▸ nil)))
    -- if ( a ) b : ; else ;
    ∷ gives ((code.Word word.If) ∷ open_paren ∷ code.Name ∷ close_paren ∷ code.Name ∷ colon ∷ semicolon ∷ (code.Word word.Else) ∷ semicolon ∷ []) (some (rec form.Script 1 84 ((rec form.If 1 84 ((rec (form.Name binding.Plain) 21 24 nil) ▸ (rec form.Labeled 41 64 ((rec (form.Name binding.Plain) 41 44 nil) ▸ (rec form.Empty 61 64 nil) ▸ nil)) ▸ (rec form.Empty 81 84 nil) ▸ nil)) ▸ nil)))
    -- if ( a ) for ( ; ; ) ; else ;
    ∷ gives ((code.Word word.If) ∷ open_paren ∷ code.Name ∷ close_paren ∷ (code.Word word.For) ∷ open_paren ∷ semicolon ∷ semicolon ∷ close_paren ∷ semicolon ∷ (code.Word word.Else) ∷ semicolon ∷ []) (some (rec form.Script 1 114 ((rec form.If 1 114 ((rec (form.Name binding.Plain) 21 24 nil) ▸ (rec (form.For false false false) 41 94 ((rec form.Empty 91 94 nil) ▸ nil)) ▸ (rec form.Empty 111 114 nil) ▸ nil)) ▸ nil)))
    -- if ( a ) for ( b in c ) ; else ;
    ∷ gives ((code.Word word.If) ∷ open_paren ∷ code.Name ∷ close_paren ∷ (code.Word word.For) ∷ open_paren ∷ code.Name ∷ (code.Word word.In) ∷ code.Name ∷ close_paren ∷ semicolon ∷ (code.Word word.Else) ∷ semicolon ∷ []) (some (rec form.Script 1 124 ((rec form.If 1 124 ((rec (form.Name binding.Plain) 21 24 nil) ▸ (rec form.ForIn 41 104 ((rec (form.Name binding.Plain) 61 64 nil) ▸ (rec (form.Name binding.Plain) 81 84 nil) ▸ (rec form.Empty 101 104 nil) ▸ nil)) ▸ (rec form.Empty 121 124 nil) ▸ nil)) ▸ nil)))
    -- if ( a ) { } else ;
    ∷ gives ((code.Word word.If) ∷ open_paren ∷ code.Name ∷ close_paren ∷ open_brace ∷ close_brace ∷ (code.Word word.Else) ∷ semicolon ∷ []) (some (rec form.Script 1 74 ((rec form.If 1 74 ((rec (form.Name binding.Plain) 21 24 nil) ▸ (rec form.Block 41 54 nil) ▸ (rec form.Empty 71 74 nil) ▸ nil)) ▸ nil)))
    -- if ( a ) ; else ;
    ∷ gives ((code.Word word.If) ∷ open_paren ∷ code.Name ∷ close_paren ∷ semicolon ∷ (code.Word word.Else) ∷ semicolon ∷ []) (some (rec form.Script 1 64 ((rec form.If 1 64 ((rec (form.Name binding.Plain) 21 24 nil) ▸ (rec form.Empty 41 44 nil) ▸ (rec form.Empty 61 64 nil) ▸ nil)) ▸ nil)))
    -- for ( a instanceof b ; ; ) ;
    ∷ gives ((code.Word word.For) ∷ open_paren ∷ code.Name ∷ (code.Word word.Instanceof) ∷ code.Name ∷ semicolon ∷ semicolon ∷ close_paren ∷ semicolon ∷ []) (some (rec form.Script 1 84 ((rec (form.For true false false) 1 84 ((rec (form.Bin binary.Instanceof) 21 44 ((rec (form.Name binding.Plain) 21 24 nil) ▸ (rec (form.Name binding.Plain) 41 44 nil) ▸ nil)) ▸ (rec form.Empty 81 84 nil) ▸ nil)) ▸ nil)))
    -- for ( var a , b = 1 ; ; ) ;
    ∷ gives ((code.Word word.For) ∷ open_paren ∷ (code.Word word.Var) ∷ code.Name ∷ comma ∷ code.Name ∷ equals ∷ code.Number ∷ semicolon ∷ semicolon ∷ close_paren ∷ semicolon ∷ []) (some (rec form.Script 1 114 ((rec (form.For true false false) 1 114 ((rec form.Var 21 74 ((rec (form.Name binding.Plain) 31 34 nil) ▸ (rec (form.Name binding.Valued) 51 54 nil) ▸ (rec form.Num 71 74 nil) ▸ nil)) ▸ (rec form.Empty 111 114 nil) ▸ nil)) ▸ nil)))
    -- for ( var a , b in c ) ;
    ∷ gives ((code.Word word.For) ∷ open_paren ∷ (code.Word word.Var) ∷ code.Name ∷ comma ∷ code.Name ∷ (code.Word word.In) ∷ code.Name ∷ close_paren ∷ semicolon ∷ []) none
    -- 1 : a ;
    ∷ gives (code.Number ∷ colon ∷ code.Name ∷ semicolon ∷ []) none
    -- ( { [ a , b ] : c } ) ;
    ∷ gives (open_paren ∷ open_brace ∷ open_bracket ∷ code.Name ∷ comma ∷ code.Name ∷ close_bracket ∷ colon ∷ code.Name ∷ close_brace ∷ close_paren ∷ semicolon ∷ []) none
    -- for ( a , b in c ) ;
    ∷ gives ((code.Word word.For) ∷ open_paren ∷ code.Name ∷ comma ∷ code.Name ∷ (code.Word word.In) ∷ code.Name ∷ close_paren ∷ semicolon ∷ []) none
    -- ++ ( a + b ) ;
    ∷ gives ((code.Operator operator.Increment) ∷ open_paren ∷ code.Name ∷ (code.Operator operator.Plus) ∷ code.Name ∷ close_paren ∷ semicolon ∷ []) none
    ∷ []

abbrev pub ExamplesHold : Type 0
ExamplesHold = Hold examples

abbrev pub core_of : Option Tree → Option Tree
core_of none = none
core_of (some t) = some (core t)

abbrev pub HoldCore : List Example → Type 0
HoldCore [] = Unit {0}
HoldCore (e ∷ es) = (core_of (read (placed 0 e.tokens)) ≡ e.tree) × HoldCore es

-- A text, its tokens, and the core form of its reading: places are 0 but for Name, Num and Str.
abbrev pub cores : List Example
cores =
    -- a , b ;
    gives (code.Name ∷ comma ∷ code.Name ∷ semicolon ∷ []) (some (rec form.Script 0 0 ((rec form.ExprStmt 0 0 ((rec form.Seq 0 0 ((rec (form.Name binding.Plain) 1 4 nil) ▸ (rec (form.Name binding.Plain) 21 24 nil) ▸ nil)) ▸ nil)) ▸ nil)))
    -- 0 , a ;
    ∷ gives (code.Number ∷ comma ∷ code.Name ∷ semicolon ∷ []) (some (rec form.Script 0 0 ((rec form.ExprStmt 0 0 ((rec form.Seq 0 0 ((rec (form.Name binding.Plain) 21 24 nil) ▸ nil)) ▸ nil)) ▸ nil)))
    -- "s" , a ;
    ∷ gives (code.String ∷ comma ∷ code.Name ∷ semicolon ∷ []) (some (rec form.Script 0 0 ((rec form.ExprStmt 0 0 ((rec form.Seq 0 0 ((rec (form.Name binding.Plain) 21 24 nil) ▸ nil)) ▸ nil)) ▸ nil)))
    -- true , a ;
    ∷ gives ((code.Word word.True) ∷ comma ∷ code.Name ∷ semicolon ∷ []) (some (rec form.Script 0 0 ((rec form.ExprStmt 0 0 ((rec form.Seq 0 0 ((rec (form.Name binding.Plain) 21 24 nil) ▸ nil)) ▸ nil)) ▸ nil)))
    -- ( function ( ) { } ) , a ;
    ∷ gives (open_paren ∷ (code.Word word.Function) ∷ open_paren ∷ close_paren ∷ open_brace ∷ close_brace ∷ close_paren ∷ comma ∷ code.Name ∷ semicolon ∷ []) (some (rec form.Script 0 0 ((rec form.ExprStmt 0 0 ((rec form.Seq 0 0 ((rec (form.Name binding.Plain) 81 84 nil) ▸ nil)) ▸ nil)) ▸ nil)))
    -- ( ( ) => b ) , a ;
    ∷ gives (open_paren ∷ open_paren ∷ close_paren ∷ arrow ∷ code.Name ∷ close_paren ∷ comma ∷ code.Name ∷ semicolon ∷ []) (some (rec form.Script 0 0 ((rec form.ExprStmt 0 0 ((rec form.Seq 0 0 ((rec (form.Name binding.Plain) 71 74 nil) ▸ nil)) ▸ nil)) ▸ nil)))
    -- this , a ;
    ∷ gives ((code.Word word.This) ∷ comma ∷ code.Name ∷ semicolon ∷ []) (some (rec form.Script 0 0 ((rec form.ExprStmt 0 0 ((rec form.Seq 0 0 ((rec form.This 0 0 nil) ▸ (rec (form.Name binding.Plain) 21 24 nil) ▸ nil)) ▸ nil)) ▸ nil)))
    -- [ 1 ] , a ;
    ∷ gives (open_bracket ∷ code.Number ∷ close_bracket ∷ comma ∷ code.Name ∷ semicolon ∷ []) (some (rec form.Script 0 0 ((rec form.ExprStmt 0 0 ((rec form.Seq 0 0 ((rec form.Array 0 0 ((rec form.Num 11 14 nil) ▸ nil)) ▸ (rec (form.Name binding.Plain) 41 44 nil) ▸ nil)) ▸ nil)) ▸ nil)))
    -- void a , b ;
    ∷ gives ((code.Word word.Void) ∷ code.Name ∷ comma ∷ code.Name ∷ semicolon ∷ []) (some (rec form.Script 0 0 ((rec form.ExprStmt 0 0 ((rec form.Seq 0 0 ((rec (form.Name binding.Plain) 11 14 nil) ▸ (rec (form.Name binding.Plain) 31 34 nil) ▸ nil)) ▸ nil)) ▸ nil)))
    -- void ( 0 , a ) , void b ;
    ∷ gives ((code.Word word.Void) ∷ open_paren ∷ code.Number ∷ comma ∷ code.Name ∷ close_paren ∷ comma ∷ (code.Word word.Void) ∷ code.Name ∷ semicolon ∷ []) (some (rec form.Script 0 0 ((rec form.ExprStmt 0 0 ((rec form.Seq 0 0 ((rec (form.Name binding.Plain) 41 44 nil) ▸ (rec (form.Unary unary.Void) 0 0 ((rec (form.Name binding.Plain) 81 84 nil) ▸ nil)) ▸ nil)) ▸ nil)) ▸ nil)))
    -- void 0 , a , ( b , 1 , c ) ;
    ∷ gives ((code.Word word.Void) ∷ code.Number ∷ comma ∷ code.Name ∷ comma ∷ open_paren ∷ code.Name ∷ comma ∷ code.Number ∷ comma ∷ code.Name ∷ close_paren ∷ semicolon ∷ []) (some (rec form.Script 0 0 ((rec form.ExprStmt 0 0 ((rec form.Seq 0 0 ((rec (form.Name binding.Plain) 31 34 nil) ▸ (rec (form.Name binding.Plain) 61 64 nil) ▸ (rec (form.Name binding.Plain) 101 104 nil) ▸ nil)) ▸ nil)) ▸ nil)))
    -- a , ( 2 , void ( b , "s" ) ) ;
    ∷ gives (code.Name ∷ comma ∷ open_paren ∷ code.Number ∷ comma ∷ (code.Word word.Void) ∷ open_paren ∷ code.Name ∷ comma ∷ code.String ∷ close_paren ∷ close_paren ∷ semicolon ∷ []) (some (rec form.Script 0 0 ((rec form.ExprStmt 0 0 ((rec form.Seq 0 0 ((rec (form.Name binding.Plain) 1 4 nil) ▸ (rec (form.Unary unary.Void) 0 0 ((rec form.Seq 0 0 ((rec (form.Name binding.Plain) 71 74 nil) ▸ (rec form.Str 91 94 nil) ▸ nil)) ▸ nil)) ▸ nil)) ▸ nil)) ▸ nil)))
    -- 0 , ( 1 , 2 ) ;
    ∷ gives (code.Number ∷ comma ∷ open_paren ∷ code.Number ∷ comma ∷ code.Number ∷ close_paren ∷ semicolon ∷ []) (some (rec form.Script 0 0 ((rec form.ExprStmt 0 0 ((rec form.Seq 0 0 ((rec form.Num 51 54 nil) ▸ nil)) ▸ nil)) ▸ nil)))
    -- - a , b ;
    ∷ gives ((code.Operator operator.Minus) ∷ code.Name ∷ comma ∷ code.Name ∷ semicolon ∷ []) (some (rec form.Script 0 0 ((rec form.ExprStmt 0 0 ((rec form.Seq 0 0 ((rec (form.Unary unary.Minus) 0 0 ((rec (form.Name binding.Plain) 11 14 nil) ▸ nil)) ▸ (rec (form.Name binding.Plain) 31 34 nil) ▸ nil)) ▸ nil)) ▸ nil)))
    -- a && ( b && c ) ;
    ∷ gives (code.Name ∷ (code.Operator operator.And) ∷ open_paren ∷ code.Name ∷ (code.Operator operator.And) ∷ code.Name ∷ close_paren ∷ semicolon ∷ []) (some (rec form.Script 0 0 ((rec form.ExprStmt 0 0 ((rec (form.Bin binary.And) 0 0 ((rec (form.Name binding.Plain) 1 4 nil) ▸ (rec (form.Name binding.Plain) 31 34 nil) ▸ (rec (form.Name binding.Plain) 51 54 nil) ▸ nil)) ▸ nil)) ▸ nil)))
    -- ( a || b ) || ( c || d ) ;
    ∷ gives (open_paren ∷ code.Name ∷ (code.Operator operator.Or) ∷ code.Name ∷ close_paren ∷ (code.Operator operator.Or) ∷ open_paren ∷ code.Name ∷ (code.Operator operator.Or) ∷ code.Name ∷ close_paren ∷ semicolon ∷ []) (some (rec form.Script 0 0 ((rec form.ExprStmt 0 0 ((rec (form.Bin binary.Or) 0 0 ((rec (form.Name binding.Plain) 11 14 nil) ▸ (rec (form.Name binding.Plain) 31 34 nil) ▸ (rec (form.Name binding.Plain) 71 74 nil) ▸ (rec (form.Name binding.Plain) 91 94 nil) ▸ nil)) ▸ nil)) ▸ nil)))
    -- a ?? ( b ?? c ) ;
    ∷ gives (code.Name ∷ (code.Operator operator.Coalesce) ∷ open_paren ∷ code.Name ∷ (code.Operator operator.Coalesce) ∷ code.Name ∷ close_paren ∷ semicolon ∷ []) (some (rec form.Script 0 0 ((rec form.ExprStmt 0 0 ((rec (form.Bin binary.Coalesce) 0 0 ((rec (form.Name binding.Plain) 1 4 nil) ▸ (rec (form.Name binding.Plain) 31 34 nil) ▸ (rec (form.Name binding.Plain) 51 54 nil) ▸ nil)) ▸ nil)) ▸ nil)))
    -- a && ( b || c ) ;
    ∷ gives (code.Name ∷ (code.Operator operator.And) ∷ open_paren ∷ code.Name ∷ (code.Operator operator.Or) ∷ code.Name ∷ close_paren ∷ semicolon ∷ []) (some (rec form.Script 0 0 ((rec form.ExprStmt 0 0 ((rec (form.Bin binary.And) 0 0 ((rec (form.Name binding.Plain) 1 4 nil) ▸ (rec (form.Bin binary.Or) 0 0 ((rec (form.Name binding.Plain) 31 34 nil) ▸ (rec (form.Name binding.Plain) 51 54 nil) ▸ nil)) ▸ nil)) ▸ nil)) ▸ nil)))
    -- a + ( b + c ) ;
    ∷ gives (code.Name ∷ (code.Operator operator.Plus) ∷ open_paren ∷ code.Name ∷ (code.Operator operator.Plus) ∷ code.Name ∷ close_paren ∷ semicolon ∷ []) (some (rec form.Script 0 0 ((rec form.ExprStmt 0 0 ((rec (form.Bin binary.Add) 0 0 ((rec (form.Name binding.Plain) 1 4 nil) ▸ (rec (form.Bin binary.Add) 0 0 ((rec (form.Name binding.Plain) 31 34 nil) ▸ (rec (form.Name binding.Plain) 51 54 nil) ▸ nil)) ▸ nil)) ▸ nil)) ▸ nil)))
    -- if ( a ) { b ; } else { c ; }
    ∷ gives ((code.Word word.If) ∷ open_paren ∷ code.Name ∷ close_paren ∷ open_brace ∷ code.Name ∷ semicolon ∷ close_brace ∷ (code.Word word.Else) ∷ open_brace ∷ code.Name ∷ semicolon ∷ close_brace ∷ []) (some (rec form.Script 0 0 ((rec form.If 0 0 ((rec (form.Name binding.Plain) 21 24 nil) ▸ (rec form.ExprStmt 0 0 ((rec (form.Name binding.Plain) 51 54 nil) ▸ nil)) ▸ (rec form.Block 0 0 ((rec form.ExprStmt 0 0 ((rec (form.Name binding.Plain) 101 104 nil) ▸ nil)) ▸ nil)) ▸ nil)) ▸ nil)))
    -- if ( a ) { { b ; } }
    ∷ gives ((code.Word word.If) ∷ open_paren ∷ code.Name ∷ close_paren ∷ open_brace ∷ open_brace ∷ code.Name ∷ semicolon ∷ close_brace ∷ close_brace ∷ []) (some (rec form.Script 0 0 ((rec form.If 0 0 ((rec (form.Name binding.Plain) 21 24 nil) ▸ (rec form.ExprStmt 0 0 ((rec (form.Name binding.Plain) 61 64 nil) ▸ nil)) ▸ nil)) ▸ nil)))
    -- if ( a ) { b ; c ; }
    ∷ gives ((code.Word word.If) ∷ open_paren ∷ code.Name ∷ close_paren ∷ open_brace ∷ code.Name ∷ semicolon ∷ code.Name ∷ semicolon ∷ close_brace ∷ []) (some (rec form.Script 0 0 ((rec form.If 0 0 ((rec (form.Name binding.Plain) 21 24 nil) ▸ (rec form.Block 0 0 ((rec form.ExprStmt 0 0 ((rec (form.Name binding.Plain) 51 54 nil) ▸ nil)) ▸ (rec form.ExprStmt 0 0 ((rec (form.Name binding.Plain) 71 74 nil) ▸ nil)) ▸ nil)) ▸ nil)) ▸ nil)))
    -- while ( a ) { b ; }
    ∷ gives ((code.Word word.While) ∷ open_paren ∷ code.Name ∷ close_paren ∷ open_brace ∷ code.Name ∷ semicolon ∷ close_brace ∷ []) (some (rec form.Script 0 0 ((rec form.While 0 0 ((rec (form.Name binding.Plain) 21 24 nil) ▸ (rec form.Block 0 0 ((rec form.ExprStmt 0 0 ((rec (form.Name binding.Plain) 51 54 nil) ▸ nil)) ▸ nil)) ▸ nil)) ▸ nil)))
    -- ( ( a ) ) . b ( 1 , "s" , null ) ;
    ∷ gives (open_paren ∷ open_paren ∷ code.Name ∷ close_paren ∷ close_paren ∷ dot ∷ code.Name ∷ open_paren ∷ code.Number ∷ comma ∷ code.String ∷ comma ∷ (code.Word word.Null) ∷ close_paren ∷ semicolon ∷ []) (some (rec form.Script 0 0 ((rec form.ExprStmt 0 0 ((rec form.Call 0 0 ((rec (form.Member key.Fixed) 0 0 ((rec (form.Name binding.Plain) 21 24 nil) ▸ (rec (form.Name binding.Plain) 61 64 nil) ▸ nil)) ▸ (rec form.Num 81 84 nil) ▸ (rec form.Str 101 104 nil) ▸ (rec (form.Word constant.Null) 0 0 nil) ▸ nil)) ▸ nil)) ▸ nil)))
    -- var a = ( 1 , b ) , c ;
    ∷ gives ((code.Word word.Var) ∷ code.Name ∷ equals ∷ open_paren ∷ code.Number ∷ comma ∷ code.Name ∷ close_paren ∷ comma ∷ code.Name ∷ semicolon ∷ []) (some (rec form.Script 0 0 ((rec form.Var 0 0 ((rec (form.Name binding.Valued) 11 14 nil) ▸ (rec form.Seq 0 0 ((rec (form.Name binding.Plain) 61 64 nil) ▸ nil)) ▸ (rec (form.Name binding.Plain) 91 94 nil) ▸ nil)) ▸ nil)))
    -- ( a || b ) ?? ( c || d ) ;
    ∷ gives (open_paren ∷ code.Name ∷ (code.Operator operator.Or) ∷ code.Name ∷ close_paren ∷ (code.Operator operator.Coalesce) ∷ open_paren ∷ code.Name ∷ (code.Operator operator.Or) ∷ code.Name ∷ close_paren ∷ semicolon ∷ []) (some (rec form.Script 0 0 ((rec form.ExprStmt 0 0 ((rec (form.Bin binary.Coalesce) 0 0 ((rec (form.Bin binary.Or) 0 0 ((rec (form.Name binding.Plain) 11 14 nil) ▸ (rec (form.Name binding.Plain) 31 34 nil) ▸ nil)) ▸ (rec (form.Bin binary.Or) 0 0 ((rec (form.Name binding.Plain) 71 74 nil) ▸ (rec (form.Name binding.Plain) 91 94 nil) ▸ nil)) ▸ nil)) ▸ nil)) ▸ nil)))
    -- ( a ?? b ) && ( c ?? d ) ;
    ∷ gives (open_paren ∷ code.Name ∷ (code.Operator operator.Coalesce) ∷ code.Name ∷ close_paren ∷ (code.Operator operator.And) ∷ open_paren ∷ code.Name ∷ (code.Operator operator.Coalesce) ∷ code.Name ∷ close_paren ∷ semicolon ∷ []) (some (rec form.Script 0 0 ((rec form.ExprStmt 0 0 ((rec (form.Bin binary.And) 0 0 ((rec (form.Bin binary.Coalesce) 0 0 ((rec (form.Name binding.Plain) 11 14 nil) ▸ (rec (form.Name binding.Plain) 31 34 nil) ▸ nil)) ▸ (rec (form.Bin binary.Coalesce) 0 0 ((rec (form.Name binding.Plain) 71 74 nil) ▸ (rec (form.Name binding.Plain) 91 94 nil) ▸ nil)) ▸ nil)) ▸ nil)) ▸ nil)))
    -- ( a && b ) || ( c && d ) ;
    ∷ gives (open_paren ∷ code.Name ∷ (code.Operator operator.And) ∷ code.Name ∷ close_paren ∷ (code.Operator operator.Or) ∷ open_paren ∷ code.Name ∷ (code.Operator operator.And) ∷ code.Name ∷ close_paren ∷ semicolon ∷ []) (some (rec form.Script 0 0 ((rec form.ExprStmt 0 0 ((rec (form.Bin binary.Or) 0 0 ((rec (form.Bin binary.And) 0 0 ((rec (form.Name binding.Plain) 11 14 nil) ▸ (rec (form.Name binding.Plain) 31 34 nil) ▸ nil)) ▸ (rec (form.Bin binary.And) 0 0 ((rec (form.Name binding.Plain) 71 74 nil) ▸ (rec (form.Name binding.Plain) 91 94 nil) ▸ nil)) ▸ nil)) ▸ nil)) ▸ nil)))
    ∷ []

abbrev pub CoresHold : Type 0
CoresHold = HoldCore cores
