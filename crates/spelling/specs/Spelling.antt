-- How each code is spelled.
--
--   spelling c       the bytes of the one spelling of c, or none: a name, a number and a string have no fixed spelling
--   CodeOf s r       r is the code that is spelled s, or none where no code is
--   SpelledApart     no two codes are spelled alike
--   ExactlyIf        a text has a code exactly if the code is spelled so, and none exactly if no code is
--
-- Assumes nothing.
use Rattle.std.specs.Prelude.{◌≡◌, ℕ, List, Some, None, codes, Option, ◌≢◌}
use Rattle.token.specs.declared.Code.{Code}
use Rattle.token.specs.declared.Code.TheVariants as code
use Rattle.token.specs.declared.word.Word.{Word}
use Rattle.token.specs.declared.word.Word.TheVariants as word
use Rattle.token.specs.declared.punctuator.Punctuator.{Punctuator}
use Rattle.token.specs.declared.punctuator.Punctuator.TheVariants as punctuator
use Rattle.token.specs.declared.operator.Operator.{Operator}
use Rattle.token.specs.declared.operator.Operator.TheVariants as operator
use Rattle.token.specs.declared.operator.AssignOperator.{AssignOperator}
use Rattle.token.specs.declared.operator.AssignOperator.TheVariants as assign

abbrev pub word_spelling : Word → List ℕ
word_spelling word.Null = codes "null"
word_spelling word.True = codes "true"
word_spelling word.False = codes "false"
word_spelling word.This = codes "this"
word_spelling word.Function = codes "function"
word_spelling word.Typeof = codes "typeof"
word_spelling word.Void = codes "void"
word_spelling word.Delete = codes "delete"
word_spelling word.In = codes "in"
word_spelling word.Instanceof = codes "instanceof"
word_spelling word.New = codes "new"
word_spelling word.Await = codes "await"
word_spelling word.Yield = codes "yield"
word_spelling word.Var = codes "var"
word_spelling word.Return = codes "return"
word_spelling word.If = codes "if"
word_spelling word.Else = codes "else"
word_spelling word.While = codes "while"
word_spelling word.For = codes "for"

abbrev pub punctuator_spelling : Punctuator → List ℕ
punctuator_spelling punctuator.OpenParen = codes "("
punctuator_spelling punctuator.CloseParen = codes ")"
punctuator_spelling punctuator.OpenBracket = codes "["
punctuator_spelling punctuator.CloseBracket = codes "]"
punctuator_spelling punctuator.OpenBrace = codes "{"
punctuator_spelling punctuator.CloseBrace = codes "}"
punctuator_spelling punctuator.Semicolon = codes ";"
punctuator_spelling punctuator.Comma = codes ","
punctuator_spelling punctuator.Dot = codes "."
punctuator_spelling punctuator.Colon = codes ":"
punctuator_spelling punctuator.Question = codes "?"
punctuator_spelling punctuator.QuestionDot = codes "?."
punctuator_spelling punctuator.Arrow = codes "=>"

abbrev pub operator_spelling : Operator → List ℕ
operator_spelling operator.Not = codes "!"
operator_spelling operator.BitNot = codes "~"
operator_spelling operator.Increment = codes "++"
operator_spelling operator.Decrement = codes "--"
operator_spelling operator.Plus = codes "+"
operator_spelling operator.Minus = codes "-"
operator_spelling operator.Multiply = codes "*"
operator_spelling operator.Divide = codes "/"
operator_spelling operator.Remainder = codes "%"
operator_spelling operator.Exponent = codes "**"
operator_spelling operator.LeftShift = codes "<<"
operator_spelling operator.RightShift = codes ">>"
operator_spelling operator.UnsignedRightShift = codes ">>>"
operator_spelling operator.Less = codes "<"
operator_spelling operator.LessOrEqual = codes "<="
operator_spelling operator.Greater = codes ">"
operator_spelling operator.GreaterOrEqual = codes ">="
operator_spelling operator.Equal = codes "=="
operator_spelling operator.NotEqual = codes "!="
operator_spelling operator.StrictEqual = codes "==="
operator_spelling operator.StrictNotEqual = codes "!=="
operator_spelling operator.BitAnd = codes "&"
operator_spelling operator.BitXor = codes "^"
operator_spelling operator.BitOr = codes "|"
operator_spelling operator.And = codes "&&"
operator_spelling operator.Or = codes "||"
operator_spelling operator.Coalesce = codes "??"

abbrev pub assign_spelling : AssignOperator → List ℕ
assign_spelling assign.Assign = codes "="
assign_spelling assign.ExponentAssign = codes "**="
assign_spelling assign.MultiplyAssign = codes "*="
assign_spelling assign.DivideAssign = codes "/="
assign_spelling assign.RemainderAssign = codes "%="
assign_spelling assign.PlusAssign = codes "+="
assign_spelling assign.MinusAssign = codes "-="
assign_spelling assign.LeftShiftAssign = codes "<<="
assign_spelling assign.RightShiftAssign = codes ">>="
assign_spelling assign.UnsignedRightShiftAssign = codes ">>>="
assign_spelling assign.BitAndAssign = codes "&="
assign_spelling assign.BitXorAssign = codes "^="
assign_spelling assign.BitOrAssign = codes "|="
assign_spelling assign.AndAssign = codes "&&="
assign_spelling assign.OrAssign = codes "||="
assign_spelling assign.CoalesceAssign = codes "??="

abbrev pub spelling : Code → Option (List ℕ)
spelling code.Name = None
spelling code.Number = None
spelling code.String = None
spelling (code.Word x) = Some (word_spelling x)
spelling (code.Punctuator x) = Some (punctuator_spelling x)
spelling (code.Operator x) = Some (operator_spelling x)
spelling (code.AssignOperator x) = Some (assign_spelling x)

abbrev pub CodeOf : List ℕ → Option Code → Type 0
CodeOf s (Some c) = spelling c ≡ Some s
CodeOf s None = (c : Code) → spelling c ≢ Some s

abbrev pub SpelledApart : Type 0
SpelledApart = (c d : Code) (s : List ℕ) → spelling c ≡ Some s → spelling d ≡ Some s → c ≡ d

abbrev pub ExactlyIf : Type 0
ExactlyIf =
    (s : List ℕ) (r : Option Code) → CodeOf s r
    → ((c : Code) → (r ≡ Some c → spelling c ≡ Some s) × (spelling c ≡ Some s → r ≡ Some c))
    × ((r ≡ None → (c : Code) → spelling c ≢ Some s) × (((c : Code) → spelling c ≢ Some s) → r ≡ None))
