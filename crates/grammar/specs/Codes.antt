-- The tokens that the grammar writes: a short name for each, and (passed on from the forms) the token of each operator and of each constant.
--
-- Assumes nothing.
use Rattle.token.specs.declared.Code.{Code}
use Rattle.token.specs.declared.Code.TheVariants as code
use Rattle.token.specs.declared.word.Word.TheVariants as word
use Rattle.token.specs.declared.punctuator.Punctuator.TheVariants as punctuator
use Rattle.token.specs.declared.operator.AssignOperator.TheVariants as assign
pub use Rattle.kinds.specs.Codes.{constant_code, unary_code, update_code, binary_code}

abbrev pub open_paren : Code
open_paren = code.Punctuator punctuator.OpenParen

abbrev pub close_paren : Code
close_paren = code.Punctuator punctuator.CloseParen

abbrev pub open_bracket : Code
open_bracket = code.Punctuator punctuator.OpenBracket

abbrev pub close_bracket : Code
close_bracket = code.Punctuator punctuator.CloseBracket

abbrev pub open_brace : Code
open_brace = code.Punctuator punctuator.OpenBrace

abbrev pub close_brace : Code
close_brace = code.Punctuator punctuator.CloseBrace

abbrev pub semicolon : Code
semicolon = code.Punctuator punctuator.Semicolon

abbrev pub comma : Code
comma = code.Punctuator punctuator.Comma

abbrev pub dot : Code
dot = code.Punctuator punctuator.Dot

abbrev pub colon : Code
colon = code.Punctuator punctuator.Colon

abbrev pub question : Code
question = code.Punctuator punctuator.Question

abbrev pub question_dot : Code
question_dot = code.Punctuator punctuator.QuestionDot

abbrev pub arrow : Code
arrow = code.Punctuator punctuator.Arrow

abbrev pub equals : Code
equals = code.AssignOperator assign.Assign

abbrev pub word_this : Code
word_this = code.Word word.This

abbrev pub word_function : Code
word_function = code.Word word.Function

abbrev pub word_in : Code
word_in = code.Word word.In

abbrev pub word_new : Code
word_new = code.Word word.New

abbrev pub word_await : Code
word_await = code.Word word.Await

abbrev pub word_yield : Code
word_yield = code.Word word.Yield

abbrev pub word_var : Code
word_var = code.Word word.Var

abbrev pub word_return : Code
word_return = code.Word word.Return

abbrev pub word_if : Code
word_if = code.Word word.If

abbrev pub word_else : Code
word_else = code.Word word.Else

abbrev pub word_while : Code
word_while = code.Word word.While

abbrev pub word_for : Code
word_for = code.Word word.For
