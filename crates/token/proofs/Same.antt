-- The test for equal codes decides equality: a code is found again from its sort and its rank.
use Prim.Native.Nat.{ℕ}
use mathlib.Core.Path.{◌≡◌, refl, sym, ◌∙◌, ap, subst}
use mathlib.Core.Bool.{Bool, true, false, ◌&&◌}
use mathlib.Core.List.{List, [], ◌∷◌, map}
use lib.Dec.{T, eqb, eqb→eq, eqb_refl}
use lib.ListN.{get_or}
use Rattle.token.specs.Every.{words, punctuators, operators, assigns}
use Rattle.token.specs.Same.{sort, rank, same_code, DecidesEquality}
use Rattle.token.specs.declared.Code.{Code}
use Rattle.token.specs.declared.Code.TheVariants as code
use Rattle.token.specs.declared.word.Word.TheVariants as word
use Rattle.token.specs.declared.punctuator.Punctuator.TheVariants as punctuator
use Rattle.token.specs.declared.operator.Operator.TheVariants as operator
use Rattle.token.specs.declared.operator.AssignOperator.TheVariants as assign

-- Every code, by sort and rank.
abbrev sorts : List (List Code)
sorts =
    (code.Name ∷ []) ∷ (code.Number ∷ []) ∷ (code.String ∷ []) ∷ map code.Word words ∷ map code.Punctuator punctuators
    ∷ map code.Operator operators ∷ map code.AssignOperator assigns ∷ []

abbrev code_at : ℕ → ℕ → Code
code_at s r = get_or (get_or sorts s []) r code.Name

found : (c : Code) → code_at (sort c) (rank c) ≡ c
found code.Name = refl
found code.Number = refl
found code.String = refl
found (code.Word word.Null) = refl
found (code.Word word.True) = refl
found (code.Word word.False) = refl
found (code.Word word.This) = refl
found (code.Word word.Function) = refl
found (code.Word word.Typeof) = refl
found (code.Word word.Void) = refl
found (code.Word word.Delete) = refl
found (code.Word word.In) = refl
found (code.Word word.Instanceof) = refl
found (code.Word word.New) = refl
found (code.Word word.Await) = refl
found (code.Word word.Yield) = refl
found (code.Word word.Var) = refl
found (code.Word word.Return) = refl
found (code.Word word.If) = refl
found (code.Word word.Else) = refl
found (code.Word word.While) = refl
found (code.Word word.For) = refl
found (code.Punctuator punctuator.OpenParen) = refl
found (code.Punctuator punctuator.CloseParen) = refl
found (code.Punctuator punctuator.OpenBracket) = refl
found (code.Punctuator punctuator.CloseBracket) = refl
found (code.Punctuator punctuator.OpenBrace) = refl
found (code.Punctuator punctuator.CloseBrace) = refl
found (code.Punctuator punctuator.Semicolon) = refl
found (code.Punctuator punctuator.Comma) = refl
found (code.Punctuator punctuator.Dot) = refl
found (code.Punctuator punctuator.Colon) = refl
found (code.Punctuator punctuator.Question) = refl
found (code.Punctuator punctuator.QuestionDot) = refl
found (code.Punctuator punctuator.Arrow) = refl
found (code.Operator operator.Not) = refl
found (code.Operator operator.BitNot) = refl
found (code.Operator operator.Increment) = refl
found (code.Operator operator.Decrement) = refl
found (code.Operator operator.Plus) = refl
found (code.Operator operator.Minus) = refl
found (code.Operator operator.Multiply) = refl
found (code.Operator operator.Divide) = refl
found (code.Operator operator.Remainder) = refl
found (code.Operator operator.Exponent) = refl
found (code.Operator operator.LeftShift) = refl
found (code.Operator operator.RightShift) = refl
found (code.Operator operator.UnsignedRightShift) = refl
found (code.Operator operator.Less) = refl
found (code.Operator operator.LessOrEqual) = refl
found (code.Operator operator.Greater) = refl
found (code.Operator operator.GreaterOrEqual) = refl
found (code.Operator operator.Equal) = refl
found (code.Operator operator.NotEqual) = refl
found (code.Operator operator.StrictEqual) = refl
found (code.Operator operator.StrictNotEqual) = refl
found (code.Operator operator.BitAnd) = refl
found (code.Operator operator.BitXor) = refl
found (code.Operator operator.BitOr) = refl
found (code.Operator operator.And) = refl
found (code.Operator operator.Or) = refl
found (code.Operator operator.Coalesce) = refl
found (code.AssignOperator assign.Assign) = refl
found (code.AssignOperator assign.ExponentAssign) = refl
found (code.AssignOperator assign.MultiplyAssign) = refl
found (code.AssignOperator assign.DivideAssign) = refl
found (code.AssignOperator assign.RemainderAssign) = refl
found (code.AssignOperator assign.PlusAssign) = refl
found (code.AssignOperator assign.MinusAssign) = refl
found (code.AssignOperator assign.LeftShiftAssign) = refl
found (code.AssignOperator assign.RightShiftAssign) = refl
found (code.AssignOperator assign.UnsignedRightShiftAssign) = refl
found (code.AssignOperator assign.BitAndAssign) = refl
found (code.AssignOperator assign.BitXorAssign) = refl
found (code.AssignOperator assign.BitOrAssign) = refl
found (code.AssignOperator assign.AndAssign) = refl
found (code.AssignOperator assign.OrAssign) = refl
found (code.AssignOperator assign.CoalesceAssign) = refl

both : (a b : Bool) → T (a && b) → T a × T b
both true b h = (tt, h)
both false b h = elim h [ ]

joined : (a b : Bool) → T a → T b → T (a && b)
joined true b h k = k
joined false b h k = elim h [ ]

one : (a b : Code) → sort a ≡ sort b → rank a ≡ rank b → a ≡ b
one a b s r = sym (found a) ∙ (ap (λ n. code_at n (rank a)) s ∙ (ap (λ n. code_at (sort b) n) r ∙ found b))

pub same_one : (a b : Code) → T (same_code a b) → a ≡ b
same_one a b h =
    let p = both (eqb (sort a) (sort b)) (eqb (rank a) (rank b)) h in
    one a b (eqb→eq (sort a) (sort b) p.0) (eqb→eq (rank a) (rank b) p.1)

pub same_self : (a : Code) → T (same_code a a)
same_self a = joined (eqb (sort a) (sort a)) (eqb (rank a) (rank a)) (eqb_refl (sort a)) (eqb_refl (rank a))

pub decides_equality : DecidesEquality
decides_equality a b = (same_one a b, λ e. subst (λ (c : Code). T (same_code a c)) e (same_self a))
