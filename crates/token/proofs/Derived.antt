-- The derived test for equal codes is the one of the contracts.
use Rattle.std.proofs.Common.{rules, ◌≡◌, refl}
use Rattle.token.specs.contracts.CodePartialEq.TheImpl as derived
use Rattle.token.specs.Same.{same_code}
use Rattle.token.specs.declared.Code.{Code}
use Rattle.token.specs.declared.Code.TheVariants as code

pub same_derived : (a b : Code) → (derived.ghosts).eq a b ≡ same_code a b
same_derived code.Name code.Name = refl
same_derived code.Name code.Number = refl
same_derived code.Name code.String = refl
same_derived code.Name (code.Word w') = refl
same_derived code.Name (code.Punctuator p') = refl
same_derived code.Name (code.Operator o') = refl
same_derived code.Name (code.AssignOperator o') = refl
same_derived code.Number code.Name = refl
same_derived code.Number code.Number = refl
same_derived code.Number code.String = refl
same_derived code.Number (code.Word w') = refl
same_derived code.Number (code.Punctuator p') = refl
same_derived code.Number (code.Operator o') = refl
same_derived code.Number (code.AssignOperator o') = refl
same_derived code.String code.Name = refl
same_derived code.String code.Number = refl
same_derived code.String code.String = refl
same_derived code.String (code.Word w') = refl
same_derived code.String (code.Punctuator p') = refl
same_derived code.String (code.Operator o') = refl
same_derived code.String (code.AssignOperator o') = refl
same_derived (code.Word w) code.Name = refl
same_derived (code.Word w) code.Number = refl
same_derived (code.Word w) code.String = refl
same_derived (code.Word w) (code.Word w') = search rules
same_derived (code.Word w) (code.Punctuator p') = refl
same_derived (code.Word w) (code.Operator o') = refl
same_derived (code.Word w) (code.AssignOperator o') = refl
same_derived (code.Punctuator p) code.Name = refl
same_derived (code.Punctuator p) code.Number = refl
same_derived (code.Punctuator p) code.String = refl
same_derived (code.Punctuator p) (code.Word w') = refl
same_derived (code.Punctuator p) (code.Punctuator p') = search rules
same_derived (code.Punctuator p) (code.Operator o') = refl
same_derived (code.Punctuator p) (code.AssignOperator o') = refl
same_derived (code.Operator o) code.Name = refl
same_derived (code.Operator o) code.Number = refl
same_derived (code.Operator o) code.String = refl
same_derived (code.Operator o) (code.Word w') = refl
same_derived (code.Operator o) (code.Punctuator p') = refl
same_derived (code.Operator o) (code.Operator o') = search rules
same_derived (code.Operator o) (code.AssignOperator o') = refl
same_derived (code.AssignOperator o) code.Name = refl
same_derived (code.AssignOperator o) code.Number = refl
same_derived (code.AssignOperator o) code.String = refl
same_derived (code.AssignOperator o) (code.Word w') = refl
same_derived (code.AssignOperator o) (code.Punctuator p') = refl
same_derived (code.AssignOperator o) (code.Operator o') = refl
same_derived (code.AssignOperator o) (code.AssignOperator o') = search rules
