-- The exit of a `?`, and what is behind a `map_err`.
use Rattle.std.proofs.Common.{◌≡◌, Option, Some, None, Result, Ok, Err, IsErrAnd, MatchResult, sym, ◌∙◌, subst}
use Rattle.std.specs.Option.{ok_or}
use Rattle.std.proofs.lemmas.Result.{err_from_is_err_and}

pub broke : {X Y : Type 0} (r : Result X Y) (P : X → Type 0) (Q : Y → Type 0) (e : Y) → IsErrAnd r (λ y. y ≡ e) → Q e → MatchResult r P Q
broke r P Q e h q = let (y, a, b) = err_from_is_err_and r h in rw (a, b) q

-- there was no value, and this error stands for that
pub lacked : {X Y Z : Type 0} (o : Option X) (y e : Y) (r : Result Z Y) (P : Z → Type 0) (Q : Y → Type 0) → ◌≡◌ {A = Result X Y} (Err e) (ok_or o y) → IsErrAnd r (λ z. z ≡ e) → Q y → MatchResult r P Q
lacked {X} {Y} None y e r P Q v h q = let one : y ≡ e = cc in broke r P Q e h (subst Q one q)
lacked {X} {Y} (Some x) y e r P Q v h q = absurd cc

-- a value came through
pub came_through : {X Y Z : Type 0} (r : Result X Y) (r2 : Result X Z) (F : Y → Z → Type 0) (P : X → Type 0) (Q : Y → Type 0) (x : X) → MatchResult r (λ y. r2 ≡ Ok y) (λ e. IsErrAnd r2 (F e)) → r2 ≡ Ok x → MatchResult r P Q → P x
came_through {X} {Y} {Z} (Ok y) r2 F P Q x h e p = let same : ◌≡◌ {A = Result X Z} (Ok y) (Ok x) = sym h ∙ e in let one : y ≡ x = cc in subst P one p
came_through {X} {Y} {Z} (Err y) r2 F P Q x h e p = let (z, a, b) = err_from_is_err_and r2 h in let not_so : ◌≡◌ {A = Result X Z} (Ok x) (Err z) = sym e ∙ a in absurd cc

-- an error was made of another
pub was_mapped : {X Y Z : Type 0} (r : Result X Y) (r2 : Result X Z) (F : Y → Z → Type 0) (P : X → Type 0) (Q : Y → Type 0) (z : Z) → MatchResult r (λ y. r2 ≡ Ok y) (λ e. IsErrAnd r2 (F e)) → r2 ≡ Err z → MatchResult r P Q → (y : Y) × Q y × F y z
was_mapped {X} {Y} {Z} (Ok y) r2 F P Q z h e p = let not_so : ◌≡◌ {A = Result X Z} (Ok y) (Err z) = sym h ∙ e in absurd cc
was_mapped (Err y) r2 F P Q z h e p = (y, p, subst (λ r. IsErrAnd r (F y)) e h)
