-- What one sort of tree says of another, by computing over all sorts.
use mathlib.Core.List.{List, [], ◌∷◌}
use mathlib.Core.Bool.{Bool}
use lib.Dec.{T}
use Rattle.grammar.specs.Site.{Sort, expression, statement, block, declaration, property, valued, script, nothing}
use Rattle.grammar.proofs.Tests.{imp, mp, all, pick}

abbrev sorts : List Sort
sorts = expression ∷ statement ∷ block ∷ declaration ∷ property ∷ valued ∷ script ∷ nothing ∷ []

at_sort : (P : Sort → Bool) → T (all P sorts) → (s : Sort) → T (P s)
at_sort P h expression = pick P sorts 0 h
at_sort P h statement = pick P sorts 1 h
at_sort P h block = pick P sorts 2 h
at_sort P h declaration = pick P sorts 3 h
at_sort P h property = pick P sorts 4 h
at_sort P h valued = pick P sorts 5 h
at_sort P h script = pick P sorts 6 h
at_sort P h nothing = pick P sorts 7 h

-- Every sort that passes the test P passes Q.
pub by_sort : (P Q : Sort → Bool) → T (all (λ s. imp (P s) (Q s)) sorts) → (s : Sort) → T (P s) → T (Q s)
by_sort P Q h s k = mp (P s) (Q s) (at_sort (λ s. imp (P s) (Q s)) h s) k
