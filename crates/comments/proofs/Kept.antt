-- The laws of the moves, of any lists that are those of the moves.
use Rattle.std.proofs.Common.{◌≡◌, ℕ, Bool, List, [], ◌∷◌, is_ok, Ok, Err, Result, sym, refl, ap, ◌∙◌, subst, arith}
use mathlib.Core.Path.{fun_ext}
use Rattle.comments.specs.declared.place.Move.{Move}
use Rattle.comments.specs.declared.store.Side.{Side}
use Rattle.comments.specs.Lists.{Lists, carried, added, shifted}
use Rattle.refusal.specs.declared.Refusal.{Refusal}
use Rattle.comments.specs.Filling.{Fills}
use Rattle.comments.specs.Laws.{Once, Gathered, Call, put, move, Equal, After, Played, SameMeaning}
use Rattle.comments.proofs.Joins.{gathered, once_carried}

module _ (side : Side) (old new : ℕ → List ℕ) (ms : List Move) (made : (k : ℕ) → new k ≡ carried side old ms k) where
  pub gathered_by : Gathered old new
  gathered_by = subst (λ (f : ℕ → List ℕ). Gathered old f) (sym (fun_ext made)) (gathered side old ms)

  pub once_by : (c : ℕ) → Once c old → Once c new
  once_by c o = subst (λ (f : ℕ → List ℕ). Once c f) (sym (fun_ext made)) (once_carried side c old ms o)

-- equal lists before equal moves are equal lists after them
pub alike : (side : Side) (f g f' g' : ℕ → List ℕ) (ms : List Move) → ((k : ℕ) → f' k ≡ carried side f ms k) → ((k : ℕ) → g' k ≡ carried side g ms k) → ((k : ℕ) → f k ≡ g k) → (k : ℕ) → f' k ≡ g' k
alike side f g f' g' ms p q e k = p k ∙ ap (λ (h : ℕ → List ℕ). carried side h ms k) (fun_ext e) ∙ sym (q k)

-- equal functions of sides and offsets
one_function : (f g : Lists) → Equal f g → f ≡ g
one_function f g e = fun_ext (λ s. fun_ext (e s))

-- one addition: it is accepted exactly where there is room, so the answers are equal too
filled_alike : (r q : Result (Unit {0}) Refusal) (side : Side) (k c : ℕ) (f g f' g' : Lists) (n n' m' : ℕ) → Equal f g → Fills f f' n n' side k c r → Fills g g' n m' side k c q → (is_ok r ≡ is_ok q) × Equal f' g' × (n' ≡ m')
filled_alike (Ok x) (Ok y) side k c f g f' g' n n' m' e p q = (
  refl,
  (λ at j. p.1 at j ∙ ap (λ (h : Lists). added h side k c at j) (one_function f g e) ∙ sym (q.1 at j)),
  omega (arith, p.0, q.0),
)
filled_alike (Ok x) (Err y) side k c f g f' g' n n' m' e p q = absurd (omega (arith, p.0, q.0))
filled_alike (Err x) (Ok y) side k c f g f' g' n n' m' e p q = absurd (omega (arith, p.0, q.0))
filled_alike (Err x) (Err y) side k c f g f' g' n n' m' e p q =
    (refl, (λ at j. p.4 at j ∙ e at j ∙ sym (q.4 at j)), p.1 ∙ sym q.1)

after_alike : (x : Call) (b d : Bool) (f g f' g' : Lists) (n n' m' : ℕ) → Equal f g → After x b f n f' n' → After x d g n g' m' → (b ≡ d) × Equal f' g' × (n' ≡ m')
after_alike (put side k c) b d f g f' g' n n' m' e p q =
    let a = filled_alike p.0 q.0 side k c f g f' g' n n' m' e p.2 q.2 in
    (sym p.1 ∙ a.0 ∙ q.1, a.1, a.2)
after_alike (move side from to) b d f g f' g' n n' m' e p q = (
  p.0 ∙ sym q.0,
  (λ at j. p.1 at j ∙ ap (λ (h : Lists). shifted side h from to at j) (one_function f g e) ∙ sym (q.1 at j)),
  p.2 ∙ sym q.2,
)

pub same_meaning : SameMeaning
same_meaning [] [] [] f g f' g' n n' m' e p q = (refl, (λ at j. p.0 at j ∙ e at j ∙ sym (q.0 at j)), p.1 ∙ sym q.1)
same_meaning [] (c ∷ cs) bs f g f' g' n n' m' e p q = absurd p
same_meaning [] [] (b ∷ bs) f g f' g' n n' m' e p q = absurd q
same_meaning (x ∷ xs) [] bs f g f' g' n n' m' e p q = absurd p
same_meaning (x ∷ xs) (c ∷ cs) [] f g f' g' n n' m' e p q = absurd q
same_meaning (x ∷ xs) (c ∷ cs) (b ∷ bs) f g f' g' n n' m' e p q =
    let a = after_alike x c b f g p.0 q.0 n p.1 q.1 e p.2 q.2 in
    let i = same_meaning xs cs bs p.0 q.0 f' g' p.1 n' m' a.1 p.3 (subst (λ (m : ℕ). Played xs bs q.0 m g' m') (sym a.2) q.3) in
    let h : c ≡ b = a.0 in
    let t : cs ≡ bs = i.0 in
    (cc, i.1, i.2)
