-- The moves one after the other, and what they keep: lists that are joined stay whole, and a number that stood in one place
-- stands in one place again.
use Rattle.std.proofs.Common.{◌≡◌, ℕ, ◌+◌, Bool, true, false, cond, eqb, List, [], ◌∷◌, ◌++◌, sym, refl, ap, ◌∙◌, ⊎_elim, append-nil, arith}
use mathlib.Core.Path.{fun_ext}
use Rattle.std.specs.List.{flat_map}
use Rattle.std.proofs.lemmas.Bool.{eq-eqb, ne_eqb, cond-true, cond-false, cases_eq}
use Rattle.std.proofs.lemmas.List.{append_assoc}
use Rattle.chain.specs.Chain.{times}
use Rattle.chain.proofs.Counting.{times_append, is_same, is_unlike}
use Rattle.comments.specs.declared.place.Move.{Move}
use Rattle.comments.specs.declared.store.Side.{Side}
use Rattle.comments.specs.declared.store.Side.TheVariants.{Leading, Trailing}
use Rattle.comments.specs.Lists.{edge, join, moved, carried}
use Rattle.comments.specs.Laws.{Once, Gathered}

-- a move of equal offsets changes nothing
pub moved_equal : (side : Side) (f : ℕ → List ℕ) (a b k : ℕ) → a ≡ b → moved side f a b k ≡ f k
moved_equal side f a b k e = cond-true (eqb a b) (f k) (cond (eqb k b) (join side (f a) (f b)) (cond (eqb k a) [] (f k))) (eq-eqb a b e)

-- a move of unequal offsets joins the list at `to`, empties that at `from`, and leaves all others
pub moved_apart : (side : Side) (f : ℕ → List ℕ) (a b k : ℕ) → (a ≡ b → ⊥) → moved side f a b k ≡ cond (eqb k b) (join side (f a) (f b)) (cond (eqb k a) [] (f k))
moved_apart side f a b k e = cond-false (eqb a b) (f k) (cond (eqb k b) (join side (f a) (f b)) (cond (eqb k a) [] (f k))) (ne_eqb a b e)

pub moved_to : (side : Side) (f : ℕ → List ℕ) (a b k : ℕ) → (a ≡ b → ⊥) → k ≡ b → moved side f a b k ≡ join side (f a) (f b)
moved_to side f a b k ne e =
    moved_apart side f a b k ne ∙ cond-true (eqb k b) (join side (f a) (f b)) (cond (eqb k a) [] (f k)) (eq-eqb k b e)

pub moved_from : (side : Side) (f : ℕ → List ℕ) (a b k : ℕ) → (a ≡ b → ⊥) → k ≡ a → moved side f a b k ≡ []
moved_from side f a b k ne e =
    moved_apart side f a b k ne
    ∙ cond-false (eqb k b) (join side (f a) (f b)) (cond (eqb k a) [] (f k)) (ne_eqb k b (λ d. ne (sym e ∙ d)))
    ∙ cond-true (eqb k a) [] (f k) (eq-eqb k a e)

pub moved_other : (side : Side) (f : ℕ → List ℕ) (a b k : ℕ) → (k ≡ a → ⊥) → (k ≡ b → ⊥) → moved side f a b k ≡ f k
moved_other side f a b k na nb =
    ⊎_elim (moved_equal side f a b k)
    (λ ne. moved_apart side f a b k ne
    ∙ cond-false (eqb k b) (join side (f a) (f b)) (cond (eqb k a) [] (f k)) (ne_eqb k b nb)
    ∙ cond-false (eqb k a) [] (f k) (ne_eqb k a na))
    (cases_eq a b)

-- one more move at the end of the list is one more move made
pub carried_more : (side : Side) (f : ℕ → List ℕ) (ms : List Move) (m : Move) → carried side f (ms ++ (m ∷ [])) ≡ moved side (carried side f ms) (edge side m.from) (edge side m.to)
carried_more side f [] m = refl
carried_more side f (n ∷ ms) m = carried_more side (moved side f (edge side n.from) (edge side n.to)) ms m

times_join : (side : Side) (c : ℕ) (xs ys : List ℕ) → times c (join side xs ys) ≡ times c xs + times c ys
times_join Leading c xs ys = times_append c xs ys
times_join Trailing c xs ys = omega (arith, times_append c ys xs)

-- one move keeps a number in one place: where it stood at `from`, it stands at `to`
module _ (side : Side) (c : ℕ) (f : ℕ → List ℕ) (a b : ℕ) where
  counted : (j : ℕ) (xs : List ℕ) → moved side f a b j ≡ xs → times c (moved side f a b j) ≡ times c xs
  counted j xs e = ap (times c) e

  went : (k : ℕ) → (a ≡ b → ⊥) → k ≡ a → times c (f k) ≡ 1 → ((j : ℕ) → (j ≡ k → ⊥) → times c (f j) ≡ 0) → Once c (moved side f a b)
  went k ne e one none = (
    b,
    counted b (join side (f a) (f b)) (moved_to side f a b b ne refl)
        ∙ omega (arith, times_join side c (f a) (f b), ap (λ (x : ℕ). times c (f x)) e, none b (λ d. ne (sym e ∙ sym d))),
    λ j nb. ⊎_elim
        (λ ja. counted j [] (moved_from side f a b j ne ja))
        (λ na. counted j (f j) (moved_other side f a b j na nb) ∙ none j (λ d. na (d ∙ e)))
        (cases_eq j a),
  )

  stays : (k : ℕ) → (a ≡ b → ⊥) → (k ≡ a → ⊥) → times c (f k) ≡ 1 → ((j : ℕ) → (j ≡ k → ⊥) → times c (f j) ≡ 0) → Once c (moved side f a b)
  stays k ne na one none = (k, ⊎_elim here_to here_else (cases_eq k b), others)
    where
      empty : times c (f a) ≡ 0
      empty = none a (λ d. na (sym d))

      here_to : k ≡ b → times c (moved side f a b k) ≡ 1
      here_to e =
          counted k (join side (f a) (f b)) (moved_to side f a b k ne e)
          ∙ omega (arith, times_join side c (f a) (f b), ap (λ (x : ℕ). times c (f x)) e, empty)

      here_else : (k ≡ b → ⊥) → times c (moved side f a b k) ≡ 1
      here_else nb = counted k (f k) (moved_other side f a b k na nb) ∙ one

      others : (j : ℕ) → (j ≡ k → ⊥) → times c (moved side f a b j) ≡ 0
      others j nk =
          ⊎_elim
          (λ jb. counted j (join side (f a) (f b)) (moved_to side f a b j ne jb) ∙ omega (arith, times_join side c (f a) (f b), empty, ap (λ (x : ℕ). times c (f x)) jb, none j nk))
          (λ nb. ⊎_elim (λ ja. counted j [] (moved_from side f a b j ne ja)) (λ ja. counted j (f j) (moved_other side f a b j ja nb) ∙ none j nk) (cases_eq j a))
          (cases_eq j b)

  once_moved : Once c f → Once c (moved side f a b)
  once_moved o =
      ⊎_elim
      (λ e. (o.0, counted o.0 (f o.0) (moved_equal side f a b o.0 e) ∙ o.1, λ j d. counted j (f j) (moved_equal side f a b j e) ∙ o.2 j d))
      (λ ne. ⊎_elim (λ e. went o.0 ne e o.1 o.2) (λ na. stays o.0 ne na o.1 o.2) (cases_eq o.0 a))
      (cases_eq a b)

pub once_carried : (side : Side) (c : ℕ) (f : ℕ → List ℕ) (ms : List Move) → Once c f → Once c (carried side f ms)
once_carried side c f [] o = o
once_carried side c f (m ∷ ms) o =
    once_carried side c (moved side f (edge side m.from) (edge side m.to)) ms
    (once_moved side c f (edge side m.from) (edge side m.to) o)

joined_append : (f : ℕ → List ℕ) (xs ys : List ℕ) → flat_map f (xs ++ ys) ≡ flat_map f xs ++ flat_map f ys
joined_append f [] ys = refl
joined_append f (x ∷ xs) ys = ap (λ (z : List ℕ). f x ++ z) (joined_append f xs ys) ∙ sym (append_assoc (f x) (flat_map f xs) (flat_map f ys))

joined_join : (side : Side) (f : ℕ → List ℕ) (xs ys : List ℕ) → flat_map f (join side xs ys) ≡ join side (flat_map f xs) (flat_map f ys)
joined_join Leading f xs ys = joined_append f xs ys
joined_join Trailing f xs ys = joined_append f ys xs

-- a move of the lists that name others is a move of the lists that they name
joined_moved : (side : Side) (f : ℕ → List ℕ) (g : ℕ → List ℕ) (a b k : ℕ) → flat_map f (moved side g a b k) ≡ moved side (λ j. flat_map f (g j)) a b k
joined_moved side f g a b k = go (eqb a b) (eqb k b) (eqb k a)
  where
    go : (x y z : Bool) → flat_map f (cond x (g k) (cond y (join side (g a) (g b)) (cond z [] (g k)))) ≡ cond x (flat_map f (g k)) (cond y (join side (flat_map f (g a)) (flat_map f (g b))) (cond z [] (flat_map f (g k))))
    go true y z = refl
    go false true z = joined_join side f (g a) (g b)
    go false false true = refl
    go false false false = refl

joined_carried : (side : Side) (f : ℕ → List ℕ) (g : ℕ → List ℕ) (ms : List Move) (k : ℕ) → flat_map f (carried side g ms k) ≡ carried side (λ j. flat_map f (g j)) ms k
joined_carried side f g [] k = refl
joined_carried side f g (m ∷ ms) k =
    joined_carried side f (moved side g (edge side m.from) (edge side m.to)) ms k
    ∙ ap (λ (h : ℕ → List ℕ). carried side h ms k) (fun_ext (λ j. joined_moved side f g (edge side m.from) (edge side m.to) j))

-- each offset by itself
abbrev alone : ℕ → List ℕ
alone k = k ∷ []

once_alone : (j : ℕ) → Once j alone
once_alone j = (j, omega (arith, is_same j), λ k ne. omega (arith, is_unlike j k (λ e. ne (sym e))))

-- the lists after the moves are joined from the lists before them, each of which is in one place
pub gathered : (side : Side) (f : ℕ → List ℕ) (ms : List Move) → Gathered f (carried side f ms)
gathered side f ms =
    record {
      origins = carried side alone ms;
      joins = λ k. sym (joined_carried side f alone ms k ∙ ap (λ (h : ℕ → List ℕ). carried side h ms k) (fun_ext (λ j. append-nil (f j))));
      once = λ j. once_carried side j alone ms (once_alone j);
    }
