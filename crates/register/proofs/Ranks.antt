-- Counting entries, and reading lists off them by their ranks.
use Rattle.std.proofs.Common.{◌≡◌, ℕ, zero, suc, ◌+◌, ◌<◌, ◌≤◌, true, eqb, ltb, List, [], ◌∷◌, ◌++◌, map, Some, None, count_by, Option, sym, refl, ap, ◌∙◌, subst, ⊎_elim, add-zero, zero-add, arith, MatchOption}
use Rattle.std.proofs.lemmas.Bool.{cond-true, cond-false, cases_lt, and_parts, and_from, eqb-true, eq-eqb, lt-ltb, le-ltb}
use Rattle.std.proofs.lemmas.List.FromFn.{length-map-range_with_len, get_or-map-range_with_len}
use Rattle.std.proofs.lemmas.Option.{slice_get-get_or, slice_get_past}
use Rattle.std.specs.List.{slice_get, range_with_len, AllByRecursion}
use Rattle.comments.specs.declared.store.Side.{Side}
use Rattle.comments.specs.declared.store.Side.TheVariants.{Leading, Trailing}
use Rattle.comments.specs.Lists.{same}
use Rattle.register.specs.declared.entry.Entry.{Entry}
use Rattle.register.specs.Listing.{here, ranked, comment_at, listing, Sound}
use Rattle.comments.proofs.Parts.{same_sides, same_self}
use Rattle.register.proofs.Passes.{count_by_cons}

pub same_turned : (a b : Side) → same a b ≡ same b a
same_turned Leading Leading = refl
same_turned Leading Trailing = refl
same_turned Trailing Leading = refl
same_turned Trailing Trailing = refl

pub here_true : (side : Side) (k : ℕ) (e : Entry) → here side k e ≡ true → (e.spot.side ≡ side) × (e.spot.offset ≡ k)
here_true side k e h =
    let p = and_parts (same e.spot.side side) (eqb e.spot.offset k) h in
    (same_sides e.spot.side side p.0, eqb-true e.spot.offset k p.1)

ranked_itself : (e : Entry) → ranked e.spot.side e.spot.offset e.rank e ≡ true
ranked_itself e =
    and_from _ _ (and_from _ _ (same_self e.spot.side) (eq-eqb e.spot.offset e.spot.offset refl)) (eq-eqb e.rank e.rank refl)

-- how often a rank of a list is taken
pub taken_once : (es : List Entry) (side : Side) (k r : ℕ) → Sound es → r < count_by (here side k) es → count_by (ranked side k r) es ≡ 1
taken_once es side k r h l = h side k r ∙ cond-true (ltb r (count_by (here side k) es)) 1 0 (lt-ltb r _ l)

pub not_taken : (es : List Entry) (side : Side) (k r : ℕ) → Sound es → count_by (here side k) es ≤ r → count_by (ranked side k r) es ≡ 0
not_taken es side k r h l = h side k r ∙ cond-false (ltb r (count_by (here side k) es)) 1 0 (le-ltb r _ l)

pub taken_below : (es : List Entry) (side : Side) (k r : ℕ) → Sound es → 0 < count_by (ranked side k r) es → r < count_by (here side k) es
taken_below es side k r h l =
    ⊎_elim (λ p. p) (λ p. absurd (omega (arith, not_taken es side k r h p))) (cases_lt r (count_by (here side k) es))

ranks_below : (n : Side → ℕ → ℕ) (es : List Entry) → ((side : Side) (k r : ℕ) → 0 < count_by (ranked side k r) es → r < n side k) → AllByRecursion (λ e. e.rank < n e.spot.side e.spot.offset) es
ranks_below n [] h = tt
ranks_below n (e ∷ es) h = (
  h e.spot.side e.spot.offset e.rank
      (omega (arith, count_by_cons (ranked e.spot.side e.spot.offset e.rank) e es, cond-true {A = ℕ} (ranked e.spot.side e.spot.offset e.rank e) 1 0 (ranked_itself e))),
  ranks_below n es (λ side k r g. h side k r (omega (arith, count_by_cons (ranked side k r) e es))),
)

-- each entry's rank is below the length of its list
abbrev pub Below : List Entry → Entry → Type 0
Below es e = e.rank < count_by (here e.spot.side e.spot.offset) es

pub all_below : (es : List Entry) → Sound es → AllByRecursion (Below es) es
all_below es h = ranks_below (λ side k. count_by (here side k) es) es (λ side k r l. taken_below es side k r h l)

-- lists that are read off by functions alike are equal
pub map_alike : (f g : ℕ → ℕ) (a b n : ℕ) → ((i : ℕ) → i < n → f (a + i) ≡ g (b + i)) → map f (range_with_len a n) ≡ map g (range_with_len b n)
map_alike f g a b zero h = refl
map_alike f g a b (suc n) h =
    let first : f a ≡ g b = subst (λ x. f x ≡ g b) (add-zero a) (subst (λ y. f (a + 0) ≡ g y) (add-zero b) (h 0 (omega arith))) in
    let rest = map_alike f g (a + 1) (b + 1) n (λ i l. subst (λ (x : ℕ). f x ≡ g (b + 1 + i)) (omega arith) (subst (λ (y : ℕ). f (a + suc i) ≡ g y) (omega arith) (h (suc i) (omega arith)))) in
    cc

pub map_split : (f : ℕ → ℕ) (a m n : ℕ) → map f (range_with_len a (m + n)) ≡ map f (range_with_len a m) ++ map f (range_with_len (a + m) n)
map_split f a zero n = rw (zero-add, add-zero) refl
map_split f a (suc m) n =
    let sum : suc m + n ≡ suc (m + n) = omega arith in
    let past : a + 1 + m ≡ a + suc m = omega arith in
    ap (λ (x : ℕ). map f (range_with_len a x)) sum ∙ ap (λ xs. f a ∷ xs) (map_split f (a + 1) m n) ∙ ap (λ (x : ℕ). (f a ∷ map f (range_with_len (a + 1) m)) ++ map f (range_with_len x n)) past

-- what is found by its rank is what the list has there
pub nth_listing :
    (es : List Entry)
    (side : Side)
    (k r : ℕ)
    (o : Option ℕ)
    → Sound es
    → MatchOption o (count_by (ranked side k r) es ≡ 0) (λ c. (0 < count_by (ranked side k r) es) × (c ≡ comment_at es side k r))
    → o ≡ slice_get (listing es side k) r
nth_listing es side k r (Some c) h p =
    let l = taken_below es side k r h p.0 in
    let n = length-map-range_with_len (comment_at es side k) 0 (count_by (here side k) es) in
    ap Some p.1
    ∙ sym (slice_get-get_or (listing es side k) r 0 (omega arith) ∙ ap Some (get_or-map-range_with_len (comment_at es side k) 0 (count_by (here side k) es) r r 0 l (omega arith)))
nth_listing es side k r None h p =
    ⊎_elim
    (λ l. absurd (omega (arith, taken_once es side k r h l)))
    (λ l. sym (slice_get_past (listing es side k) r (omega (arith, length-map-range_with_len (comment_at es side k) 0 (count_by (here side k) es)))))
    (cases_lt r (count_by (here side k) es))
