-- One more entry, behind those that are there and with the next rank of its list.
use Rattle.std.proofs.Common.{◌≡◌, ℕ, ◌+◌, ◌<◌, Bool, true, false, cond, ◌&&◌, eqb, ltb, List, [], ◌∷◌, ◌++◌, map, count_by, sym, refl, ap, ◌∙◌, ⊎_elim, arith}
use Rattle.std.proofs.lemmas.List.FromFn.{map-range_with_len_more}
use Rattle.std.proofs.lemmas.List.Sums.{sum_by_push}
use Rattle.std.proofs.lemmas.Bool.{cond-true, cond-false, cases_Bool, and_left, and_from, eq-eqb}
use Rattle.std.proofs.lemmas.Bool.Decides.{nat_tests}
use Rattle.std.specs.List.{range_with_len}
use Rattle.comments.specs.declared.store.Side.{Side}
use Rattle.comments.specs.Lists.{same, added}
use Rattle.register.specs.declared.entry.Entry.{Entry}
use Rattle.register.specs.Listing.{here, ranked, comment_at, listing, Sound}
use Rattle.register.proofs.Passes.{count_by_cons}
use Rattle.register.proofs.Ranks.{same_turned, here_true, taken_once, not_taken, map_alike}

count_by_push : {X : Type 0} (p : X → Bool) (xs : List X) (y : X) → count_by p (xs ++ y ∷ []) ≡ count_by p xs + cond (p y) 1 0
count_by_push p xs y = sum_by_push (λ x. cond (p x) 1 0) xs y

-- the next rank of the entry's list is taken, and no other
next_rank : (its : Bool) (r rank n : ℕ) → (its ≡ true → rank ≡ n) → cond (ltb r n) 1 0 + cond (its && eqb rank r) 1 0 ≡ cond (ltb r (n + cond its 1 0)) 1 0
next_rank true r rank n h = let e = h refl in grind (arith, nat_tests)
next_rank false r rank n h = grind (arith, nat_tests)

-- the entry has the next rank of its list
abbrev pub Next : List Entry → Entry → Type 0
Next es e = e.rank ≡ count_by (here e.spot.side e.spot.offset) es

next_of : (es : List Entry) (e : Entry) (side : Side) (k : ℕ) → Next es e → here side k e ≡ true → e.rank ≡ count_by (here side k) es
next_of es e side k n h =
    let p = here_true side k e h in
    n ∙ ap (λ (s : Side). count_by (here s e.spot.offset) es) p.0 ∙ ap (λ (o : ℕ). count_by (here side o) es) p.1

pub sound_push : (es : List Entry) (e : Entry) → Sound es → Next es e → Sound (es ++ e ∷ [])
sound_push es e h n side k r =
    count_by_push (ranked side k r) es e
    ∙ ap (λ (x : ℕ). x + cond (ranked side k r e) 1 0) (h side k r)
    ∙ next_rank (here side k e) r e.rank (count_by (here side k) es) (next_of es e side k n)
    ∙ ap (λ (x : ℕ). cond (ltb r x) 1 0) (sym (count_by_push (here side k) es e))

-- what is found among the first entries is what is found among all
comment_front : (es fs : List Entry) (side : Side) (k r : ℕ) → 0 < count_by (ranked side k r) es → comment_at (es ++ fs) side k r ≡ comment_at es side k r
comment_front [] fs side k r l = absurd (omega arith)
comment_front (e ∷ es) fs side k r l =
    ⊎_elim
    (λ b. cond-true (ranked side k r e) _ _ b ∙ sym (cond-true (ranked side k r e) _ _ b))
    (λ b. ap (cond (ranked side k r e) e.comment) (comment_front es fs side k r (omega (arith, count_by_cons (ranked side k r) e es, cond-false {A = ℕ} (ranked side k r e) 1 0 b))))
    (cases_Bool (ranked side k r e))

-- what is not found among the first is what the others have
comment_behind : (es fs : List Entry) (side : Side) (k r : ℕ) → count_by (ranked side k r) es ≡ 0 → comment_at (es ++ fs) side k r ≡ comment_at fs side k r
comment_behind [] fs side k r l = refl
comment_behind (e ∷ es) fs side k r l =
    ⊎_elim
    (λ b. absurd (omega (arith, count_by_cons (ranked side k r) e es, cond-true {A = ℕ} (ranked side k r e) 1 0 b)))
    (λ b. cond-false (ranked side k r e) _ _ b ∙ comment_behind es fs side k r (omega (arith, count_by_cons (ranked side k r) e es)))
    (cases_Bool (ranked side k r e))

-- where the others have none, nothing changes
comment_same : (es fs : List Entry) (side : Side) (k r : ℕ) → comment_at fs side k r ≡ 0 → comment_at (es ++ fs) side k r ≡ comment_at es side k r
comment_same [] fs side k r z = z
comment_same (e ∷ es) fs side k r z = ap (cond (ranked side k r e) e.comment) (comment_same es fs side k r z)

pub listing_its : (es : List Entry) (e : Entry) (side : Side) (k : ℕ) → Sound es → Next es e → here side k e ≡ true → listing (es ++ e ∷ []) side k ≡ listing es side k ++ e.comment ∷ []
listing_its es e side k h n b =
    ap (λ (x : ℕ). map (comment_at (es ++ e ∷ []) side k) (range_with_len 0 x)) (count_by_push (here side k) es e ∙ ap (λ (x : ℕ). old + x) (cond-true (here side k e) 1 0 b))
    ∙ map-range_with_len_more (comment_at (es ++ e ∷ []) side k) 0 old old (omega arith)
    ∙ front_and_last
  where
    old : ℕ
    old = count_by (here side k) es

    last : comment_at (es ++ e ∷ []) side k old ≡ e.comment
    last =
        comment_behind es (e ∷ []) side k old (not_taken es side k old h (omega arith))
        ∙ cond-true (ranked side k old e) e.comment 0 (and_from _ _ b (eq-eqb e.rank old (next_of es e side k n b)))

    front : map (comment_at (es ++ e ∷ []) side k) (range_with_len 0 old) ≡ map (comment_at es side k) (range_with_len 0 old)
    front =
        map_alike (comment_at (es ++ e ∷ []) side k) (comment_at es side k) 0 0 old
        (λ i l. comment_front es (e ∷ []) side k (0 + i) (omega (arith, taken_once es side k (0 + i) h (omega arith))))

    front_and_last : map (comment_at (es ++ e ∷ []) side k) (range_with_len 0 old) ++ comment_at (es ++ e ∷ []) side k old ∷ [] ≡ listing es side k ++ e.comment ∷ []
    front_and_last = ap (λ xs. xs ++ comment_at (es ++ e ∷ []) side k old ∷ []) front ∙ ap (λ (x : ℕ). listing es side k ++ x ∷ []) last

pub listing_other : (es : List Entry) (e : Entry) (side : Side) (k : ℕ) → here side k e ≡ false → listing (es ++ e ∷ []) side k ≡ listing es side k
listing_other es e side k b =
    ap (λ (x : ℕ). map (comment_at (es ++ e ∷ []) side k) (range_with_len 0 x)) (count_by_push (here side k) es e ∙ omega (arith, cond-false {A = ℕ} (here side k e) 1 0 b))
    ∙ map_alike (comment_at (es ++ e ∷ []) side k) (comment_at es side k) 0 0 (count_by (here side k) es)
    (λ i l. comment_same es (e ∷ []) side k (0 + i) (cond-false (ranked side k (0 + i) e) e.comment 0 (and_left _ _ b)))

-- the lists with one more entry
pub listing_push : (es : List Entry) (e : Entry) → Sound es → Next es e → (at : Side) (k : ℕ) → listing (es ++ e ∷ []) at k ≡ added (listing es) e.spot.side e.spot.offset e.comment at k
listing_push es e h n at k =
    ⊎_elim
    (λ b. listing_its es e at k h n b ∙ sym (cond-true (same at e.spot.side && eqb k e.spot.offset) _ _ (sym turned ∙ b)))
    (λ b. listing_other es e at k b ∙ sym (cond-false (same at e.spot.side && eqb k e.spot.offset) _ _ (sym turned ∙ b)))
    (cases_Bool (here at k e))
  where
    turned_eqb : (a b : ℕ) → eqb a b ≡ eqb b a
    turned_eqb a b = grind (arith, nat_tests)

    turned : here at k e ≡ same at e.spot.side && eqb k e.spot.offset
    turned = ap (λ (x : Bool). x && eqb e.spot.offset k) (same_turned e.spot.side at) ∙ ap (λ (x : Bool). same at e.spot.side && x) (turned_eqb e.spot.offset k)
