-- The steps of a pass over entries: one that looks for the first that passes, and one that writes.
use Rattle.std.proofs.Common.{◌≡◌, ℕ, ◌+◌, ◌-◌, ◌<◌, ◌≤◌, Bool, true, false, cond, List, ◌∷◌, ◌++◌, map, length, get_or, take, drop, set, count_by, sym, ap, ◌∙◌, arith}
use Rattle.std.proofs.lemmas.List.Edits.{map_over_more}
use Rattle.std.proofs.lemmas.List.{append-nil, length-map, length-take-le, take_all, drop_all, drop_more, get_or_default, get_or-append_right, get_or-drop}
use Rattle.std.proofs.lemmas.List.Sums.{sum_by-cons}
use Rattle.std.proofs.lemmas.Bool.{cond-true, cond-false}
use Rattle.std.proofs.Common.{refl, subst, zero, suc, Option, None, Some, Bor}
use Rattle.std.specs.Prelude.{MatchOption}
use Rattle.std.specs.Option.{IsSomeAnd}
use Rattle.std.specs.List.{AllWithin, HoldsAt}
use Rattle.comments.specs.declared.store.Side.TheVariants.{Leading}
use Rattle.comments.specs.declared.store.Side.{Side}
use Rattle.register.specs.declared.entry.Entry.{Entry}
use Rattle.register.specs.Listing.{ranked, comment_at}

pub count_by_cons : {X : Type 0} (p : X → Bool) (x : X) (xs : List X) → count_by p (x ∷ xs) ≡ cond (p x) 1 0 + count_by p xs
count_by_cons p x xs = sum_by-cons (λ y. cond (p y) 1 0) x xs

-- what a pass reads where there is no entry
abbrev pub blank : Entry
blank = record { comment = 0; spot = record { side = Leading; offset = 0 }; rank = 0 }

-- what is left to look through says what the whole does
abbrev Left : List Entry → Side → ℕ → ℕ → ℕ → Type 0
Left es side k r i =
    (count_by (ranked side k r) (drop i es) ≡ count_by (ranked side k r) es)
    × (comment_at (drop i es) side k r ≡ comment_at es side k r)

step :
    (es : List Entry)
    (side : Side)
    (k r i : ℕ)
    (d : Entry)
    → i < length es
    → Left es side k r i
    → (cond (ranked side k r (get_or es i d)) 1 0 + count_by (ranked side k r) (drop (i + 1) es) ≡ count_by (ranked side k r) es)
    × (cond (ranked side k r (get_or es i d)) (get_or es i d).comment (comment_at (drop (i + 1) es) side k r) ≡ comment_at es side k r)
step es side k r i d l h =
    let e = drop_more es i d l in (
      sym (ap (count_by (ranked side k r)) e ∙ count_by_cons (ranked side k r) (get_or es i d) (drop (i + 1) es)) ∙ h.0,
      sym (ap (λ (xs : List Entry). comment_at xs side k r) e) ∙ h.1,
    )

left_more : (es : List Entry) (side : Side) (k r i : ℕ) (d : Entry) → i < length es → ranked side k r (get_or es i d) ≡ false → Left es side k r i → Left es side k r (i + 1)
left_more es side k r i d l miss h =
    let s = step es side k r i d l h in (
      omega (arith, s.0, cond-false {A = ℕ} (ranked side k r (get_or es i d)) 1 0 miss),
      sym (cond-false (ranked side k r (get_or es i d)) (get_or es i d).comment (comment_at (drop (i + 1) es) side k r) miss) ∙ s.1,
    )

left_found :
    (es : List Entry)
    (side : Side)
    (k r i : ℕ)
    (d : Entry)
    → i < length es
    → ranked side k r (get_or es i d) ≡ true
    → Left es side k r i
    → (0 < count_by (ranked side k r) es) × ((get_or es i d).comment ≡ comment_at es side k r)
left_found es side k r i d l hit h =
    let s = step es side k r i d l h in (
      omega (arith, s.0, cond-true {A = ℕ} (ranked side k r (get_or es i d)) 1 0 hit),
      sym (cond-true (ranked side k r (get_or es i d)) (get_or es i d).comment (comment_at (drop (i + 1) es) side k r) hit) ∙ s.1,
    )

left_none : (es : List Entry) (side : Side) (k r i : ℕ) → length es ≤ i → Left es side k r i → count_by (ranked side k r) es ≡ 0
left_none es side k r i l h = sym h.0 ∙ ap (count_by (ranked side k r)) (drop_all i es l)

-- what a pass that writes has not reached is as it was
pub not_reached : {X : Type 0} (f : X → X) (xs ys : List X) (i : ℕ) (d : X) → i < length xs → ys ≡ map f (take i xs) ++ drop i xs → get_or ys i d ≡ get_or xs i d
not_reached f xs ys i d l e =
    ap (λ zs. get_or zs i d) e
    ∙ get_or-append_right (map f (take i xs)) (drop i xs) i i d (length-map (take i xs) f ∙ length-take-le i xs (omega arith)) (omega arith)
    ∙ get_or-drop i xs (i - i) d
    ∙ ap (λ (j : ℕ). get_or xs j d) (omega arith)

pub written_more :
    {X : Type 0}
    (f : X → X)
    (xs ys : List X)
    (i : ℕ)
    (d y : X)
    → i < length xs
    → length ys ≡ length xs
    → ys ≡ map f (take i xs) ++ drop i xs
    → y ≡ f (get_or ys i d)
    → set ys i y ≡ map f (take (i + 1) xs) ++ drop (i + 1) xs
written_more f xs ys i d y l n e w =
    ap (set ys i) w ∙ map_over_more f xs ys i (get_or ys i d) l e (get_or_default ys i d (get_or ys i d) (omega arith))

pub written_all : {X : Type 0} (f : X → X) (xs ys : List X) (i : ℕ) → length xs ≤ i → ys ≡ map f (take i xs) ++ drop i xs → ys ≡ map f xs
written_all f xs ys i l e = let t = take_all i xs l in let u = drop_all i xs l in let v = append-nil (map f xs) in cc

-- what was looked through has nothing to say
left_within : (es : List Entry) (side : Side) (k r i : ℕ) → i ≤ length es → AllWithin (λ e. ranked side k r e ≡ false) es 0 i → Left es side k r i
left_within es side k r zero l h = (refl, refl)
left_within es side k r (suc i) l h =
    let next : i + 1 ≡ suc i = omega arith in subst (Left es side k r) next (left_more es side k r i blank (omega arith) (h i blank (omega arith) (omega arith)) (left_within es side k r i (omega arith) (λ j d a b. h j d a (omega arith))))

-- what a search for the first entry of a rank answers, by its comment
pub searched :
    (es : List Entry)
    (side : Side)
    (k r : ℕ)
    (found : Option (Bor Entry))
    (answer : Option ℕ)
    (Says : Bor Entry → ℕ → Type 0)
    → ((e : Bor Entry) (c : ℕ) → Says e c → c ≡ e.now.comment)
    → MatchOption found (AllWithin (λ e. ranked side k r e ≡ false) es 0 (length es)) (λ e. (ranked side k r e.now ≡ true) × (i : ℕ) × (i < length es) × HoldsAt (λ y. y ≡ e.now) es i × AllWithin (λ e. ranked side k r e ≡ false) es 0 i)
    → MatchOption found (answer ≡ None) (λ e. IsSomeAnd answer (Says e))
    → MatchOption answer (count_by (ranked side k r) es ≡ 0) (λ c. (0 < count_by (ranked side k r) es) × (c ≡ comment_at es side k r))
searched es side k r None None Says says f m = left_none es side k r (length es) (omega arith) (left_within es side k r (length es) (omega arith) f)
searched es side k r None (Some c) Says says f m = let z : ◌≡◌ {A = ℕ} 0 1 = cc in absurd (omega arith)
searched es side k r (Some e) None Says says f m = absurd m
searched es side k r (Some e) (Some c) Says says f m =
    let here : get_or es f.1 e.now ≡ e.now = f.3 e.now in
    let hit : ranked side k r (get_or es f.1 e.now) ≡ true = ap (ranked side k r) here ∙ f.0 in
    let t = left_found es side k r f.1 e.now f.2 hit (left_within es side k r f.1 (omega (arith, f.2)) f.4) in
    (t.0, says e c m ∙ ap (λ (x : Entry). x.comment) (sym here) ∙ t.1)
