-- The lists of a register after each of its entries was changed by one function.
use Rattle.std.proofs.Common.{◌≡◌, ℕ, ◌+◌, ◌-◌, ◌<◌, ◌≤◌, Bool, false, cond, ◌||◌, ltb, List, [], ◌∷◌, ◌++◌, map, count_by, sym, refl, ap, ◌∙◌, subst, ⊎_elim, arith}
use Rattle.std.proofs.lemmas.Bool.{cond-true, cond-false, cases_lt, and_left, lt-ltb, le-ltb}
use Rattle.std.proofs.lemmas.Bool.Decides.{nat_tests}
use Rattle.std.specs.List.{range_with_len, AllByRecursion}
use Rattle.comments.specs.declared.store.Side.{Side}
use Rattle.comments.specs.Lists.{same}
use Rattle.register.specs.declared.entry.Entry.{Entry}
use Rattle.register.specs.Listing.{here, ranked, comment_at, listing, Sound}
use Rattle.register.proofs.Passes.{count_by_cons}
use Rattle.register.proofs.Ranks.{taken_once, Below, all_below, map_alike, map_split}
use Rattle.register.proofs.OneEntry.{apart_one}

-- entries that pass as others do are as many
count_map : (P : Entry → Type 0) (p q : Entry → Bool) (f : Entry → Entry) → ((e : Entry) → P e → p (f e) ≡ q e) → (es : List Entry) → AllByRecursion P es → count_by p (map f es) ≡ count_by q es
count_map P p q f h [] a = refl
count_map P p q f h (e ∷ es) a =
    count_by_cons p (f e) (map f es)
    ∙ ap (λ (x : Bool). cond x 1 0 + count_by p (map f es)) (h e a.0)
    ∙ ap (λ (x : ℕ). cond (q e) 1 0 + x) (count_map P p q f h es a.1)
    ∙ sym (count_by_cons q e es)

comment_map :
    (P : Entry → Type 0)
    (f : Entry → Entry)
    (s t : Side)
    (k j r i : ℕ)
    → ((e : Entry) → (f e).comment ≡ e.comment)
    → ((e : Entry) → P e → ranked s k r (f e) ≡ ranked t j i e)
    → (es : List Entry)
    → AllByRecursion P es
    → comment_at (map f es) s k r ≡ comment_at es t j i
comment_map P f s t k j r i c h [] a = refl
comment_map P f s t k j r i c h (e ∷ es) a =
    ap (λ (x : Bool). cond x (f e).comment (comment_at (map f es) s k r)) (h e a.0)
    ∙ ap (λ (x : ℕ). cond (ranked t j i e) x (comment_at (map f es) s k r)) (c e)
    ∙ ap (λ (x : ℕ). cond (ranked t j i e) e.comment x) (comment_map P f s t k j r i c h es a.1)

abbrev pub either : Side → ℕ → ℕ → Entry → Bool
either side first second e = here side first e || here side second e

pub count_either : (side : Side) (first second : ℕ) → (first ≡ second → ⊥) → (es : List Entry) → count_by (either side first second) es ≡ count_by (here side first) es + count_by (here side second) es
count_either side first second ne [] = refl
count_either side first second ne (e ∷ es) =
    let a = count_by_cons (either side first second) e es in
    let b = count_by_cons (here side first) e es in
    let c = count_by_cons (here side second) e es in
    let d = apart_one (same e.spot.side side) e.spot.offset first second ne in
    let i = count_either side first second ne es in
    omega arith

-- a list after the change that is another from before
pub record Kept (es : List Entry) (f : Entry → Entry) (s t : Side) (k j : ℕ) : Type 0 where
  pub comments : (e : Entry) → (f e).comment ≡ e.comment
  pub heres : (e : Entry) → here s k (f e) ≡ here t j e
  pub ranks : (r : ℕ) (e : Entry) → Below es e → ranked s k r (f e) ≡ ranked t j r e

kept_count : (es : List Entry) (f : Entry → Entry) (s t : Side) (k j : ℕ) → Kept es f s t k j → Sound es → count_by (here s k) (map f es) ≡ count_by (here t j) es
kept_count es f s t k j w h = count_map (Below es) (here s k) (here t j) f (λ e b. w.heres e) es (all_below es h)

pub kept_sound : (es : List Entry) (f : Entry → Entry) (s t : Side) (k j : ℕ) → Kept es f s t k j → Sound es → (r : ℕ) → count_by (ranked s k r) (map f es) ≡ cond (ltb r (count_by (here s k) (map f es))) 1 0
kept_sound es f s t k j w h r =
    count_map (Below es) (ranked s k r) (ranked t j r) f (w.ranks r) es (all_below es h)
    ∙ h t j r
    ∙ ap (λ (x : ℕ). cond (ltb r x) 1 0) (sym (kept_count es f s t k j w h))

pub kept_list : (es : List Entry) (f : Entry → Entry) (s t : Side) (k j : ℕ) → Kept es f s t k j → Sound es → listing (map f es) s k ≡ listing es t j
kept_list es f s t k j w h =
    ap (λ (n : ℕ). map (comment_at (map f es) s k) (range_with_len 0 n)) (kept_count es f s t k j w h)
    ∙ map_alike (comment_at (map f es) s k) (comment_at es t j) 0 0 (count_by (here t j) es)
    (λ i l. comment_map (Below es) f s t k j (0 + i) (0 + i) w.comments (w.ranks (0 + i)) es (all_below es h))

-- a list after the change that has no entry
count_none : (es : List Entry) → count_by (λ e. false) es ≡ 0
count_none [] = refl
count_none (e ∷ es) = count_by_cons (λ e. false) e es ∙ omega (arith, count_none es)

all_any : (es : List Entry) → AllByRecursion (λ e. Unit {0}) es
all_any [] = tt
all_any (e ∷ es) = (tt, all_any es)

none_here : (es : List Entry) (f : Entry → Entry) (s : Side) (k : ℕ) → ((e : Entry) → here s k (f e) ≡ false) → count_by (here s k) (map f es) ≡ 0
none_here es f s k w = count_map (λ e. Unit {0}) (here s k) (λ e. false) f (λ e b. w e) es (all_any es) ∙ count_none es

pub none_sound : (es : List Entry) (f : Entry → Entry) (s : Side) (k : ℕ) → ((e : Entry) → here s k (f e) ≡ false) → (r : ℕ) → count_by (ranked s k r) (map f es) ≡ cond (ltb r (count_by (here s k) (map f es))) 1 0
none_sound es f s k w r =
    count_map (λ e. Unit {0}) (ranked s k r) (λ e. false) f (λ e b. and_left _ _ (w e)) es (all_any es)
    ∙ count_none es
    ∙ sym (cond-false (ltb r (count_by (here s k) (map f es))) 1 0 (le-ltb r _ (omega (arith, none_here es f s k w))))

pub none_list : (es : List Entry) (f : Entry → Entry) (s : Side) (k : ℕ) → ((e : Entry) → here s k (f e) ≡ false) → listing (map f es) s k ≡ []
none_list es f s k w = ap (λ (n : ℕ). map (comment_at (map f es) s k) (range_with_len 0 n)) (none_here es f s k w)

-- a list after the change that has the entries of one and then those of another
pub record Both (es : List Entry) (f : Entry → Entry) (s : Side) (k a b ahead : ℕ) : Type 0 where
  pub comments : (e : Entry) → (f e).comment ≡ e.comment
  pub long : ahead ≡ count_by (here s a) es
  pub apart : a ≡ b → ⊥
  pub heres : (e : Entry) → here s k (f e) ≡ either s a b e
  pub front : (r : ℕ) → r < ahead → (e : Entry) → Below es e → ranked s k r (f e) ≡ ranked s a r e
  pub behind : (r : ℕ) (e : Entry) → Below es e → ranked s k (ahead + r) (f e) ≡ ranked s b r e

both_count : (es : List Entry) (f : Entry → Entry) (s : Side) (k a b ahead : ℕ) → Both es f s k a b ahead → Sound es → count_by (here s k) (map f es) ≡ ahead + count_by (here s b) es
both_count es f s k a b ahead w h =
    count_map (Below es) (here s k) (either s a b) f (λ e x. w.heres e) es (all_below es h) ∙ count_either s a b w.apart es ∙ ap (λ (x : ℕ). x + count_by (here s b) es) (sym w.long)

pub both_sound : (es : List Entry) (f : Entry → Entry) (s : Side) (k a b ahead : ℕ) → Both es f s k a b ahead → Sound es → (r : ℕ) → count_by (ranked s k r) (map f es) ≡ cond (ltb r (count_by (here s k) (map f es))) 1 0
both_sound es f s k a b ahead w h r = ⊎_elim low high (cases_lt r ahead)
  where
    low : r < ahead → count_by (ranked s k r) (map f es) ≡ cond (ltb r (count_by (here s k) (map f es))) 1 0
    low l =
        count_map (Below es) (ranked s k r) (ranked s a r) f (w.front r l) es (all_below es h)
        ∙ taken_once es s a r h (omega (arith, w.long))
        ∙ sym (cond-true (ltb r (count_by (here s k) (map f es))) 1 0 (lt-ltb r _ (omega (arith, both_count es f s k a b ahead w h))))

    shift : (i n : ℕ) → cond {A = ℕ} (ltb i n) 1 0 ≡ cond (ltb (ahead + i) (ahead + n)) 1 0
    shift i n = grind (arith, nat_tests)

    at : (i : ℕ) → count_by (ranked s k (ahead + i)) (map f es) ≡ cond (ltb (ahead + i) (count_by (here s k) (map f es))) 1 0
    at i =
        count_map (Below es) (ranked s k (ahead + i)) (ranked s b i) f (w.behind i) es (all_below es h)
        ∙ h s b i
        ∙ shift i (count_by (here s b) es)
        ∙ ap (λ (x : ℕ). cond (ltb (ahead + i) x) 1 0) (sym (both_count es f s k a b ahead w h))

    high : ahead ≤ r → count_by (ranked s k r) (map f es) ≡ cond (ltb r (count_by (here s k) (map f es))) 1 0
    high l =
        let e : ahead + (r - ahead) ≡ r = omega arith in
        subst (λ (x : ℕ). count_by (ranked s k x) (map f es) ≡ cond (ltb x (count_by (here s k) (map f es))) 1 0) e (at (r - ahead))

pub both_list : (es : List Entry) (f : Entry → Entry) (s : Side) (k a b ahead : ℕ) → Both es f s k a b ahead → Sound es → listing (map f es) s k ≡ listing es s a ++ listing es s b
both_list es f s k a b ahead w h =
    ap (λ (n : ℕ). map (comment_at (map f es) s k) (range_with_len 0 n)) (both_count es f s k a b ahead w h)
    ∙ map_split (comment_at (map f es) s k) 0 ahead (count_by (here s b) es)
    ∙ ap (λ xs. xs ++ map (comment_at (map f es) s k) (range_with_len (0 + ahead) (count_by (here s b) es))) front
    ∙ ap (λ xs. listing es s a ++ xs) behind
  where
    front : map (comment_at (map f es) s k) (range_with_len 0 ahead) ≡ listing es s a
    front =
        map_alike (comment_at (map f es) s k) (comment_at es s a) 0 0 ahead
        (λ i l. comment_map (Below es) f s s k a (0 + i) (0 + i) w.comments (w.front (0 + i) (omega arith)) es (all_below es h))
        ∙ ap (λ (n : ℕ). map (comment_at es s a) (range_with_len 0 n)) w.long

    behind : map (comment_at (map f es) s k) (range_with_len (0 + ahead) (count_by (here s b) es)) ≡ listing es s b
    behind =
        map_alike (comment_at (map f es) s k) (comment_at es s b) (0 + ahead) 0 (count_by (here s b) es)
        (λ i l. let z : 0 + ahead + i ≡ ahead + (0 + i) = omega arith in ap (comment_at (map f es) s k) z ∙ comment_map (Below es) f s s k b (ahead + (0 + i)) (0 + i) w.comments (w.behind (0 + i)) es (all_below es h))
