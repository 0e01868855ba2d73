-- Two lists of a register that become one: the lists afterwards, that the ranks are sound again, and what the records are.
use Rattle.std.proofs.Common.{◌≡◌, ℕ, ◌+◌, ◌<◌, ◌≤◌, true, false, cond, ◌||◌, eqb, ltb, ◌⊎◌, List, [], ◌++◌, map, length, take, drop, count_by, sym, refl, ap, ◌∙◌, subst, inl, inr, ⊎_elim, arith}
use Rattle.std.proofs.lemmas.List.{length-append, length-map, length-take-le, take_at}
use Rattle.std.proofs.ByRecursion.{All-weaker}
use Rattle.std.proofs.lemmas.List.Sums.{count_by-le-length}
use Rattle.std.proofs.lemmas.Bool.{cond-true, cond-false, cases_Bool, cases_eq, eq-eqb, ne_eqb}
use Rattle.std.proofs.lemmas.Bool.Decides.{nat_tests}
use Rattle.std.specs.List.{AllByRecursion}
use Rattle.comments.specs.declared.store.Side.{Side}
use Rattle.comments.specs.Lists.{same}
use Rattle.register.specs.declared.entry.Entry.{Entry}
use Rattle.register.specs.Listing.{here, ranked, listing, Sound}
use Rattle.register.specs.Joins.{moved_to, together}
use Rattle.comments.proofs.Parts.{same_sides, same_self}
use Rattle.register.proofs.Ranks.{here_true, Below, all_below}
use Rattle.register.proofs.OneEntry.{other_here, other_ranked, apart_here, apart_ranked, gone_here, there_here, there_front, there_behind}
use Rattle.register.proofs.Relisted.{either, count_either, Kept, kept_sound, kept_list, none_sound, none_list, Both, both_sound, both_list}

below_in : (es : List Entry) (side : Side) (k : ℕ) (e : Entry) → Below es e → e.spot.side ≡ side → e.spot.offset ≡ k → e.rank < count_by (here side k) es
below_in es side k e b s o =
    subst (λ (x : ℕ). e.rank < count_by (here side x) es) o (subst (λ (x : Side). e.rank < count_by (here x e.spot.offset) es) s b)

-- two lists may be put together: they are two, of which one is where the joint list will be, and the first is as long as is said
pub record Ready (es : List Entry) (side : Side) (first second to ahead : ℕ) : Type 0 where
  pub sound : Sound es
  pub apart : first ≡ second → ⊥
  pub ends : (to ≡ first) ⊎ (to ≡ second)
  pub long : ahead ≡ count_by (here side first) es

there : (es : List Entry) (side : Side) (first second to ahead : ℕ) → Ready es side first second to ahead → Both es (moved_to side first second to ahead) side to first second ahead
there es side first second to ahead y =
    record {
      comments = λ e. refl;
      long = y.long;
      apart = y.apart;
      heres = λ e. there_here first second to (same e.spot.side side) e.spot.offset y.ends;
      front = λ r l e b. there_front first second to ahead r (same e.spot.side side) e.spot.offset e.rank y.apart y.ends l;
      behind = λ r e b. there_behind first second to ahead r (same e.spot.side side) e.spot.offset e.rank y.apart y.ends (λ on o. subst (λ (x : ℕ). e.rank < x) (sym y.long) (below_in es side first e b (same_sides e.spot.side side on) o));
    }

elsewhere : (es : List Entry) (side at : Side) (first second to ahead k : ℕ) → same at side ≡ false → Kept es (moved_to side first second to ahead) at at k k
elsewhere es side at first second to ahead k ne =
    record {
      comments = λ e. refl;
      heres = λ e. other_here first second to k (same e.spot.side at) (same e.spot.side side) e.spot.offset (off_side e);
      ranks = λ r e b. other_ranked first second to ahead k r (same e.spot.side at) (same e.spot.side side) e.spot.offset e.rank (off_side e);
    }
  where
    off_side : (e : Entry) → same e.spot.side at ≡ true → same e.spot.side side ≡ false
    off_side e h = subst (λ (x : Side). same x side ≡ false) (sym (same_sides e.spot.side at h)) ne

untouched : (es : List Entry) (side : Side) (first second to ahead k : ℕ) → (k ≡ to → ⊥) → (k ≡ first → ⊥) → (k ≡ second → ⊥) → Kept es (moved_to side first second to ahead) side side k k
untouched es side first second to ahead k t f s =
    record {
      comments = λ e. refl;
      heres = λ e. apart_here first second to k (same e.spot.side side) e.spot.offset t f s;
      ranks = λ r e b. apart_ranked first second to ahead k r (same e.spot.side side) e.spot.offset e.rank t f s;
    }

-- the four kinds of lists: on the other side, the joint one, the one that is left empty, any other
kinds :
    {C : Side → ℕ → Type 0}
    (side : Side)
    (first second to : ℕ)
    → ((at : Side) (k : ℕ) → same at side ≡ false → C at k)
    → C side to
    → ((k : ℕ) → (k ≡ to → ⊥) → ((k ≡ first) ⊎ (k ≡ second)) → C side k)
    → ((k : ℕ) → (k ≡ to → ⊥) → (k ≡ first → ⊥) → (k ≡ second → ⊥) → C side k)
    → (at : Side)
    (k : ℕ)
    → C at k
kinds {C = C} side first second to other joint left any at k =
    ⊎_elim
    (λ s.
    subst (λ (x : Side). C x k) (sym (same_sides at side s))
    (⊎_elim
    (λ t. subst (λ (x : ℕ). C side x) (sym t) joint)
    (λ t.
    ⊎_elim (λ f. left k t (inl f)) (λ f. ⊎_elim (λ e. left k t (inr e)) (λ e. any k t f e) (cases_eq k second))
    (cases_eq k first))
    (cases_eq k to)))
    (λ s. other at k s)
    (cases_Bool (same at side))

pub joined_sound : (es : List Entry) (side : Side) (first second to ahead : ℕ) → Ready es side first second to ahead → Sound (map (moved_to side first second to ahead) es)
joined_sound es side first second to ahead y =
    let f = moved_to side first second to ahead in
    kinds {C = λ at k. (r : ℕ) → count_by (ranked at k r) (map f es) ≡ cond (ltb r (count_by (here at k) (map f es))) 1 0} side first second to
    (λ at k s. kept_sound es f at at k k (elsewhere es side at first second to ahead k s) y.sound)
    (both_sound es f side to first second ahead (there es side first second to ahead y) y.sound)
    (λ k t g. none_sound es f side k (λ e. gone_here first second to k (same e.spot.side side) e.spot.offset t g))
    (λ k t a b. kept_sound es f side side k k (untouched es side first second to ahead k t a b) y.sound)

pub joined_lists : (es : List Entry) (side : Side) (first second to ahead : ℕ) → Ready es side first second to ahead → (at : Side) (k : ℕ) → listing (map (moved_to side first second to ahead) es) at k ≡ together (listing es) side first second to at k
joined_lists es side first second to ahead y =
    let f = moved_to side first second to ahead in
    kinds {C = λ at k. listing (map f es) at k ≡ together (listing es) side first second to at k} side first second to
    (λ at k s. kept_list es f at at k k (elsewhere es side at first second to ahead k s) y.sound ∙ sym (cond-false (same at side) _ _ s))
    (both_list es f side to first second ahead (there es side first second to ahead y) y.sound
    ∙ sym (on_side to ∙ cond-true (eqb to to) _ _ (eq-eqb to to refl)))
    (λ k t g.
    none_list es f side k (λ e. gone_here first second to k (same e.spot.side side) e.spot.offset t g)
    ∙ sym (on_side k ∙ cond-false (eqb k to) _ _ (ne_eqb k to t) ∙ cond-true (eqb k first || eqb k second) _ _ (grind (arith, nat_tests))))
    (λ k t a b.
    kept_list es f side side k k (untouched es side first second to ahead k t a b) y.sound
    ∙ sym (on_side k ∙ cond-false (eqb k to) _ _ (ne_eqb k to t) ∙ cond-false (eqb k first || eqb k second) _ _ (grind (arith, nat_tests))))
  where
    on_side : (k : ℕ) → together (listing es) side first second to side k ≡ cond (eqb k to) (listing es side first ++ listing es side second) (cond (eqb k first || eqb k second) [] (listing es side k))
    on_side k = cond-true (same side side) _ _ (same_self side)

-- the ranks that rise stay below the number of entries
pub joined_fits : (es : List Entry) (side : Side) (first second to ahead : ℕ) → Ready es side first second to ahead → AllByRecursion (λ e. here side second e ≡ true → e.rank + ahead < length es) es
joined_fits es side first second to ahead y = All-weaker (Below es) (λ e. here side second e ≡ true → e.rank + ahead < length es) fits es (all_below es y.sound)
  where
    fits : (e : Entry) → Below es e → here side second e ≡ true → e.rank + ahead < length es
    fits e b h =
        let p = here_true side second e h in
        omega (arith, below_in es side second e b p.0 p.1, y.long, count_either side first second y.apart es, count_by-le-length (either side first second) es)

pub joined_inside : (f : Entry → Entry) (s t : List Entry) (u v : ℕ) → u ≤ length s → v ≡ u → t ≡ map f (take u s) ++ drop u s → v ≤ length t
joined_inside f s t u v l w x = omega (arith, ap length x, length-append (map f (take u s)) (drop u s), length-map (take u s) f, length-take-le u s l)

-- the records after a joining: the entries have changed, those behind them have not
pub joined_entries : (f : Entry → Entry) (s t : List Entry) (u v : ℕ) → u ≤ length s → v ≡ u → t ≡ map f (take u s) ++ drop u s → take v t ≡ map f (take u s)
joined_entries f s t u v l w x =
    ap (λ (n : ℕ). take n t) w ∙ ap (take u) x ∙ take_at (map f (take u s)) (drop u s) u (length-map (take u s) f ∙ length-take-le u s l)
