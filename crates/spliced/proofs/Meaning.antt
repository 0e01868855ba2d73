-- What the records mean, by their layout: the list of a side and an offset is that of the head which holds it.
use Rattle.std.proofs.Common.{◌≡◌, ℕ, zero, suc, ◌<◌, ◌≤◌, Bool, true, false, eqb, ◌⊎◌, List, [], ◌∷◌, map, length, get_or, take, Some, None, Option, sym, refl, ap, ◌∙◌, subst, inl, inr, ⊎_elim, arith}
use Rattle.std.proofs.lemmas.List.{length-map, length-take, get_or-take}
use Rattle.std.proofs.lemmas.Bool.{cases_eq, cases_Bool, cond-true, cond-false, and_parts, eqb-true, eq-eqb}
use Rattle.comments.specs.declared.store.Side.{Side}
use Rattle.comments.specs.declared.store.Spot.{Spot}
use Rattle.comments.specs.Lists.{Lists, same}
use Rattle.comments.proofs.Parts.{same_sides, same_self}
use Rattle.chain.specs.Chain.{room, link_at, Chain, times}
use Rattle.chain.proofs.Counting.{is_same}
use Rattle.chain.proofs.Laws.{chain_short}
use Rattle.spliced.specs.declared.heads.NoteList.{NoteList}
use Rattle.spliced.specs.Linked.{links}
use Rattle.spliced.specs.Notes.{Note, comments, comment_at}
use Rattle.spliced.specs.Heads.{Head, blank, list_at, key, walk, first_of, held, listed}
use Rattle.spliced.specs.Layout.{Fit, Layout}

pub record Means (cs : List ℕ) (n : ℕ) (ls : ℕ → Option NoteList) (owned : List (List ℕ)) (f : Lists) : Type 0 where
  pub located : (i : ℕ) (side : Side) (k : ℕ) → i < n → key side k (ls i) ≡ true → f side k ≡ map (comment_at cs) (get_or owned i [])
  pub missing : (side : Side) (k : ℕ) → ((i : ℕ) → i < n → key side k (ls i) ≡ false) → f side k ≡ []

-- a walk that is long enough meets the whole chain
walk_chain : (n : ℕ) (m : List ℕ) (h : ℕ) (ks : List ℕ) → Chain m h ks → length ks ≤ n → walk n m h ≡ ks
walk_chain zero m h [] c l = refl
walk_chain zero m h (k ∷ ks) c l = absurd (omega arith)
walk_chain (suc n) m zero [] c l = refl
walk_chain (suc n) m (suc h) [] c l = absurd (let e : suc h ≡ 0 = c in omega arith)
walk_chain (suc n) m zero (k ∷ ks) c l = absurd (omega (arith, c.0, c.1.0))
walk_chain (suc n) m (suc h) (k ∷ ks) c l =
    let e : k ≡ suc h = sym c.0 in
    let i : walk n m (link_at m (suc h)) ≡ ks = walk_chain n m (link_at m (suc h)) ks (subst (λ (x : ℕ). Chain m (link_at m x) ks) e c.2) (omega arith) in
    cc

-- the notes of a list, by a walk
fit_walk : (m : List ℕ) (o : Option NoteList) (ks : List ℕ) (side : Side) (k : ℕ) → key side k o ≡ true → Fit m o ks → walk (length m) m (first_of o) ≡ ks
fit_walk m None ks side k e f = let z : ◌≡◌ {A = ℕ} 0 1 = cc in absurd (omega arith)
fit_walk m (Some l) ks side k e f =
    walk_chain (length m) m l.first ks f.1 (omega (arith, chain_short m l.first ks f.1))

-- the first head that holds the list
held_at : (cs m : List ℕ) (hs : List Head) (i : ℕ) (side : Side) (k : ℕ) → i < length hs → key side k (list_at hs i) ≡ true → ((j : ℕ) → j < i → key side k (list_at hs j) ≡ false) → held cs m hs side k ≡ map (comment_at cs) (walk (length m) m (first_of (list_at hs i)))
held_at cs m [] i side k l e none = absurd (omega arith)
held_at cs m (h ∷ hs) zero side k l e none = cond-true (key side k h.content) (map (comment_at cs) (walk (length m) m (first_of h.content))) (held cs m hs side k) e
held_at cs m (h ∷ hs) (suc i) side k l e none =
    cond-false (key side k h.content) (map (comment_at cs) (walk (length m) m (first_of h.content))) (held cs m hs side k) (none 0 (omega arith))
    ∙ held_at cs m hs i side k (omega arith) e (λ j q. none (suc j) (omega arith))

held_none : (cs m : List ℕ) (hs : List Head) (side : Side) (k : ℕ) → ((i : ℕ) → i < length hs → key side k (list_at hs i) ≡ false) → held cs m hs side k ≡ []
held_none cs m [] side k none = refl
held_none cs m (h ∷ hs) side k none =
    cond-false (key side k h.content) (map (comment_at cs) (walk (length m) m (first_of h.content))) (held cs m hs side k) (none 0 (omega arith))
    ∙ held_none cs m hs side k (λ i q. none (suc i) (omega arith))

-- the records mean what their layout says
pub means : (notes : List Note) (heads : List Head) (fn fh n : ℕ) (owned : List (List ℕ)) (ns hs : List ℕ) → Layout (links notes) (links heads) (list_at heads) fn fh n owned ns hs [] → Means (comments notes) (room (length heads)) (list_at heads) owned (listed notes heads)
means notes heads fn fh n owned ns hs y = record { located = there; missing = nowhere }
  where
    same_room : room (length (links heads)) ≡ room (length heads)
    same_room = ap room (length-map heads (λ (h : Head). h.next))

    long : length (take (room (length heads)) heads) ≡ room (length heads)
    long = omega (arith, length-take (room (length heads)) heads)

    front : (i : ℕ) → i < room (length heads) → list_at (take (room (length heads)) heads) i ≡ list_at heads i
    front i q = ap (λ (h : Head). h.content) (get_or-take (room (length heads)) heads i blank q)

    there : (i : ℕ) (side : Side) (k : ℕ) → i < room (length heads) → key side k (list_at heads i) ≡ true → listed notes heads side k ≡ map (comment_at (comments notes)) (get_or owned i [])
    there i side k q e =
        held_at (comments notes) (links notes) (take (room (length heads)) heads) i side k (omega (arith, long)) (ap (key side k) (front i q) ∙ e)
        (λ j lt. ap (key side k) (front j (omega arith)) ∙ ⊎_elim (λ u. absurd (let d : i ≡ j = y.keys i j side k (omega (arith, same_room)) (omega (arith, same_room)) e u in omega arith)) (λ u. u) (cases_Bool (key side k (list_at heads j))))
        ∙ ap (λ (o : Option NoteList). map (comment_at (comments notes)) (walk (length (links notes)) (links notes) (first_of o))) (front i q)
        ∙ ap (map (comment_at (comments notes))) (fit_walk (links notes) (list_at heads i) (get_or owned i []) side k e (y.each i (omega (arith, same_room))))

    nowhere : (side : Side) (k : ℕ) → ((i : ℕ) → i < room (length heads) → key side k (list_at heads i) ≡ false) → listed notes heads side k ≡ []
    nowhere side k none =
        held_none (comments notes) (links notes) (take (room (length heads)) heads) side k
        (λ i q. let l : i < room (length heads) = omega (arith, long) in ap (key side k) (front i l) ∙ none i l)

-- a test passes somewhere below n, or nowhere
seek : (p : ℕ → Bool) (n : ℕ) → ((i : ℕ) × (i < n) × (p i ≡ true)) ⊎ ((i : ℕ) → i < n → p i ≡ false)
seek p zero = inr (λ i l. absurd (omega arith))
seek p (suc n) = ⊎_elim (λ s. inl (s.0, omega (arith, s.1), s.2)) last (seek p n)
  where
    last : ((i : ℕ) → i < n → p i ≡ false) → ((i : ℕ) × (i < suc n) × (p i ≡ true)) ⊎ ((i : ℕ) → i < suc n → p i ≡ false)
    last none =
        ⊎_elim
        (λ e. inl (n, omega arith, e))
        (λ e. inr (λ i l. ⊎_elim (λ d. ap p d ∙ e) (λ ne. none i (omega arith)) (cases_eq i n)))
        (cases_Bool (p n))

-- a list stays where the heads that hold it, and their notes, say the same
pub elsewhere :
    (cs cs' : List ℕ)
    (n : ℕ)
    (ls ls' : ℕ → Option NoteList)
    (owned owned' : List (List ℕ))
    (f f' : Lists)
    (side : Side)
    (k : ℕ)
    → Means cs n ls owned f
    → Means cs' n ls' owned' f'
    → ((i : ℕ) → i < n → key side k (ls' i) ≡ key side k (ls i))
    → ((i : ℕ) → i < n → key side k (ls i) ≡ true → map (comment_at cs') (get_or owned' i []) ≡ map (comment_at cs) (get_or owned i []))
    → f' side k ≡ f side k
elsewhere cs cs' n ls ls' owned owned' f f' side k a b heads notes =
    ⊎_elim
    (λ s. b.located s.0 side k s.1 (heads s.0 s.1 ∙ s.2) ∙ notes s.0 s.1 s.2 ∙ sym (a.located s.0 side k s.1 s.2))
    (λ none. b.missing side k (λ i q. heads i q ∙ none i q) ∙ sym (a.missing side k none))
    (seek (λ i. key side k (ls i)) n)

-- the side and the offset of a list
pub key_own : (l : NoteList) → key l.spot.side l.spot.offset (Some l) ≡ true
key_own l = rw (same_self l.spot.side) (eq-eqb l.spot.offset l.spot.offset refl)

pub key_parts : (side : Side) (k : ℕ) (l : NoteList) → key side k (Some l) ≡ true → (side ≡ l.spot.side) × (k ≡ l.spot.offset)
key_parts side k l e = let p = and_parts (same side l.spot.side) (eqb k l.spot.offset) e in (same_sides side l.spot.side p.0, eqb-true k l.spot.offset p.1)

-- lists at one spot have one side and offset
pub key_spot : (side : Side) (k : ℕ) (a b : NoteList) → a.spot ≡ b.spot → key side k (Some a) ≡ key side k (Some b)
key_spot side k a b e = ap (λ (x : Spot). key side k (Some (record { spot = x; first = a.first; last = a.last }))) e

-- two numbers of lists of one side and offset
pub key_twice : (side at : Side) (k j : ℕ) (l : NoteList) → key side k (Some l) ≡ true → key at j (Some l) ≡ true → (at ≡ side) × (j ≡ k)
key_twice side at k j l e d =
    let p = key_parts side k l e in
    let q = key_parts at j l d in
    (q.0 ∙ sym p.0, q.1 ∙ sym p.1)

-- comments read alike where they are alike on every note of a list
pub map_alike : (f g : ℕ → ℕ) (ks : List ℕ) → ((k : ℕ) → 0 < times k ks → f k ≡ g k) → map f ks ≡ map g ks
map_alike f g [] h = refl
map_alike f g (k ∷ ks) h =
    let a : f k ≡ g k = h k (omega (arith, is_same k)) in
    let b : map f ks ≡ map g ks = map_alike f g ks (λ j t. h j (omega arith)) in
    cc
