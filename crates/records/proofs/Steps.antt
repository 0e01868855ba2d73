-- Giving siblings back, turn by turn: a head with no child goes to the free chain; a head with a child is turned, so that the child
-- stands before it.
use Rattle.std.proofs.Common.{◌≡◌, ℕ, ◌+◌, ◌-◌, ◌<◌, ◌≤◌, ◌≢◌, List, ◌∷◌, length, set, sym, refl, ap, ◌∙◌, subst, arith, length-set}
use mathlib.Core.Logic.{∥∥₁_elim, ∥∥₁_map}
use mathlib.Core.HLevel.{×_prop}
use native.Mathlib.Bridge.{le_prop}
use native.Mathlib.Nat.{ℕ_set}
use Rattle.std.proofs.lemmas.List.{map-set}
use Rattle.chain.specs.Chain.{room, Slot, Chain, is, times, Off}
use Rattle.chain.proofs.Counting.{is_same}
use Rattle.chain.proofs.Laws.{chain_push, chain_unique}
use Rattle.grammar.specs.Tree.{Head}
use Rattle.records.specs.declared.record.Record.{Record}
use Rattle.records.specs.declared.record.Mark.TheVariants as mark
use Rattle.records.specs.Record.{head_of, vacant, at, links, relinked}
use Rattle.records.specs.Siblings.{Siblings, none, sibling, size, count, Holds, Loose, Kept, Moved, siblings_at, weight, Given, Plain}
use Rattle.records.proofs.AtSlots.{length_links, at_same, at_other}
use Rattle.records.proofs.Pigeon.{found, size_most}
use Rattle.records.proofs.Frame.{Alike, outside, outside_chain, plain_write}

-- a head with no child goes to the free chain
pub free_one :
    (s : List Record)
    (free h : ℕ)
    (d : Head)
    (R : Siblings)
    (ks : List ℕ)
    → Loose s free h (sibling h d none R) ks
    → Loose (set s (h - 1) (vacant free)) h (at s h).next R (h ∷ ks)
free_one s free h d R ks x =
    let p : 0 < h = x.0.1 in
    let a : is h h + 0 + count h R + times h ks ≤ 1 = x.2 h in
    let u : is h h ≡ 1 = is_same h in (
      outside s (at s h).next R h (vacant free) p (omega arith) x.0.5,
      subst (λ m. Chain m h (h ∷ ks)) (sym (map-set (λ (r : Record). r.next) s (h - 1) (vacant free)))
          (chain_push (links s) free h ks (subst (λ n. Slot n h) (sym (length_links s)) (p, x.0.2)) (omega arith) x.1),
      λ k. omega (arith, x.2 k),
    )

-- a head with a child: the child comes first, and the head after it, with the child's siblings for children
pub rotate :
    (s : List Record)
    (free h c : ℕ)
    (d e : Head)
    (A B R : Siblings)
    (ks : List ℕ)
    (q r : Record)
    → Alike q (record { form = (at s h).form; first = (at s c).next; next = (at s h).next; lo = (at s h).lo; hi = (at s h).hi; mark = mark.Unmarked })
    → Alike r (record { form = (at s c).form; first = (at s c).first; next = h; lo = (at s c).lo; hi = (at s c).hi; mark = mark.Unmarked })
    → Loose s free h (sibling h d (sibling c e A B) R) ks
    → Loose (set (set s (h - 1) q) (c - 1) r) free c (sibling c e A (sibling h d B R)) ks
rotate s free h c d e A B R ks q r aq ar x =
    let ph : 0 < h = x.0.1 in
    let lh : h ≤ room (length s) = x.0.2 in
    let pc : 0 < c = x.0.4.1 in
    let lc : c ≤ room (length s) = x.0.4.2 in
    let uh : is h h ≡ 1 = is_same h in
    let uc : is c c ≡ 1 = is_same c in
    let ah : is h h + (is h c + count h A + count h B) + count h R + times h ks ≤ 1 = x.2 h in
    let ac : is c h + (is c c + count c A + count c B) + count c R + times c ks ≤ 1 = x.2 c in
    let ne : h ≢ c = (λ z. let b : is h c ≡ 1 = subst (λ y. is h y ≡ 1) z uh in omega arith) in
    let s₁ = set s (h - 1) q in
    let t = set s₁ (c - 1) r in
    let l₁ : length s₁ ≡ length s = length-set s (h - 1) q in
    let l₂ : length t ≡ length s₁ = length-set s₁ (c - 1) r in
    let th : at t h ≡ q = at_other s₁ c h r pc ph ne ∙ at_same s h q ph lh in
    let tc : at t c ≡ r = at_same s₁ c r pc (omega arith) in
    let through : (n : ℕ) (f : Siblings) → count h f ≡ 0 → count c f ≡ 0 → Holds s n f → Holds t n f
    = (λ n f z w y. outside s₁ n f c r pc w (outside s n f h q ph z y)) in (
      (
        refl,
        pc,
        omega arith,
        ap head_of tc ∙ ar.0 ∙ x.0.4.3,
        subst (λ n. Holds t n A) (sym (ap (λ (y : Record). y.first) tc ∙ ar.1)) (through (at s c).first A (omega arith) (omega arith) x.0.4.4),
        (
          ap (λ (y : Record). y.next) tc ∙ ar.2,
          ph,
          omega arith,
          ap head_of th ∙ aq.0 ∙ x.0.3,
          subst (λ n. Holds t n B) (sym (ap (λ (y : Record). y.first) th ∙ aq.1)) (through (at s c).next B (omega arith) (omega arith) x.0.4.5),
          subst (λ n. Holds t n R) (sym (ap (λ (y : Record). y.next) th ∙ aq.2)) (through (at s h).next R (omega arith) (omega arith) x.0.5),
        ),
      ),
      outside_chain s₁ free ks c r pc (omega arith) (outside_chain s free ks h q ph (omega arith) x.1),
      λ k. omega (arith, x.2 k),
    )

-- what a turn at a slot leaves
abbrev pub Turned : List Record → List Record → ℕ → ℕ → Siblings → List ℕ → Type 0
Turned s t free here g js =
    (g' : Siblings) × (js' : List ℕ) × Loose t free here g' js' × Moved g js g' js' × Kept s t g js × (weight g' < weight g) × Plain s t × (size g' + length js' ≡ size g + length js)

pub turn_leaf :
    (s : List Record)
    (free here : ℕ)
    (g : Siblings)
    (js : List ℕ)
    → here ≢ 0
    → (at s here).first ≡ 0
    → Loose s free here g js
    → Turned s (set s (here - 1) (vacant free)) here (at s here).next g js
turn_leaf s free here none js ne z x = absurd (ne x.0)
turn_leaf s free here (sibling h d none R) js ne z x =
    let p : 0 < h = x.0.1 in
    let x' : Loose s free h (sibling h d none R) js = ((refl, x.0.1, x.0.2, x.0.3, x.0.4, x.0.5), x.1, x.2) in
    let kept : Kept s (set s (h - 1) (vacant free)) (sibling h d none R) js =
    (λ k q m. at_other s h k (vacant free) p q (λ w. let u : is k h ≡ 1 = subst (λ y. is k y ≡ 1) w (is_same k) in omega arith)) in
    subst (λ i. Turned s (set s (i - 1) (vacant free)) i (at s i).next (sibling h d none R) js) (sym x.0.0)
    (R, (h ∷ js), free_one s free h d R js x', (λ k. omega arith), kept, omega arith, plain_write s h (vacant free) p x.0.2 (λ _. refl), omega arith)
turn_leaf s free here (sibling h d (sibling c b A B) R) js ne z x =
    let p : 0 < c = x.0.4.1 in
    let q : (at s h).first ≡ c = x.0.4.0 in
    let w : (at s h).first ≡ 0 = subst (λ i. (at s i).first ≡ 0) x.0.0 z in
    absurd (omega arith)

pub turn_child :
    (s : List Record)
    (free here : ℕ)
    (g : Siblings)
    (js : List ℕ)
    → here ≢ 0
    → (at s here).first ≢ 0
    → Loose s free here g js
    → let c = (at s here).first in
    Turned s
    (set
    (set s (here - 1) (record { form = (at s here).form; first = (at s c).next; next = (at s here).next; lo = (at s here).lo; hi = (at s here).hi; mark = (at s here).mark }))
    (c - 1)
    (record { form = (at s c).form; first = (at s c).first; next = here; lo = (at s c).lo; hi = (at s c).hi; mark = (at s c).mark }))
    free c g js
turn_child s free here none js ne nz x = absurd (ne x.0)
turn_child s free here (sibling h d none R) js ne nz x =
    absurd (nz (subst (λ i. (at s i).first ≡ 0) (sym x.0.0) x.0.4))
turn_child s free here (sibling h d (sibling c e A B) R) js ne nz x =
    let p : 0 < h = x.0.1 in
    let pc : 0 < c = x.0.4.1 in
    let x' : Loose s free h (sibling h d (sibling c e A B) R) js = ((refl, x.0.1, x.0.2, x.0.3, x.0.4, x.0.5), x.1, x.2) in
    let q : ℕ → ℕ → Record = (λ i j. record { form = (at s i).form; first = (at s j).next; next = (at s i).next; lo = (at s i).lo; hi = (at s i).hi; mark = (at s i).mark }) in
    let r : ℕ → ℕ → Record = (λ i j. record { form = (at s j).form; first = (at s j).first; next = i; lo = (at s j).lo; hi = (at s j).hi; mark = (at s j).mark }) in
    let t : ℕ → ℕ → List Record = (λ i j. set (set s (i - 1) (q i j)) (j - 1) (r i j)) in
    let kept : Kept s (t h c) (sibling h d (sibling c e A B) R) js =
    (λ k w m.
    at_other (set s (h - 1) (q h c)) c k (r h c) pc w (λ y. let u : is k c ≡ 1 = subst (λ v. is k v ≡ 1) y (is_same k) in omega arith)
    ∙ at_other s h k (q h c) p w (λ y. let u : is k h ≡ 1 = subst (λ v. is k v ≡ 1) y (is_same k) in omega arith)) in
    let nch : c ≢ h = (λ y. let u : is c h ≡ 1 = subst (λ v. is c v ≡ 1) y (is_same c) in omega (arith, x.2 c, is_same c)) in
    let done : Turned s (t h c) free c (sibling h d (sibling c e A B) R) js = (
      sibling c e A (sibling h d B R),
      js,
      rotate s free h c d e A B R js (q h c) (r h c) (refl, refl, refl) (refl, refl, refl) x',
      (λ k. omega arith),
      kept,
      omega arith,
      (λ k w z. plain_write (set s (h - 1) (q h c)) c (r h c) pc (omega (arith, length-set s (h - 1) (q h c), x.0.4.2)) (λ y. (ap (λ (v : Record). v.mark) (sym (at_other s h c (q h c) p pc nch))) ∙ y) k w
          (plain_write s h (q h c) p x.0.2 (λ y. y) k w z)),
      omega arith,
    ) in
    let there : Turned s (t h (at s h).first) free (at s h).first (sibling h d (sibling c e A B) R) js =
    subst (λ j. Turned s (t h j) free j (sibling h d (sibling c e A B) R) js) (sym x.0.4.0) done in
    subst (λ i. Turned s (t i (at s i).first) free (at s i).first (sibling h d (sibling c e A B) R) js) (sym x.0.0) there

-- no record is its own child
child_apart : (s : List Record) (free here : ℕ) (g : Siblings) (js : List ℕ) → here ≢ 0 → (at s here).first ≢ 0 → Loose s free here g js → (at s here).first ≢ here
child_apart s free here none js ne nz x e = ne x.0
child_apart s free here (sibling h d none R) js ne nz x e = nz (subst (λ i. (at s i).first ≡ 0) (sym x.0.0) x.0.4)
child_apart s free here (sibling h d (sibling c y A B) R) js ne nz x e =
    let z : c ≡ h = sym x.0.4.0 ∙ ap (λ (i : ℕ). (at s i).first) (sym x.0.0) ∙ e ∙ x.0.0 in
    let u : is c h ≡ 1 = subst (λ v. is c v ≡ 1) z (is_same c) in
    omega (arith, x.2 c, is_same c)

-- turns one after another
pub turned_on :
    (s t u : List Record)
    (f g g' : Siblings)
    (ks js js' : List ℕ)
    → Moved f ks g js → Kept s t f ks
    → Moved g js g' js' → Kept t u g js
    → Moved f ks g' js' × Kept s u f ks
turned_on s t u f g g' ks js js' a b c d =
    ((λ k. omega (arith, a k, c k)), (λ k p z. d k p (omega (arith, a k)) ∙ b k p z))

-- what is safe at a slot
pub alive :
    (s : List Record)
    (free here : ℕ)
    → here ≢ 0
    → ∥ ((f : Siblings) × (ks : List ℕ) × Loose s free here f ks) ∥₁
    → (0 < here) × (here ≤ room (length s))
alive s free here ne h = ∥∥₁_elim h (×_prop le_prop le_prop) (λ x. go x.0 x.2.0)
  where
    go : (f : Siblings) → Holds s here f → (0 < here) × (here ≤ room (length s))
    go none y = absurd (ne y)
    go (sibling k d kids rest) y = (omega (arith, y.0, y.1), omega (arith, y.0, y.2))

-- and at its first child
pub alive_child :
    (s : List Record)
    (free here : ℕ)
    (r : Record)
    → here ≢ 0
    → r ≡ at s here
    → r.first ≢ 0
    → ∥ ((f : Siblings) × (ks : List ℕ) × Loose s free here f ks) ∥₁
    → (0 < r.first) × (r.first ≤ room (length s))
alive_child s free here r ne e nz h = ∥∥₁_elim h (×_prop le_prop le_prop) (λ x. go x.0 x.2.0)
  where
    below : (i : ℕ) → i ≢ 0 → (f : Siblings) → Holds s i f → (0 < i) × (i ≤ room (length s))
    below i n none y = absurd (n y)
    below i n (sibling k d kids rest) y = (omega (arith, y.0, y.1), omega (arith, y.0, y.2))

    go : (f : Siblings) → Holds s here f → (0 < r.first) × (r.first ≤ room (length s))
    go none y = absurd (ne y)
    go (sibling k d kids rest) y =
        below r.first nz kids (subst (λ i. Holds s i kids) (sym (ap (λ (q : Record). q.first) e)) (subst (λ i. Holds s (at s i).first kids) (sym y.0) y.4))

-- the head is not on the free chain
pub head_off : (s : List Record) (free here : ℕ) → here ≢ 0 → ∥ ((f : Siblings) × (ks : List ℕ) × Loose s free here f ks) ∥₁ → Off (links s) free here
head_off s free here ne h js c = ∥∥₁_elim h (ℕ_set _ _) (λ x. go x.0 x.1 x.2)
  where
    go : (f : Siblings) (ks : List ℕ) → Loose s free here f ks → times here js ≡ 0
    go none ks x = absurd (ne x.0)
    go (sibling k d A B) ks x =
        let e : ks ≡ js = chain_unique (links s) free ks js x.1 c in
        let u : is here k ≡ 1 = subst (λ i. is here i ≡ 1) x.0.0 (is_same here) in
        let a : times here js ≡ times here ks = ap (times here) (sym e) in
        omega (arith, x.2 here)

-- a turn: from the siblings at here to those at here'
abbrev pub Turns : List Record → ℕ → ℕ → List Record → ℕ → ℕ → Type 0
Turns s free here t free' here' = (g : Siblings) (js : List ℕ) → Loose s free here g js → Turned s t free' here' g js

-- a turn as the code has it
pub leaf_turn :
    (s t : List Record)
    (free free' here : ℕ)
    (r : Record)
    → free' ≡ here
    → here ≢ 0
    → r ≡ at s here
    → r.first ≡ 0
    → t ≡ set s (here - 1) (vacant free)
    → Turns s free here t free' r.next
leaf_turn s t free free' here r ef ne er z et g js x =
    subst (λ f. Turned s t f r.next g js) (sym ef)
    (subst (λ u. Turned s u here r.next g js) (sym et)
    (subst (λ n. Turned s (set s (here - 1) (vacant free)) here n g js) (sym (ap (λ (y : Record). y.next) er))
    (turn_leaf s free here g js ne (ap (λ (y : Record). y.first) (sym er) ∙ z) x)))

pub child_turn :
    (s u t : List Record)
    (free here : ℕ)
    (r c : Record)
    → here ≢ 0
    → r ≡ at s here
    → r.first ≢ 0
    → c ≡ at s r.first
    → u ≡ set s (here - 1) (record { form = (at s here).form; first = c.next; next = (at s here).next; lo = (at s here).lo; hi = (at s here).hi; mark = (at s here).mark })
    → t ≡ set u (r.first - 1) (relinked (at u r.first) here)
    → Turns s free here t free r.first
child_turn s u t free here r c ne er nz ec eu et g js x =
    subst (λ y. Turned s y free r.first g js) (sym et)
    (subst (λ y. Turned s (set u (r.first - 1) (relinked y here)) free r.first g js) (sym below)
    (subst (λ y. Turned s (set y (r.first - 1) (relinked (at s r.first) here)) free r.first g js) (sym (eu ∙ ap (λ (y : Record). up y) ec))
    (subst (λ i. Turned s (set (up (at s i)) (i - 1) (relinked (at s i) here)) free i g js) (sym first)
    (turn_child s free here g js ne nf x))))
  where
    up : Record → List Record
    up c = set s (here - 1) (record { form = (at s here).form; first = c.next; next = (at s here).next; lo = (at s here).lo; hi = (at s here).hi; mark = (at s here).mark })

    first : r.first ≡ (at s here).first
    first = ap (λ (y : Record). y.first) er

    nf : (at s here).first ≢ 0
    nf z = nz (first ∙ z)

    below : at u r.first ≡ at s r.first
    below =
        ap (λ (v : List Record). at v r.first) eu
        ∙ at_other s here r.first _ (omega (arith, ne)) (omega (arith, nz)) (λ z. child_apart s free here g js ne nf x (sym first ∙ z))

-- the measure is the weight of the forest
pub weighed : (s : List Record) (free here : ℕ) (g : Siblings) (js : List ℕ) → Loose s free here g js → weight (siblings_at (room (length s)) s here) ≡ weight g
weighed s free here g js x =
    ap weight (found (room (length s)) s here g x.0 (size_most s here g x.0 (λ k. omega (arith, x.2 k))))

-- and falls
pub falls :
    (s t : List Record)
    (free free' here here' : ℕ)
    → Turns s free here t free' here'
    → ∥ ((f : Siblings) × (ks : List ℕ) × Loose s free here f ks) ∥₁
    → weight (siblings_at (room (length t)) t here') < weight (siblings_at (room (length s)) s here)
falls s t free free' here here' turn h =
    ∥∥₁_elim h le_prop
    (λ x.
    let y = turn x.0 x.1 x.2 in
    omega (arith, weighed s free here x.0 x.1 x.2, weighed t free' here' y.0 y.1 y.2, y.5))

-- what is left of siblings f and the free chain ks, while they are given back
abbrev pub Left : List Record → List Record → ℕ → ℕ → Siblings → List ℕ → Type 0
Left s t free here f ks =
    (g : Siblings) × (js : List ℕ) × Loose t free here g js × Moved f ks g js × Kept s t f ks × Plain s t × (size g + length js ≡ size f + length ks)

-- the invariant again
pub again :
    (s₀ s t : List Record)
    (free₀ here₀ free free' here here' : ℕ)
    → Turns s free here t free' here'
    → ∥ ((f : Siblings) × (ks : List ℕ) × Loose s free here f ks) ∥₁
    × ((f : Siblings) (ks : List ℕ) → Loose s₀ free₀ here₀ f ks → Left s₀ s free here f ks)
    → ∥ ((f : Siblings) × (ks : List ℕ) × Loose t free' here' f ks) ∥₁
    × ((f : Siblings) (ks : List ℕ) → Loose s₀ free₀ here₀ f ks → Left s₀ t free' here' f ks)
again s₀ s t free₀ here₀ free free' here here' turn inv = (
  ∥∥₁_map inv.0 (λ x. let y = turn x.0 x.1 x.2 in (y.0, y.1, y.2)),
  λ f ks x.
      let a = inv.1 f ks x in
      let y = turn a.0 a.1 a.2 in
      let b = turned_on s₀ s t f a.0 y.0 ks a.1 y.1 a.3 a.4 y.3 y.4 in
      (y.0, y.1, y.2, b.0, b.1, (λ k p z. y.6 k p (a.5 k p z)), omega (arith, a.6, y.7)),
)

-- and at the end
pub ended : (s t : List Record) (free : ℕ) (f : Siblings) (ks : List ℕ) → Left s t free 0 f ks → Given s t f ks free
ended s t free f ks x = go x.0 x.1 x.2 x.3 x.6
  where
    go : (g : Siblings) (js : List ℕ) → Loose t free 0 g js → Moved f ks g js → size g + length js ≡ size f + length ks → Given s t f ks free
    go none js l m e = (js, l.1, m, x.4, x.5, omega arith)
    go (sibling h d kids rest) js l m e = absurd (let a : 0 ≡ h = l.0.0 in let b : 0 < h = l.0.1 in omega arith)
