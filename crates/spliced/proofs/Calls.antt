-- What a whole call leaves: records that lie well again, and the lists that they mean then.
use Rattle.std.proofs.Common.{◌≡◌, ℕ, ◌+◌, ◌-◌, ◌<◌, true, ◌≢◌, List, [], ◌∷◌, length, get_or, set, Some, None, Option, sym, refl, ap, ◌∙◌, subst, arith, length-set}
use Rattle.std.proofs.lemmas.List.{get_or-set_other, set_comm}
use Rattle.std.proofs.lemmas.Bool.{both_ways}
use Rattle.comments.specs.declared.store.Side.{Side}
use Rattle.comments.specs.declared.store.Side.TheVariants.{Leading, Trailing}
use Rattle.comments.specs.Lists.{join, shifted}
use Rattle.chain.specs.Chain.{room, times, relinked}
use Rattle.spliced.specs.declared.heads.NoteList.{NoteList}
use Rattle.spliced.specs.Linked.{links}
use Rattle.spliced.specs.Notes.{Note, comments, linked_note}
use Rattle.spliced.specs.Heads.{Head, blank, list_at, with_list, key, At, Nowhere, front_of, listed}
use Rattle.spliced.specs.Layout.{Fit, used, Layout, Laid}
use Rattle.spliced.proofs.Steps.{Holding, detached, extended, relabelled}
use Rattle.spliced.proofs.Meaning.{Means, means, key_twice, key_own, key_spot}
use Rattle.spliced.proofs.Changes.{joined_lists, relabelled_lists}
use Rattle.spliced.proofs.Records.{links_joined, comments_joined, links_written, links_held, holding}
use Rattle.spliced.proofs.Whole.{rooms, below, fit_at}

-- the same layout, of equal links
pub moved_layout : (m m' hm hm' : List ℕ) (ls : ℕ → Option NoteList) (fn fh held : ℕ) (owned : List (List ℕ)) (ns hs loose : List ℕ) → m' ≡ m → hm' ≡ hm → Layout m hm ls fn fh held owned ns hs loose → Layout m' hm' ls fn fh held owned ns hs loose
moved_layout m m' hm hm' ls fn fh held owned ns hs loose e d y =
    subst (λ (x : List ℕ). Layout x hm' ls fn fh held owned ns hs loose) (sym e)
    (subst (λ (x : List ℕ). Layout m x ls fn fh held owned ns hs loose) (sym d) y)

-- a list holds nothing of a side and an offset that no head has
pub fresh_by : (heads : List Head) (side : Side) (k : ℕ) (l : NoteList) → key side k (Some l) ≡ true → Nowhere heads side k → (i : ℕ) (at : Side) (j : ℕ) → i < room (length heads) → key at j (Some l) ≡ true → key at j (list_at heads i) ≡ true → ⊥
fresh_by heads side k l e none i at j q u v =
    let p = key_twice side at k j l e u in
    both_ways (key side k (list_at heads i)) (none i q) (ap (λ (x : Side). key x k (list_at heads i)) (sym p.0) ∙ ap (λ (x : ℕ). key at x (list_at heads i)) (sym p.1) ∙ v)

-- the list at `from` comes to stand at `to`, where there is none
pub relabelled_all :
    (notes : List Note)
    (heads heads' : List Head)
    (fn fh held : ℕ)
    (side : Side)
    (from to slot : ℕ)
    (a l : NoteList)
    → (from ≡ to → ⊥)
    → At heads side from slot a
    → Nowhere heads side to
    → l.first ≡ a.first
    → l.last ≡ a.last
    → l.spot ≡ record { side = side; offset = to }
    → heads' ≡ with_list heads slot (Some l)
    → Laid notes heads fn fh held
    → Laid notes heads' fn fh held × ((at : Side) (k : ℕ) → listed notes heads' at k ≡ shifted side (listed notes heads) from to at k)
relabelled_all notes heads heads' fn fh held side from to slot a l ne found none first last spot e p = (
  (p.0, p.1, p.2, after),
  relabelled_lists (comments notes) (room (length heads)) (list_at heads) (list_at heads') p.0 (listed notes heads) (listed notes heads') side from to (slot - 1) a l ne (omega (arith, found.slot_in.0, found.slot_in.1)) found.holds found.keyed kl none (hold (room (length heads)))
      (λ i j at k u v. p.3.keys i j at k (omega (arith, r)) (omega (arith, r)))
      (means notes heads fn fh held p.0 p.1 p.2 p.3)
      (subst (λ (n : ℕ). Means (comments notes) n (list_at heads') p.0 (listed notes heads')) same_room (means notes heads' fn fh held p.0 p.1 p.2 after)),
)
  where
    r : room (length (links heads)) ≡ room (length heads)
    r = rooms notes heads fn fh held

    long : length heads' ≡ length heads
    long = ap length e ∙ length-set heads (slot - 1) (record { content = Some l; next = (get_or heads (slot - 1) blank).next })

    same_room : room (length heads') ≡ room (length heads)
    same_room = ap room long

    kl : key side to (Some l) ≡ true
    kl = key_spot side to l (record { spot = record { side = side; offset = to }; first = l.first; last = l.last }) spot ∙ key_own (record { spot = record { side = side; offset = to }; first = l.first; last = l.last })

    hold : (n : ℕ) → Holding (list_at heads) n (slot - 1) (Some l) (list_at heads')
    hold n = subst (λ (h : List Head). Holding (list_at heads) n (slot - 1) (Some l) (list_at h)) (sym e) (holding heads n (slot - 1) (record { content = Some l; next = (get_or heads (slot - 1) blank).next }) (omega (arith, found.slot_in.0, found.slot_in.1)))

    after : Layout (links notes) (links heads') (list_at heads') fn fh held p.0 p.1 p.2 []
    after =
        moved_layout (links notes) (links notes) (links heads) (links heads') (list_at heads') fn fh held p.0 p.1 p.2 [] refl (ap links e ∙ links_held heads slot (Some l))
        (relabelled (links notes) (links heads) (list_at heads) fn fh held p.0 (slot - 1) a l (list_at heads') p.1 p.2 (below notes heads fn fh held side from slot a found) found.holds first last
        (λ i at k q. fresh_by heads side to l kl none i at k (omega (arith, r)))
        (hold (room (length (links heads))))
        p.3)

-- the notes of the list at s and of the list at t, joined by one link
pub joined_all :
    (notes notes' : List Note)
    (heads heads₁ heads' : List Head)
    (fn fh held : ℕ)
    (side : Side)
    (from to sh th : ℕ)
    (a b l : NoteList)
    (d : Note)
    → (from ≡ to → ⊥)
    → At heads side from sh a
    → At heads side to th b
    → l.first ≡ (front_of side a b).first
    → l.last ≡ (front_of side b a).last
    → l.spot ≡ b.spot
    → notes' ≡ relinked linked_note notes (front_of side a b).last (front_of side b a).first d
    → heads₁ ≡ with_list heads th (Some l)
    → heads' ≡ set heads₁ (sh - 1) (record { content = None; next = fh })
    → Laid notes heads fn fh held
    → Laid notes' heads' fn sh held × ((at : Side) (k : ℕ) → listed notes' heads' at k ≡ shifted side (listed notes heads) from to at k)
joined_all notes notes' heads heads₁ heads' fn fh held side from to sh th a b l d ne source target first last spot en e₁ e' p = (
  (owned', p.1, sh ∷ p.2, after),
  joined_lists (comments notes) (room (length heads)) (list_at heads) (list_at held₁) (list_at heads') p.0 (listed notes heads) (listed notes' heads') side from to (sh - 1) (th - 1) a b l ne
      (omega (arith, source.slot_in.0, source.slot_in.1))
      (omega (arith, target.slot_in.0, target.slot_in.1))
      (sym (p.3.wide ∙ r))
      source.holds
      target.holds
      source.keyed
      target.keyed
      same_key
      (gives (room (length heads)))
      (takes (room (length heads)))
      (λ i j at k u v. p.3.keys i j at k (omega (arith, r)) (omega (arith, r)))
      (means notes heads fn fh held p.0 p.1 p.2 p.3)
      (subst (λ (n : ℕ). Means (comments notes) n (list_at heads') owned' (listed notes' heads')) (ap room long)
      (subst (λ (cs : List ℕ). Means cs (room (length heads')) (list_at heads') owned' (listed notes' heads')) (ap comments en ∙ comments_joined notes (front_of side a b).last (front_of side b a).first d) (means notes' heads' fn sh held owned' p.1 (sh ∷ p.2) after))),
)
  where
    r : room (length (links heads)) ≡ room (length heads)
    r = rooms notes heads fn fh held

    owned' : List (List ℕ)
    owned' = set (set p.0 (sh - 1) []) (th - 1) (join side (get_or p.0 (sh - 1) []) (get_or p.0 (th - 1) []))

    held₁ : List Head
    held₁ = set heads (sh - 1) (record { content = None; next = fh })

    apart : th - 1 ≢ sh - 1
    apart e = ne (sym (key_twice side side from to a source.keyed (ap (key side to) (sym source.holds ∙ ap (list_at heads) (sym e) ∙ target.holds) ∙ target.keyed)).1)

    new : Head
    new = record { content = Some l; next = (get_or heads (th - 1) blank).next }

    turned : heads' ≡ set held₁ (th - 1) new
    turned = e' ∙ ap (λ (h : List Head). set h (sh - 1) (record { content = None; next = fh })) e₁ ∙ set_comm heads (th - 1) (sh - 1) new (record { content = None; next = fh }) apart

    long : length heads' ≡ length heads
    long = ap length turned ∙ length-set held₁ (th - 1) new ∙ length-set heads (sh - 1) (record { content = None; next = fh })

    gives : (n : ℕ) → Holding (list_at heads) n (sh - 1) None (list_at held₁)
    gives n = holding heads n (sh - 1) (record { content = None; next = fh }) (omega (arith, source.slot_in.0, source.slot_in.1))

    takes : (n : ℕ) → Holding (list_at held₁) n (th - 1) (Some l) (list_at heads')
    takes n = subst (λ (h : List Head). Holding (list_at held₁) n (th - 1) (Some l) (list_at h)) (sym turned) (holding held₁ n (th - 1) new (omega (arith, target.slot_in.0, target.slot_in.1, length-set heads (sh - 1) (record { content = None; next = fh }))))

    same_key : (at : Side) (k : ℕ) → key at k (Some l) ≡ key at k (Some b)
    same_key at k = key_spot at k l b spot

    split : Layout (links notes) (set (links heads) (sh - 1) fh) (list_at held₁) fn (sh - 1 + 1) held (set p.0 (sh - 1) []) p.1 ((sh - 1 + 1) ∷ p.2) (get_or p.0 (sh - 1) [])
    split = detached (links notes) (links heads) (list_at heads) fn fh held p.0 (sh - 1) a (list_at held₁) p.1 p.2 (below notes heads fn fh held side from sh a source) source.holds (gives (room (length (links heads)))) p.3

    still : get_or (set p.0 (sh - 1) []) (th - 1) [] ≡ get_or p.0 (th - 1) []
    still = get_or-set_other p.0 (sh - 1) (th - 1) [] [] apart

    fit_s : Fit (links notes) (Some a) (get_or p.0 (sh - 1) [])
    fit_s = fit_at notes heads fn fh held side from sh a p source

    fit_t : Fit (links notes) (Some b) (get_or p.0 (th - 1) [])
    fit_t = fit_at notes heads fn fh held side to th b p target

    room_set : room (length (set (links heads) (sh - 1) fh)) ≡ room (length heads)
    room_set = ap room (length-set (links heads) (sh - 1) fh) ∙ r

    one : used (list_at held₁ (th - 1)) ≡ 1
    one = ap used ((gives (room (length heads))).1 (th - 1) (omega (arith, target.slot_in.0, target.slot_in.1)) apart ∙ target.holds)

    keyed : (at : Side) (k : ℕ) → key at k (Some l) ≡ true → key at k (list_at held₁ (th - 1)) ≡ true
    keyed at k u = ap (key at k) ((gives (room (length heads))).1 (th - 1) (omega (arith, target.slot_in.0, target.slot_in.1)) apart ∙ target.holds) ∙ sym (same_key at k) ∙ u

    met : (side : Side) → l.first ≡ (front_of side a b).first → l.last ≡ (front_of side b a).last → Layout (set (links notes) ((front_of side a b).last - 1) (front_of side b a).first) (set (links heads) (sh - 1) fh) (list_at heads') fn (sh - 1 + 1) held (set (set p.0 (sh - 1) []) (th - 1) (join side (get_or p.0 (sh - 1) []) (get_or p.0 (th - 1) []))) p.1 ((sh - 1 + 1) ∷ p.2) []
    met Leading u v =
        extended (links notes) (set (links heads) (sh - 1) fh) (list_at held₁) fn (sh - 1 + 1) held (set p.0 (sh - 1) []) (th - 1) a b l (get_or p.0 (sh - 1) []) (get_or p.0 (th - 1) []) (list_at heads') p.1 ((sh - 1 + 1) ∷ p.2) (get_or p.0 (sh - 1) [])
        (omega (arith, room_set, target.slot_in.0, target.slot_in.1)) fit_s fit_t
        (λ k. omega (arith, ap (times k) still))
        (omega (arith, ap length still))
        u v keyed one (takes (room (length (set (links heads) (sh - 1) fh)))) split
    met Trailing u v =
        extended (links notes) (set (links heads) (sh - 1) fh) (list_at held₁) fn (sh - 1 + 1) held (set p.0 (sh - 1) []) (th - 1) b a l (get_or p.0 (th - 1) []) (get_or p.0 (sh - 1) []) (list_at heads') p.1 ((sh - 1 + 1) ∷ p.2) (get_or p.0 (sh - 1) [])
        (omega (arith, room_set, target.slot_in.0, target.slot_in.1)) fit_t fit_s
        (λ k. omega (arith, ap (times k) still))
        (omega (arith, ap length still))
        u v keyed one (takes (room (length (set (links heads) (sh - 1) fh)))) split

    up : sh - 1 + 1 ≡ sh
    up = omega (arith, source.slot_in.0)

    after : Layout (links notes') (links heads') (list_at heads') fn sh held owned' p.1 (sh ∷ p.2) []
    after =
        moved_layout (set (links notes) ((front_of side a b).last - 1) (front_of side b a).first) (links notes') (set (links heads) (sh - 1) fh) (links heads') (list_at heads') fn sh held owned' p.1 (sh ∷ p.2) []
        (ap links en ∙ links_joined notes (front_of side a b).last (front_of side b a).first d)
        (ap links e' ∙ links_written heads₁ (sh - 1) (record { content = None; next = fh }) ∙ ap (λ (x : List ℕ). set x (sh - 1) fh) (ap links e₁ ∙ links_held heads th (Some l)))
        (subst (λ (x : ℕ). Layout (set (links notes) ((front_of side a b).last - 1) (front_of side b a).first) (set (links heads) (sh - 1) fh) (list_at heads') fn x held owned' p.1 (x ∷ p.2) []) up (met side first last))
