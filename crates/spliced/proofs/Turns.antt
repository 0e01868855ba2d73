-- The steps of a call put together, over plain values.
use Rattle.std.proofs.Common.{◌≡◌, ℕ, ◌+◌, ◌-◌, ◌<◌, min, List, [], ◌∷◌, length, set, Some, None, Option, sym, refl, ap, ◌∙◌, subst, arith, length-set}
use Rattle.comments.specs.declared.store.Side.{Side}
use Rattle.comments.specs.declared.store.Spot.{Spot}
use Rattle.comments.specs.declared.store.Side.TheVariants.{Leading, Trailing}
use Rattle.comments.specs.Lists.{shifted, added}
use Rattle.chain.specs.Chain.{room, Slot, link_at, Chain, Off, times, relinked, Beyond}
use Rattle.chain.proofs.Records.{beyond_set}
use Rattle.spliced.specs.declared.heads.NoteList.{NoteList}
use Rattle.spliced.specs.Linked.{links}
use Rattle.spliced.specs.Notes.{Note, linked_note}
use Rattle.spliced.specs.Heads.{Head, list_at, with_list, At, Nowhere, front_of, listed}
use Rattle.spliced.specs.Layout.{Layout, Laid}
use Rattle.spliced.specs.Store.{lists_in}
use Rattle.spliced.specs.declared.store.Spliced.{Spliced}
use Rattle.spliced.specs.declared.notes.Notes.{Notes}
use Rattle.spliced.specs.declared.heads.Heads.{Heads}
use Rattle.spliced.proofs.Records.{links_held}
use Rattle.spliced.proofs.Whole.{slot_from, none_from, last_note, not_unused, free_note, free_head}
use Rattle.spliced.proofs.Calls.{relabelled_all, joined_all}
use Rattle.spliced.proofs.Adding.{put_last, put_first}

-- the store s, its notes and heads as they are after a list was moved
abbrev pub Moved : Spliced → Notes → Heads → Side → ℕ → ℕ → Type 0
Moved s notes heads side from to =
    ∥ Laid notes.slots.now heads.slots.now notes.free heads.free s.held ∥₁
    × ((at : Side) (k : ℕ) → listed notes.slots.now heads.slots.now at k ≡ shifted side (lists_in s) from to at k)

-- and after a comment was added
abbrev pub Added : Spliced → Notes → Heads → Side → ℕ → ℕ → Type 0
Added s notes heads side k c =
    ∥ Laid notes.slots.now heads.slots.now notes.free heads.free (s.held + 1) ∥₁
    × ((at : Side) (j : ℕ) → listed notes.slots.now heads.slots.now at j ≡ added (lists_in s) side k c at j)

-- a write at a slot leaves the records that have none
pub beyond_written : {X : Type 0} (s t : List X) (k : ℕ) (x : X) → Slot (length s) k → t ≡ set s (k - 1) x → Beyond s t
beyond_written s t k x h e = subst (λ (u : List _). Beyond s u) (sym e) (beyond_set s k x h)

-- where a list was sought at a spot, it was sought on a side and at an offset
pub found_at : (heads : List Head) (spot : Spot) (side : Side) (k slot : ℕ) (l : NoteList) → spot ≡ record { side = side; offset = k } → At heads spot.side spot.offset slot l → At heads side k slot l
found_at heads spot side k slot l e a = subst (λ (x : Spot). At heads x.side x.offset slot l) e a

pub missed_at : (heads : List Head) (spot : Spot) (side : Side) (k : ℕ) → spot ≡ record { side = side; offset = k } → Nowhere heads spot.side spot.offset → Nowhere heads side k
missed_at heads spot side k e none = subst (λ (x : Spot). Nowhere heads x.side x.offset) e none

-- the first of two lists ends at a slot
pub front_slot : (notes : List Note) (heads : List Head) (fn fh held : ℕ) (side : Side) (from to sh th : ℕ) (a b l : NoteList) → At heads side from sh a → At heads side to th b → l ≡ front_of side a b → ∥ Laid notes heads fn fh held ∥₁ → Slot (length notes) l.last
front_slot notes heads fn fh held side from to sh th a b l p q e h =
    slot_from (length notes) l.last h (λ y. subst (λ (z : NoteList). Slot (length notes) z.last) (sym e) (ends side (last_note notes heads fn fh held side from sh a p y) (last_note notes heads fn fh held side to th b q y)))
  where
    ends : (side : Side) → Slot (length notes) a.last → Slot (length notes) b.last → Slot (length notes) (front_of side a b).last
    ends Leading u v = u
    ends Trailing u v = v

-- the head of a list that was found may be given back, also after another head was written
pub may_give_back : (notes : List Note) (heads heads₁ : List Head) (fn fh fh₁ held : ℕ) (side : Side) (from sh th : ℕ) (a : NoteList) (o : Option NoteList) → At heads side from sh a → heads₁ ≡ with_list heads th o → fh₁ ≡ fh → ∥ Laid notes heads fn fh held ∥₁ → Off (links heads₁) fh₁ sh
may_give_back notes heads heads₁ fn fh fh₁ held side from sh th a o p e d h ks c =
    none_from (times sh ks) h
    (λ y. not_unused notes heads fn fh held side from sh a p y ks
    (subst (λ (x : ℕ). Chain (links heads) x ks) d
    (subst (λ (m : List ℕ). Chain m fh₁ ks) (ap links e ∙ links_held heads th o) c)))

-- a list relabelled, the chain of unused heads as it was
pub relabel :
    (notes : List Note)
    (heads heads' : List Head)
    (fn fh fh' held : ℕ)
    (side : Side)
    (from to slot : ℕ)
    (a : NoteList)
    (spot : Spot)
    → (from ≡ to → ⊥)
    → At heads side from slot a
    → Nowhere heads side to
    → spot ≡ record { side = side; offset = to }
    → heads' ≡ with_list heads slot (Some (record { spot = spot; first = a.first; last = a.last }))
    → fh' ≡ fh
    → Laid notes heads fn fh held
    → Laid notes heads' fn fh' held × ((at : Side) (k : ℕ) → listed notes heads' at k ≡ shifted side (listed notes heads) from to at k)
relabel notes heads heads' fn fh fh' held side from to slot a spot ne found none es e d p =
    let q = relabelled_all notes heads heads' fn fh held side from to slot a (record { spot = spot; first = a.first; last = a.last }) ne found none refl refl es e p in
    (subst (λ (x : ℕ). Laid notes heads' fn x held) (sym d) q.0, q.1)

-- two lists joined, and the head of one given back
pub join_both :
    (notes notes' : List Note)
    (heads heads₁ heads' : List Head)
    (fn fn' fh fh₁ fh' held : ℕ)
    (side : Side)
    (from to sh th : ℕ)
    (a b front back : NoteList)
    (d : Note)
    → (from ≡ to → ⊥)
    → At heads side from sh a
    → At heads side to th b
    → front ≡ front_of side a b
    → back ≡ front_of side b a
    → notes' ≡ relinked linked_note notes front.last back.first d
    → heads₁ ≡ with_list heads th (Some (record { spot = b.spot; first = front.first; last = back.last }))
    → fh₁ ≡ fh
    → heads' ≡ set heads₁ (sh - 1) (record { content = None; next = fh₁ })
    → fn' ≡ fn
    → fh' ≡ sh
    → Laid notes heads fn fh held
    → Laid notes' heads' fn' fh' held × ((at : Side) (k : ℕ) → listed notes' heads' at k ≡ shifted side (listed notes heads) from to at k)
join_both notes notes' heads heads₁ heads' fn fn' fh fh₁ fh' held side from to sh th a b front back d ne source target ef eb en e₁ d₁ e' dn dh p =
    let q =
    joined_all notes notes' heads heads₁ heads' fn fh held side from to sh th a b (record { spot = b.spot; first = front.first; last = back.last }) d ne source target (ap (λ (l : NoteList). l.first) ef) (ap (λ (l : NoteList). l.last) eb) refl
    (en ∙ ap (λ (l : NoteList). relinked linked_note notes l.last back.first d) ef ∙ ap (λ (l : NoteList). relinked linked_note notes (front_of side a b).last l.first d) eb)
    e₁
    (e' ∙ ap (λ (x : ℕ). set heads₁ (sh - 1) (record { content = None; next = x })) d₁)
    p
    in (
      subst (λ (x : ℕ). Laid notes' heads' x fh' held) (sym dn) (subst (λ (x : ℕ). Laid notes' heads' fn x held) (sym dh) q.0),
      q.1,
    )

-- a store that says how many more it holds, and not 0, has room
pub has_room : (a b n r : ℕ) → r ≡ min a b - n → (r ≡ 0 → ⊥) → n < min a b
has_room a b n r e some = omega (arith, e, some)

-- where there is room, the next note and the next head are slots
pub next_note : (notes : List Note) (heads : List Head) (fn fh held : ℕ) → held < min (room (length notes)) (room (length heads)) → ∥ Laid notes heads fn fh held ∥₁ → Slot (length notes) fn
next_note notes heads fn fh held r h = slot_from (length notes) fn h (free_note notes heads fn fh held (omega arith))

pub next_head : (notes : List Note) (heads : List Head) (fn fh held : ℕ) → held < min (room (length notes)) (room (length heads)) → ∥ Laid notes heads fn fh held ∥₁ → Slot (length heads) fh
next_head notes heads fn fh held r h = slot_from (length heads) fh h (free_head notes heads fn fh held (omega arith))

-- the last note of a list that was found is a slot, also after another note was written
pub last_found : (notes : List Note) (heads : List Head) (fn fh held : ℕ) (side : Side) (k th : ℕ) (b : NoteList) → At heads side k th b → ∥ Laid notes heads fn fh held ∥₁ → Slot (length notes) b.last
last_found notes heads fn fh held side k th b found h = slot_from (length notes) b.last h (last_note notes heads fn fh held side k th b found)

pub last_written : (notes notes₁ : List Note) (heads : List Head) (fn fh held : ℕ) (side : Side) (k th i : ℕ) (b : NoteList) (x : Note) → At heads side k th b → notes₁ ≡ set notes i x → ∥ Laid notes heads fn fh held ∥₁ → Slot (length notes₁) b.last
last_written notes notes₁ heads fn fh held side k th i b x found e h =
    subst (λ (n : ℕ). Slot n b.last) (sym (ap length e ∙ length-set notes i x))
    (last_found notes heads fn fh held side k th b found h)

-- the unused notes begin with the one that is taken
first_of_chain : (m : List ℕ) (h : ℕ) (ks : List ℕ) → 0 < h → Chain m h ks → (js : List ℕ) × (ks ≡ h ∷ js)
first_of_chain m h [] p c = absurd (omega (arith, c))
first_of_chain m h (k ∷ ks) p c = (ks, ap (λ (x : ℕ). x ∷ ks) (sym c.0))

-- a comment put last in a list that is there
pub grow :
    (notes notes₁ notes' : List Note)
    (heads heads' : List Head)
    (fn fn₁ fn' fh fh' held note : ℕ)
    (side : Side)
    (k th c : ℕ)
    (b : NoteList)
    (d : Note)
    → held < min (room (length notes)) (room (length heads))
    → At heads side k th b
    → note ≡ fn
    → fn₁ ≡ link_at (links notes) note
    → notes₁ ≡ set notes (note - 1) (record { content = c; next = 0 })
    → notes' ≡ relinked linked_note notes₁ b.last note d
    → fn' ≡ fn₁
    → heads' ≡ with_list heads th (Some (record { spot = b.spot; first = b.first; last = note }))
    → fh' ≡ fh
    → Laid notes heads fn fh held
    → Laid notes' heads' fn' fh' (held + 1) × ((at : Side) (j : ℕ) → listed notes' heads' at j ≡ added (listed notes heads) side k c at j)
grow notes notes₁ notes' heads heads' fn fn₁ fn' fh fh' held note side k th c b d r found e d₁ e₁ e' d' eh dh p =
    let s = free_note notes heads fn fh held (omega arith) p in
    let f = first_of_chain (links notes) fn p.1 s.0 p.3.notes in
    let y : Layout (links notes) (links heads) (list_at heads) fn fh held p.0 (fn ∷ f.0) p.2 [] =
    subst (λ (ks : List ℕ). Layout (links notes) (links heads) (list_at heads) fn fh held p.0 ks p.2 []) f.1 p.3
    in
    let q =
    put_last notes heads fn fh held c p.0 f.0 p.2 y notes' heads' side k th b (record { spot = b.spot; first = b.first; last = note }) d found refl e refl
    (e' ∙ ap (λ (s : List Note). relinked linked_note s b.last note d) (e₁ ∙ ap (λ (x : ℕ). set notes (x - 1) (record { content = c; next = 0 })) e) ∙ ap (λ (x : ℕ). relinked linked_note (set notes (fn - 1) (record { content = c; next = 0 })) b.last x d) e)
    eh
    in (
      subst (λ (x : ℕ). Laid notes' heads' x fh' (held + 1)) (sym (d' ∙ d₁ ∙ ap (link_at (links notes)) e)) (subst (λ (x : ℕ). Laid notes' heads' (link_at (links notes) fn) x (held + 1)) (sym dh) q.0),
      q.1,
    )

-- a comment put into a list that is new
pub begin :
    (notes notes' : List Note)
    (heads heads' : List Head)
    (fn fn' fh fh' held note : ℕ)
    (side : Side)
    (k c : ℕ)
    → held < min (room (length notes)) (room (length heads))
    → Nowhere heads side k
    → note ≡ fn
    → fn' ≡ link_at (links notes) note
    → notes' ≡ set notes (note - 1) (record { content = c; next = 0 })
    → heads' ≡ set heads (fh - 1) (record { content = Some (record { spot = record { side = side; offset = k }; first = note; last = note }); next = 0 })
    → fh' ≡ link_at (links heads) fh
    → Laid notes heads fn fh held
    → Laid notes' heads' fn' fh' (held + 1) × ((at : Side) (j : ℕ) → listed notes' heads' at j ≡ added (listed notes heads) side k c at j)
begin notes notes' heads heads' fn fn' fh fh' held note side k c r none e d' e' eh dh p =
    let s = free_note notes heads fn fh held (omega arith) p in
    let t = free_head notes heads fn fh held (omega arith) p in
    let f = first_of_chain (links notes) fn p.1 s.0 p.3.notes in
    let g = first_of_chain (links heads) fh p.2 t.0 p.3.heads in
    let y : Layout (links notes) (links heads) (list_at heads) fn fh held p.0 (fn ∷ f.0) (fh ∷ g.0) [] =
    subst (λ (ks : List ℕ). Layout (links notes) (links heads) (list_at heads) fn fh held p.0 (fn ∷ f.0) ks []) g.1
    (subst (λ (ks : List ℕ). Layout (links notes) (links heads) (list_at heads) fn fh held p.0 ks p.2 []) f.1 p.3)
    in
    let q =
    put_first notes notes' heads heads' fn fh held c p.0 f.0 g.0 side k y none
    (e' ∙ ap (λ (x : ℕ). set notes (x - 1) (record { content = c; next = 0 })) e)
    (eh ∙ ap (λ (x : ℕ). set heads (fh - 1) (record { content = Some (record { spot = record { side = side; offset = k }; first = x; last = x }); next = 0 })) e)
    in (
      subst (λ (x : ℕ). Laid notes' heads' x fh' (held + 1)) (sym (d' ∙ ap (link_at (links notes)) e)) (subst (λ (x : ℕ). Laid notes' heads' (link_at (links notes) fn) x (held + 1)) (sym dh) q.0),
      q.1,
    )

pub taken_slot : (notes : List Note) (heads : List Head) (fn fh held note : ℕ) → held < min (room (length notes)) (room (length heads)) → note ≡ fn → ∥ Laid notes heads fn fh held ∥₁ → Slot (length notes) note
taken_slot notes heads fn fh held note r e h = subst (λ (x : ℕ). Slot (length notes) x) (sym e) (next_note notes heads fn fh held r h)

-- room for comments, after one more was held, and where none was
pub less_room : (a b c d n m : ℕ) → (min (room a) (room b) - n ≡ 0 → ⊥) → m ≡ n + 1 → c ≡ a → d ≡ b → min (room a) (room b) - n ≡ (min (room c) (room d) - m) + 1
less_room a b c d n m left e p q =
    let r : min (room a) (room b) ≡ min (room c) (room d) = ap (λ (x : ℕ). min (room x) (room b)) (sym p) ∙ ap (λ (x : ℕ). min (room c) (room x)) (sym q) in
    go (min (room a) (room b)) (min (room c) (room d)) left r
  where
    go : (x y : ℕ) → (x - n ≡ 0 → ⊥) → x ≡ y → x - n ≡ (y - m) + 1
    go x y ne r = omega arith

pub same_room : (a b c d n m : ℕ) → m ≡ n → c ≡ a → d ≡ b → min (room c) (room d) - m ≡ min (room a) (room b) - n
same_room a b c d n m e p q =
    ap (λ (x : ℕ). min (room x) (room d) - m) p ∙ ap (λ (x : ℕ). min (room a) (room x) - m) q ∙ ap (λ (x : ℕ). min (room a) (room b) - x) e
