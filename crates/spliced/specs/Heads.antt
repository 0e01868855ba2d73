-- The records of lists.
--
--   Head            the record of a list
--   list_at s i     what the record at index i holds: a list, or none where the record is unused
--   with_list s k o  the records s, that of slot k holding o
--   key side k o    whether o is the list on a side at the offset k
--   At s side k i l    the record of slot i holds l, the list on a side at the offset k
--   Nowhere s side k   no record holds that list
--   front_of side a b  which of two lists comes first where a goes to the outer side of b
--   held cs m s     the lists of comments that the records s mean, where cs has the comments and m the links of all notes
--   listed a b      the same of the notes a and of those of the records b that have a slot
--
-- Assumes nothing.
use Rattle.std.specs.Prelude.{◌≡◌, ℕ, zero, suc, ◌-◌, ◌<◌, Bool, true, false, cond, ◌&&◌, List, [], ◌∷◌, map, length, take, Some, None, Option, ◌==◌, slice_index_or, slice_set}
use Rattle.comments.specs.declared.store.Side.{Side}
use Rattle.comments.specs.declared.store.Side.TheVariants.{Leading, Trailing}
use Rattle.comments.specs.Lists.{same, Lists}
use Rattle.chain.specs.Chain.{room, Slot, link_at}
use Rattle.spliced.specs.declared.heads.NoteList.{NoteList}
use Rattle.spliced.specs.declared.linked.Linked.{Linked}
use Rattle.spliced.specs.Linked.{links}
use Rattle.spliced.specs.Notes.{Note, comments, comment_at}

abbrev pub Head : Type 0
Head = Linked (Option NoteList)

abbrev pub blank : Head
blank = record { content = None; next = 0 }

abbrev pub list_at : List Head → ℕ → Option NoteList
list_at s i = (slice_index_or s i blank).content

abbrev pub with_list : List Head → ℕ → Option NoteList → List Head
with_list s k o = slice_set s (k - 1) (record { content = o; next = (slice_index_or s (k - 1) blank).next })

abbrev pub key : Side → ℕ → Option NoteList → Bool
key side k None = false
key side k (Some l) = same side l.spot.side && k == l.spot.offset

pub record At (heads : List Head) (side : Side) (k slot : ℕ) (l : NoteList) : Type 0 where
  pub slot_in : Slot (length heads) slot
  pub holds : list_at heads (slot - 1) ≡ Some l
  pub keyed : key side k (Some l) ≡ true

abbrev pub Nowhere : List Head → Side → ℕ → Type 0
Nowhere heads side k = (i : ℕ) → i < room (length heads) → key side k (list_at heads i) ≡ false

abbrev pub front_of : Side → NoteList → NoteList → NoteList
front_of Leading a b = a
front_of Trailing a b = b

-- the slots that so many steps along the links meet
abbrev pub walk : ℕ → List ℕ → ℕ → List ℕ
walk zero m h = []
walk (suc n) m zero = []
walk (suc n) m (suc h) = suc h ∷ walk n m (link_at m (suc h))

abbrev pub first_of : Option NoteList → ℕ
first_of None = 0
first_of (Some l) = l.first

abbrev pub held : List ℕ → List ℕ → List Head → Lists
held cs m [] side k = []
held cs m (h ∷ hs) side k =
    cond (key side k h.content) (map (comment_at cs) (walk (length m) m (first_of h.content))) (held cs m hs side k)

abbrev pub listed : List Note → List Head → Lists
listed notes heads = held (comments notes) (links notes) (take (room (length heads)) heads)
