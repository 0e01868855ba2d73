-- The answers to questions, by the layout of the records.
use Rattle.std.proofs.Common.{◌≡◌, ℕ, ◌-◌, List, [], map, length, get_or, Some, None, Option, sym, refl, ap, ◌∙◌, arith}
use mathlib.Core.HLevel.{hedberg}
use mathlib.Core.Logic.{∥∥₁_elim, ∥∥₁_map}
use mathlib.Core.List.{is_set}
use native.Mathlib.Decide.{ℕ_discrete}
use Rattle.std.specs.List.{slice_get}
use Rattle.std.specs.Option.{option_to_list}
use Rattle.std.proofs.lemmas.List.{length-map}
use Rattle.comments.specs.declared.store.Side.{Side}
use Rattle.comments.specs.Lists.{Lists}
use Rattle.chain.specs.Chain.{Chain}
use Rattle.spliced.specs.declared.heads.NoteList.{NoteList}
use Rattle.spliced.specs.Linked.{links}
use Rattle.spliced.specs.Notes.{Note, comments, comment_at}
use Rattle.spliced.specs.Heads.{Head, key, At, Nowhere, listed}
use Rattle.spliced.specs.Layout.{Laid}
use Rattle.spliced.proofs.Meaning.{means}
use Rattle.spliced.proofs.Whole.{fit_at}

-- equal lists where there is a layout are equal lists
pub list_from : {P : Type 0} (xs ys : List ℕ) → ∥ P ∥₁ → (P → xs ≡ ys) → xs ≡ ys
list_from xs ys h f = ∥∥₁_elim h (is_set (hedberg ℕ_discrete) xs ys) f

-- a new layout and new lists, where there is a layout
pub laid_from : {P Q : Type 0} (f g : Lists) → ∥ P ∥₁ → (P → Q × ((side : Side) (k : ℕ) → f side k ≡ g side k)) → ∥ Q ∥₁ × ((side : Side) (k : ℕ) → f side k ≡ g side k)
laid_from f g h both = (∥∥₁_map h (λ p. (both p).0), λ side k. list_from (f side k) (g side k) h (λ p. (both p).1 side k))

-- the list that was found has the comments of its notes
pub list_found : (notes : List Note) (heads : List Head) (fn fh held : ℕ) (side : Side) (k slot : ℕ) (l : NoteList) → At heads side k slot l → (p : Laid notes heads fn fh held) → (ks : List ℕ) × Chain (links notes) l.first ks × (listed notes heads side k ≡ map (comment_at (comments notes)) ks)
list_found notes heads fn fh held side k slot l a p = (
  get_or p.0 (slot - 1) [],
  (fit_at notes heads fn fh held side k slot l p a).1,
  (means notes heads fn fh held p.0 p.1 p.2 p.3).located (slot - 1) side k (omega (arith, a.slot_in.0, a.slot_in.1)) (ap (key side k) a.holds ∙ a.keyed),
)

-- no list was found: it is empty
pub list_missing : (notes : List Note) (heads : List Head) (fn fh held : ℕ) (side : Side) (k : ℕ) → Nowhere heads side k → Laid notes heads fn fh held → listed notes heads side k ≡ []
list_missing notes heads fn fh held side k none p = (means notes heads fn fh held p.0 p.1 p.2 p.3).missing side k none

pub counted : (notes : List Note) (heads : List Head) (fn fh held : ℕ) (side : Side) (k slot r : ℕ) (l : NoteList) → At heads side k slot l → ((ks : List ℕ) → Chain (links notes) l.first ks → r ≡ length ks) → Laid notes heads fn fh held → r ≡ length (listed notes heads side k)
counted notes heads fn fh held side k slot r l a h p =
    let q = list_found notes heads fn fh held side k slot l a p in
    h q.0 q.1 ∙ sym (ap length q.2 ∙ length-map q.0 (comment_at (comments notes)))

pub ranked : (notes : List Note) (heads : List Head) (fn fh held : ℕ) (side : Side) (k slot rank : ℕ) (r : Option ℕ) (l : NoteList) → At heads side k slot l → ((ks : List ℕ) → Chain (links notes) l.first ks → r ≡ slice_get (map (comment_at (comments notes)) ks) rank) → Laid notes heads fn fh held → r ≡ slice_get (listed notes heads side k) rank
ranked notes heads fn fh held side k slot rank r l a h p =
    let q = list_found notes heads fn fh held side k slot l a p in
    h q.0 q.1 ∙ sym (ap (λ (xs : List ℕ). slice_get xs rank) q.2)

-- the same where there is a layout
pub number_from : {P : Type 0} (a b : ℕ) → ∥ P ∥₁ → (P → a ≡ b) → a ≡ b
number_from a b h f = ∥∥₁_elim h (hedberg ℕ_discrete a b) f

same_option : (a b : Option ℕ) → option_to_list a ≡ option_to_list b → a ≡ b
same_option None None e = refl
same_option None (Some y) e = let z : ◌≡◌ {A = ℕ} 0 1 = cc in absurd (omega arith)
same_option (Some x) None e = let z : ◌≡◌ {A = ℕ} 0 1 = cc in absurd (omega arith)
same_option (Some x) (Some y) e = cc

pub answer_from : {P : Type 0} (a b : Option ℕ) → ∥ P ∥₁ → (P → a ≡ b) → a ≡ b
answer_from a b h f = same_option a b (list_from (option_to_list a) (option_to_list b) h (λ p. ap option_to_list (f p)))
