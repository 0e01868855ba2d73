-- The layout of a new store: all records unused.
use Rattle.std.proofs.Common.{◌≡◌, ℕ, zero, suc, ◌+◌, ◌<◌, true, false, List, [], length, get_or, replicate, None, sum_by, Option, sym, refl, ap, ◌∙◌, subst, arith}
use Rattle.std.proofs.lemmas.List.{length-map, length-replicate, get_or-replicate}
use Rattle.std.proofs.lemmas.List.Sums.{sum_by-cons}
use Rattle.comments.specs.declared.store.Side.{Side}
use Rattle.chain.specs.Chain.{room, Chain, times, slots_from}
use Rattle.chain.proofs.Laws.{chain_once}
use Rattle.chain.proofs.Runs.{length_from, times_from}
use Rattle.spliced.specs.declared.heads.NoteList.{NoteList}
use Rattle.spliced.specs.Linked.{links}
use Rattle.spliced.specs.Notes.{Note}
use Rattle.spliced.specs.Heads.{Head, list_at, key, listed}
use Rattle.spliced.specs.Layout.{Fit, used, Laid}
use Rattle.spliced.proofs.Meaning.{means}

-- empty lists have nothing
sum_empty : (f : List ℕ → ℕ) (n : ℕ) → f [] ≡ 0 → sum_by f (replicate n []) ≡ 0
sum_empty f zero z = refl
sum_empty f (suc n) z = omega (arith, sum_by-cons f [] (replicate n []), sum_empty f n z, z)

fresh_laid : (notes : List Note) (heads : List Head) (fn fh n k : ℕ) → n ≡ length notes → k ≡ length heads → Chain (links notes) fn (slots_from 1 (room n)) → Chain (links heads) fh (slots_from 1 (room k)) → ((i : ℕ) → i < room k → list_at heads i ≡ None) → Laid notes heads fn fh 0
fresh_laid notes heads fn fh n k en ek cn ch none = (
  replicate (room k) [],
  slots_from 1 (room n),
  slots_from 1 (room k),
  record {
    wide = length-replicate (room k) [] ∙ long;
    each = λ i q. subst (λ (o : Option NoteList). Fit (links notes) o (get_or (replicate (room k) []) i [])) (sym (none i (omega (arith, long)))) (get_or-replicate (room k) i [] [] (omega (arith, long)));
    notes = cn;
    apart = λ j. omega (arith, chain_once (links notes) fn (slots_from 1 (room n)) cn j, sum_empty (times j) (room k) refl);
    heads = ch;
    once = λ i q. omega (arith, times_from (i + 1) 1 (room k) (omega arith) (omega (arith, long)), ap used (none i (omega (arith, long))));
    keys = λ i j side o p q u v. let z : ◌≡◌ false true = sym (ap (key side o) (none i (omega (arith, long)))) ∙ u in let w : ◌≡◌ {A = ℕ} 0 1 = cc in absurd (omega arith);
    counted = omega (arith, length_from 1 (room n), ap room (en ∙ sym (length-map notes (λ (x : Note). x.next))));
    total = omega (arith, sum_empty length (room k) refl);
  },
)
  where
    long : room k ≡ room (length (links heads))
    long = ap room (ek ∙ sym (length-map heads (λ (h : Head). h.next)))

-- and it means no comments
fresh_empty : (notes : List Note) (heads : List Head) (fn fh k : ℕ) → k ≡ length heads → ((i : ℕ) → i < room k → list_at heads i ≡ None) → Laid notes heads fn fh 0 → (side : Side) (j : ℕ) → listed notes heads side j ≡ []
fresh_empty notes heads fn fh k ek none p side j =
    (means notes heads fn fh 0 p.0 p.1 p.2 p.3).missing side j (λ i q. ap (key side j) (none i (omega (arith, ap room ek))))

pub fresh : (notes : List Note) (heads : List Head) (fn fh n k : ℕ) → n ≡ length notes → k ≡ length heads → Chain (links notes) fn (slots_from 1 (room n)) → Chain (links heads) fh (slots_from 1 (room k)) → ((i : ℕ) → i < room k → list_at heads i ≡ None) → Laid notes heads fn fh 0 × ((side : Side) (j : ℕ) → listed notes heads side j ≡ [])
fresh notes heads fn fh n k en ek cn ch none =
    let p = fresh_laid notes heads fn fh n k en ek cn ch none in
    (p, fresh_empty notes heads fn fh k ek none p)
