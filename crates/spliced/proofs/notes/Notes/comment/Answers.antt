use Rattle.std.proofs.Common.{◌≡◌, ℕ, ◌+◌, ◌<◌, List, map, length, Some, None, Option, ap, sym, ◌∙◌, subst, arith}
use Rattle.std.specs.List.{slice_get}
use Rattle.chain.specs.Chain.{Slot, Chain}
use Rattle.chain.proofs.Records.{slot_links, slot_records, link_read}
use Rattle.spliced.specs.Linked.{links}
use Rattle.spliced.specs.Notes.{Note, comments, comment_at}
use Rattle.spliced.proofs.Reading.{Left, left_more, left_off, left_on}
use Rattle.spliced.proofs.notes.Notes.comment.Goals as goal

-- where the walk stands on no slot, the answer is none
left_none :
    {r : Option ℕ}
    (s : List Note)
    (first at i rank : ℕ)
    → r ≡ None
    → (Slot (length s) at → ⊥)
    → i < rank + 1
    → Left (links s) first at i
    → (ks : List ℕ) → Chain (links s) first ks → r ≡ slice_get (map (comment_at (comments s)) ks) rank
left_none s first at i rank e ne l w ks h =
    e ∙ sym (left_off (links s) first at i rank (comment_at (comments s)) (λ k. ne (slot_records (λ (n : Note). n.next) s at k)) l w ks h)

pub returns-in_err-at : goal.returns-in_err-at
returns-in_err-at c =
    left_none c.args.self.now.slots.now c.args.first c.loop.at c.loop.counter c.args.rank c.from_residual.ensures c.in_err-at.ensures (omega arith) c.loop.invariant

pub loop-preserved : goal.loop-preserved
loop-preserved c =
    let p = c.in_ok-at.ensures in
    subst (λ (x : ℕ). Left (links c.args.self.now.slots.now) c.args.first x (c.loop.counter + 1)) (sym p.1)
    (left_more (links c.args.self.now.slots.now) c.args.first c.loop.at c.loop.counter (slot_links (λ (n : Note). n.next) c.args.self.now.slots.now c.loop.at p.0) c.loop.invariant)

pub returns-in_err-record_at : goal.returns-in_err-record_at
returns-in_err-record_at c =
    left_none c.args.self.now.slots.now c.args.first c.loop.at c.loop.counter c.args.rank c.from_residual-in_err-record_at.ensures c.in_err-record_at.ensures (omega arith) c.loop.invariant

pub returns : goal.returns
returns c =
    let p = c.in_ok-record_at.ensures in
    let r = c.in_ok-record_at.field-0.now in
    λ ks h.
    ap Some (sym (link_read (λ (n : Note). n.content) c.args.self.now.slots.now c.loop.at r p.0 (p.1 r)))
    ∙ sym (left_on (links c.args.self.now.slots.now) c.args.first c.loop.at c.args.rank (comment_at (comments c.args.self.now.slots.now)) (slot_links (λ (n : Note). n.next) c.args.self.now.slots.now c.loop.at p.0)
    (subst (λ (i : ℕ). Left (links c.args.self.now.slots.now) c.args.first c.loop.at i) (omega arith) c.loop.invariant)
    ks h)
