use Rattle.std.proofs.Common.{◌≡◌, ℕ, ◌+◌, ◌<◌, ◌≤◌, List, length, take, set, sym, ap, ◌∙◌, subst, arith}
use Rattle.std.proofs.lemmas.List.{length-set, take_more_set, get_or-set_other}
use Rattle.std.specs.Prelude.{count_by}
use Rattle.comments.specs.declared.store.Side.{Side}
use Rattle.comments.specs.Lists.{added}
use Rattle.register.specs.declared.entry.Entry.{Entry}
use Rattle.register.specs.declared.register.Register.{Register}
use Rattle.register.specs.Listing.{here, listing, Sound}
use Rattle.register.specs.Held.{entries_of, lists_of, spare_of}
use Rattle.register.proofs.Pushed.{Next, sound_push, listing_push}
use Rattle.register.proofs.store.RegisterFill.add.Goals as goal

-- The records with one entry more, which has the next rank of its list.
module _
    (r : Register) (e : Entry) (es : List Entry) (spare : ℕ)
    (s : spare ≡ spare_of r)
    (some : spare ≡ 0 → ⊥)
    (f : es ≡ entries_of r)
    (n : e.rank ≡ count_by (here e.spot.side e.spot.offset) es)
  where
    room : r.used < length r.slots.now
    room = omega (arith, s)

    next : Next (entries_of r) e
    next = n ∙ ap (count_by (here e.spot.side e.spot.offset)) f

    inside : r.used + 1 ≤ length (set r.slots.now r.used e)
    inside = omega (arith, room, length-set r.slots.now r.used e)

    sound : Sound (take (r.used + 1) (set r.slots.now r.used e))
    sound = subst Sound (sym (take_more_set r.slots.now r.used e room)) (sound_push (entries_of r) e r.sound next)

    lists : (at : Side) (k : ℕ) → listing (take (r.used + 1) (set r.slots.now r.used e)) at k ≡ added (lists_of r) e.spot.side e.spot.offset e.comment at k
    lists at k = ap (λ (xs : List Entry). listing xs at k) (take_more_set r.slots.now r.used e room) ∙ listing_push (entries_of r) e r.sound next at k

pub invariant_of-self : goal.invariant_of-self
invariant_of-self c =
    let e : Entry = record { comment = c.args.comment; spot = c.args.spot; rank = c.count_in-rank.result } in
    record {
      inside = inside c.args.self.now e _ _ c.spare.ensures c.if-spare-eq0.false c.entries.ensures c.count_in-rank.ensures;
      sound = sound c.args.self.now e _ _ c.spare.ensures c.if-spare-eq0.false c.entries.ensures c.count_in-rank.ensures;
    }

pub returns-clause-fills : goal.returns-clause-fills
returns-clause-fills c =
    let e : Entry = record { comment = c.args.comment; spot = c.args.spot; rank = c.count_in-rank.result } in
    (omega (arith, c.spare.ensures, length-set c.args.self.now.slots.now c.args.self.now.used e), lists c.args.self.now e _ _ c.spare.ensures c.if-spare-eq0.false c.entries.ensures c.count_in-rank.ensures)

pub returns-clause-records : goal.returns-clause-records
returns-clause-records c i d ne = get_or-set_other c.args.self.now.slots.now c.args.self.now.used i _ d ne
