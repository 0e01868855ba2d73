use Rattle.std.proofs.Common.{◌≡◌, ℕ, ◌≢◌, ◌⊎◌, ◌≤◌, List, ◌++◌, map, length, take, drop, refl, sym, ap, ◌∙◌, subst, count_by}
use Rattle.comments.specs.declared.store.Side.{Side}
use Rattle.comments.specs.declared.store.Spot.{Spot}
use Rattle.register.specs.declared.entry.Entry.{Entry}
use Rattle.register.specs.declared.register.Register.{Register}
use Rattle.register.specs.Listing.{here, listing, Sound}
use Rattle.register.specs.Joins.{moved_to, together}
use Rattle.register.specs.Held.{entries_of, lists_of}
use Rattle.register.proofs.Joined.{Ready, joined_sound, joined_lists, joined_fits, joined_inside, joined_entries}
use Rattle.register.proofs.register.Register.put_together.Goals as goal

-- The two lists before they are joined, and the records once they are.
module _
    (r : Register) (side : Side) (first second to ahead : ℕ) (at : Spot) (es : List Entry)
    (apart : first ≢ second)
    (ends : (to ≡ first) ⊎ (to ≡ second))
    (a : at ≡ record { side = side; offset = first })
    (e : es ≡ entries_of r)
    (n : ahead ≡ count_by (here at.side at.offset) es)
  where
    ready : Ready (entries_of r) side first second to ahead
    ready = record { sound = r.sound; apart = apart; ends = ends; long = n ∙ ap (λ (x : Spot). count_by (here x.side x.offset) es) a ∙ ap (count_by (here side first)) e }

    module _ (new : List Entry) (made : new ≡ map (moved_to side first second to ahead) (entries_of r)) where
      abbrev records : List Entry
      records = new ++ drop r.used r.slots.now

      joined : records ≡ map (moved_to side first second to ahead) (take r.used r.slots.now) ++ drop r.used r.slots.now
      joined = ap (λ (xs : List Entry). xs ++ drop r.used r.slots.now) made

      entries : take r.used records ≡ map (moved_to side first second to ahead) (entries_of r)
      entries = joined_entries (moved_to side first second to ahead) r.slots.now records r.used r.used r.inside refl joined

      inside : r.used ≤ length records
      inside = joined_inside (moved_to side first second to ahead) r.slots.now records r.used r.used r.inside refl joined

      sound : Sound (take r.used records)
      sound = subst Sound (sym entries) (joined_sound (entries_of r) side first second to ahead ready)

      lists : (on : Side) (k : ℕ) → listing (take r.used records) on k ≡ together (lists_of r) side first second to on k
      lists on k = ap (λ (xs : List Entry). listing xs on k) entries ∙ joined_lists (entries_of r) side first second to ahead ready on k

pub rejoin_each-requires : goal.rejoin_each-requires
rejoin_each-requires c =
    joined_fits (entries_of c.args.self.now) c.args.side c.args.first c.args.second c.args.to c.count_in-ahead.result
    (ready c.args.self.now c.args.side c.args.first c.args.second c.args.to _ _ _ c.requires.apart c.requires.ends c.at.ensures c.entries.ensures c.count_in-ahead.ensures)

pub invariant_of-self-clause-inside : goal.invariant_of-self-clause-inside
invariant_of-self-clause-inside c = inside c.args.self.now _ _ _ _ _ _ _ c.requires.apart c.requires.ends c.at.ensures c.entries.ensures c.count_in-ahead.ensures _ c.rejoin_each.ensures

pub invariant_of-self-clause-sound : goal.invariant_of-self-clause-sound
invariant_of-self-clause-sound c = sound c.args.self.now _ _ _ _ _ _ _ c.requires.apart c.requires.ends c.at.ensures c.entries.ensures c.count_in-ahead.ensures _ c.rejoin_each.ensures

pub returns-clause-lists : goal.returns-clause-lists
returns-clause-lists c = lists c.args.self.now _ _ _ _ _ _ _ c.requires.apart c.requires.ends c.at.ensures c.entries.ensures c.count_in-ahead.ensures _ c.rejoin_each.ensures
