use Rattle.std.proofs.Common.{List, sym, ap, ◌∙◌}
use Rattle.std.specs.Prelude.{count_by}
use Rattle.std.proofs.lemmas.List.FromFn.{length-map-range_with_len}
use Rattle.register.specs.declared.entry.Entry.{Entry}
use Rattle.register.specs.Listing.{here, comment_at}
use Rattle.register.specs.Held.{entries_of}
use Rattle.register.proofs.store.RegisterStore.count.Goals as goal

pub returns : goal.returns
returns c =
    record { value = c.count_in.ensures ∙ ap (λ (es : List Entry). count_by (here c.args.spot.side c.args.spot.offset) es) c.entries.ensures ∙ sym (length-map-range_with_len (comment_at (entries_of c.args.self.now) c.args.spot.side c.args.spot.offset) 0 _) }
