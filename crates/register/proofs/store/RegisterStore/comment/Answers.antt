use Rattle.register.specs.Held.{entries_of}
use Rattle.register.proofs.Ranks.{nth_listing}
use Rattle.register.proofs.store.RegisterStore.comment.Goals as goal

pub returns : goal.returns
returns c =
    record { value = nth_listing (entries_of c.args.self.now) c.args.spot.side c.args.spot.offset c.args.rank c.comment_in.result c.args.self.now.sound (rw c.entries.ensures at c.comment_in.ensures) }
