use Rattle.std.proofs.Common.{rules}
use Rattle.chain.proofs.Records.{released}
use Rattle.chain.proofs.free.release.Goals as goal

pub returns-clause-records : goal.returns-clause-records
returns-clause-records g c =
    released g.T.Link.linked c.args.slots.now c.give_back.new.slots _ c.link_to.new.slots c.args.slot c.args.head.now c.args.blank c.requires.inside c.give_back.ensures.records (search rules) c.link_to.ensures.records
