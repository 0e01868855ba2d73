use Rattle.std.proofs.Common.{sym, ◌∙◌}
use Rattle.chain.proofs.Records.{link_read}
use Rattle.chain.proofs.free.next_of.Goals as goal

pub returns : goal.returns
returns g c =
    let p = c.in_ok-record_at.ensures in
    let r = c.in_ok-record_at.field-0.now in
    (p.0, c.next.ensures ∙ sym (link_read g.T.Link.link c.args.slots.now c.args.slot r p.0 (p.1 r)))
