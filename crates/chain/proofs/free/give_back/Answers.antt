use Rattle.chain.proofs.Records.{given_back}
use Rattle.chain.proofs.free.give_back.Goals as goal

pub returns-clause-chain : goal.returns-clause-chain
returns-clause-chain g c =
    λ ks h. given_back g.T.Link.link g.T.Link.linked g.met.T.Link.reads c.args.slots.now c.link_to.new.slots c.args.head.now c.args.slot ks c.requires.inside (c.requires.off ks h) c.link_to.ensures.records h
