use mathlib.Core.Path.{ap, ◌∙◌}
use lib.ListN.{length}
use borrow.Author.Rules.{rules}
use Rattle.stun.proofs.Laws.{within_left, peer_here, peer_skip, no_peers}
use Rattle.stun.proofs.peers.PeersIterator.next.Goals as goal

pub invariant_of-self : goal.invariant_of-self
invariant_of-self c = record {
  header = c.loop-attribute.self.header;
  within = within_left _ _ _ c.next.result c.next.ensures.steps c.loop-attribute.self.within;
}

pub returns-then-attribute-eq-XOR_PEER_ADDRESS-clause-steps : goal.returns-then-attribute-eq-XOR_PEER_ADDRESS-clause-steps
returns-then-attribute-eq-XOR_PEER_ADDRESS-clause-steps c =
    rw c.address_at.ensures (c.loop-attribute.invariant ∙ peer_here _ c.in-Some.ensures.steps c.if-attribute-eq-XOR_PEER_ADDRESS.true)

pub returns-then-attribute-eq-XOR_PEER_ADDRESS-clause-goes : goal.returns-then-attribute-eq-XOR_PEER_ADDRESS-clause-goes
returns-then-attribute-eq-XOR_PEER_ADDRESS-clause-goes c =
    let shorter = ap length (c.loop-attribute.invariant ∙ peer_here _ c.in-Some.ensures.steps c.if-attribute-eq-XOR_PEER_ADDRESS.true) in
    search rules

pub loop-attribute-preserved : goal.loop-attribute-preserved
loop-attribute-preserved c = c.loop-attribute.invariant ∙ peer_skip _ c.in-Some.ensures.steps c.if-attribute-eq-XOR_PEER_ADDRESS.false

pub returns-clause-steps : goal.returns-clause-steps
returns-clause-steps c =
    let over = c.in_default.ensures.steps in
    (c.loop-attribute.invariant ∙ no_peers _ over.0, no_peers _ over.1)
