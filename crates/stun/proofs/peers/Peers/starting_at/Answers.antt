use borrow.Author.Rules.{rules}
use Rattle.stun.specs.Values.{peers_from}
use Rattle.stun.proofs.Laws.{within_from}
use Rattle.stun.proofs.peers.Peers.starting_at.Goals as goal

pub invariant_of-result : goal.invariant_of-result
invariant_of-result c = record { header = search rules; within = rw c.starting_at.ensures (within_from _ _) }

pub returns : goal.returns
unfolding peers_from
returns c = rw c.starting_at.ensures
