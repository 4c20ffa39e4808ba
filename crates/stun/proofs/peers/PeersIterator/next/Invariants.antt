use mathlib.Core.Path.{◌≡◌}
use lib.ListN.{length}
use Rattle.stun.specs.Inner.{attributes_left}
use Rattle.stun.specs.Peers.{peers_left}
use Rattle.stun.proofs.peers.PeersIterator.next.Given as goal

abbrev pub invariant-loop-attribute : goal.invariant-loop-attribute
invariant-loop-attribute l = peers_left l.fn.self ≡ peers_left l.self

abbrev pub decreases-loop-attribute : goal.decreases-loop-attribute
decreases-loop-attribute l = length (attributes_left l.self.attributes)
