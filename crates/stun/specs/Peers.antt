-- What the iterator over the peers of a message promises. No public statement rests on it.
use Rattle.std.specs.Prelude.{List, Option}
use Rattle.address.specs.declared.TransportAddress.{TransportAddress}
use Rattle.stun.specs.declared.peers.Peers.{Peers}
use Rattle.stun.specs.Values.{peers_of}
use Rattle.stun.specs.Inner.{attributes_left}

-- the values that it has left to give
abbrev pub peers_left : Peers → List (Option TransportAddress)
peers_left it = peers_of it.message.now (attributes_left it.attributes)
