use Rattle.decisions.specs.Decisions.{decided}
use Rattle.decisions.proofs.Laws.{ready_client, ready_peer, client_asked}
use Rattle.decisions.proofs.pass_data.Goals as goal

pub pass_client-requires : goal.pass_client-requires
pass_client-requires c = ((ready_client c.in-Client.is c.requires.0.0).user, client_asked _ c.in-Client.is c.requires.0.1)

pub pass_peer-requires : goal.pass_peer-requires
pass_peer-requires c = ready_peer c.in-Peer.is c.requires.0.0

pub returns-in-Client : goal.returns-in-Client
unfolding decided
returns-in-Client c = rw (c.in-Client.is, ← client_asked _ c.in-Client.is c.requires.0.1) (c.pass_client.ensures c.requires.1 _ _)

pub returns-in-Peer : goal.returns-in-Peer
unfolding decided
returns-in-Peer c = rw c.in-Peer.is c.pass_peer.ensures
