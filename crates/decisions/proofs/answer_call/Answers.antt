use Rattle.decisions.specs.Decisions.{decided}
use Rattle.decisions.proofs.Laws.{ready_client, client_asked, peer_dropped, peer_data}
use Rattle.decisions.proofs.answer_call.Goals as goal

pub answer_client-requires : goal.answer_client-requires
answer_client-requires c = ((ready_client c.in-Client.is c.requires.0.0, client_asked _ c.in-Client.is c.requires.0.1), c.requires.1)

pub returns-in-Client : goal.returns-in-Client
unfolding decided
returns-in-Client c = rw (c.in-Client.is, ← client_asked _ c.in-Client.is c.requires.0.1) c.answer_client.ensures

pub returns-in-Peer : goal.returns-in-Peer
returns-in-Peer c =
    let told = c.in-Peer.is in
    rw (told, c.answer_dropped.ensures) (λ slots l o. peer_dropped _ (c.requires.1 (peer_data _ told c.requires.0.1)) _ _ _ slots o)
