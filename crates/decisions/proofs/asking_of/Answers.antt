use Rattle.decisions.proofs.asking_of.Goals as goal

pub returns-in-Client : goal.returns-in-Client
returns-in-Client c = rw (c.in-Client.is, ← c.asked_by-asked.ensures, ← c.asks_denied.ensures)

pub returns-in-Peer : goal.returns-in-Peer
returns-in-Peer c = rw c.in-Peer.is
