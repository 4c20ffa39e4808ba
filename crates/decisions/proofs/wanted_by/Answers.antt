use native.Mathlib.Omega.{arith}
use Rattle.decisions.proofs.Laws.{then_is, user_fits}
use Rattle.decisions.proofs.wanted_by.Goals as goal

pub overflow_cast-c : goal.overflow_cast-c
overflow_cast-c c = let u = user_fits _ c.in-Client.is c.requires in record { fits = omega (arith, u) }

pub returns-in-Client : goal.returns-in-Client
returns-in-Client c = rw (c.in-Client.is, c.then_some.ensures, then_is c.allocates.result c.in-Client.c.user, ← c.allocates.ensures)

pub returns-in-Peer : goal.returns-in-Peer
returns-in-Peer c = rw c.in-Peer.is
