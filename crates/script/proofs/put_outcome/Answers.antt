use mathlib.Core.Path.{ap}
use native.Mathlib.Omega.{arith}
use lib.ListN.{length}
use Rattle.script.proofs.Run.{sent_short}
use Rattle.script.proofs.put_outcome.Goals as goal

pub put_answer-requires : goal.put_answer-requires
put_answer-requires c =
    let a = c.args in
    (omega (arith, ap length c.what_to_send.ensures, sent_short a.outcome a.datagram.now a.reply.now c.requires.0 c.requires.1.0), c.requires.1.1)
