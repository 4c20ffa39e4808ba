use mathlib.Core.Path.{refl}
use Rattle.script.proofs.Written.{sent_then, line_to_peer}
use Rattle.script.proofs.answers.put_to_peer.Goals as goal

pub returns : goal.returns
returns c = line_to_peer c.args.port c.args.peer c.args.sent.now (sent_then (sent_then (record { wrote = c.put_letter.ensures; size = refl }) c.put_number-peer_at.ensures.0) c.put_sent.ensures.0)
