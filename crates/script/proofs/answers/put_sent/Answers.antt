use native.Mathlib.Omega.{arith}
use Rattle.script.proofs.Written.{sent_then, line_sent}
use Rattle.script.proofs.answers.put_sent.Goals as goal

pub returns : goal.returns
returns c = (line_sent c.args.peer c.args.sent.now (sent_then (sent_then c.put_address-port_at.ensures.0 c.put_number.ensures.0) c.put_hex.ensures.0), omega (arith, c.put_address-port_at.ensures.1, c.put_number.ensures.1, c.put_hex.ensures.1))
