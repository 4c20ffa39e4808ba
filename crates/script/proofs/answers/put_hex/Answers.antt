use mathlib.Core.Path.{sym}
use native.Mathlib.Omega.{arith}
use Rattle.text.proofs.Laws.{length_hex_bytes}
use Rattle.script.proofs.Written.{sent_end}
use Rattle.script.proofs.answers.put_hex.Goals as goal

pub returns : goal.returns
returns c = (sent_end 10 c.put_hex_bytes.ensures (sym (length_hex_bytes c.args.sent.now)) (omega arith), omega arith)
