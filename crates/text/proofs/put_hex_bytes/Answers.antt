use native.Mathlib.Omega.{arith}
use Rattle.text.proofs.Laws.{hexing_start, hexing_next}
use Rattle.text.proofs.put_hex_bytes.Goals as goal

pub loop-i-init : goal.loop-i-init
loop-i-init c = hexing_start _ _

pub loop-i-preserved : goal.loop-i-preserved
loop-i-preserved c = hexing_next c.loop-i.invariant (omega arith) c.from.ensures c.put_digits.ensures
