use native.Mathlib.Omega.{arith}
use Rattle.text.proofs.Laws.{writing_next, writing_end}
use Rattle.text.proofs.put_digits.Goals as goal

pub loop-i-preserved : goal.loop-i-preserved
loop-i-preserved c = writing_next c.loop-i.invariant (omega arith) (omega arith) c.digit.ensures

pub returns : goal.returns
returns c = writing_end c.loop-i.invariant (omega arith) (omega arith)
