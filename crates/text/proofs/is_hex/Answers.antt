use native.Mathlib.Omega.{arith}
use Rattle.choice.proofs.Laws.{and_both}
use Rattle.text.proofs.Laws.{testing_start, testing_next, testing_end}
use Rattle.text.proofs.is_hex.Goals as goal

pub loop-c-init : goal.loop-c-init
loop-c-init c = testing_start _

pub loop-c-preserved : goal.loop-c-preserved
loop-c-preserved c = testing_next c.loop-c.invariant (omega arith) c.is_digit-good.ensures (and_both _ _)

pub returns : goal.returns
returns c = testing_end c.loop-c.invariant (omega arith)
