use native.Mathlib.Omega.{arith}
use Rattle.text.proofs.Laws.{past_all}
use Rattle.text.proofs.scan.find_far.Goals as goal

pub loop-start-preserved : goal.loop-start-preserved
loop-start-preserved c = past_all _ _ _ _ c.loop-start.invariant (c.is_past.ensures c.if-not-is_past.false) (omega arith) (omega arith)
