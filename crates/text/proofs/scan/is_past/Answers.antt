use Rattle.choice.proofs.Laws.{and_both}
use Rattle.text.proofs.Laws.{past_none, past_more}
use Rattle.text.proofs.scan.is_past.Goals as goal

pub loop-c-init : goal.loop-c-init
loop-c-init c = λ _. past_none _

pub loop-c-preserved : goal.loop-c-preserved
loop-c-preserved c = past_more _ _ c.loop-c.c-index c.loop-c.invariant (c.loop-c-test.true) (and_both _ _)
