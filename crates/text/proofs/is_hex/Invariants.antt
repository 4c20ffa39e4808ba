use Rattle.text.proofs.Laws.{Testing}
use Rattle.text.proofs.is_hex.Given as goal

abbrev pub invariant-loop-c : goal.invariant-loop-c
invariant-loop-c l = Testing l.s l.c-index l.good
