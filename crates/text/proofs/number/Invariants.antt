use Rattle.text.proofs.Laws.{Reading}
use Rattle.text.proofs.number.Given as goal

abbrev pub invariant-loop-c : goal.invariant-loop-c
invariant-loop-c l = Reading l.base l.s l.n l.c-index
