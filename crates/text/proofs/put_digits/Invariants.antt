use Rattle.text.proofs.Laws.{Writing}
use Rattle.text.proofs.put_digits.Given as goal

abbrev pub invariant-loop-i : goal.invariant-loop-i
invariant-loop-i l = Writing l.base l.width l.n l.initial.out l.out l.left l.i
