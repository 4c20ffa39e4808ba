use Rattle.text.proofs.Laws.{Hexing}
use Rattle.text.proofs.put_hex_bytes.Given as goal

abbrev pub invariant-loop-i : goal.invariant-loop-i
invariant-loop-i l = Hexing l.v l.initial.out l.out l.i
