use Rattle.text.proofs.Laws.{Filling}
use Rattle.text.proofs.read_hex_bytes.Given as goal

abbrev pub invariant-loop-k : goal.invariant-loop-k
invariant-loop-k l = Filling l.s l.initial.out l.out l.k
