use Prim.Native.Nat.{◌-◌}
use lib.ListN.{length}
use Rattle.text.proofs.Laws.{NotBefore}
use Rattle.text.proofs.scan.find_far.Given as goal

abbrev pub invariant-loop-start : goal.invariant-loop-start
invariant-loop-start l = NotBefore l.a l.b l.start

abbrev pub decreases-loop-start : goal.decreases-loop-start
decreases-loop-start l = length l.a - l.start
