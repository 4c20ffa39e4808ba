use Prim.Native.Nat.{◌-◌}
use Rattle.slot.specs.Inner.{held_in}
use Rattle.allocation_rules.specs.Allocations.{first_free}
use Rattle.allocation_rules.proofs.Laws.{Tried}
use Rattle.allocation_rules.proofs.ports.port_for.Given as goal

abbrev pub invariant-loop-i : goal.invariant-loop-i
invariant-loop-i l = Tried (held_in l.held) l.start (first_free 128 (held_in l.held) l.start) l.i

abbrev pub decreases-loop-i : goal.decreases-loop-i
decreases-loop-i l = 128 - l.i
