use Prim.Native.Nat.{◌+◌}
use native.Mathlib.Omega.{arith}
use borrow.Author.Tests.{ne_eqb}
use Rattle.slot.specs.Inner.{held_in}
use Rattle.slot.proofs.Bits.{length_held}
use Rattle.table.proofs.Laws.{unmarked, mark_at}
use Rattle.table.proofs.surveys.mark.Goals as goal

pub returns-then-port-ne384 : goal.returns-then-port-ne384
returns-then-port-ne384 c k h = unmarked _ (ne_eqb c.args.port (49152 + k) (λ e. c.if-port-ne384.true (omega arith)))

pub returns : goal.returns
returns c k h =
    let ports = c.args.ports in
    mark_at (held_in ports) c.with_port.ensures (omega arith) (rw (length_held ports) (omega arith)) k
