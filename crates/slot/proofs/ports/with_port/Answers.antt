use native.Mathlib.Omega.{arith}
use Rattle.slot.proofs.Bits.{low_set, high_set}
use Rattle.slot.proofs.ports.with_port.Goals as goal

pub returns-then-k-lt64 : goal.returns-then-k-lt64
returns-then-k-lt64 c = low_set c.args.ports c.args.k c.with_bit.result (omega arith) c.with_bit.ensures

pub returns : goal.returns
returns c = high_set c.args.ports c.args.k c.with_bit-2.result (omega arith) c.with_bit-2.ensures
