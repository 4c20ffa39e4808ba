use native.Mathlib.Omega.{arith}
use native.Mathlib.Nat.{one-mul}
use lib.Pow.{shl_exact}
use Rattle.slot.proofs.Bits.{bit_set}
use Rattle.slot.proofs.ports.with_bit.Goals as goal

pub returns : goal.returns
returns c = rw (shl_exact {a = 1} 1 c.args.k 64 (omega arith) (omega arith), one-mul) (bit_set 64 c.args.word c.args.k (omega arith))
