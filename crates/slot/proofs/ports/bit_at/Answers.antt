use mathlib.Core.Path.{sym}
use native.Mathlib.Omega.{arith}
use Rattle.slot.proofs.Bits.{bit_is}
use Rattle.slot.proofs.ports.bit_at.Goals as goal

pub returns : goal.returns
returns c = sym (bit_is 64 c.args.word c.args.k (omega arith))
