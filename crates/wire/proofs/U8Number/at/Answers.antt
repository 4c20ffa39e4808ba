use native.Mathlib.Omega.{arith}
use Rattle.wire.specs.Wire.{num}
use Rattle.wire.proofs.U8Number.at.Goals as goal

pub returns : goal.returns
unfolding num
returns c = omega arith
