use native.Mathlib.Nat.{add_assoc}
use native.Mathlib.Omega.{arith}
use Rattle.wire.specs.Wire.{num}
use Rattle.wire.proofs.U32Number.at.Goals as goal

pub returns : goal.returns
unfolding num
returns c = simp add_assoc (omega arith)
