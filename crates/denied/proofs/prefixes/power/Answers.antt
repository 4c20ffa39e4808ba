use native.Mathlib.Omega.{arith}
use native.Mathlib.Nat.{one-mul}
use lib.Pow.{shl_exact}
use Rattle.denied.proofs.prefixes.power.Goals as goal

pub returns : goal.returns
returns c = rw (shl_exact {a = 1} 1 c.args.n 64 (omega arith) (omega arith), one-mul)
