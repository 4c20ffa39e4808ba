use native.Mathlib.Omega.{arith}
use Rattle.text.proofs.Laws.{size_of_zero, size_is}
use Rattle.text.proofs.decimal_size.Goals as goal

pub returns-then-n-eq0 : goal.returns-then-n-eq0
returns-then-n-eq0 c = (size_of_zero c.if-n-eq0.true, omega arith)

pub returns : goal.returns
returns c = (size_is _ _ c.ilog10.ensures.power_le c.ilog10.ensures.next_power_gt, omega (arith, c.ilog10.ensures.bound))
