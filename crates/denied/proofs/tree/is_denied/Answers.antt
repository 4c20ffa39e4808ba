use Rattle.denied.specs.Tree.{denied}
use native.Mathlib.Omega.{arith}
use Rattle.denied.proofs.tree.is_denied.Goals as goal

pub denied_below-requires : goal.denied_below-requires
denied_below-requires c = (omega arith, omega arith)

pub returns : goal.returns
unfolding denied
returns c = c.denied_below.ensures
