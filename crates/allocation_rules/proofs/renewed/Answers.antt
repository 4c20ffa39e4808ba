use mathlib.Core.Path.{refl}
use Rattle.allocation_rules.specs.Allocations.{renewed}
use Rattle.allocation_rules.proofs.renewed.Goals as goal

pub returns : goal.returns
unfolding renewed
returns c = refl
