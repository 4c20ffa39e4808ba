use Rattle.allocation_rules.specs.Allocations.{allocated}
use Rattle.allocation_rules.proofs.allocated.Goals as goal

pub returns : goal.returns
unfolding allocated
returns c = rw c.fresh_slot.ensures
