use Rattle.slot.specs.Slot.{live_allocation}
use Rattle.slot.proofs.allocations.allocation_is_live.Goals as goal

pub returns : goal.returns
unfolding live_allocation
returns c = rw c.is_live.ensures
