use Rattle.slot.specs.Slot.{live_permission}
use Rattle.slot.proofs.permissions.permission_is_live.Goals as goal

pub returns : goal.returns
unfolding live_permission
returns c = rw c.is_live.ensures
