use Rattle.slot.specs.Slot.{permission_entry}
use Rattle.slot.specs.Search.{entry}
use Rattle.slot.proofs.Laws.{or_is}
use Rattle.slot.proofs.permissions.permission_entry.Goals as goal

pub returns : goal.returns
unfolding permission_entry entry
returns c = rw (c.or.ensures, or_is, c.lowest_free-free.ensures, c.find_permission-live.ensures)
