use Rattle.slot.specs.Slot.{channel_entry}
use Rattle.slot.specs.Search.{entry}
use Rattle.slot.proofs.Laws.{or_is}
use Rattle.slot.proofs.channels.channel_entry.Goals as goal

pub returns : goal.returns
unfolding channel_entry entry
returns c = rw (c.or.ensures, or_is, c.lowest_free-free.ensures, c.channel_by_number-live.ensures)
