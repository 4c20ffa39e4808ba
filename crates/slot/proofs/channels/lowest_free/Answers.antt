use Rattle.std.proofs.Common.{rules}
use Rattle.std.proofs.lemmas.Iterator.{YieldsList-from_slice}
use Rattle.slot.specs.Slot.{free_channel}
use Rattle.slot.proofs.Laws.{found_by}
use Rattle.slot.proofs.channels.lowest_free.Goals as goal

pub returns : goal.returns
unfolding free_channel
returns c = found_by (free_channel c.args.time) _ c.position.ensures.ran (YieldsList-from_slice c.args.channels cc) (λ x b q k. search rules)
