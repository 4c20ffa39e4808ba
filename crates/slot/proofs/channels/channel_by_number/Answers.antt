use Rattle.std.proofs.Common.{rules}
use Rattle.std.proofs.lemmas.Iterator.{YieldsList-from_slice}
use Rattle.slot.specs.Slot.{numbered}
use Rattle.slot.proofs.Laws.{found_by}
use Rattle.slot.proofs.channels.channel_by_number.Goals as goal

pub returns : goal.returns
returns c = found_by (numbered c.args.time c.args.number) _ c.position.ensures.ran (YieldsList-from_slice c.args.channels cc) (λ x b q k. search rules)
