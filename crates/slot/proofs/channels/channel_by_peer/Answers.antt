use Rattle.std.proofs.Common.{rules}
use Rattle.std.proofs.lemmas.Iterator.{YieldsList-from_slice}
use Rattle.slot.specs.Slot.{leads_to}
use Rattle.slot.proofs.Laws.{found_by}
use Rattle.slot.proofs.channels.channel_by_peer.Goals as goal

pub returns : goal.returns
returns c = found_by (leads_to c.args.time c.args.peer) _ c.position.ensures.ran (YieldsList-from_slice c.args.channels cc) (λ x b q k. search rules)
