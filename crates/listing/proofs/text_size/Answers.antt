-- The size of the lines of no slot is 0; each turn adds those of one; and 64 slots have at most 73,856.
use Rattle.std.proofs.Common.{refl}
use Rattle.listing.proofs.Laws.{sizing_start, sizing_next, listing_sized}
use Rattle.listing.proofs.text_size.Goals as goal

pub loop-k-init : goal.loop-k-init
loop-k-init c = sizing_start 1154 c.args.slots.now

pub loop-k-preserved : goal.loop-k-preserved
loop-k-preserved c = sizing_next c.loop-k.invariant _ c.loop-k-test.true refl c.slot_size-size.ensures.0 c.slot_size-size.ensures.1

pub returns : goal.returns
returns c = listing_sized c.args.clock c.loop-k.invariant c.requires c.loop-k-test.false
