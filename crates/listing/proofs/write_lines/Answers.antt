-- At first no line is put; each turn puts those of one slot, for which there is room; and past the last slot the whole listing is put.
use Rattle.std.proofs.Common.{refl}
use Rattle.listing.proofs.Laws.{listing_start, lines_fit, putting_next, listing_put}
use Rattle.listing.proofs.write_lines.Goals as goal

pub loop-k-init : goal.loop-k-init
loop-k-init c = listing_start c.args.clock c.args.slots.now c.args.output.now

pub put_slot-place-requires : goal.put_slot-place-requires
put_slot-place-requires c = lines_fit c.args.clock c.loop-k.invariant _ c.loop-k-test.true refl c.requires

pub loop-k-preserved : goal.loop-k-preserved
loop-k-preserved c = putting_next c.loop-k.invariant _ c.loop-k-test.true refl c.put_slot-place.ensures

pub returns : goal.returns
returns c = listing_put c.args.clock c.loop-k.invariant c.loop-k-test.false
