use native.Mathlib.Omega.{arith}
use Rattle.listing.specs.Inner.{entries_text}
use Rattle.listing.proofs.Laws.{sizing_start, sizing_next, sizing_end}
use Rattle.listing.proofs.sizes.entries_size.Goals as goal

pub loop-entry-init : goal.loop-entry-init
loop-entry-init g c = sizing_start g.E.Entry.most _

pub loop-entry-preserved : goal.loop-entry-preserved
loop-entry-preserved g c = sizing_next c.loop-entry.invariant _ c.loop-entry-test.true c.entry-item.is c.entry_size-size.ensures.0 c.entry_size-size.ensures.1

pub returns : goal.returns
unfolding entries_text
returns g c = (sizing_end c.loop-entry.invariant (omega arith), grind (arith, c.loop-entry.invariant.low, c.loop-entry.invariant.within, c.requires.fits.0))
