use native.Mathlib.Omega.{arith}
use Rattle.listing.specs.Inner.{entries_text}
use Rattle.listing.proofs.Laws.{putting_start, putting_fits, putting_next, putting_end}
use Rattle.listing.proofs.puts.put_entries.Goals as goal

pub loop-entry-init : goal.loop-entry-init
loop-entry-init g c = putting_start _ _ _ (omega arith)

pub put_entry-next-requires-clause-fits : goal.put_entry-next-requires-clause-fits
unfolding entries_text
put_entry-next-requires-clause-fits g c = putting_fits c.loop-entry.invariant _ c.loop-entry-test.true c.entry-item.is c.requires.fits

pub loop-entry-preserved : goal.loop-entry-preserved
loop-entry-preserved g c = putting_next c.loop-entry.invariant _ c.loop-entry-test.true c.entry-item.is c.put_entry-next.ensures

pub returns : goal.returns
unfolding entries_text
returns g c = putting_end c.loop-entry.invariant (omega arith)
