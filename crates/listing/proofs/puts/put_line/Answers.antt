use mathlib.Core.Path.{refl}
use native.Mathlib.Omega.{arith}
use Rattle.listing.specs.Inner.{fields_text}
use Rattle.listing.proofs.Laws.{putting_start, putting_fits, putting_next, putting_end}
use Rattle.listing.proofs.puts.put_line.Goals as goal

pub loop-field-init : goal.loop-field-init
loop-field-init c = putting_start _ _ _ (omega arith)

pub put_field-next-requires : goal.put_field-next-requires
unfolding fields_text
put_field-next-requires c = putting_fits c.loop-field.invariant _ c.loop-field-test.true refl c.requires

pub loop-field-preserved : goal.loop-field-preserved
loop-field-preserved c = putting_next c.loop-field.invariant _ c.loop-field-test.true refl c.put_field-next.ensures

pub returns : goal.returns
unfolding fields_text
returns c = putting_end c.loop-field.invariant (omega arith)
