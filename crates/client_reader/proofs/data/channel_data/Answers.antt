use mathlib.Core.Path.{◌≡◌, sym, ◌∙◌}
use mathlib.Core.Bool.{true}
use borrow.Author.Tests.{leb-true}
use Rattle.wire.specs.Wire.{num}
use Rattle.choice.proofs.Laws.{both_parts}
use Rattle.client_reader.specs.Inner.{data_fits, channel_fields, checked}
use Rattle.client_reader.proofs.Same.{checked_if}
use Rattle.client_reader.proofs.Around.{channel_same}
use Rattle.client_reader.proofs.data.channel_data.Goals as goal

pub returns-then-data_fits : goal.returns-then-data_fits
unfolding channel_fields data_fits
returns-then-data_fits c =
    let s = c.args.s.now in
    let fits : data_fits 4 (num s 2 2) s ≡ true = rw (← c.at-len.ensures) (sym c.data_fits.ensures ∙ c.if-data_fits.true) in
    let same = channel_same s (λ i. (c.type_inv.s i).fits) (leb-true _ _ (both_parts _ _ fits).1) _ c.at-len.ensures in
    rw fits (checked_if _ s (rw (c.at.ensures, c.at-len.ensures) at c.then_some.ensures) (rw c.at-len.ensures at same))

pub returns : goal.returns
unfolding channel_fields data_fits checked
returns c = rw (← c.at-len.ensures, ← c.data_fits.ensures, c.if-data_fits.false)
