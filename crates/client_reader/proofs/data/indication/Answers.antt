use mathlib.Core.Path.{◌≡◌, sym, ◌∙◌}
use mathlib.Core.Bool.{true}
use borrow.Author.Tests.{le-leb, lt-leb, leb-true}
use Rattle.wire.specs.Wire.{num}
use Rattle.choice.proofs.Laws.{both_parts}
use Rattle.client_reader.specs.Inner.{data_fits, indication_fields, checked}
use Rattle.client_reader.proofs.Same.{checked_if}
use Rattle.client_reader.proofs.data.indication.Goals as goal

pub returns-then-s-lt36 : goal.returns-then-s-lt36
unfolding indication_fields checked
returns-then-s-lt36 c = rw (lt-leb _ _ c.if-s-lt36.true)

pub is_indication-requires : goal.is_indication-requires
unfolding data_fits
is_indication-requires c =
    let p = both_parts _ _ (sym c.data_fits.ensures ∙ c.if-data_fits.true) in
    (c.at-len.ensures, leb-true _ _ p.0, leb-true _ _ p.1)

pub returns-then-data_fits : goal.returns-then-data_fits
unfolding indication_fields
returns-then-data_fits c =
    let s = c.args.s.now in
    let fits : data_fits 36 (num s 34 2) s ≡ true = rw (← c.at-len.ensures) (sym c.data_fits.ensures ∙ c.if-data_fits.true) in
    let fields = rw (c.transaction_id.ensures, c.at.ensures, c.at-then-data_fits.ensures, c.at-len.ensures) at c.then_some.ensures in
    rw (le-leb _ _ c.if-s-lt36.false, fits) (checked_if _ _ fields c.is_indication.ensures)

pub returns : goal.returns
unfolding indication_fields checked
returns c = rw (le-leb _ _ c.if-s-lt36.false, ← c.at-len.ensures, ← c.data_fits.ensures, c.if-data_fits.false)
