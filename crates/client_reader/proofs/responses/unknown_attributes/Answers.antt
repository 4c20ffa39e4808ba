use mathlib.Core.Path.{sym, ◌∙◌}
use borrow.Author.Rules.{rules}
use borrow.Author.Tests.{leb-true}
use Rattle.choice.proofs.Laws.{both_parts}
use Rattle.client_reader.specs.Inner.{unknown_fields, count_fits, checked}
use Rattle.client_reader.proofs.responses.unknown_attributes.Goals as goal

pub types_of-types-requires : goal.types_of-types-requires
unfolding count_fits
types_of-types-requires c =
    let p = both_parts _ _ (both_parts _ _ (sym c.count_fits.ensures ∙ c.if-count_fits.true)).1 in
    (leb-true _ _ p.0, leb-true _ _ p.1)

pub unknown_response-requires : goal.unknown_response-requires
unfolding count_fits
unknown_response-requires c =
    let p = both_parts _ _ (both_parts _ _ (sym c.count_fits.ensures ∙ c.if-count_fits.true)).1 in
    (leb-true _ _ p.0, search rules)

pub returns-then-all_below : goal.returns-then-all_below
unfolding unknown_fields
returns-then-all_below c = rw (← c.count_fits.ensures, c.if-count_fits.true, ← c.types_of-types.ensures, ← c.all_below.ensures, c.if-all_below.true) c.unknown_response.ensures

pub returns-then-count_fits : goal.returns-then-count_fits
unfolding unknown_fields checked
returns-then-count_fits c = rw (← c.count_fits.ensures, c.if-count_fits.true, ← c.types_of-types.ensures, ← c.all_below.ensures, c.if-all_below.false)

pub returns : goal.returns
unfolding unknown_fields checked
returns c = rw (← c.count_fits.ensures, c.if-count_fits.false)
