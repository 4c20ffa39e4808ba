use mathlib.Core.Path.{refl}
use Rattle.text.specs.Text.{line_text}
use Rattle.listing.specs.Texts.{texts}
use Rattle.listing.specs.Inner.{field_text, fields_text}
use Rattle.listing.specs.Listing.{allocation_line}
use Rattle.listing.proofs.Laws.{allocation_most}
use Rattle.listing.proofs.fields.AllocationEntry10.fields.Goals as goal

pub returns-clause-is : goal.returns-clause-is
unfolding line_text texts field_text fields_text allocation_line
returns-clause-is c = refl

pub returns-clause-most : goal.returns-clause-most
returns-clause-most c h = let good = c.well_formed.0 in allocation_most c.args.k c.args.self h good.1.1.0.1 good.1.1.1.0.1.1.0.1.1.1.0.1 good.1.1.1.0.1.1.1.0.1.1.1.0.1 good.1.1.1.1.0.1 good.1.1.1.1.1.0.1
