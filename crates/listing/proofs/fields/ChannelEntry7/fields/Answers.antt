use mathlib.Core.Path.{refl}
use Rattle.text.specs.Text.{line_text}
use Rattle.listing.specs.Texts.{texts}
use Rattle.listing.specs.Inner.{field_text, fields_text}
use Rattle.listing.specs.Listing.{channel_text}
use Rattle.listing.proofs.Laws.{channel_most}
use Rattle.listing.proofs.fields.ChannelEntry7.fields.Goals as goal

pub returns-clause-is : goal.returns-clause-is
unfolding line_text texts field_text fields_text channel_text
returns-clause-is c = refl

pub returns-clause-most : goal.returns-clause-most
returns-clause-most c h = let good = c.well_formed.0 in channel_most c.args.k c.args.self h good.1.1.0.1 good.1.1.1.0.1.1.1.0.1 good.1.1.1.1.0.1
