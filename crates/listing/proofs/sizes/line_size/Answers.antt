use Rattle.std.proofs.Common.{rules, ◌≡◌, ◌∙◌, length}
use Rattle.std.specs.Prelude.{sum_by}
use Rattle.listing.specs.Inner.{field_text, fields_text}
use Rattle.listing.proofs.Laws.{texts_size}
use Rattle.listing.proofs.sizes.line_size.Goals as goal

pub returns : goal.returns
unfolding fields_text
returns c = let total : c.sum.result ≡ sum_by (λ field. length (field_text field)) c.args.fields.now = search rules in total ∙ texts_size field_text 0 c.args.fields.now
