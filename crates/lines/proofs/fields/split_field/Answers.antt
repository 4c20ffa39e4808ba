use Rattle.lines.proofs.Read.{split_none, split_some}
use Rattle.lines.proofs.fields.split_field.Goals as goal

pub returns-then-end-left : goal.returns-then-end-left
returns-then-end-left c = split_some _ c.find_far-end.ensures.0 c.if-end-left.true

pub returns-else-end-left : goal.returns-else-end-left
returns-else-end-left c = split_none _ c.find_far-end.ensures.0 c.if-end-left.false
