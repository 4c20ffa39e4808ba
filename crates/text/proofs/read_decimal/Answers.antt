use mathlib.Core.Path.{◌∙◌}
use Rattle.text.proofs.Laws.{decimal_none, decimal_short, decimal_long}
use Rattle.text.proofs.read_decimal.Goals as goal

pub returns-in_err-n : goal.returns-in_err-n
returns-in_err-n c = c.from_residual.ensures ∙ decimal_none _ c.number.ensures c.in_err-n.was

pub returns-then-decimal_size-s : goal.returns-then-decimal_size-s
returns-then-decimal_size-s c = decimal_short _ c.number.ensures c.in_ok-n.was c.decimal_size.ensures.0 c.if-decimal_size-s.true

pub returns-else-decimal_size-s : goal.returns-else-decimal_size-s
returns-else-decimal_size-s c = decimal_long _ c.number.ensures c.in_ok-n.was c.decimal_size.ensures.0 c.if-decimal_size-s.false
