use Rattle.lines.proofs.Read.{number_barred, number_none, number_over, number_good}
use Rattle.lines.proofs.fields.number_field.Goals as goal

pub returns-in_err-field-clause-value : goal.returns-in_err-field-clause-value
returns-in_err-field-clause-value c = rw c.from_residual.ensures (number_barred _ _ c.in_err-field.ensures)

pub returns-in_err-n-clause-value : goal.returns-in_err-n-clause-value
returns-in_err-n-clause-value c = rw c.from_residual-in_err-n.ensures (number_none _ _ c.in_ok-field.ensures c.read_decimal.ensures c.in_err-n.was)

pub returns-then-most-n-clause-value : goal.returns-then-most-n-clause-value
returns-then-most-n-clause-value c = number_over _ _ c.in_ok-field.ensures c.read_decimal.ensures c.in_ok-n.was c.if-most-n.true

pub returns-clause-value : goal.returns-clause-value
returns-clause-value c = number_good _ _ c.in_ok-field.ensures c.read_decimal.ensures c.in_ok-n.was c.if-most-n.false
