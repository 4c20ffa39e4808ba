use Rattle.lines.proofs.Read.{address_barred, address_none, address_good}
use Rattle.lines.proofs.fields.address_field.Goals as goal

pub returns-in_err-field : goal.returns-in_err-field
returns-in_err-field c = rw c.from_residual.ensures (address_barred _ c.in_err-field.ensures)

pub returns-in_err-address : goal.returns-in_err-address
returns-in_err-address c = rw c.from_residual-in_err-address.ensures (address_none _ c.in_ok-field.ensures c.read_address.ensures c.in_err-address.was)

pub returns : goal.returns
returns c = address_good _ c.in_ok-field.ensures c.read_address.ensures c.in_ok-address.was
