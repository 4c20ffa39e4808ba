use Rattle.client_reader.specs.Inner.{bare_fields}
use Rattle.client_reader.proofs.responses.bare_success.Goals as goal

pub returns : goal.returns
unfolding bare_fields
returns c = rw (← c.transaction_id-id.ensures) c.compared.ensures
