use Rattle.client_reader.proofs.responses.unknown_response.Goals as goal

pub returns : goal.returns
returns c = rw (← c.transaction_id-id.ensures) c.compared.ensures
