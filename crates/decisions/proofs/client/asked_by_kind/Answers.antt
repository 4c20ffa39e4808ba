use Rattle.decisions.proofs.client.asked_by_kind.Goals as goal

pub returns-in-Request : goal.returns-in-Request
returns-in-Request c = rw (c.in-Request.is, ← c.asked_by_request.ensures)
