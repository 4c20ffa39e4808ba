use Rattle.wire.proofs.Laws.{wrote_then}
use Rattle.wire.proofs.put_at.Goals as goal

pub returns : goal.returns
returns g c A d a u = wrote_then u a c.put.ensures
