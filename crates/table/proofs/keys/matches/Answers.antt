use Rattle.table.specs.Inner.{keyed}
use Rattle.table.proofs.keys.matches.Goals as goal

pub returns-in-Client : goal.returns-in-Client
unfolding keyed
returns-in-Client c = rw (c.in-Client.is, ← c.holds.ensures)

pub returns-in-Port : goal.returns-in-Port
unfolding keyed
returns-in-Port c = rw (c.in-Port.is, ← c.holds_port.ensures)
