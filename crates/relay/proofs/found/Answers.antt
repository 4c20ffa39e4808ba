use mathlib.Core.Path.{refl}
use Rattle.slot.specs.Search.{at_or}
use Rattle.relay.proofs.found.Goals as goal

pub returns-in-Some : goal.returns-in-Some
unfolding at_or
returns-in-Some c = rw c.in-Some.is (record { there = refl; slot = c.slot_at.ensures })

pub returns-in-None : goal.returns-in-None
unfolding at_or
returns-in-None c = rw c.in-None.is (record { there = refl; slot = refl })
