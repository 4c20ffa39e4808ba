use Rattle.slot.specs.Search.{at_or}
use Rattle.slot.proofs.channels.channel_at.Goals.{in_default-via-in-Some+else-i-lt8, in_default-via-in_default}
use Rattle.slot.proofs.channels.channel_at.Goals as goal
use native.Mathlib.Omega.{arith}
use mathlib.Core.Path.{◌∙◌}
use Rattle.slot.proofs.Laws.{at_past}

pub returns-in-Some : goal.returns-in-Some
unfolding at_or
returns-in-Some c = rw c.in-Some.is

pub returns-in_default : goal.returns-in_default
unfolding at_or
returns-in_default c = c.fresh_channel.ensures ∙ elim c.in_default.branch [ in_default-via-in-Some+else-i-lt8 w ↦ at_past _ _ w.in-Some.is (omega arith) | in_default-via-in_default w ↦ rw w.in_default.is ]
