use native.Mathlib.Omega.{arith}
use mathlib.Core.Path.{sym, ◌∙◌}
use Rattle.decisions.specs.Client.{asked_by}
use Rattle.decisions.proofs.WellFormed.{well_formed_long}
use Rattle.decisions.proofs.client.asked_by.Goals as goal

pub at-requires : goal.at-requires
at-requires c = omega (arith, well_formed_long _ (sym c.well_formed-in-Stun.ensures ∙ c.if-well_formed.true))

pub returns-then-well_formed : goal.returns-then-well_formed
unfolding asked_by
returns-then-well_formed c = rw (← c.sort.ensures, c.in-Stun.is, ← c.well_formed-in-Stun.ensures, c.if-well_formed.true, ← c.at.ensures, ← c.of.ensures) c.asked_by_kind.ensures

pub returns-else-well_formed : goal.returns-else-well_formed
unfolding asked_by
returns-else-well_formed c = rw (← c.sort.ensures, c.in-Stun.is, ← c.well_formed-in-Stun.ensures, c.if-well_formed.false)

pub returns-in-ChannelData : goal.returns-in-ChannelData
unfolding asked_by
returns-in-ChannelData c = rw (← c.sort.ensures, c.in-ChannelData.is)

pub returns-in-Neither : goal.returns-in-Neither
unfolding asked_by
returns-in-Neither c = rw (← c.sort.ensures, c.in-Neither.is)
