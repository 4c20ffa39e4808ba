use mathlib.Core.Path.{◌∙◌}
use Rattle.slot.proofs.Laws.{has_is}
use Rattle.data_rules.specs.Data.{relayed}
use Rattle.data_rules.proofs.relay_data.Goals as goal

pub returns-then-is_some : goal.returns-then-is_some
unfolding relayed
returns-then-is_some c = rw (← c.channel_by_peer-found.ensures, ← c.is_some.ensures ∙ has_is c.channel_by_peer-found.result, c.if-is_some.true, ← c.channel_at-channel.ensures) c.put_channel_data.ensures

pub returns : goal.returns
unfolding relayed
returns c = rw (← c.channel_by_peer-found.ensures, ← c.is_some.ensures ∙ has_is c.channel_by_peer-found.result, c.if-is_some.false, ← c.ipv4_of.ensures) c.put_data_indication.ensures
