use mathlib.Core.Path.{refl}
use Rattle.choice.specs.Choice.{any}
use Rattle.data_rules.specs.Data.{unless_dropped, peer_cause, relay_from_peer}
use Rattle.rules.proofs.Laws.{gives_message}
use Rattle.data_rules.proofs.relay_from_peer.Goals as goal

pub returns-in_default : goal.returns-in_default
unfolding relay_from_peer peer_cause any unless_dropped
returns-in_default c = rw c.in_default.is (record { outcome_is = refl; reply_is = refl })

pub returns-then-is_ipv6 : goal.returns-then-is_ipv6
unfolding relay_from_peer peer_cause any unless_dropped
returns-then-is_ipv6 c = rw (c.in-Some.is, ← c.is_ipv6.ensures, c.if-is_ipv6.true) (record { outcome_is = refl; reply_is = refl })

pub returns-in-Live : goal.returns-in-Live
unfolding relay_from_peer peer_cause any unless_dropped
returns-in-Live c = rw (c.in-Some.is, ← c.is_ipv6.ensures, c.if-is_ipv6.false, ← c.permission_of.ensures, c.in-Live.is) (gives_message c.relay_data-len.ensures)

pub returns-in-Lapsed : goal.returns-in-Lapsed
unfolding relay_from_peer peer_cause any unless_dropped
returns-in-Lapsed c = rw (c.in-Some.is, ← c.is_ipv6.ensures, c.if-is_ipv6.false, ← c.permission_of.ensures, c.in-Lapsed.is) (record { outcome_is = refl; reply_is = refl })

pub returns-in-Never : goal.returns-in-Never
unfolding relay_from_peer peer_cause any unless_dropped
returns-in-Never c = rw (c.in-Some.is, ← c.is_ipv6.ensures, c.if-is_ipv6.false, ← c.permission_of.ensures, c.in-Never.is) (record { outcome_is = refl; reply_is = refl })
