use mathlib.Core.Path.{◌≡◌}
use Rattle.stun.specs.Values.{peers}
use Rattle.stun.specs.Peers.{peers_left}
use Rattle.slot.specs.Inner.{made}
use Rattle.permission_rules.specs.Permissions.{permit_all}
use Rattle.permission_rules.proofs.permissions.permit_all.Given as goal

abbrev pub invariant-loop-value : goal.invariant-loop-value
invariant-loop-value l = made (permit_all l.time (peers l.s) l.fn.slot l.fn.slot) ≡ made (permit_all l.time (peers_left l.value-iterator) l.fn.slot l.done)
