use mathlib.Core.Path.{refl, ◌∙◌}
use Rattle.allocation_rules.specs.Allocations.{allocate}
use Rattle.slot.proofs.Laws.{has_is}
use Rattle.decisions.specs.declared.client.Asked.TheVariants as Asked
use Rattle.allocation_rules.specs.Inner.{room_in}
use Rattle.decisions.proofs.Laws.{surveyed, own_answers}
use Rattle.decisions.proofs.answer_allocate.Goals as goal

pub client_call-requires : goal.client_call-requires
client_call-requires c = c.requires.0.user

pub allocate-requires : goal.allocate-requires
allocate-requires c = rw c.client_call.ensures (c.requires.1, c.requires.0.room, c.requires.0.soon)

pub returns : goal.returns
returns c slots l o =
    rw (← surveyed c.args.call (l.room refl) (c.is_some.ensures ∙ has_is c.args.survey.free) c.port_for.ensures, ← c.client_call.ensures)
    (own_answers c.args.call Asked.Allocate (λ there slot. allocate c.client_call.result c.args.datagram.now (room_in (record { held = c.args.survey.held; free = c.is_some.result; port = c.port_for.result }) there) slot) c.allocate.ensures slots o)
