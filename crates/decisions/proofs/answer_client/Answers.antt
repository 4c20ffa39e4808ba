use mathlib.Core.Path.{refl, ap}
use Rattle.decisions.specs.declared.client.Asked.TheVariants as Asked
use Rattle.allocation_rules.specs.Allocations.{refresh}
use Rattle.permission_rules.specs.Permissions.{create_permission, channel_bind}
use Rattle.decisions.specs.Inner.{is_data}
use Rattle.decisions.proofs.Laws.{stun_long, own_answers, client_dropped}
use Rattle.decisions.proofs.answer_client.Goals as goal

pub answer_allocate-requires : goal.answer_allocate-requires
answer_allocate-requires c = (c.requires.0.0, stun_long _ Asked.Allocate refl c.in-Allocate.is c.requires.0.1)

pub client_call-requires : goal.client_call-requires
client_call-requires c = c.requires.0.0.user

pub refresh-requires : goal.refresh-requires
refresh-requires c = rw c.client_call.ensures (stun_long _ Asked.Refresh refl c.in-Refresh.is c.requires.0.1, c.requires.0.0.room, c.requires.0.0.soon)

pub client_call-requires-in-CreatePermission : goal.client_call-requires-in-CreatePermission
client_call-requires-in-CreatePermission c = c.requires.0.0.user

pub create_permission-requires : goal.create_permission-requires
create_permission-requires c = rw c.client_call-in-CreatePermission.ensures (stun_long _ Asked.CreatePermission refl c.in-CreatePermission.is c.requires.0.1, c.requires.0.0.room, c.requires.0.0.soon)

pub client_call-requires-in-ChannelBind : goal.client_call-requires-in-ChannelBind
client_call-requires-in-ChannelBind c = c.requires.0.0.user

pub channel_bind-requires : goal.channel_bind-requires
channel_bind-requires c = rw c.client_call-in-ChannelBind.ensures (stun_long _ Asked.ChannelBind refl c.in-ChannelBind.is c.requires.0.1, c.requires.0.0.room, c.requires.0.0.soon)

pub returns-in-Allocate : goal.returns-in-Allocate
returns-in-Allocate c = rw c.in-Allocate.is c.answer_allocate.ensures

pub returns-in-Refresh : goal.returns-in-Refresh
returns-in-Refresh c = rw (c.in-Refresh.is, ← c.client_call.ensures) (λ slots l o. own_answers c.args.call Asked.Refresh (refresh c.client_call.result c.args.datagram.now) c.refresh.ensures slots o)

pub returns-in-CreatePermission : goal.returns-in-CreatePermission
returns-in-CreatePermission c = rw (c.in-CreatePermission.is, ← c.client_call-in-CreatePermission.ensures) (λ slots l o. own_answers c.args.call Asked.CreatePermission (create_permission c.client_call-in-CreatePermission.result c.args.datagram.now c.args.denied) c.create_permission.ensures slots o)

pub returns-in-ChannelBind : goal.returns-in-ChannelBind
returns-in-ChannelBind c = rw (c.in-ChannelBind.is, ← c.client_call-in-ChannelBind.ensures) (λ slots l o. own_answers c.args.call Asked.ChannelBind (channel_bind c.client_call-in-ChannelBind.result c.args.datagram.now c.args.denied) c.channel_bind.ensures slots o)

pub returns-in-Send : goal.returns-in-Send
returns-in-Send c =
    let y = ap is_data c.in-Send.is in
    rw c.answer_dropped.ensures (λ slots l o. client_dropped _ (c.requires.1 y) c.args.datagram.now _ c.args.call c.args.asked y slots o)

pub returns-in-ChannelData : goal.returns-in-ChannelData
returns-in-ChannelData c =
    let y = ap is_data c.in-ChannelData.is in
    rw c.answer_dropped-in-ChannelData.ensures (λ slots l o. client_dropped _ (c.requires.1 y) c.args.datagram.now _ c.args.call c.args.asked y slots o)

pub returns-in-Nothing : goal.returns-in-Nothing
returns-in-Nothing c =
    let y = ap is_data c.in-Nothing.is in
    rw c.answer_dropped-in-Nothing.ensures (λ slots l o. client_dropped _ (c.requires.1 y) c.args.datagram.now _ c.args.call c.args.asked y slots o)
