use mathlib.Core.Path.{refl}
use Rattle.decisions.specs.declared.client.Asked.TheVariants as Asked
use Rattle.rules.specs.Change.{keep}
use Rattle.data_rules.specs.Data.{send, send_channel_data}
use Rattle.data_rules.proofs.Laws.{send_quiet, channelled_quiet}
use Rattle.decisions.proofs.Laws.{stun_long, own_answers, quiet_gives, not_data}
use Rattle.rules.proofs.Laws.{gives_kept}
use Rattle.decisions.proofs.pass_client.Goals as goal

pub send-requires : goal.send-requires
send-requires c = stun_long _ Asked.Send refl c.in-Send.is c.requires.1

pub returns-in-Allocate : goal.returns-in-Allocate
returns-in-Allocate c = not_data c.in-Allocate.is refl

pub returns-in-Refresh : goal.returns-in-Refresh
returns-in-Refresh c = not_data c.in-Refresh.is refl

pub returns-in-CreatePermission : goal.returns-in-CreatePermission
returns-in-CreatePermission c = not_data c.in-CreatePermission.is refl

pub returns-in-ChannelBind : goal.returns-in-ChannelBind
returns-in-ChannelBind c = not_data c.in-ChannelBind.is refl

pub returns-in-Send : goal.returns-in-Send
returns-in-Send c y denied reply = rw (c.in-Send.is, ← c.client_call.ensures) (own_answers c.args.call Asked.Send (λ own slot. keep (send c.client_call.result c.args.datagram.now own slot)) (gives_kept (quiet_gives reply c.send.ensures (send_quiet _ _ _ _ _))))

pub returns-in-ChannelData : goal.returns-in-ChannelData
returns-in-ChannelData c y denied reply = rw (c.in-ChannelData.is, ← c.client_call-in-ChannelData.ensures) (own_answers c.args.call Asked.ChannelData (λ own slot. keep (send_channel_data c.client_call-in-ChannelData.result c.args.datagram.now own slot)) (gives_kept (quiet_gives reply c.send_channel_data.ensures (channelled_quiet _ _ _ _ _))))

pub returns-in-Nothing : goal.returns-in-Nothing
returns-in-Nothing c y denied reply = rw c.in-Nothing.is (λ slots o. gives_kept (quiet_gives _ refl refl))
