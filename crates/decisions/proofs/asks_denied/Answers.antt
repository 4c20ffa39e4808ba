use mathlib.Core.Path.{refl}
use Rattle.decisions.specs.declared.client.Asked.TheVariants as Asked
use Rattle.decisions.proofs.Laws.{stun_long}
use Rattle.decisions.proofs.asks_denied.Goals as goal

pub any_denied-requires : goal.any_denied-requires
any_denied-requires c = stun_long _ Asked.CreatePermission refl c.in-CreatePermission.is c.requires

pub first_denied-requires : goal.first_denied-requires
first_denied-requires c = stun_long _ Asked.ChannelBind refl c.in-ChannelBind.is c.requires

pub returns-in-CreatePermission : goal.returns-in-CreatePermission
returns-in-CreatePermission c = rw c.in-CreatePermission.is c.any_denied.ensures

pub returns-in-ChannelBind : goal.returns-in-ChannelBind
returns-in-ChannelBind c = rw c.in-ChannelBind.is c.first_denied.ensures
