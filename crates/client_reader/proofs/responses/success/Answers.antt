use Rattle.client_reader.proofs.responses.success.Goals as goal

pub returns-in-Allocate : goal.returns-in-Allocate
returns-in-Allocate c = rw c.in-Allocate.is c.allocate_success.ensures

pub returns-in-Refresh : goal.returns-in-Refresh
returns-in-Refresh c = rw c.in-Refresh.is c.refresh_success.ensures

pub returns-in-CreatePermission : goal.returns-in-CreatePermission
returns-in-CreatePermission c = rw c.in-CreatePermission.is c.bare_success.ensures

pub returns-in-ChannelBind : goal.returns-in-ChannelBind
returns-in-ChannelBind c = rw c.in-ChannelBind.is c.bare_success-in-ChannelBind.ensures
