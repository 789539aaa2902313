use Rattle.turn_client_calls.proofs.plain.plain_reply_to.Goals as goal

pub returns-in-CreatePermission-clause-ok : goal.returns-in-CreatePermission-clause-ok
returns-in-CreatePermission-clause-ok g c = rw c.in-CreatePermission.is c.create_permission.ensures.ok

pub returns-in-CreatePermission-clause-no_memory : goal.returns-in-CreatePermission-clause-no_memory
returns-in-CreatePermission-clause-no_memory g c =
    rw c.in-CreatePermission.is c.create_permission.ensures.no_memory

pub returns-in-BindChannel-clause-ok : goal.returns-in-BindChannel-clause-ok
returns-in-BindChannel-clause-ok g c = rw c.in-BindChannel.is c.bind_channel.ensures.ok

pub returns-in-BindChannel-clause-no_memory : goal.returns-in-BindChannel-clause-no_memory
returns-in-BindChannel-clause-no_memory g c = rw c.in-BindChannel.is c.bind_channel.ensures.no_memory

pub returns-in-SetPermissionKept-clause-ok : goal.returns-in-SetPermissionKept-clause-ok
returns-in-SetPermissionKept-clause-ok g c = rw c.in-SetPermissionKept.is c.set_permission_kept.ensures

pub returns-in-SetChannelKept-clause-ok : goal.returns-in-SetChannelKept-clause-ok
returns-in-SetChannelKept-clause-ok g c = rw c.in-SetChannelKept.is c.set_channel_kept.ensures
