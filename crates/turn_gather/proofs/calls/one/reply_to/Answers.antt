use Rattle.turn_gather.proofs.calls.one.reply_to.Goals as goal

pub returns-in-CreatePermission : goal.returns-in-CreatePermission
returns-in-CreatePermission g c = rw c.in-CreatePermission.is c.create_permission.ensures.answer
