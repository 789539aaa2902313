use Rattle.std.proofs.Common.{inr, refl}
use Rattle.std.proofs.lemmas.Result.{on_err_weaker}
use Rattle.turn_client_calls.proofs.call.reply_to.Goals as goal

pub returns-in-Permissions-clause-ok : goal.returns-in-Permissions-clause-ok
returns-in-Permissions-clause-ok g c = rw c.in-Permissions.is c.permissions.ensures.ok

pub returns-in-Permissions-clause-no_memory : goal.returns-in-Permissions-clause-no_memory
returns-in-Permissions-clause-no_memory g c =
    rw c.in-Permissions.is (on_err_weaker c.permissions.result (λ some. inr (some, refl)) c.permissions.ensures.wanted)
