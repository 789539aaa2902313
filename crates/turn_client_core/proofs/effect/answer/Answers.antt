use Rattle.turn_client_laws.proofs.Common.{ap}
use Rattle.turn_client_laws.proofs.Machine.{challenges_reset}
use Rattle.turn_client_core.proofs.effect.answer.Goals as goal

pub returns-in-ForPermission-clause-state : goal.returns-in-ForPermission-clause-state
returns-in-ForPermission-clause-state c = λ s.
    rw c.in-ForPermission.is (ap challenges_reset (c.permission_answered.ensures.state s))

pub returns-in-ForChannel-clause-state : goal.returns-in-ForChannel-clause-state
returns-in-ForChannel-clause-state c = λ s.
    rw c.in-ForChannel.is (ap challenges_reset (rw c.transaction_id.ensures at (c.channel_answered.ensures.state s)))
