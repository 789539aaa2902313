use Rattle.turn_client_laws.proofs.Common.{refl}
use Rattle.turn_client_laws.proofs.rows.failures_jump.Goals as goal

pub returns-clause-events : goal.returns-clause-events
returns-clause-events c = λ to text s. refl

pub returns-clause-now : goal.returns-clause-now
returns-clause-now c = λ to text s. refl
