use Rattle.turn_client_laws.proofs.Common.{refl}
use Rattle.turn_client_runs.proofs.paced.first_copies_are_worked.Goals as goal

pub returns : goal.returns
returns c = record { worked = λ s. record { waits = refl; first = refl; pauses = refl; second = refl; passes = refl; drops = refl } }
