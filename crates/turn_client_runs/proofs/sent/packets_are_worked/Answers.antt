use Rattle.turn_client_laws.proofs.Common.{refl}
use Rattle.turn_client_runs.proofs.sent.packets_are_worked.Goals as goal

pub returns : goal.returns
returns c = record { bind = λ s. refl; channel = λ s. refl }
