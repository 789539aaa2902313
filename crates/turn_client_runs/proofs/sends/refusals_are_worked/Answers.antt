use Rattle.turn_client_laws.proofs.Common.{refl}
use Rattle.turn_client_runs.proofs.sends.refusals_are_worked.Goals as goal

pub returns : goal.returns
returns c = record {
  told = λ s. refl;
  channel = λ s. refl;
  connection = λ s. refl;
  unpermitted = λ s. refl;
  unjoined = λ s. refl;
  expired = λ s. refl;
  relayed = λ s. refl;
}
