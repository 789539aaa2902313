use Rattle.turn_client_laws.proofs.Common.{refl}
use Rattle.turn_client_laws.proofs.Machine.{refresh_time}
use Rattle.turn_client_runs.proofs.ends.ends_are_worked.Goals as goal

pub returns : goal.returns
unfolding refresh_time
returns c = record {
  told = λ transport local remote config seed e. rw e refl;
  pending = λ transport local remote config seed e. rw e refl;
  expired = λ s. refl;
  living = λ s. refl;
  replying = λ s. refl;
  closing = λ s. refl;
  shut = λ s. refl;
}
