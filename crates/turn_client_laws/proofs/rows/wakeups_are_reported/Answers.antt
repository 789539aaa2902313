use Rattle.turn_client_laws.proofs.Common.{refl}
use Rattle.turn_client_laws.proofs.Machine.{refresh_time}
use Rattle.turn_client_laws.proofs.rows.wakeups_are_reported.Goals as goal

pub returns : goal.returns
unfolding refresh_time
returns c = record {
  allocations = λ s. refl;
  permission = λ s. refl;
  expiry = λ s. refl;
  queued = λ s. refl;
  paused = λ s. refl;
  longer = λ s. refl;
  silent = λ s. refl;
  shorter = λ s. refl;
  at_once = λ s. refl;
  retry = λ text challenge s. refl;
}
