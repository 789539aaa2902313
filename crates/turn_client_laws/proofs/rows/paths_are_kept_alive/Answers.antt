use Rattle.turn_client_laws.proofs.Common.{refl}
use Rattle.turn_client_laws.proofs.Machine.{refresh_time, is_refresh_due}
use Rattle.turn_client_laws.proofs.rows.paths_are_kept_alive.Goals as goal

pub returns : goal.returns
unfolding refresh_time is_refresh_due
returns c = record {
  reported = λ s. refl;
  early = λ s. refl;
  bytes = λ s. refl;
  after = λ s. refl;
  next = λ s. refl;
  paused = λ s. refl;
  refresh = λ s. refl;
  unallocated = λ s. refl;
  default = λ s. refl;
}
