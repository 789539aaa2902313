use Rattle.turn_client_laws.proofs.Common.{refl}
use Rattle.turn_client_laws.proofs.Machine.{is_refresh_due, refresh_time}
use Rattle.turn_client_runs.proofs.tried.tries_are_worked.Goals as goal

pub returns : goal.returns
unfolding refresh_time is_refresh_due
returns c = record {
  early = λ text s. refl;
  again = λ text s. refl;
  kept = λ text s. refl;
  waits = λ text s. refl;
  over = λ text s. refl;
}
