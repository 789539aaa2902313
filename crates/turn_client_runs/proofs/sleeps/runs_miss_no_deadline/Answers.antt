use Rattle.turn_client_laws.proofs.Common.{refl}
use Rattle.turn_client_laws.proofs.Machine.{refresh_time}
use Rattle.turn_client_runs.proofs.SleepLemmas.{any-reports, run-sleeps}
use Rattle.turn_client_runs.proofs.sleeps.runs_miss_no_deadline.Goals as goal

pub returns-clause-found : goal.returns-clause-found
returns-clause-found c = run-sleeps

pub returns-clause-any : goal.returns-clause-any
returns-clause-any c = any-reports

pub returns-clause-marked : goal.returns-clause-marked
unfolding refresh_time
returns-clause-marked c = λ s. refl
