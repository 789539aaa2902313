use Rattle.turn_client_laws.proofs.Common.{refl}
use Rattle.turn_client_laws.proofs.Machine.{channel_fault_of, fault_of, is_refresh_due, refresh_time}
use Rattle.turn_client_runs.proofs.calm.traffic_is_worked.Goals as goal

pub returns : goal.returns
unfolding channel_fault_of fault_of refresh_time is_refresh_due
returns c = record { before = λ s. refl; after = λ s. refl; silent = λ s. refl }
