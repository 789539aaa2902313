use Rattle.turn_client_laws.proofs.Common.{refl, arith}
use Rattle.turn_client_laws.proofs.Machine.{refresh_time, is_refresh_due}
use Rattle.std.proofs.lemmas.Bool.Decides.{nat_tests}
use Rattle.turn_client_laws.proofs.rows.refreshes_are_ahead.Goals as goal

pub returns-clause-default : goal.returns-clause-default
returns-clause-default c = λ a. grind (arith, nat_tests)

pub returns-clause-default_permission : goal.returns-clause-default_permission
returns-clause-default_permission c = λ ip expiry. refl

pub returns-clause-default_channel : goal.returns-clause-default_channel
returns-clause-default_channel c = λ number expiry. refl

pub returns-clause-reported : goal.returns-clause-reported
unfolding refresh_time
returns-clause-reported c = λ s. refl

pub returns-clause-early : goal.returns-clause-early
unfolding refresh_time is_refresh_due
returns-clause-early c = λ s. refl

pub returns-clause-refresh : goal.returns-clause-refresh
unfolding refresh_time is_refresh_due
returns-clause-refresh c = λ s. refl

pub returns-clause-short : goal.returns-clause-short
unfolding refresh_time
returns-clause-short c = λ s. refl

pub returns-clause-permission : goal.returns-clause-permission
returns-clause-permission c = λ ip. refl

pub returns-clause-channel : goal.returns-clause-channel
returns-clause-channel c = λ number. refl

pub returns-clause-allocation : goal.returns-clause-allocation
unfolding refresh_time
returns-clause-allocation c = λ s. refl

pub returns-clause-granted : goal.returns-clause-granted
returns-clause-granted c = λ ahead now lifetime a range enough. omega (arith, range, enough)
