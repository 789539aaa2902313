use Rattle.turn_client_laws.proofs.Common.{refl}
use Rattle.turn_client_laws.proofs.Machine.{refresh_time, is_refresh_due}
use Rattle.turn_client_laws.proofs.kept.grants_are_let_go.Goals as goal

pub returns-clause-reported : goal.returns-clause-reported
unfolding refresh_time
returns-clause-reported c = λ s. refl

pub returns-clause-silent : goal.returns-clause-silent
unfolding refresh_time is_refresh_due
returns-clause-silent c = λ s. refl

pub returns-clause-again : goal.returns-clause-again
unfolding refresh_time is_refresh_due
returns-clause-again c = λ s. refl
