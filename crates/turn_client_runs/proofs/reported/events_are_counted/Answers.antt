use Rattle.turn_client_laws.proofs.Common.{refl}
use Rattle.turn_client_laws.proofs.Machine.{seen_after, attributes_from, fault_of, steps_until_payload}
use Rattle.turn_client_laws.proofs.Laws.{inputs_taken}
use Rattle.turn_client_runs.proofs.reported.events_are_counted.Goals as goal

pub returns-clause-ended : goal.returns-clause-ended
returns-clause-ended c = λ transport local remote config seed e. rw e refl

pub returns-clause-before : goal.returns-clause-before
returns-clause-before c = λ s. refl

pub returns-clause-reported : goal.returns-clause-reported
returns-clause-reported c = λ s. refl

pub returns-clause-requested : goal.returns-clause-requested
returns-clause-requested c = λ s. refl

pub returns-clause-after : goal.returns-clause-after
returns-clause-after c = λ s. refl

pub returns-clause-joining : goal.returns-clause-joining
returns-clause-joining c = λ s. refl

pub returns-clause-failed : goal.returns-clause-failed
returns-clause-failed c = λ s. refl

pub returns-clause-over : goal.returns-clause-over
returns-clause-over c = λ s. refl

pub returns-clause-joined : goal.returns-clause-joined
returns-clause-joined c = λ s. refl

pub returns-clause-attempt : goal.returns-clause-attempt
unfolding attributes_from fault_of seen_after steps_until_payload inputs_taken
returns-clause-attempt c = λ s. refl

pub returns-clause-offered : goal.returns-clause-offered
unfolding attributes_from fault_of seen_after steps_until_payload
returns-clause-offered c = λ s. refl
