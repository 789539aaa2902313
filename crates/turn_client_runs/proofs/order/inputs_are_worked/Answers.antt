use Rattle.turn_client_laws.proofs.Common.{refl}
use Rattle.turn_client_laws.proofs.Machine.{attributes_from, fault_of, seen_after, steps_until_payload}
use Rattle.turn_client_laws.proofs.Laws.{inputs_taken}
use Rattle.turn_client_runs.proofs.order.inputs_are_worked.Goals as goal

pub returns : goal.returns
unfolding steps_until_payload inputs_taken fault_of attributes_from seen_after
returns c = record { taken = λ s. refl; held = λ s. refl }
