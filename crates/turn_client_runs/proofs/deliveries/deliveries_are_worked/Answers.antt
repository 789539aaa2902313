use Rattle.turn_client_laws.proofs.Common.{refl}
use Rattle.turn_client_laws.proofs.Machine.{attributes_from, channel_fault_of, fault_of, seen_after, steps_until_payload}
use Rattle.turn_client_runs.proofs.deliveries.deliveries_are_worked.Goals as goal

pub returns : goal.returns
unfolding steps_until_payload fault_of attributes_from seen_after channel_fault_of
returns c = record { datagram = λ s. refl; first = λ s. refl; second = λ s. refl; last = λ s. refl; ungranted = λ s. refl }
