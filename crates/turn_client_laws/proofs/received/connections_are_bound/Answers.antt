use Rattle.turn_client_laws.proofs.Common.{refl}
use Rattle.turn_client_laws.proofs.Machine.{attributes_from, fault_of, seen_after, steps_until_payload}
use Rattle.turn_client_laws.proofs.received.connections_are_bound.Goals as goal

pub returns : goal.returns
unfolding steps_until_payload fault_of attributes_from seen_after
returns c = record {
  bound = λ s. refl;
  handled = λ byte text s. refl;
  behind = λ byte text s e. rw e refl;
  event = λ byte text s e. rw e refl;
  refused = λ byte text s e. rw e refl;
  failed = λ byte text s e. rw e refl;
  silent = λ byte text s e. rw e refl;
}
