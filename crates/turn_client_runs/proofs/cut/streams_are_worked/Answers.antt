use Rattle.turn_client_laws.proofs.Common.{refl}
use Rattle.turn_client_laws.proofs.Machine.{attributes_from, fault_of, seen_after, drained_at_most, steps_until_payload}
use Rattle.turn_client_runs.specs.Cut.{fed_pieces, polled_until_none}
use Rattle.turn_client_runs.proofs.cut.streams_are_worked.Goals as goal

pub returns : goal.returns
unfolding steps_until_payload fault_of attributes_from seen_after drained_at_most fed_pieces polled_until_none
returns c = record {
  whole = λ s. refl;
  cut = λ s. refl;
  rest = λ s. refl;
  broken = λ s. refl;
  gone = λ s. refl;
  bound = λ s. refl;
  bytes = λ s. refl;
  bind = λ byte text s e. rw e refl;
  before = λ byte text s e. rw e refl;
  failed = λ byte text s e. rw e refl;
}
