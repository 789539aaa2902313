use Rattle.turn_client_laws.proofs.Common.{refl}
use Rattle.turn_client_laws.proofs.Machine.{attributes_from, fault_of, seen_after, steps_until_payload}
use Rattle.turn_client_laws.proofs.received.pieces_are_cut.Goals as goal

pub returns : goal.returns
unfolding steps_until_payload fault_of attributes_from seen_after
returns c = record {
  frame = λ s. refl;
  half = λ s. refl;
  joined = λ s. refl;
  second = λ s. refl;
  message = λ s. refl;
  report = λ s. refl;
  unbroken = λ s. refl;
  broken = λ s. refl;
  ended = λ s. refl;
  gone = λ s. refl;
}
