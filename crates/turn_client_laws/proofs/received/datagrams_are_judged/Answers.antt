use Rattle.turn_client_laws.proofs.Common.{refl}
use Rattle.turn_client_laws.proofs.Machine.{attributes_from, fault_of, seen_after, channel_fault_of}
use Rattle.turn_client_laws.proofs.received.datagrams_are_judged.Goals as goal

pub returns : goal.returns
unfolding fault_of attributes_from seen_after channel_fault_of
returns c = record {
  «data» = λ s. refl;
  frame = λ s. refl;
  short = λ s. refl;
  unbound = λ s. refl;
  unpermitted = λ s. refl;
  malformed = λ s. refl;
  unknown = λ s. refl;
}
