use Rattle.turn_client_laws.proofs.Common.{refl}
use Rattle.turn_client_laws.proofs.Machine.{attributes_from, fault_of, seen_after}
use Rattle.turn_client_laws.proofs.messages.connects_are_answered.Goals as goal

pub returns : goal.returns
unfolding fault_of attributes_from seen_after
returns c = record {
  offered = λ to text s byte e. rw e refl;
  refused = λ to text s byte e. rw e refl;
  reported = λ to text s byte e. rw e refl;
}
