use Rattle.turn_client_laws.proofs.Common.{refl}
use Rattle.turn_client_laws.proofs.Machine.{attributes_from, fault_of, seen_after}
use Rattle.turn_client_laws.proofs.messages.refreshes_are_answered.Goals as goal

pub returns : goal.returns
unfolding fault_of attributes_from seen_after
returns c = record {
  longer = λ to text s byte e. rw e refl;
  shorter = λ to text s byte e. (rw e refl, rw e refl);
  deleted = λ to text s byte e. (rw e refl, rw e refl);
  mismatch = λ to text s byte e. (rw e refl, rw e refl);
  kept = λ to text s byte e. (rw e refl, rw e refl);
}
