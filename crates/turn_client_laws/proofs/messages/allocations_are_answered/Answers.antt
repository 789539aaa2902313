use Rattle.turn_client_laws.proofs.Common.{refl}
use Rattle.turn_client_laws.proofs.Machine.{attributes_from, fault_of, seen_after}
use Rattle.turn_client_laws.proofs.messages.allocations_are_answered.Goals as goal

pub returns : goal.returns
unfolding fault_of attributes_from seen_after
returns c = record {
  created = λ to text s byte e. rw e refl;
  grants = λ to text s byte e. rw e refl;
  phase = λ to text s byte e. rw e refl;
  one = λ to text s byte e. rw e refl;
  none = λ to text s byte e. rw e refl;
  closed = λ to text s byte e. rw e refl;
  denied = λ to text s byte e. rw e refl;
  families = λ to text s byte e. rw e refl;
  queued = λ to text s byte e. rw e refl;
  unsigned = λ to text s e. rw e refl;
}
