use Rattle.turn_client_laws.proofs.Common.{refl}
use Rattle.turn_client_laws.proofs.Machine.{attributes_from, fault_of, seen_after}
use Rattle.turn_client_laws.proofs.messages.grants_are_answered.Goals as goal

pub returns : goal.returns
unfolding fault_of attributes_from seen_after
returns c = record {
  permitted = λ to text s byte e. rw e refl;
  permission_reported = λ to text s byte e. rw e refl;
  unsigned = λ to text s e. rw e refl;
  copy = λ byte to text s e. rw e (rw e refl);
  bound = λ to text s byte e. rw e refl;
  channel_reported = λ to text s byte e. rw e refl;
  refused = λ to text s byte e. rw e refl;
  refusals = λ to text s byte e. rw e refl;
}
