use Rattle.turn_client_laws.proofs.Common.{refl}
use Rattle.turn_client_laws.proofs.Machine.{attributes_from, seen_after}
use Rattle.turn_client_laws.proofs.sockets.peers_may_connect.Goals as goal

pub returns : goal.returns
unfolding attributes_from seen_after
returns c = record {
  offered = λ s. refl;
  reported = λ s. refl;
  again = λ s. refl;
  unpermitted = λ s. refl;
  asked = λ s byte e. rw e refl;
  refused = λ s byte e. rw e refl;
}
