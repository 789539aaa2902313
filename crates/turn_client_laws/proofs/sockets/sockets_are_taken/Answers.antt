use Rattle.turn_client_laws.proofs.Common.{refl}
use Rattle.turn_client_laws.proofs.Machine.{schedule, refresh_time}
use Rattle.turn_client_laws.proofs.sockets.sockets_are_taken.Goals as goal

pub returns : goal.returns
unfolding schedule refresh_time
returns c = record {
  taken = λ s. refl;
  unknown = λ s. refl;
  answer = λ s. refl;
  streams = λ s. refl;
  deadline = λ s. refl;
  none = λ s. refl;
  expired = λ text s. refl;
  failed = λ text s. refl;
}
