use Rattle.turn_client_laws.proofs.Common.{refl}
use Rattle.turn_client_laws.proofs.Machine.{refresh_time}
use Rattle.turn_client_laws.proofs.rows.delete_is_one_request.Goals as goal

pub returns : goal.returns
unfolding refresh_time
returns c = record {
  one = λ s. refl;
  purposes = λ s. refl;
  unused = λ s. refl;
  waits = λ to text s. refl;
  ends = λ to text s. refl;
  empty = λ to text s. refl;
}
