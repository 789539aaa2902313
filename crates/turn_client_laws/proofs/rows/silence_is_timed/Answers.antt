use Rattle.turn_client_laws.proofs.Common.{refl}
use Rattle.turn_client_laws.proofs.Machine.{schedule}
use Rattle.turn_client_laws.specs.LawsRows.{polls_in_sequence}
use Rattle.turn_client_laws.proofs.rows.silence_is_timed.Goals as goal

pub returns : goal.returns
unfolding polls_in_sequence schedule
returns c = record {
  default = λ text s. refl;
  set = λ text s. refl;
  tcp = λ text s. refl;
  tcp_set = λ text s. refl;
}
