use Rattle.turn_client_laws.proofs.Common.{Some, ap, refl, List, ℕ}
use Rattle.turn_client_laws.proofs.Machine.{ForPermission, fresh_id}
use Rattle.turn_client_laws.proofs.Laws.{ip_of_peer}
use Rattle.turn_client_runs.specs.LeavingRows.{holding}
use Rattle.turn_client_runs.proofs.LeavingTexts.{request-is}
use Rattle.turn_client_runs.proofs.leaving.messages_are_worked.Goals as goal

pub returns : goal.returns
returns c = record {
  first = λ s. refl;
  signed = λ challenge s. ap (λ (bytes : List ℕ). Some bytes) (request-is (holding challenge s) challenge refl (ForPermission ip_of_peer) (fresh_id (holding challenge s)));
}
