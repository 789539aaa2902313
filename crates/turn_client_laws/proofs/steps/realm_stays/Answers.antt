use Rattle.turn_client_laws.proofs.PhasesGoOn.{leaves-keeps}
use Rattle.turn_client_laws.proofs.steps.realm_stays.Goals as goal

pub returns : goal.returns
returns c = λ call s t leaves. (leaves-keeps call s t leaves).2
