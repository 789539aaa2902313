use Rattle.turn_client_laws.proofs.PhasesGoOn.{leaves-keeps}
use Rattle.turn_client_laws.proofs.steps.phases_go_on.Goals as goal

pub returns : goal.returns
returns c = λ call s t leaves. (leaves-keeps call s t leaves).3
