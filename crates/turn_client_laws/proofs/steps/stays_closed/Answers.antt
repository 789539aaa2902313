use Rattle.turn_client_laws.proofs.PhasesGoOn.{closed-reported, leaves-keeps}
use Rattle.turn_client_laws.proofs.steps.stays_closed.Goals as goal

pub returns-clause-stays : goal.returns-clause-stays
returns-clause-stays c = λ call s t leaves. (leaves-keeps call s t leaves).0

pub returns-clause-reported : goal.returns-clause-reported
returns-clause-reported c = closed-reported
