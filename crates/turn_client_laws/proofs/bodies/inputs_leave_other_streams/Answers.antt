use Rattle.turn_client_laws.proofs.OtherStreamLemmas.{frame-aside, step-aside}
use Rattle.turn_client_laws.proofs.bodies.inputs_leave_other_streams.Goals as goal

pub returns-clause-step : goal.returns-clause-step
returns-clause-step c = step-aside

pub returns-clause-frame : goal.returns-clause-frame
returns-clause-frame c = frame-aside
