use Rattle.turn_client_laws.proofs.AnyStreamsLemmas.{message-alike}
use Rattle.turn_client_laws.proofs.FrameRestLemmas.{frame-bytes}
use Rattle.turn_client_laws.proofs.inputs.messages_leave_streams.Goals as goal

pub returns-clause-message : goal.returns-clause-message
returns-clause-message c = message-alike

pub returns-clause-frame : goal.returns-clause-frame
returns-clause-frame c = λ local bytes frame stream now s. frame-bytes local bytes stream frame now s
