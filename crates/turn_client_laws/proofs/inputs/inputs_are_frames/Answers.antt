use Rattle.turn_client_laws.proofs.StepFrameLemmas.{step-IsInputOf}
use Rattle.turn_client_laws.proofs.inputs.inputs_are_frames.Goals as goal

pub returns : goal.returns
returns c = step-IsInputOf
