use Rattle.turn_client_laws.proofs.InputChainLemmas.{calls-do}
use Rattle.turn_client_laws.proofs.InputEndLemmas.{calls-end}
use Rattle.turn_client_laws.proofs.inputs.calls_process_inputs.Goals as goal

pub returns-clause-found : goal.returns-clause-found
returns-clause-found c = calls-do

pub returns-clause-none : goal.returns-clause-none
returns-clause-none c = calls-end
