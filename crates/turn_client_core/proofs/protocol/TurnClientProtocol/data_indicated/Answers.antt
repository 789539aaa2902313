use Rattle.turn_client_laws.proofs.Common.{refl}
use Rattle.turn_client_core.proofs.protocol.TurnClientProtocol.data_indicated.Goals as goal

pub returns-in-Some-clause-outcome : goal.returns-in-Some-clause-outcome
returns-in-Some-clause-outcome c = rw c.in-Some.ensures.message c.found_indicated.ensures.outcome

pub returns-in-None-clause-outcome : goal.returns-in-None-clause-outcome
returns-in-None-clause-outcome c = rw c.in-None.ensures.none refl
