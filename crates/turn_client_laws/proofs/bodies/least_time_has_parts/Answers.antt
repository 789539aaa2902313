use Rattle.turn_client_laws.proofs.WakeupPartLemmas.{due-parts}
use Rattle.turn_client_laws.proofs.bodies.least_time_has_parts.Goals as goal

pub returns : goal.returns
returns c = due-parts
