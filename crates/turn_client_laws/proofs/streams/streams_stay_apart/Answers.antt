use Rattle.turn_client_laws.proofs.StreamCallLemmas.{initial-apart}
use Rattle.turn_client_laws.proofs.StreamMemoryLemmas.{leaves-apart}
use Rattle.turn_client_laws.proofs.streams.streams_stay_apart.Goals as goal

pub returns-clause-initial : goal.returns-clause-initial
returns-clause-initial c = initial-apart

pub returns-clause-kept : goal.returns-clause-kept
returns-clause-kept c = leaves-apart
