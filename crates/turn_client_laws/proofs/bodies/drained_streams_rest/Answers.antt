use Rattle.turn_client_laws.proofs.RestingStreamLemmas.{poll_recv-handles_nothing, poll_recv-rests}
use Rattle.turn_client_laws.proofs.bodies.drained_streams_rest.Goals as goal

pub returns-clause-step : goal.returns-clause-step
returns-clause-step c = poll_recv-rests

pub returns-clause-handled : goal.returns-clause-handled
returns-clause-handled c = poll_recv-handles_nothing
