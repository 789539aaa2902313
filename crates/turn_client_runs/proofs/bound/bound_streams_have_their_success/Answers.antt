use Rattle.turn_client_runs.proofs.BoundLemmas.{streams-are-bound-before, streams-have-success}
use Rattle.turn_client_runs.proofs.bound.bound_streams_have_their_success.Goals as goal

pub returns-clause-after : goal.returns-clause-after
returns-clause-after c = streams-have-success

pub returns-clause-before : goal.returns-clause-before
returns-clause-before c = streams-are-bound-before
