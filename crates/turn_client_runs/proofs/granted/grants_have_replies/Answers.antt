use Rattle.turn_client_runs.proofs.RunGrants.{grants-have-replies}
use Rattle.turn_client_runs.proofs.granted.grants_have_replies.Goals as goal

pub returns : goal.returns
returns c = grants-have-replies
