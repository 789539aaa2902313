use Rattle.turn_client_runs.proofs.ReportedRuns.{causes-reported-once}
use Rattle.turn_client_runs.proofs.reported.causes_are_reported_once.Goals as goal

pub returns : goal.returns
returns c = causes-reported-once
