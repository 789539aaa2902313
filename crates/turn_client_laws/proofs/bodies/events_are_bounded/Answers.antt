use Rattle.turn_client_laws.proofs.EventBoundLemmas.{poll-reports, poll-reports_families, most-failures}
use Rattle.turn_client_laws.proofs.bodies.events_are_bounded.Goals as goal

pub returns : goal.returns
returns c = record {
  granted = poll-reports;
  requested = poll-reports_families;
  most = most-failures;
}
