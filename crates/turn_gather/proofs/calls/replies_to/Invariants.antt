use Rattle.turn_client_laws.proofs.Common.{◌≡◌, ◌++◌, drop}
use Rattle.turn_gather.specs.Drive.{all_replies, after_all}
use Rattle.turn_gather.proofs.calls.replies_to.Given as goal

abbrev pub invariant-loop-call : goal.invariant-loop-call
invariant-loop-call g l = record {
  replies : l.replies.items ++ all_replies l.gatherer (drop l.call-index l.calls) ≡ all_replies l.fn.gatherer l.calls;
  gatherer : after_all l.gatherer (drop l.call-index l.calls) ≡ after_all l.fn.gatherer l.calls;
  relays : l.gatherer.client.config.allocation_transport ≡ l.fn.gatherer.client.config.allocation_transport;
}
