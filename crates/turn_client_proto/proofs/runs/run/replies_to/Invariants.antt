use Rattle.std.proofs.Common.{◌≡◌, ◌++◌, drop}
use Rattle.turn_client_calls.specs.Run.{replies_of}
use Rattle.turn_client_proto.proofs.runs.run.replies_to.Given as goal
use Rattle.turn_client_api.specs.Steps.{state_after_all}

abbrev pub invariant-loop-call : goal.invariant-loop-call
invariant-loop-call g l = record {
  replies : l.replies.items ++ replies_of (g.C.TurnClientApi.state l.client) (drop l.call-index l.calls) ≡ replies_of (g.C.TurnClientApi.state l.fn.client) l.calls;
  relays : (g.C.TurnClientApi.state l.client).config.allocation_transport ≡ (g.C.TurnClientApi.state l.fn.client).config.allocation_transport;
  client : state_after_all (g.C.TurnClientApi.state l.client) (drop l.call-index l.calls) ≡ state_after_all (g.C.TurnClientApi.state l.fn.client) l.calls;
}
