use Rattle.std.proofs.Common.{◌≡◌, ◌∙◌, subst}
use Rattle.turn_client_api.specs.RequestViews.{queued_request_count}
use Rattle.turn_client_api.specs.State.{State}
use Rattle.turn_client_proto.proofs.over.TurnClientOverTurnClientApi.queued_requests.Goals as goal

pub returns : goal.returns
returns g c = subst (λ (s : State). c.queued_requests.result ≡ queued_request_count s) (c.control.ensures ∙ c.self.view_is) c.queued_requests.ensures
