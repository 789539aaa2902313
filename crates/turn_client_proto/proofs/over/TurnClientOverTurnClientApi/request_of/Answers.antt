use Rattle.std.proofs.Common.{◌≡◌, ◌∙◌, subst}
use Rattle.turn_client_api.specs.RequestViews.{viewed_request}
use Rattle.turn_client_api.specs.State.{State}
use Rattle.turn_client_proto.proofs.over.TurnClientOverTurnClientApi.request_of.Goals as goal

pub returns : goal.returns
returns g c = subst (λ (s : State). c.request_of.result ≡ viewed_request c.args.id s) (c.control.ensures ∙ c.self.view_is) c.request_of.ensures
