use Rattle.std.proofs.Common.{◌≡◌, ◌∙◌, subst}
use Rattle.turn_client_api.specs.Calls.{can_send_to}
use Rattle.turn_client_api.specs.State.{State}
use Rattle.turn_client_proto.proofs.over.TurnClientOverTurnClientApi.have_permission.Goals as goal

pub returns : goal.returns
returns g c = subst (λ (s : State). c.have_permission.result ≡ can_send_to c.args.transport c.args.to s) (c.control.ensures ∙ c.self.view_is) c.have_permission.ensures
