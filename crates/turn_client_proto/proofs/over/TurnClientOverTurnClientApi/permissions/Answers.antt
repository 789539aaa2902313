use Rattle.std.proofs.Common.{◌≡◌, ◌∙◌, subst}
use Rattle.turn_client_api.specs.Addresses.{permitted_left}
use Rattle.turn_client_api.specs.Calls.{permissions_of}
use Rattle.turn_client_api.specs.State.{State}
use Rattle.turn_client_proto.proofs.over.TurnClientOverTurnClientApi.permissions.Goals as goal

pub returns : goal.returns
returns g c = subst (λ (s : State). permitted_left c.permissions.result ≡ permissions_of c.args.transport c.args.relayed s) (c.control.ensures ∙ c.self.view_is) c.permissions.ensures
