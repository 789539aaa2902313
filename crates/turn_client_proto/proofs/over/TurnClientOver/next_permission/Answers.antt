use Rattle.std.proofs.Common.{◌≡◌, ◌∙◌, subst}
use Rattle.turn_client_api.specs.State.{State}
use Rattle.turn_client_grants.specs.NextPermission.{next_permission}
use Rattle.turn_client_proto.proofs.over.TurnClientOver.next_permission.Goals as goal

pub returns : goal.returns
returns g c = subst (λ (s : State). c.next_permission.result ≡ next_permission c.args.transport c.args.relayed c.args.position s) (c.control.ensures ∙ c.self.view_is) c.next_permission.ensures
