use Rattle.std.proofs.Common.{◌≡◌, ◌∙◌, subst}
use Rattle.turn_client_api.specs.Addresses.{relayed_left}
use Rattle.turn_client_api.specs.Calls.{relayed_addresses_of}
use Rattle.turn_client_api.specs.State.{State}
use Rattle.turn_client_proto.proofs.over.TurnClientOverTurnClientApi.relayed_addresses.Goals as goal

pub returns : goal.returns
returns g c = subst (λ (s : State). relayed_left c.relayed_addresses.result ≡ relayed_addresses_of s) (c.control.ensures ∙ c.self.view_is) c.relayed_addresses.ensures
