use Rattle.std.proofs.Common.{◌≡◌, Bool, subst, rules, tests}
use Rattle.std.proofs.lemmas.Iterator.Consumers.{YieldsList-from_first}
use Rattle.std.proofs.lemmas.Iterator.Search.{any_from_yields_List}
use Rattle.std.specs.declared.net.socket_addr.SocketAddr.{SocketAddr}
use Rattle.turn_stun.specs.declared.transport.TransportType.{TransportType}
use Rattle.turn_types.specs.declared.family.AddressFamily.{AddressFamily}
use Rattle.turn_client_api.specs.Addresses.{relayed_left}
use Rattle.turn_session_client.specs.Expiring.{has_allocation, is_relayed_in}
use Rattle.turn_session_client.specs.NotedState.{NotedState}
use Rattle.turn_session_client.proofs.noted.NotedClient.has_allocation.Goals as goal

seen-inside : (family : AddressFamily) (inside was : NotedState) → inside ≡ was → (found : Bool) → found ≡ has_allocation family inside.client
    → found ≡ has_allocation family was.client
seen-inside family inside was same found is = subst (λ (s : NotedState). found ≡ has_allocation family s.client) same is

pub returns : goal.returns
returns g c =
    seen-inside c.args.family _ _ c.self.view_is c.any.result
    (any_from_yields_List (is_relayed_in c.args.family) c.any.new.self _ c.any.result c.any.ensures.ran
    (YieldsList-from_first (λ (x : TransportType × SocketAddr). x) relayed_left _ c.relayed_addresses.ensures)
    (λ x b q called. search (rules, tests)))
