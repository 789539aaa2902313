-- Which permission is listed next by a caller that keeps its position among the grants.
use Rattle.std.specs.Prelude.{ℕ, ◌+◌, if◌then◌else◌, List, drop, filter_map, Option, None, option_map, slice_get}
use Rattle.std.specs.List.{enumerate_from}
use Rattle.std.specs.declared.net.ip_addr.IpAddr.{IpAddr}
use Rattle.std.specs.declared.net.socket_addr.SocketAddr.{SocketAddr}
use Rattle.turn_stun.specs.declared.transport.TransportType.{TransportType}
use Rattle.turn_types.specs.declared.family.AddressFamily.{AddressFamily}
use Rattle.turn_client_api.specs.Calls.{is_in_use, permitted_in}
use Rattle.turn_client_api.specs.Grants.{family_of}
use Rattle.turn_client_api.specs.State.{State}
use Rattle.turn_client_api.specs.declared.grant.Grant.{Grant}

-- the IP addresses of a family that have a permission, each with the position behind its grant; the first grant has this position
abbrev pub permitted_at : AddressFamily → ℕ → List Grant → List (IpAddr × ℕ)
permitted_at family position grants =
    filter_map (λ grant. option_map (λ ip. (ip, grant.0 + 1)) (permitted_in family grant.1)) (enumerate_from position grants)

-- the first of them that is granted at this position or behind it
abbrev pub next_permitted : AddressFamily → ℕ → List Grant → Option (IpAddr × ℕ)
next_permitted family position grants = slice_get (permitted_at family position (drop position grants)) 0

-- the same for an allocation, by its transport and its relayed address
abbrev pub next_permission : TransportType → SocketAddr → ℕ → State → Option (IpAddr × ℕ)
next_permission transport relayed position s =
    if is_in_use transport relayed s then next_permitted (family_of relayed) position s.grants else None
