-- What the iterators over addresses return.
use Rattle.std.specs.Prelude.{List, not, filter, filter_map, map}
use Rattle.std.specs.declared.net.ip_addr.IpAddr.{IpAddr}
use Rattle.std.specs.declared.net.socket_addr.SocketAddr.{SocketAddr}
use Rattle.turn_stun.specs.declared.transport.TransportType.{TransportType}
use Rattle.turn_types.specs.declared.family.AddressFamily.{AddressFamily}
use Rattle.turn_client_api.specs.State.{Grant}
use Rattle.turn_client_api.specs.Grants.{as_allocation}
use Rattle.turn_client_api.specs.Calls.{permitted_in}
use Rattle.turn_client_api.specs.declared.addresses.RelayedAddressesIter.{RelayedAddressesIter}
use Rattle.turn_client_api.specs.declared.addresses.PermissionAddressesIter.{PermissionAddressesIter}

-- the relayed addresses of the allocations that are not expired, with their transport
abbrev pub relayed_in_use : TransportType → List Grant → List (TransportType × SocketAddr)
relayed_in_use transport grants =
    map (λ a. (transport, a.relayed)) (filter (λ a. not a.is_expired) (filter_map as_allocation grants))

-- the IP addresses of a family that have a permission
abbrev pub permitted_in_use : AddressFamily → List Grant → List IpAddr
permitted_in_use family grants = filter_map (permitted_in family) grants

-- the relayed addresses that an iterator has yet to return
abbrev pub relayed_left : RelayedAddressesIter → List (TransportType × SocketAddr)
relayed_left i = relayed_in_use i.transport i.grants.now

-- the permitted addresses that an iterator has yet to return
abbrev pub permitted_left : PermissionAddressesIter → List IpAddr
permitted_left i = permitted_in_use i.family i.grants.now
