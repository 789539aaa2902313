-- When two keys are the same, and the allocation that a key is in.
use Rattle.std.specs.Prelude.{◌==◌, ◌&&◌, Bool, false}
use Rattle.std.specs.Cmp.Lexicographic.{pointwise}
use Rattle.std.specs.Net.Addr.{ipv4_octets, ipv6_segments}
use Rattle.std.specs.Net.Socket.{socket_ip, v4_ip, v4_port, v6_ip, v6_port, v6_flowinfo, v6_scope_id}
use Rattle.std.specs.declared.net.socket_addr.SocketAddr.{SocketAddr}
use Rattle.std.specs.declared.net.socket_addr.SocketAddr.TheVariants.{V4, V6}
use Rattle.turn_types.specs.declared.family.AddressFamily.{AddressFamily}
use Rattle.turn_session_book.specs.Addresses.{family_of_ip, same_family, same_ip}
use Rattle.turn_session_book.specs.declared.keys.Key.{Key}
use Rattle.turn_session_book.specs.declared.keys.Key.TheVariants.{Permission, Channel, Connect}

-- the two addresses are equal: IP, port and, for IPv6, flow information and scope
abbrev pub same_peer : SocketAddr → SocketAddr → Bool
same_peer (V4 a) (V4 b) =
    pointwise ◌==◌ (ipv4_octets (v4_ip a)) (ipv4_octets (v4_ip b)) && (v4_port a == v4_port b)
same_peer (V6 a) (V6 b) =
    pointwise ◌==◌ (ipv6_segments (v6_ip a)) (ipv6_segments (v6_ip b)) && (v6_port a == v6_port b)
    && (v6_flowinfo a == v6_flowinfo b) && (v6_scope_id a == v6_scope_id b)
same_peer _ _ = false

-- they are for the same, and of the same address
abbrev pub same_key : Key → Key → Bool
same_key (Permission a) (Permission b) = same_ip a b
same_key (Channel a) (Channel b) = same_peer a b
same_key (Connect a) (Connect b) = same_peer a b
same_key _ _ = false

-- the permission of its IP address, which a channel needs too (RFC 8656, section 12), and a data connection (RFC 6062, section 4.3)
abbrev pub permission_for : Key → Key
permission_for (Permission ip) = Permission ip
permission_for (Channel peer) = Permission (socket_ip peer)
permission_for (Connect peer) = Permission (socket_ip peer)

-- a client has at most one allocation of each family, and a peer is reached by that of its own (RFC 8656, section 3)
abbrev pub family_of_key : Key → AddressFamily
family_of_key (Permission ip) = family_of_ip ip
family_of_key (Channel peer) = family_of_ip (socket_ip peer)
family_of_key (Connect peer) = family_of_ip (socket_ip peer)

abbrev pub is_in : AddressFamily → Key → Bool
is_in family key = same_family (family_of_key key) family
