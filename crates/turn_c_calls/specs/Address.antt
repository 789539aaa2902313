-- Addresses and transports as numbers.
use Rattle.std.specs.Prelude.{ℕ, not, ◌==◌, if◌then◌else◌, [], ◌∷◌, ◌++◌, replicate, slice_index, Option, Some, None}
use Rattle.std.specs.Option.{option_map}
use Rattle.std.specs.Net.Addr.{ipv4_octets, ipv6_octets, segments_of}
use Rattle.std.specs.Net.Socket.{socket_ip, v4_ip, v4_port, v6_flowinfo, v6_ip, v6_port, v6_scope_id}
use Rattle.std.specs.declared.net.ip_addr.IpAddr.{IpAddr}
use Rattle.std.specs.declared.net.ip_addr.IpAddr.TheVariants as Ip
use Rattle.std.specs.declared.net.socket_addr.SocketAddr.{SocketAddr}
use Rattle.std.specs.declared.net.socket_addr.SocketAddr.TheVariants.{V4, V6}
use Rattle.std.specs.declared.net.socket_addr.SocketAddrV4.{SocketAddrV4}
use Rattle.std.specs.declared.net.socket_addr.SocketAddrV6.{SocketAddrV6}
use Rattle.turn_stun.specs.declared.transport.TransportType.{TransportType}
use Rattle.turn_stun.specs.declared.transport.TransportType.TheVariants.{Udp, Tcp}
use Rattle.turn_c_calls.specs.declared.address.Address.{Address}
use Rattle.turn_c_calls.specs.declared.code.TheConstants.{IPV4, IPV6, NO_FAMILY, TCP, UDP}

abbrev pub no_address : Address
no_address = record { ip = replicate 16 0; flow = 0; scope = 0; port = 0; family = NO_FAMILY; reserved = 0 }

-- an IPv4 address has the first four bytes
abbrev pub c_address : SocketAddr → Address
c_address (V4 a) = record {
  ip = ipv4_octets (v4_ip a) ++ replicate 12 0;
  flow = 0;
  scope = 0;
  port = v4_port a;
  family = IPV4;
  reserved = 0;
}
c_address (V6 a) = record {
  ip = ipv6_octets (v6_ip a);
  flow = v6_flowinfo a;
  scope = v6_scope_id a;
  port = v6_port a;
  family = IPV6;
  reserved = 0;
}

-- with the port 0
abbrev pub address_of_ip : IpAddr → Address
address_of_ip (Ip.V4 ip) = c_address (V4 (record { ip = ip; port = 0 }))
address_of_ip (Ip.V6 ip) = c_address (V6 (record { ip = ip; port = 0; flowinfo = 0; scope_id = 0 }))

abbrev pub v4_at : Address → SocketAddrV4
v4_at a = record {
  ip = record { octets = slice_index a.ip 0 ∷ slice_index a.ip 1 ∷ slice_index a.ip 2 ∷ slice_index a.ip 3 ∷ [] };
  port = a.port;
}

abbrev pub v6_at : Address → SocketAddrV6
v6_at a = record { ip = record { segments = segments_of a.ip }; port = a.port; flowinfo = a.flow; scope_id = a.scope }

-- the address of these numbers: only what its family has is read, and the reserved byte is 0
abbrev pub socket_at : Address → Option SocketAddr
socket_at a =
    if not (a.reserved == 0) then None
    else if a.family == IPV4 then Some (V4 (v4_at a)) else if a.family == IPV6 then Some (V6 (v6_at a)) else None

abbrev pub ip_at : Address → Option IpAddr
ip_at a = option_map socket_ip (socket_at a)

abbrev pub transport_code : TransportType → ℕ
transport_code Udp = UDP
transport_code Tcp = TCP

abbrev pub c_transport : ℕ → Option TransportType
c_transport code = if code == UDP then Some Udp else if code == TCP then Some Tcp else None
