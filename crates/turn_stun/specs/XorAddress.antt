-- Addresses that are XORed with the magic cookie and the transaction ID (RFC 8489, section 14.2).
use Rattle.std.specs.Prelude.{ℕ, ◌+◌, ◌==◌, ◌&&◌, bit_xor, if◌then◌else◌, List, [], ◌∷◌, ◌++◌, map, flat_map, length, slice_index, Option, Some, None}
use Rattle.std.specs.Int.{w16, to_be_bytes}
use Rattle.std.specs.Net.Addr.{ipv4_octets, ipv6_segments}
use Rattle.std.specs.Net.Socket.{v4_ip, v4_port, v6_ip, v6_port}
use Rattle.std.specs.declared.net.socket_addr.SocketAddr.{SocketAddr}
use Rattle.std.specs.declared.net.socket_addr.SocketAddrV4.{SocketAddrV4}
use Rattle.std.specs.declared.net.socket_addr.SocketAddrV6.{SocketAddrV6}
use Rattle.std.specs.declared.net.socket_addr.SocketAddr.TheVariants.{V4, V6}
use Rattle.turn_stun.specs.Number.{u16_at, id_segments}

-- the numbers, each XORed with the number of the mask at its place
abbrev pub xored_from : ℕ → List ℕ → List ℕ → List ℕ
xored_from at [] numbers = []
xored_from at (m ∷ mask) numbers = bit_xor (slice_index numbers at) m ∷ xored_from (at + 1) mask numbers

abbrev pub xored : List ℕ → List ℕ → List ℕ
xored mask numbers = xored_from 0 mask numbers

-- the port is XORed with the 16 most significant bits of the magic cookie
abbrev pub xored_port : ℕ → ℕ
xored_port port = bit_xor port 0x2112

-- an IPv4 address is XORed with the magic cookie
abbrev pub cookie_octets : List ℕ
cookie_octets = 0x21 ∷ 0x12 ∷ 0xa4 ∷ 0x42 ∷ []

-- an IPv6 address is XORed with the magic cookie followed by the 96 bits of the transaction ID: these are
-- the groups of 16 bits
abbrev pub cookie_and_id : ℕ → List ℕ
cookie_and_id id = 0x2112 ∷ 0xa442 ∷ id_segments id

-- the IPv4 address of these octets with this port
abbrev pub xor_v4 : List ℕ → ℕ → SocketAddrV4
xor_v4 octets port = record { ip = record { octets = octets }; port = port }

-- the IPv6 address of these segments with this port, with no flow information and no scope
abbrev pub xor_v6 : List ℕ → ℕ → SocketAddrV6
xor_v6 segments port = record { ip = record { segments = segments }; port = port; flowinfo = 0; scope_id = 0 }

-- the IPv4 address and the port of a value
abbrev pub xor_ipv4 : List ℕ → SocketAddrV4
xor_ipv4 value =
    xor_v4 (xored cookie_octets (map (slice_index value) (4 ∷ 5 ∷ 6 ∷ 7 ∷ []))) (xored_port (u16_at value 2))

-- the IPv6 address and the port of a value under a transaction ID
abbrev pub xor_ipv6 : List ℕ → ℕ → SocketAddrV6
xor_ipv6 value id =
    xor_v6 (xored (cookie_and_id id) (map (u16_at value) (4 ∷ 6 ∷ 8 ∷ 10 ∷ 12 ∷ 14 ∷ 16 ∷ 18 ∷ []))) (xored_port (u16_at value 2))

-- the address of a value under a transaction ID: an unread byte, the family (1 is IPv4, 2 is IPv6),
-- the port, and the address of that family and no more
abbrev pub xor_addr : List ℕ → ℕ → Option SocketAddr
xor_addr value id =
    if (slice_index value 1 == 1) && (length value == 8) then Some (V4 (xor_ipv4 value))
    else (if (slice_index value 1 == 2) && (length value == 20) then Some (V6 (xor_ipv6 value id))
    else None)

-- the encoding of an IPv4 address
abbrev pub ipv4_value : SocketAddrV4 → List ℕ
ipv4_value a =
    0 ∷ 1 ∷ (to_be_bytes w16 (xored_port (v4_port a)) ++ xored cookie_octets (ipv4_octets (v4_ip a)))

-- the encoding of an IPv6 address
abbrev pub ipv6_value : SocketAddrV6 → ℕ → List ℕ
ipv6_value a id =
    0 ∷ 2 ∷ (to_be_bytes w16 (xored_port (v6_port a))
    ++ flat_map (to_be_bytes w16) (xored (cookie_and_id id) (ipv6_segments (v6_ip a))))

-- the value of an address under a transaction ID; the unread byte is written zero
abbrev pub xor_value : SocketAddr → ℕ → List ℕ
xor_value (V4 a) id = ipv4_value a
xor_value (V6 a) id = ipv6_value a id

-- how many bytes that is
abbrev pub xor_value_len : SocketAddr → ℕ
xor_value_len (V4 a) = 8
xor_value_len (V6 a) = 20

-- the address without flow information and scope, which are not sent
abbrev pub plain_v6 : SocketAddrV6 → SocketAddrV6
plain_v6 a = xor_v6 (ipv6_segments (v6_ip a)) (v6_port a)

abbrev pub plain : SocketAddr → SocketAddr
plain (V4 a) = V4 a
plain (V6 a) = V6 (plain_v6 a)
