-- Addresses of the two families.
use Rattle.std.specs.Prelude.{ℕ, ◌-◌, ◌==◌, ◌&&◌, nat_le, if◌then◌else◌, List, [], ◌∷◌, length, take, drop, slice_index, Option, Some, None}
use Rattle.std.specs.Option.{option_map}
use Rattle.std.specs.Result.{result_ok}
use Rattle.std.specs.Net.Addr.{segments_of}
use Rattle.std.specs.declared.net.ip_addr.IpAddr.{IpAddr}
use Rattle.std.specs.declared.net.ip_addr.IpAddr.TheVariants as Ip
use Rattle.std.specs.declared.net.ipv4_addr.Ipv4Addr.{Ipv4Addr}
use Rattle.std.specs.declared.net.ipv6_addr.Ipv6Addr.{Ipv6Addr}
use Rattle.std.specs.declared.net.socket_addr.SocketAddr.{SocketAddr}
use Rattle.std.specs.declared.net.socket_addr.SocketAddr.TheVariants.{V4, V6}
use Rattle.hex.specs.Hex.{decode_sized}
use Rattle.turn_client_calls.specs.Checks.{◌>>=◌}
use Rattle.turn_lines.specs.Field.{is_lower_hex}
use Rattle.turn_lines.specs.Number.{decimal_up_to}
use Rattle.turn_lines.specs.Parts.{parts_of, next, ends}

abbrev pub octet_of : List ℕ → Option ℕ
octet_of = decimal_up_to 255

-- four octets with dots between them
unfoldable pub ipv4_of : List ℕ → Option Ipv4Addr
ipv4_of text = do
  a ← next octet_of (parts_of 46 text)
  b ← next octet_of a.1
  c ← next octet_of b.1
  d ← next octet_of c.1
  _ ← ends d.1
  Some (record { octets = a.0 ∷ b.0 ∷ c.0 ∷ d.0 ∷ [] })

-- 32 digits
abbrev pub ipv6_of : List ℕ → Option Ipv6Addr
ipv6_of digits =
    if is_lower_hex digits then option_map (λ octets. record { segments = segments_of octets }) (result_ok (decode_sized digits 16))
    else None

-- an IPv6 address in brackets
abbrev pub ip_of : List ℕ → Option IpAddr
ip_of text =
    if nat_le 2 (length text) && (slice_index text 0 == 91) && (slice_index text (length text - 1) == 93)
    then option_map Ip.V6 (ipv6_of (take (length text - 2) (drop 1 text)))
    else option_map Ip.V4 (ipv4_of text)

-- without flow information and scope
abbrev pub with_port : IpAddr → ℕ → SocketAddr
with_port (Ip.V4 ip) port = V4 (record { ip = ip; port = port })
with_port (Ip.V6 ip) port = V6 (record { ip = ip; port = port; flowinfo = 0; scope_id = 0 })

-- the IP address, a colon and the port
unfoldable pub address_of : List ℕ → Option SocketAddr
address_of text = do
  ip ← next ip_of (parts_of 58 text)
  port ← next (decimal_up_to 65535) ip.1
  _ ← ends port.1
  Some (with_port ip.0 port.0)
