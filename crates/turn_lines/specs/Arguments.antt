-- The fields after the name of a call.
use Rattle.std.specs.Prelude.{ℕ, ◌-◌, ◌^◌, if◌then◌else◌, List, codes, Option, Some, None}
use Rattle.std.specs.Option.{option_map, option_or}
use Rattle.std.specs.Str.{bytes_eq}
use Rattle.std.specs.declared.net.ip_addr.IpAddr.{IpAddr}
use Rattle.std.specs.declared.net.socket_addr.SocketAddr.{SocketAddr}
use Rattle.turn_stun.specs.declared.transport.TransportType.{TransportType}
use Rattle.turn_stun.specs.declared.transport.Transmit.{Transmit}
use Rattle.turn_client_api.specs.declared.poll.Socket5Tuple.{Socket5Tuple}
use Rattle.turn_client_calls.specs.Checks.{◌>>=◌}
use Rattle.turn_lines.specs.Address.{address_of, ip_of}
use Rattle.turn_lines.specs.declared.call.arguments.Grantee.{Grantee}
use Rattle.turn_lines.specs.declared.call.arguments.Grantee.TheVariants.{Ip, Peer}
use Rattle.turn_lines.specs.Field.{transport_of, bytes_of}
use Rattle.turn_lines.specs.Number.{decimal_up_to}
use Rattle.turn_lines.specs.Parts.{next, ends}

-- T FROM TO
unfoldable pub way_of : List (List ℕ) → Option ((TransportType × SocketAddr × SocketAddr) × List (List ℕ))
way_of fields = do
  transport ← next transport_of fields
  from ← next address_of transport.1
  to ← next address_of from.1
  Some ((transport.0, from.0, to.0), to.1)

-- T FROM TO BYTES
unfoldable pub packet_of : List (List ℕ) → Option (Transmit (List ℕ))
packet_of fields = do
  way ← way_of fields
  payload ← next bytes_of way.1
  _ ← ends payload.1
  Some (record { payload = payload.0; transport = way.0.0; from = way.0.1; to = way.0.2 })

-- T TO BYTES
unfoldable pub sending_of : List (List ℕ) → Option (TransportType × SocketAddr × List ℕ)
sending_of fields = do
  transport ← next transport_of fields
  to ← next address_of transport.1
  payload ← next bytes_of to.1
  _ ← ends payload.1
  Some (transport.0, to.0, payload.0)

-- T IP
unfoldable pub transport_and_ip_of : List (List ℕ) → Option (TransportType × IpAddr)
transport_and_ip_of fields = do
  transport ← next transport_of fields
  ip ← next ip_of transport.1
  _ ← ends ip.1
  Some (transport.0, ip.0)

-- T ADDR
unfoldable pub transport_and_address_of : List (List ℕ) → Option (TransportType × SocketAddr)
transport_and_address_of fields = do
  transport ← next transport_of fields
  address ← next address_of transport.1
  _ ← ends address.1
  Some (transport.0, address.0)

-- with a port the peer of a channel, without one the IP address of a permission
abbrev pub grantee_of : List ℕ → Option Grantee
grantee_of text = option_or (option_map Peer (address_of text)) (option_map Ip (ip_of text))

-- T ADDR or T IP
unfoldable pub transport_and_grantee_of : List (List ℕ) → Option (TransportType × Grantee)
transport_and_grantee_of fields = do
  transport ← next transport_of fields
  grantee ← next grantee_of transport.1
  _ ← ends grantee.1
  Some (transport.0, grantee.0)

-- ADDR
unfoldable pub one_address_of : List (List ℕ) → Option SocketAddr
one_address_of fields = do
  address ← next address_of fields
  _ ← ends address.1
  Some address.0

-- LOCAL REMOTE
unfoldable pub two_addresses_of : List (List ℕ) → Option (SocketAddr × SocketAddr)
two_addresses_of fields = do
  local ← next address_of fields
  remote ← next address_of local.1
  _ ← ends remote.1
  Some (local.0, remote.0)

-- `-` for no address
abbrev pub address_if_any : List ℕ → Option (Option SocketAddr)
address_if_any text = if bytes_eq text (codes "-") then Some None else option_map Some (address_of text)

-- ID T FROM TO
unfoldable pub tuple_of : List (List ℕ) → Option ((ℕ × Socket5Tuple) × List (List ℕ))
tuple_of fields = do
  id ← next (decimal_up_to (2 ^ 32 - 1)) fields
  way ← way_of id.1
  Some ((id.0, record { transport = way.0.0; from = way.0.1; to = way.0.2 }), way.1)

-- PEER LOCAL, where LOCAL may be `-`
unfoldable pub data_ends_of : List (List ℕ) → Option (SocketAddr × Option SocketAddr)
data_ends_of fields = do
  peer ← next address_of fields
  local ← next address_if_any peer.1
  _ ← ends local.1
  Some (peer.0, local.0)
