-- The result of a Data indication (RFC 8656, sections 11.4 and 11.6).
use Rattle.std.specs.Prelude.{ℕ, ◌+◌, Bool, if◌then◌else◌, length, Option}
use Rattle.std.specs.Net.Socket.{socket_ip}
use Rattle.std.specs.Option.{option_map_or}
use Rattle.std.specs.declared.net.socket_addr.SocketAddr.{SocketAddr}
use Rattle.std.specs.declared.ops.Range.{Range}
use Rattle.turn_stun.specs.Message.{Attribute}
use Rattle.turn_types.specs.declared.attribute.icmp_report.Icmp.{Icmp}
use Rattle.turn_client_api.specs.Grants.{has_active_permission}
use Rattle.turn_client_api.specs.State.{State}
use Rattle.turn_client_core.specs.declared.protocol_recv.TurnProtocolRecv.{TurnProtocolRecv}
use Rattle.turn_client_core.specs.declared.protocol_recv.TurnProtocolRecv.TheVariants.{Ignored, PeerIcmp}

-- in its message, the value of an attribute is behind its type and its length (RFC 8489, section 14)
abbrev pub value_place : Attribute → Range ℕ
value_place a = record { start = a.offset + 4; end = a.offset + 4 + length a.value }

-- the result, if its peer is permitted
abbrev pub if_permitted : Bool → TurnProtocolRecv → TurnProtocolRecv
if_permitted has_active_permission outcome = if has_active_permission then outcome else Ignored

-- an ICMP error of this peer, if one was reported
abbrev pub icmp_of_peer : SocketAddr → Option Icmp → State → TurnProtocolRecv
icmp_of_peer peer icmp s =
    option_map_or (λ icmp. if_permitted (has_active_permission (socket_ip peer) s) (PeerIcmp s.config.allocation_transport peer icmp)) icmp Ignored
