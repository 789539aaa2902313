-- What the replies of a run return of peers (RFC 8656, sections 11.4, 11.6 and 12.6; RFC 6062,
-- section 4.3).
use Rattle.std.specs.Prelude.{◌≡◌, List}
use Rattle.std.specs.List.{Contains}
use Rattle.turn_client_api.specs.State.{State}
use Rattle.turn_client_api.specs.Payloads.{Payload, PeerIcmp}
use Rattle.std.specs.declared.net.socket_addr.SocketAddr.{SocketAddr}
use Rattle.turn_stun.specs.declared.transport.TransportType.{TransportType}
use Rattle.turn_types.specs.declared.attribute.icmp_report.Icmp.{Icmp}
use Rattle.turn_client_laws.specs.Handled.{processed}
use Rattle.turn_client_runs.specs.Inputs.{IsAmong, handled_in}
use Rattle.turn_client_api.specs.declared.call.Call.{Call}
use Rattle.turn_client_runs.specs.Peers.{IsDeliveredIn, ReportsOfPermitted}
use Rattle.turn_client_calls.specs.Run.{peer_data, replies_of}
use Rattle.turn_client_calls.specs.declared.reply.PeerData.{PeerData}
use Rattle.turn_client_calls.specs.declared.reply.Reply.TheVariants as Replies

-- it is the payload of an input of the calls, whose peer was permitted when the input was processed
abbrev pub IsDelivered : PeerData → State → List Call → Type 0
IsDelivered given s calls = (payload : Payload) × (peer_data payload ≡ given) × IsDeliveredIn payload s calls

-- one of the inputs gave this ICMP report, for a permitted peer
abbrev pub IsReported : TransportType → SocketAddr → Icmp → State → List Call → Type 0
IsReported transport peer icmp s calls =
    IsAmong (λ one. ((processed one).0 ≡ PeerIcmp transport peer icmp) × ReportsOfPermitted one) (handled_in s calls)

-- so is all data of peers among the replies to the calls, and every ICMP report
abbrev pub AnswersOnlyPermitted : State → List Call → Type 0
AnswersOnlyPermitted s calls =
    ((given : PeerData) → Contains (replies_of s calls) (Replies.PeerData given) → IsDelivered given s calls)
    × ((transport : TransportType) (peer : SocketAddr) (icmp : Icmp)
    → Contains (replies_of s calls) (Replies.PeerIcmp transport peer icmp.icmp_type icmp.code icmp.«data») → IsReported transport peer icmp s calls)
