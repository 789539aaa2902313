-- The peers whose data is returned (RFC 8656, sections 11.4, 11.6 and 12.6; RFC 6062, section 4.3).
use Rattle.std.specs.Prelude.{◌≡◌, ◌⊎◌, ℕ, true, false, List, Option, Some, None, IfSome, ⊤}
use Rattle.std.specs.List.{Contains}
use Rattle.std.specs.Net.Socket.{socket_ip}
use Rattle.std.specs.declared.net.ip_addr.IpAddr.{IpAddr}
use Rattle.std.specs.declared.net.socket_addr.SocketAddr.{SocketAddr}
use Rattle.turn_stun.specs.Message.{Attribute}
use Rattle.turn_stun.specs.declared.transport.TransportType.{TransportType}
use Rattle.turn_types.specs.Channel.{channel_data_at}
use Rattle.turn_types.specs.Send.{data_kind}
use Rattle.turn_types.specs.declared.attribute.icmp_report.Icmp.{Icmp}
use Rattle.turn_client_api.specs.State.{State}
use Rattle.turn_client_api.specs.declared.state.Phase.TheVariants.{Allocated}
use Rattle.turn_client_api.specs.declared.grant.Grant.TheVariants.{Permission, Channel}
use Rattle.turn_client_api.specs.declared.grant.Progress.TheVariants.{Active}
use Rattle.turn_client_api.specs.declared.state.Mode.{Mode}
use Rattle.turn_client_api.specs.declared.state.Mode.TheVariants.{Control, Waiting, Bound, Broken}
use Rattle.turn_client_api.specs.declared.state.Stream.{Stream}
use Rattle.turn_client_api.specs.Judgement.{has_unknown, last_icmp_in, last_in, last_peer_in}
use Rattle.turn_client_api.specs.Answers.{is_data_indication}
use Rattle.turn_client_api.specs.Payloads.{Payload, Outcome, Handled, Ignored, PeerData, PeerIcmp, data_of}
use Rattle.turn_client_api.specs.Streams.{all_of, sent_by}
use Rattle.turn_client_laws.specs.Handled.{Input, processed, input_payload}
use Rattle.turn_client_api.specs.declared.call.Call.{Call}
use Rattle.turn_client_laws.specs.LawsHandled.{IsDoneBy}
use Rattle.turn_client_api.specs.declared.grant.Lease.{Lease}

-- the IP address has an active permission
abbrev pub HasPermission : IpAddr → State → Type 0
HasPermission ip s = (lease : Lease) × Contains s.grants (Permission ip (Active lease))

-- the channel of this number is active, and bound to this peer
abbrev pub HasChannel : ℕ → SocketAddr → State → Type 0
HasChannel number peer s = (lease : Lease) × Contains s.grants (Channel number peer (Active lease))

-- The client is in `Allocated`, and the bytes are a DATA indication that names this peer, which has a
-- permission. It has no unknown comprehension-required attribute (RFC 8489, section 6.3.2).
pub record IsIndicated (bytes : List ℕ) (peer : SocketAddr) (s : State) : Type 0 where
  pub phase : s.phase ≡ Allocated
  pub indication : is_data_indication bytes ≡ true
  pub known : has_unknown bytes ≡ false
  pub named : last_peer_in bytes ≡ Some peer
  pub permitted : HasPermission (socket_ip peer) s

-- it is the value of the last DATA attribute, over the allocation's transport, and lies there
abbrev pub IsDataAttribute : List ℕ → State → Payload → Type 0
IsDataAttribute bytes s payload =
    (a : Attribute) × (last_in data_kind bytes ≡ Some a) × (PeerData payload ≡ data_of s payload.peer a.offset a.value)

-- it is the whole payload of the ChannelData message, over the allocation's transport, and lies there
abbrev pub IsChannelPayload : List ℕ → State → Payload → Type 0
IsChannelPayload bytes s payload = PeerData payload ≡ data_of s payload.peer 0 (channel_data_at bytes).payload

-- There is no DATA, and it is in the last ICMP attribute, over the allocation's transport.
abbrev pub IsIcmpAttribute : List ℕ → State → TransportType → Icmp → Type 0
IsIcmpAttribute bytes s transport icmp =
    (last_in data_kind bytes ≡ None) × (last_icmp_in bytes ≡ Some icmp) × (transport ≡ s.config.allocation_transport)

-- What a whole message or ChannelData message returns came from a permitted peer: in a DATA indication, or
-- over its channel.
abbrev pub IsMessageFromPermitted : List ℕ → State → Outcome → Type 0
IsMessageFromPermitted bytes s (PeerData payload) =
    (IsIndicated bytes payload.peer s × IsDataAttribute bytes s payload)
    ⊎ (HasChannel (channel_data_at bytes).id payload.peer s × IsChannelPayload bytes s payload)
IsMessageFromPermitted bytes s (PeerIcmp transport peer icmp) = IsIndicated bytes peer s × IsIcmpAttribute bytes s transport icmp
IsMessageFromPermitted bytes s Handled = ⊤
IsMessageFromPermitted bytes s Ignored = ⊤

-- nothing came from a peer
abbrev pub HasNoPeer : Outcome → Type 0
HasNoPeer Handled = ⊤
HasNoPeer Ignored = ⊤
HasNoPeer _ = ⊥

-- What a frame of a stream returns, by the mode of the stream: a bound one returns all its bytes, over TCP,
-- as its peer's.
abbrev pub IsFromPermitted : Mode → List ℕ → State → Outcome → Type 0
IsFromPermitted Control frame s outcome = IsMessageFromPermitted frame s outcome
IsFromPermitted Waiting frame s outcome = HasNoPeer outcome
IsFromPermitted (Bound peer) frame s outcome = outcome ≡ PeerData (sent_by peer frame (all_of frame))
IsFromPermitted Broken frame s outcome = HasNoPeer outcome

-- an input that a call processes returns only data of peers that are permitted in the state in which it is
-- processed
abbrev pub IsPermittedInput : Input → Type 0
IsPermittedInput t = by t.stream
  where
    by : Option Stream → Type 0
    by None = IsMessageFromPermitted t.bytes t.before (processed t).0
    by (Some stream) = IsFromPermitted stream.mode t.bytes t.before (processed t).0

-- an input of the call returns the payload, at its place in what the caller passed in, or owned
abbrev pub IsDeliveredByCall : Payload → Call → State → Type 0
IsDeliveredByCall payload call s = IsDoneBy (λ one. (input_payload one ≡ Some payload) × IsPermittedInput one) call s

-- if the call returns a payload, an input returns it
abbrev pub IsDeliveredByInput : Option Payload → Call → State → Type 0
IsDeliveredByInput o call s = IfSome o (λ payload. IsDeliveredByCall payload call s)

-- if it returns an ICMP report, an input of the call returns that
abbrev pub IsReportedBy : Outcome → Call → State → Type 0
IsReportedBy (PeerIcmp transport peer icmp) call s =
    IsDoneBy (λ one. ((processed one).0 ≡ PeerIcmp transport peer icmp) × IsPermittedInput one) call s
IsReportedBy _ call s = ⊤
