-- What is returned of what peers sent (RFC 8656, sections 11.4 and 12.6; RFC 6062, section 4.3).
use Rattle.std.specs.Prelude.{◌≡◌, ◌⊎◌, ℕ, Bool, true, false, List, ◌∷◌, ◌++◌, Option, Some, None, All}
use Rattle.std.specs.List.{Contains}
use Rattle.turn_stun.specs.declared.transport.Transmit.{Transmit}
use Rattle.turn_stun.specs.declared.transport.TransportType.TheVariants.{Udp}
use Rattle.turn_types.specs.Channel.{channel_data_at}
use Rattle.turn_client_api.specs.State.{State}
use Rattle.turn_client_api.specs.Payloads.{Payload, PeerData, is_channel_frame, is_message}
use Rattle.turn_client_api.specs.Steps.{packet_step, state_after_all}
use Rattle.turn_client_api.specs.Streams.{all_of, poll_recv_step, sent_by}
use Rattle.turn_client_api.specs.declared.call.Call.{Call}
use Rattle.turn_client_api.specs.declared.call.Call.TheVariants.{PollRecv, Recv}
use Rattle.turn_client_api.specs.declared.state.Mode.{Mode}
use Rattle.turn_client_api.specs.declared.state.Mode.TheVariants.{Bound, Control}
use Rattle.turn_client_api.specs.declared.state.Stream.{Stream}
use Rattle.turn_client_laws.specs.Handled.{Input, handled, input_payload, payloads, processed}
use Rattle.turn_client_laws.specs.LawsPeers.{HasChannel, IsChannelPayload, IsDataAttribute, IsIndicated}
use Rattle.turn_client_laws.specs.LawsStreams.{NeedsMoreBytes}
use Rattle.turn_client_runs.specs.Inputs.{delivered_by}

-- The bytes are a whole message with this data of a peer: a DATA indication, and its IP address has a permission, or a
-- ChannelData message of its active channel.
abbrev pub IsMessageOfPeer : List ℕ → State → Payload → Type 0
IsMessageOfPeer bytes s payload =
    ((is_message bytes ≡ true) × IsIndicated bytes payload.peer s × IsDataAttribute bytes s payload)
    ⊎ ((is_channel_frame bytes ≡ true) × HasChannel (channel_data_at bytes).id payload.peer s × IsChannelPayload bytes s payload)

-- so is the input, as a datagram or a frame of the control connection; or it is all that a bound connection holds
abbrev pub IsDataOfPeer : Input → Payload → Type 0
IsDataOfPeer one payload = by one.stream
  where
    in_mode : Mode → Type 0
    in_mode Control = IsMessageOfPeer one.bytes one.before payload
    in_mode (Bound peer) = payload ≡ sent_by peer one.bytes (all_of one.bytes)
    in_mode _ = ⊥

    by : Option Stream → Type 0
    by None = IsMessageOfPeer one.bytes one.before payload
    by (Some stream) = in_mode stream.mode

-- where it lies in what the caller passed in, or owned
abbrev pub placed : Bool → Payload → Payload
placed true payload = payload
placed false payload = record payload { place = None }

-- such data is the payload of the input, which changes nothing else
abbrev pub IsReturned : Input → Type 0
IsReturned one =
    (payload : Payload) → IsDataOfPeer one payload
    → (input_payload one ≡ Some (placed one.is_lent payload)) × ((processed one).1 ≡ one.before)

-- The call returns the payloads of its inputs, each once and in order, and these have all data of peers.
pub record ReturnsAll (call : Call) (s : State) : Type 0 where
  pub each : (one : Input) → Contains (handled call s) one → IsReturned one
  pub all : delivered_by call s ≡ payloads (handled call s)

-- so does each of these calls
abbrev pub InputsAreReturned : State → List Call → Type 0
InputsAreReturned first calls =
    (earlier : List Call) (call : Call) (later : List Call) → calls ≡ earlier ++ call ∷ later → ReturnsAll call (state_after_all first earlier)

-- over UDP a datagram from the server with such data is returned by its `recv`, and changes nothing
abbrev pub DatagramsAreReturned : State → List Call → Type 0
DatagramsAreReturned first calls =
    (earlier : List Call) (packet : Transmit (List ℕ)) (now : ℕ) (later : List Call) (payload : Payload)
    → let s = state_after_all first earlier in
    calls ≡ earlier ++ Recv packet now ∷ later
    → first.transport ≡ Udp → packet.transport ≡ Udp → packet.from ≡ first.remote → packet.to ≡ first.local
    → IsMessageOfPeer packet.payload s payload → packet_step packet now s ≡ (PeerData payload, s)

-- over TCP no stream holds a whole frame, or a byte of a peer, after a `poll_recv` that returned nothing
abbrev pub StreamsAreDrained : State → List Call → Type 0
StreamsAreDrained first calls =
    (earlier : List Call) (now : ℕ) (later : List Call)
    → let r = poll_recv_step now (state_after_all first earlier) in
    calls ≡ earlier ++ PollRecv now ∷ later → r.0 ≡ None → All NeedsMoreBytes r.1.streams

-- all data of peers is returned
abbrev pub DataIsReturned : State → List Call → Type 0
DataIsReturned first calls = DatagramsAreReturned first calls × InputsAreReturned first calls × StreamsAreDrained first calls
