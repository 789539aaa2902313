-- What the results of a client say of a step of the machine.
use Rattle.std.specs.Prelude.{◌≡◌, ◌≢◌, ◌⊎◌, ℕ, ◌==◌, Bool, true, false, not, ◌&&◌, ◌||◌, List, [], find, nat_lt, length, drop, slice_get, option_and_then}
use Rattle.std.specs.Prelude.{Option, Some, None, Result, Ok, Err, IsSomeAnd, if◌then◌else◌, ⊤}
use Rattle.std.specs.declared.convert.AsSlice.{Ghosts}
use Rattle.std.specs.declared.ops.Range.{Range}
use Rattle.std.specs.declared.net.socket_addr.SocketAddr.{SocketAddr}
use Rattle.turn_stun.specs.declared.message.header.MessageClass.{MessageClass}
use Rattle.turn_stun.specs.declared.message.header.MessageClass.TheVariants.{Indication}
use Rattle.turn_stun.specs.declared.transport.TransportType.{TransportType}
use Rattle.turn_stun.specs.declared.transport.TransportType.TheVariants.{Udp, Tcp}
use Rattle.turn_stun.specs.declared.transport.Transmit.{Transmit}
use Rattle.turn_types.specs.declared.transmit.TransmitBuild.{TransmitBuild}
use Rattle.std.specs.Option.{option_map_or}
use Rattle.turn_agent.specs.Agent.{same_address}
use Rattle.turn_client_api.specs.Delayed.{delayed_send_bytes}
use Rattle.turn_client_api.specs.Range.{source_of, place_of}
use Rattle.turn_client_api.specs.PeerBytes.{held_in, payload_of}
use Rattle.turn_client_api.specs.State.{State, Stream, Mode, Control, Broken}
use Rattle.turn_client_api.specs.Requests.{data_method}
use Rattle.turn_client_api.specs.Judgement.{class_in, method_in}
use Rattle.turn_client_api.specs.Effect.{closed}
use Rattle.turn_client_api.specs.Payloads.{Payload, Outcome, is_channel_frame, is_message}
use Rattle.turn_client_api.specs.Payloads as O
use Rattle.turn_client_api.specs.Memory.{is_free_frame, packet_takes_memory}
use Rattle.turn_client_api.specs.Streams.{broken_at, is_bound, is_ready, stream_at, steps_until_payload}
use Rattle.turn_client_api.specs.Receive.{first_frame_step, is_from_server}
use Rattle.turn_client_api.specs.declared.receive.DataRangeOrOwned.{DataRangeOrOwned}
use Rattle.turn_client_api.specs.declared.receive.DataRangeOrOwned.TheVariants as Data
use Rattle.turn_client_api.specs.declared.receive.TurnPeerData.{TurnPeerData}
use Rattle.turn_client_api.specs.declared.receive.TurnRecvRet.{TurnRecvRet}
use Rattle.turn_client_api.specs.declared.receive.TurnRecvRet.TheVariants as Recv
use Rattle.turn_client_api.specs.declared.send.DelayedMessageOrChannelSend.{DelayedMessageOrChannelSend}
use Rattle.turn_client_api.specs.declared.event.TurnEvent.{TurnEvent}
use Rattle.turn_client_api.specs.declared.error.BindChannelError.{BindChannelError}
use Rattle.turn_client_api.specs.declared.error.BindChannelError.TheVariants as Bind
use Rattle.turn_client_api.specs.declared.error.CreatePermissionError.{CreatePermissionError}
use Rattle.turn_client_api.specs.declared.error.CreatePermissionError.TheVariants as Create
use Rattle.turn_client_api.specs.declared.error.DeleteError.{DeleteError}
use Rattle.turn_client_api.specs.declared.error.DeleteError.TheVariants as Delete
use Rattle.turn_client_api.specs.declared.error.SendError.{SendError}
use Rattle.turn_client_api.specs.declared.error.SendError.TheVariants as Send
use Rattle.turn_client_api.specs.declared.error.TcpAllocateError.{TcpAllocateError}
use Rattle.turn_client_api.specs.declared.error.TcpAllocateError.TheVariants as Socket
use Rattle.turn_client_api.specs.declared.error.TcpConnectError.{TcpConnectError}
use Rattle.turn_client_api.specs.declared.error.TcpConnectError.TheVariants as Join

-- ---- calls that may be refused: memory is allocated only by a call that would succeed otherwise, and
-- nothing changes if that fails

abbrev pub CreatesPermission : Result Unit CreatePermissionError → State → State → Result Unit CreatePermissionError × State → Type 0
CreatesPermission (Err Create.OutOfMemory) was s said = (said.0 ≡ Ok tt) × (s ≡ was)
CreatesPermission answer was s said = (answer ≡ said.0) × (s ≡ said.1)

abbrev pub BindsChannel : Result Unit BindChannelError → State → State → Result Unit BindChannelError × State → Type 0
BindsChannel (Err Bind.OutOfMemory) was s said = (said.0 ≡ Ok tt) × (s ≡ was)
BindsChannel answer was s said = (answer ≡ said.0) × (s ≡ said.1)

abbrev pub Connects : Result Unit TcpConnectError → State → State → Result Unit TcpConnectError × State → Type 0
Connects (Err Join.OutOfMemory) was s said = (said.0 ≡ Ok tt) × (s ≡ was)
Connects answer was s said = (answer ≡ said.0) × (s ≡ said.1)

abbrev pub TakesSocket : Result Unit TcpAllocateError → State → State → Result Unit TcpAllocateError × State → Type 0
TakesSocket (Err Socket.OutOfMemory) was s said = (said.0 ≡ Ok tt) × (s ≡ was)
TakesSocket answer was s said = (answer ≡ said.0) × (s ≡ said.1)

abbrev pub Deletes : Result Unit DeleteError → State → State → Result Unit DeleteError × State → Type 0
Deletes (Err Delete.OutOfMemory) was s said = (said.0 ≡ Ok tt) × (s ≡ was)
Deletes answer was s said = (answer ≡ said.0) × (s ≡ said.1)

-- ---- events

abbrev pub event_step : State → Option TurnEvent × State
event_step s = (slice_get s.events 0, record s { events = drop 1 s.events })

-- ---- data for a peer

-- the packet that is built later is the one that the machine sends
abbrev pub IsSent : {T : Type 0} {g : Ghosts T ℕ} → Result (Option (TransmitBuild (DelayedMessageOrChannelSend T g))) SendError
    → Result (Transmit (List ℕ)) SendError → Type 0
IsSent (Ok (Some packet)) said =
    said ≡ Ok (record { payload = delayed_send_bytes packet.payload; transport = packet.transport; from = packet.from; to = packet.to })
IsSent (Ok None) said = ⊥
IsSent (Err refusal) said = said ≡ Err refusal

-- no packet to the peer can be made: it has no permission, or no data connection is bound to it
abbrev pub IsNoWay : SendError → Type 0
IsNoWay Send.NoPermission = ⊤
IsNoWay Send.NoTcpSocket = ⊤
IsNoWay _ = ⊥

-- ---- received bytes

-- the range of the bytes in what the caller passed in, unless they are owned
abbrev pub place_in : {T : Type 0} {g : Ghosts T ℕ} → DataRangeOrOwned T g → Option (Range ℕ)
place_in (Data.Range range) = Some (place_of range)
place_in (Data.Owned bytes) = None

abbrev pub given_payload : {T : Type 0} {g : Ghosts T ℕ} → TurnPeerData T g → Payload
given_payload p = record { transport = p.transport; peer = p.peer; bytes = payload_of p; place = place_in (held_in p) }

abbrev pub outcome_of : {T : Type 0} {g : Ghosts T ℕ} → TurnRecvRet T g → Outcome
outcome_of Recv.Handled = O.Handled
outcome_of (Recv.Ignored transmit) = O.Ignored
outcome_of (Recv.PeerData p) = O.PeerData (given_payload p)
outcome_of (Recv.PeerIcmp transport peer icmp_type icmp_code icmp_data) =
    O.PeerIcmp transport peer (record { icmp_type = icmp_type; code = icmp_code; «data» = icmp_data })

-- bytes that are not owned are a range of what the caller passed in
abbrev pub IsPartOf : {T : Type 0} {g : Ghosts T ℕ} → T → DataRangeOrOwned T g → Type 0
IsPartOf handed (Data.Range range) = source_of range ≡ handed
IsPartOf handed (Data.Owned bytes) = ⊤

-- input that is not for the client is returned whole
abbrev pub HandsBack : {T : Type 0} {g : Ghosts T ℕ} → Transmit T → TurnRecvRet T g → Type 0
HandsBack transmit Recv.Handled = ⊤
HandsBack transmit (Recv.Ignored back) = back ≡ transmit
HandsBack transmit (Recv.PeerData p) = IsPartOf transmit.payload (held_in p)
HandsBack transmit (Recv.PeerIcmp transport peer icmp_type icmp_code icmp_data) = ⊤

-- ---- allocation failure

-- so many steps without a payload lead from one state to the other
abbrev pub LeadsTo : ℕ → State → State → Type 0
LeadsTo now before s = (n : ℕ) × (steps_until_payload n now before ≡ (None, s))

-- After some steps without a payload a memory allocation for the next one failed: its stream is broken, and
-- the client has ended, in the state that these steps left. If no stream is ready, no memory is allocated.
abbrev pub EndsAfterSteps : ℕ → State → State → Type 0
EndsAfterSteps now before s =
    (t : State) × LeadsTo now before t × IsSomeAnd (find is_ready t.streams) (λ stream. s ≡ closed (broken_at stream.local t))

-- the state in which all streams are processed, if a piece of the control stream makes them ready
abbrev pub before_others : SocketAddr → List ℕ → ℕ → State → Option State
before_others to piece now s = option_and_then (λ stream. by stream stream.mode) (stream_at to s)
  where
    behind : Outcome × State → Option State
    behind (O.PeerData payload, t) = None
    behind (O.PeerIcmp transport peer icmp, t) = None
    behind (_, t) = Some t

    by : Stream → Mode → Option State
    by stream Control = behind (first_frame_step stream piece now s)
    by stream Broken = if same_address stream.local s.local then Some s else None
    by stream _ = None

-- A memory allocation failed for the input or for its first frame, or over TCP for what other streams hold.
-- An empty piece makes no stream ready: the allocation failed for the close that it queues.
abbrev pub RecvEnds : SocketAddr → List ℕ → ℕ → State → State → Type 0
RecvEnds to piece now was s =
    (s ≡ closed (broken_at to was))
    ⊎ ((was.transport ≡ Tcp) × (piece ≢ []) × IsSomeAnd (before_others to piece now was) (λ t. EndsAfterSteps now t s))

-- DATA indications and ChannelData messages allocate no memory over UDP, nor do bytes of a bound connection
-- whose stream is empty; to record that such a connection has ended may allocate some
abbrev pub is_data_indication : List ℕ → Bool
is_data_indication bytes = by (class_in bytes)
  where
    by : MessageClass → Bool
    by Indication = method_in bytes == data_method
    by _ = false

abbrev pub datagram_takes_none : List ℕ → Bool
datagram_takes_none bytes = if is_message bytes then is_data_indication bytes else is_channel_frame bytes

abbrev pub is_free_piece : List ℕ → Stream → Bool
is_free_piece piece stream = is_bound stream.mode && nat_lt 0 (length piece) && not (nat_lt 0 (length stream.bytes))

abbrev pub stream_takes_none : List ℕ → State → Stream → Bool
stream_takes_none piece s stream = is_free_piece piece stream || is_free_frame piece s stream

-- nor does input that is not for the client, or that requests nothing of it
abbrev pub takes_no_memory : TransportType → SocketAddr → SocketAddr → List ℕ → State → Bool
takes_no_memory transport from to bytes s = not (is_from_server transport from s) || by s.transport
  where
    by : TransportType → Bool
    by Udp = not (same_address to s.local) || not (packet_takes_memory bytes s)
    by Tcp = option_map_or (stream_takes_none bytes s) (stream_at to s) true
