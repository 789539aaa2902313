-- Each call of a client, and the state after it.
use Rattle.std.specs.Prelude.{◌≡◌, ◌⊎◌, ℕ, false, List, [], ◌∷◌}
use Rattle.turn_stun.specs.declared.transport.Transmit.{Transmit}
use Rattle.turn_client_api.specs.Payloads.{Outcome}
use Rattle.turn_client_api.specs.State.{State}
use Rattle.turn_client_api.specs.Effect.{closed}
use Rattle.turn_client_api.specs.Streams.{poll_recv_step}
use Rattle.turn_client_api.specs.Receive.{recv_step, tcp_closed_step}
use Rattle.turn_client_api.specs.Calls.{allocated_tcp_socket_step, bind_channel_step, create_permission_step, delete_step, protocol_error_step, send_to_step}
use Rattle.turn_client_api.specs.Calls.{channel_kept_step, permission_kept_step, tcp_connect_step}
use Rattle.turn_client_api.specs.Poll.{poll_step}
use Rattle.turn_client_api.specs.Transmit.{transmit_step}
use Rattle.turn_client_api.specs.Answers.{EndsAfterSteps, RecvEnds, event_step, takes_no_memory}
pub use Rattle.turn_client_api.specs.declared.call.Call.{Call}
pub use Rattle.turn_client_api.specs.declared.call.Call.TheVariants.{Delete, CreatePermission, BindChannel, TcpConnect, AllocatedTcpSocket, TcpClosed, SendTo}
pub use Rattle.turn_client_api.specs.declared.call.Call.TheVariants.{Recv, PollRecv, Poll, PollTransmit, PollEvent, ProtocolError, RelayedAddresses}
pub use Rattle.turn_client_api.specs.declared.call.Call.TheVariants.{Permissions, HavePermission, SetPermissionKept, SetChannelKept}

-- what a packet, or a piece of a stream, does
abbrev pub packet_step : Transmit (List ℕ) → ℕ → State → Outcome × State
packet_step packet now s = recv_step packet.transport packet.from packet.to packet.payload now s

-- the state after the call, if no memory allocation fails
abbrev pub state_after : Call → State → State
state_after (Delete now) s = (delete_step now s).1
state_after (CreatePermission transport peer now) s = (create_permission_step transport peer now s).1
state_after (BindChannel transport peer now) s = (bind_channel_step transport peer now s).1
state_after (TcpConnect peer now) s = (tcp_connect_step peer now s).1
state_after (AllocatedTcpSocket id tuple peer local now) s = (allocated_tcp_socket_step id tuple peer local now s).1
state_after (TcpClosed local remote now) s = tcp_closed_step local remote s
state_after (SendTo transport peer bytes now) s = (send_to_step transport peer bytes now s).1
state_after (Recv packet now) s = (packet_step packet now s).1
state_after (PollRecv now) s = (poll_recv_step now s).1
state_after (Poll now) s = (poll_step now s).1
state_after (PollTransmit now) s = (transmit_step now s).1
state_after PollEvent s = (event_step s).1
state_after ProtocolError s = protocol_error_step s
state_after RelayedAddresses s = s
state_after (Permissions transport relayed) s = s
state_after (HavePermission transport to) s = s
state_after (SetPermissionKept transport peer is_kept) s = (permission_kept_step transport peer is_kept s).1
state_after (SetChannelKept transport peer is_kept) s = (channel_kept_step transport peer is_kept s).1

-- the client after these calls, without an allocation failure
abbrev pub state_after_all : State → List Call → State
state_after_all s [] = s
state_after_all s (call ∷ calls) = state_after_all (state_after call s) calls

-- the states that the call may leave if memory allocation fails; most calls change nothing then, and those
-- that allocate none never fail so
abbrev pub EndsWithoutMemory : Call → State → State → Type 0
EndsWithoutMemory (Recv packet now) s t =
    (takes_no_memory packet.transport packet.from packet.to packet.payload s ≡ false) × RecvEnds packet.to packet.payload now s t
EndsWithoutMemory (PollRecv now) s t = EndsAfterSteps now s t
EndsWithoutMemory (Poll now) s t = t ≡ closed s
EndsWithoutMemory (PollTransmit now) s t = t ≡ closed s
EndsWithoutMemory ProtocolError s t = t ≡ closed s
EndsWithoutMemory (TcpClosed local remote now) s t = ⊥
EndsWithoutMemory (SendTo transport peer bytes now) s t = ⊥
EndsWithoutMemory PollEvent s t = ⊥
EndsWithoutMemory RelayedAddresses s t = ⊥
EndsWithoutMemory (Permissions transport relayed) s t = ⊥
EndsWithoutMemory (HavePermission transport to) s t = ⊥
EndsWithoutMemory (SetPermissionKept transport peer is_kept) s t = ⊥
EndsWithoutMemory (SetChannelKept transport peer is_kept) s t = ⊥
EndsWithoutMemory _ s t = t ≡ s

-- a state that the call may leave
abbrev pub Leaves : Call → State → State → Type 0
Leaves call s t = (t ≡ state_after call s) ⊎ EndsWithoutMemory call s t
