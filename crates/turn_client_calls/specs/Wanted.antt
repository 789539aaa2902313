-- Which calls a failed memory allocation may end, and how.
use Rattle.std.specs.Prelude.{◌≡◌, ◌⊎◌, ◌<◌, length, Ok, IsSome, ⊤}
use Rattle.turn_client_api.specs.Calls.{FailsFamilies, allocated_tcp_socket_step, bind_channel_step, create_permission_step, delete_step, tcp_connect_step}
use Rattle.turn_client_api.specs.State.{State}
use Rattle.turn_client_api.specs.Steps.{EndsWithoutMemory, state_after}
use Rattle.turn_client_api.specs.Transmit.{next_transmit}
use Rattle.turn_client_api.specs.declared.call.Call.{Call}
use Rattle.turn_client_api.specs.declared.call.Call.TheVariants as Calls
use Rattle.turn_client_api.specs.declared.state.Phase.TheVariants.{Requesting}
use Rattle.turn_client_calls.specs.Run.{reply_of}
use Rattle.turn_client_calls.specs.declared.reply.Reply.{Reply}
use Rattle.turn_client_calls.specs.declared.reply.Reply.TheVariants as Replies

-- The call needs memory: it would be accepted, a packet is due, for `poll` the first ALLOCATE awaits its response, or for
-- `protocol_error` families are to fail. Of `recv` and `poll_recv` what they leave without memory says so.
abbrev pub WantsMemory : Call → State → Type 0
WantsMemory (Calls.Delete now) s = (delete_step now s).0 ≡ Ok tt
WantsMemory (Calls.CreatePermission transport peer now) s = (create_permission_step transport peer now s).0 ≡ Ok tt
WantsMemory (Calls.BindChannel transport peer now) s = (bind_channel_step transport peer now s).0 ≡ Ok tt
WantsMemory (Calls.TcpConnect peer now) s = (tcp_connect_step peer now s).0 ≡ Ok tt
WantsMemory (Calls.AllocatedTcpSocket id tuple peer local now) s = (allocated_tcp_socket_step id tuple peer local now s).0 ≡ Ok tt
WantsMemory (Calls.Poll now) s = s.phase ≡ Requesting
WantsMemory (Calls.PollTransmit now) s = IsSome (next_transmit now s)
WantsMemory Calls.ProtocolError s = FailsFamilies s
WantsMemory _ s = ⊤

-- a memory allocation of the call failed, which the call needs, and the client is as the call leaves it then
abbrev pub EndsForMemory : Call → State → State → Type 0
EndsForMemory call s t = EndsWithoutMemory call s t × WantsMemory call s

-- the reply has a copy of bytes that the call returned, or a list, and it is not empty; or a packet for a peer
abbrev pub IsCopied : Reply → Type 0
IsCopied (Replies.PeerData given) = 0 < length given.«data»
IsCopied (Replies.SendTo (Ok packet)) = ⊤
IsCopied (Replies.RelayedAddresses addresses) = 0 < length addresses
IsCopied (Replies.Permissions addresses) = 0 < length addresses
IsCopied _ = ⊥

-- the call failed so, or it was made, and a memory allocation for such a reply failed
abbrev pub FailsForMemory : Call → State → State → Type 0
FailsForMemory call s t = EndsForMemory call s t ⊎ (IsCopied (reply_of call s) × (t ≡ state_after call s))
