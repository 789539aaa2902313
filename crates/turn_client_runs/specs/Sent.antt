-- What a client sends in a run (RFC 8656, sections 8 to 12; RFC 6062, section 4.3).
use Rattle.std.specs.Prelude.{◌≡◌, ◌≢◌, ◌≤◌, ◌⊎◌, ℕ, List, ◌∷◌, ◌++◌, Some, None, Ok}
use Rattle.std.specs.List.{Contains}
use Rattle.std.specs.declared.net.socket_addr.SocketAddr.{SocketAddr}
use Rattle.turn_stun.specs.declared.transport.TransportType.{TransportType}
use Rattle.turn_stun.specs.declared.transport.TransportType.TheVariants.{Udp, Tcp}
use Rattle.turn_stun.specs.declared.transport.Transmit.{Transmit}
use Rattle.turn_types.specs.Channel.{channel_frame}
use Rattle.turn_types.specs.Send.{send_indication}
use Rattle.turn_client_api.specs.State.{State}
use Rattle.turn_client_api.specs.declared.call.Call.{Call}
use Rattle.turn_client_api.specs.declared.call.Call.TheVariants.{AllocatedTcpSocket, PollTransmit, SendTo}
use Rattle.turn_client_api.specs.declared.grant.DataConnection.{DataConnection}
use Rattle.turn_client_api.specs.declared.grant.Grant.TheVariants.{Channel, Connection}
use Rattle.turn_client_api.specs.declared.grant.Lease.{Lease}
use Rattle.turn_client_api.specs.declared.grant.Progress.TheVariants.{Active}
use Rattle.turn_client_api.specs.declared.grant.Purpose.TheVariants.{ForBind}
use Rattle.turn_client_api.specs.declared.poll.Socket5Tuple.{Socket5Tuple}
use Rattle.turn_client_api.specs.Calls.{allocated_tcp_socket_step, send_to_step}
use Rattle.turn_client_api.specs.Judgement.{method_in}
use Rattle.turn_client_api.specs.Requests.{connection_bind_method, request_for}
use Rattle.turn_client_api.specs.Steps.{state_after_all}
use Rattle.turn_client_api.specs.Transmit.{next_transmit}

-- ---- what `poll_transmit` gives

-- In one of these calls the caller said that it opened a data connection from this local address, for the
-- connection to this peer with this ID.
pub record WasOpened (local peer : SocketAddr) (id : ℕ) (calls : List Call) (first : State) : Type 0 where
  pub earlier : List Call
  pub tuple : Socket5Tuple
  pub now : ℕ
  pub later : List Call
  pub split : calls ≡ earlier ++ AllocatedTcpSocket id tuple peer (Some local) now ∷ later
  pub accepted : (allocated_tcp_socket_step id tuple peer (Some local) now (state_after_all first earlier)).0 ≡ Ok tt

-- the message binds no data connection
abbrev pub IsNoBind : List ℕ → Type 0
IsNoBind message = method_in message ≢ connection_bind_method

-- the message is the CONNECTION_BIND for this connection, as a client signs it that was made as the first one
-- was, whatever realm and nonce it held then
abbrev pub IsBindOf : SocketAddr → SocketAddr → ℕ → State → List ℕ → Type 0
IsBindOf local peer id first message =
    (t : State) × (number : ℕ) × (t.config ≡ first.config) × (message ≡ request_for t (ForBind local peer id) number)

-- the message binds a data connection of the caller's, and goes over it
abbrev pub IsBindFrom : SocketAddr → List ℕ → List Call → State → Type 0
IsBindFrom local message calls first =
    (peer : SocketAddr) × (id : ℕ) × WasOpened local peer id calls first × IsBindOf local peer id first message

-- The packet goes to the server over the client's transport: a CONNECTION_BIND over the data connection that it
-- is to bind, which the caller opened in these calls, and all else from the control address. Over UDP, where
-- requests are retransmitted, there is only that address.
pub record GoesToServer (packet : Transmit (List ℕ)) (calls : List Call) (first : State) : Type 0 where
  pub transport : packet.transport ≡ first.transport
  pub to : packet.to ≡ first.remote
  pub from : ((packet.from ≡ first.local) × (first.transport ≡ Tcp → IsNoBind packet.payload)) ⊎ IsBindFrom packet.from packet.payload calls first

-- so does each packet that `poll_transmit` gives in these calls
abbrev pub SendsToServer : State → List Call → Type 0
SendsToServer first calls =
    (earlier : List Call) (now : ℕ) (later : List Call) (packet : Transmit (List ℕ)) → calls ≡ earlier ++ PollTransmit now ∷ later
    → next_transmit now (state_after_all first earlier) ≡ Some packet → GoesToServer packet earlier first

-- ---- what `send_to` gives

-- the packet goes from the control address to the server, over the client's transport
abbrev pub from_control : State → List ℕ → Transmit (List ℕ)
from_control first message = record { payload = message; transport = first.transport; from = first.local; to = first.remote }

-- the data goes to the server over the data connection to this peer, which is bound
abbrev pub IsOnConnection : SocketAddr → List ℕ → State → State → Transmit (List ℕ) → Type 0
IsOnConnection peer bytes first s packet =
    (c : DataConnection) × Contains s.grants (Connection c) × (c.peer ≡ peer) × (c.deadline ≡ None)
    × (packet ≡ record { payload = bytes; transport = Tcp; from = c.local; to = first.remote })

-- the data is in a ChannelData message of a channel that is bound to this peer, before its expiry
abbrev pub IsOnChannel : SocketAddr → List ℕ → ℕ → State → State → Transmit (List ℕ) → Type 0
IsOnChannel peer bytes now first s packet =
    (number : ℕ) × (lease : Lease) × Contains s.grants (Channel number peer (Active lease)) × (now ≤ lease.expiry)
    × (packet ≡ from_control first (channel_frame number bytes))

-- the data is in a Send indication, in which this peer stands
abbrev pub IsIndicatedTo : SocketAddr → List ℕ → State → Transmit (List ℕ) → Type 0
IsIndicatedTo peer bytes first packet = (id : ℕ) × (packet ≡ from_control first (send_indication peer bytes id))

-- the data goes so if the server relays it over this transport
abbrev pub IsSentTo : TransportType → SocketAddr → List ℕ → ℕ → State → State → Transmit (List ℕ) → Type 0
IsSentTo Tcp peer bytes now first s packet = IsOnConnection peer bytes first s packet
IsSentTo Udp peer bytes now first s packet = IsOnChannel peer bytes now first s packet ⊎ IsIndicatedTo peer bytes first packet

-- so does what each `send_to` of these calls gives
abbrev pub SendsToPeers : State → List Call → Type 0
SendsToPeers first calls =
    (earlier : List Call) (transport : TransportType) (peer : SocketAddr) (bytes : List ℕ) (now : ℕ) (later : List Call) (packet : Transmit (List ℕ))
    → let s = state_after_all first earlier in
    calls ≡ earlier ++ SendTo transport peer bytes now ∷ later → (send_to_step transport peer bytes now s).0 ≡ Ok packet
    → IsSentTo transport peer bytes now first s packet

-- what goes out in a run, and where to
abbrev pub PacketsGoOut : State → List Call → Type 0
PacketsGoOut first calls = SendsToServer first calls × SendsToPeers first calls
