-- What a call says of the streams: that it leaves them, or which one it opens or binds.
use Rattle.std.specs.Prelude.{◌≡◌, ◌==◌, ℕ, ◌&&◌, if◌then◌else◌, List, Option, Some, None}
use Rattle.std.specs.Option.{option_map_or}
use Rattle.std.specs.declared.net.socket_addr.SocketAddr.{SocketAddr}
use Rattle.turn_stun.specs.declared.transport.TransportType.TheVariants.{Tcp}
use Rattle.turn_client_api.specs.State.{State}
use Rattle.turn_client_api.specs.Calls.{allocated_tcp_socket_step, is_allocated, is_control, is_local_taken, offer_origin, with_stream}
use Rattle.turn_client_api.specs.Connections.{bind_step, connection_at, with_mode}
use Rattle.turn_client_api.specs.Grants.{same_transport}
use Rattle.turn_client_api.specs.Judgement.{Judgement, SignedSuccess, bind_judgement, method_in}
use Rattle.turn_client_api.specs.Requests.{connection_bind_method}
use Rattle.turn_client_api.specs.declared.grant.DataConnection.{DataConnection}
use Rattle.turn_client_api.specs.declared.poll.Socket5Tuple.{Socket5Tuple}
use Rattle.turn_client_api.specs.declared.state.Mode.TheVariants.{Bound}
use Rattle.turn_client_api.specs.declared.state.Phase.{Phase}
use Rattle.turn_client_api.specs.declared.state.Phase.TheVariants.{Allocated}
use Rattle.turn_client_api.specs.declared.state.Stream.{Stream}

-- with these streams in place of its own, the step gives the same, and leaves them
abbrev pub SparesStreams : {A : Type 0} → (State → A × State) → Type 0
SparesStreams step =
    (streams : List Stream) (s : State)
    → step (record s { streams = streams }) ≡ ((step s).0, record (step s).1 { streams = streams })

-- the same for a step that gives nothing
abbrev pub LeavesStreams : (State → State) → Type 0
LeavesStreams step =
    (streams : List Stream) (s : State) → step (record s { streams = streams }) ≡ record (step s) { streams = streams }

-- ---- a stream is opened

-- where the caller opened the connection of an offer, unless a connection from there exists
abbrev pub opens_for : Option SocketAddr → State → Option SocketAddr
opens_for None s = None
opens_for (Some local) s = if is_local_taken local s then None else Some local

-- the local address of the stream that the call opens, if it does
abbrev pub opens_at : ℕ → Socket5Tuple → SocketAddr → Option SocketAddr → State → Option SocketAddr
opens_at id tuple peer local s =
    if same_transport s.config.allocation_transport Tcp && is_control tuple s && is_allocated s.phase
    then option_map_or (λ origin. opens_for local s) (offer_origin id peer s) None
    else None

abbrev pub with_stream_at : Option SocketAddr → State → State
with_stream_at None s = s
with_stream_at (Some local) s = with_stream local s

-- ---- a stream is bound

-- the peer of the connection, if a message that is this binds it
abbrev pub binds_if : DataConnection → Judgement → Option SocketAddr
binds_if c SignedSuccess = Some c.peer
binds_if c _ = None

-- the peer to which a message binds the stream at this local address, if it does
abbrev pub binds_to : SocketAddr → List ℕ → State → Option SocketAddr
binds_to local message s = by s.phase (connection_at local s)
  where
    by : Phase → Option DataConnection → Option SocketAddr
    by Allocated (Some c) =
        if method_in message == connection_bind_method then binds_if c (bind_judgement s c.local message) else None
    by _ _ = None

abbrev pub with_stream_bound : SocketAddr → Option SocketAddr → State → State
with_stream_bound local None s = s
with_stream_bound local (Some peer) s = with_mode local (Bound peer) s

-- ---- what these say of a step

-- with these streams in place of its own, the call opens the same stream among them
abbrev pub OpensStream : ℕ → Socket5Tuple → SocketAddr → Option SocketAddr → ℕ → Type 0
OpensStream id tuple peer local now =
    (streams : List Stream) (s : State)
    → allocated_tcp_socket_step id tuple peer local now (record s { streams = streams })
    ≡ (
      (allocated_tcp_socket_step id tuple peer local now s).0,
      with_stream_at (opens_at id tuple peer local s) (record (allocated_tcp_socket_step id tuple peer local now s).1 { streams = streams }),
    )

-- with these streams in place of its own, the message binds the same stream among them
abbrev pub BindsStream : SocketAddr → List ℕ → ℕ → Type 0
BindsStream local message now =
    (streams : List Stream) (s : State)
    → bind_step local message now (record s { streams = streams })
    ≡ with_stream_bound local (binds_to local message s) (record (bind_step local message now s) { streams = streams })
