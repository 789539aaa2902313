-- What a client makes of received bytes (RFC 8656, sections 11.4 and 11.6; over TCP RFC 6062).
use Rattle.std.specs.Prelude.{ℕ, Bool, ◌&&◌, if◌then◌else◌, List, [], ◌∷◌, ◌++◌, Option, Some, None, is_some}
use Rattle.std.specs.declared.ops.Range.{Range}
use Rattle.std.specs.declared.net.socket_addr.SocketAddr.{SocketAddr}
use Rattle.turn_stun.specs.declared.transport.TransportType.{TransportType}
use Rattle.turn_stun.specs.declared.transport.TransportType.TheVariants.{Udp, Tcp}
use Rattle.std.specs.Option.{option_map_or}
use Rattle.turn_agent.specs.Agent.{same_address}
use Rattle.turn_client_api.specs.State.{State, Mode, Control, Waiting, Bound, Broken, Stream}
use Rattle.turn_client_api.specs.Grants.{is_connection_from, same_transport, without_grants}
use Rattle.turn_client_api.specs.Connections.{connection_at}
use Rattle.turn_client_api.specs.Payloads.{Outcome, Handled, Ignored, PeerData, PeerIcmp, datagram_step}
use Rattle.turn_client_api.specs.Streams.{all_of, owned, poll_recv_step, sent_by, stream_at, next_frame_step, with_bytes, without_stream}

-- ---- a data connection ends

-- the caller is to close its end before all other connections that it is to close
abbrev pub connection_gone : SocketAddr → State → State
connection_gone local s =
    if is_some (connection_at local s) then record (without_grants (is_connection_from local) s) { closes = local ∷ s.closes }
    else s

-- over TCP, with the server's address; streams stay
abbrev pub tcp_closed_step : SocketAddr → SocketAddr → State → State
tcp_closed_step local remote s =
    if same_transport s.transport Tcp && same_address remote s.remote then connection_gone local s else s

-- ---- a piece of a stream

-- all of the piece, if the stream held nothing
abbrev pub whole_piece : List ℕ → List ℕ → Option (Range ℕ)
whole_piece [] piece = all_of piece
whole_piece waited piece = None

-- a frame that lies wholly in the piece is a range of it, and one with buffered bytes is owned
abbrev pub place_kept : List ℕ → Outcome → Outcome
place_kept [] outcome = outcome
place_kept waited outcome = owned outcome

-- the piece is appended to the buffered bytes, and then a step of this stream follows
abbrev pub first_frame_step : Stream → List ℕ → ℕ → State → Outcome × State
first_frame_step stream piece now s =
    let step = next_frame_step (record stream { bytes = stream.bytes ++ piece }) now s in
    (place_kept stream.bytes step.0, step.1)

-- if no payload was found yet, all streams are processed as in `poll_recv`, and a payload replaces the
-- result
abbrev pub then_all : ℕ → Outcome × State → Outcome × State
then_all now (PeerData payload, s) = (PeerData payload, s)
then_all now (PeerIcmp transport peer icmp, s) = (PeerIcmp transport peer icmp, s)
then_all now (outcome, s) =
    let others = poll_recv_step now s in (option_map_or PeerData others.0 outcome, others.1)

-- the pieces of the control stream make all streams ready, also when it is broken
abbrev pub broken_step : Stream → ℕ → State → Outcome × State
broken_step stream now s = if same_address stream.local s.local then then_all now (Handled, s) else (Handled, s)

abbrev pub piece_step : Stream → List ℕ → ℕ → State → Outcome × State
piece_step stream piece now s = by stream.mode
  where
    by : Mode → Outcome × State
    by Control = then_all now (first_frame_step stream piece now s)
    by Waiting = first_frame_step stream piece now s
    by (Bound peer) = (
      PeerData (sent_by peer (stream.bytes ++ piece) (whole_piece stream.bytes piece)),
      with_bytes stream.local [] s,
    )
    by Broken = broken_step stream now s

-- an empty piece reports that the server closed the stream
abbrev pub stream_step : Stream → List ℕ → ℕ → State → Outcome × State
stream_step stream [] now s = (Handled, without_stream stream.local (connection_gone stream.local s))
stream_step stream piece now s = piece_step stream piece now s

-- ---- input

-- it comes from the server, over the client's transport
abbrev pub is_from_server : TransportType → SocketAddr → State → Bool
is_from_server transport from s = same_transport transport s.transport && same_address from s.remote

-- input with other addresses is not for the client; over TCP a stream must exist at the local address
abbrev pub recv_step : TransportType → SocketAddr → SocketAddr → List ℕ → ℕ → State → Outcome × State
recv_step transport from to bytes now s = if is_from_server transport from s then by s.transport (stream_at to s) else (Ignored, s)
  where
    by : TransportType → Option Stream → Outcome × State
    by Udp _ = if same_address to s.local then datagram_step bytes now s else (Ignored, s)
    by Tcp (Some stream) = stream_step stream bytes now s
    by Tcp None = (Ignored, s)
