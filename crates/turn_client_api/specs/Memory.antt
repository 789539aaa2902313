-- Which messages and frames allocate memory.
use Rattle.std.specs.Prelude.{ℕ, ◌==◌, nat_lt, Bool, true, false, not, ◌&&◌, ◌||◌, List, find, length, Option, Some, None, is_none, is_some}
use Rattle.std.specs.Option.{option_map_or}
use Rattle.std.specs.declared.net.socket_addr.SocketAddr.{SocketAddr}
use Rattle.turn_stun.specs.Message.{id_of}
use Rattle.turn_types.specs.Frames.{frame_len}
use Rattle.turn_client_api.specs.State.{State, DataConnection, Mode, Control, Waiting, Bound, Broken, Stream}
use Rattle.turn_client_api.specs.Grants.{purposes_of}
use Rattle.turn_client_api.specs.Requests.{connection_attempt_method, connection_bind_method}
use Rattle.turn_client_api.specs.Judgement.{Judgement, Unrelated, Challenged, Fatal, LateResponse, DataIndication, ConnectionAttempt, SignedRequest}
use Rattle.turn_client_api.specs.Judgement.{SignedSuccess, SignedError, bind_judgement, judgement_of, method_in}
use Rattle.turn_client_api.specs.Retry.{retried}
use Rattle.turn_client_api.specs.Connections.{attempt_indicated, connection_at}
use Rattle.turn_client_api.specs.Payloads.{is_message}
use Rattle.turn_client_api.specs.Streams.{is_ready}

-- ---- a message

-- a challenge that is answered, since its ID is listed for something requested over the control connection,
-- or that is one too many and ends the client
abbrev pub challenge_takes_memory : List ℕ → State → Bool
challenge_takes_memory message s = is_some (retried (purposes_of (id_of message) s)) || not (nat_lt s.challenges s.config.max_stale_nonces)

-- Only a message that the client answers, or that changes it, allocates memory: none that is not for it, no
-- late reply, no DATA indication, no ConnectionAttempt indication that is not accepted, and no other
-- request.
abbrev pub message_takes_memory : List ℕ → State → Bool
message_takes_memory message s = by (judgement_of s message)
  where
    by : Judgement → Bool
    by Unrelated = false
    by (Challenged challenge) = challenge_takes_memory message s
    by Fatal = true
    by LateResponse = false
    by DataIndication = false
    by ConnectionAttempt = is_some (attempt_indicated message s)
    by SignedRequest = method_in message == connection_attempt_method
    by SignedSuccess = true
    by SignedError = true

-- a data connection that waits to be bound stays: it is bound, or another CONNECTION_BIND is sent
abbrev pub keeps_connection : Judgement → Bool
keeps_connection (Challenged challenge) = true
keeps_connection SignedSuccess = true
keeps_connection _ = false

-- of the messages of such a connection only one by which it stays allocates memory
abbrev pub bind_takes_memory : SocketAddr → List ℕ → State → Bool
bind_takes_memory local message s = by (connection_at local s)
  where
    by : Option DataConnection → Bool
    by (Some c) = (method_in message == connection_bind_method) && keeps_connection (bind_judgement s c.local message)
    by None = false

-- ---- a datagram, or a whole frame: only messages allocate memory

-- of the server, or of the control stream
abbrev pub packet_takes_memory : List ℕ → State → Bool
packet_takes_memory bytes s = is_message bytes && message_takes_memory bytes s

-- of a data connection from this local address, which waits to be bound
abbrev pub waiting_takes_memory : SocketAddr → List ℕ → State → Bool
waiting_takes_memory local frame s = is_message frame && bind_takes_memory local frame s

-- of any stream; data of a peer is returned where it lies
abbrev pub frame_takes_memory : Stream → List ℕ → State → Bool
frame_takes_memory stream frame s = by stream.mode
  where
    by : Mode → Bool
    by Control = packet_takes_memory frame s
    by Waiting = waiting_takes_memory stream.local frame s
    by (Bound peer) = false
    by Broken = false

-- ---- a piece of a stream

abbrev pub is_whole_frame : List ℕ → Bool
is_whole_frame piece = option_map_or (λ len. len == length piece) (frame_len piece) false

-- one whole frame that allocates no memory, for a stream that holds nothing, if no stream is ready
abbrev pub is_free_frame : List ℕ → State → Stream → Bool
is_free_frame piece s stream =
    is_whole_frame piece && not (nat_lt 0 (length stream.bytes))
    && is_none (find is_ready s.streams)
    && not (frame_takes_memory stream piece s)
