-- What the server sent, and a session after it.
use Rattle.std.specs.Prelude.{◌≡◌, ℕ, Bool, true, false, not, ◌&&◌, if◌then◌else◌, List, Option, Some}
use Rattle.std.specs.declared.net.socket_addr.SocketAddr.{SocketAddr}
use Rattle.turn_stun.specs.declared.transport.TransportType.{TransportType}
use Rattle.turn_agent.specs.Agent.{same_address}
use Rattle.turn_client_api.specs.Payloads.{Outcome}
use Rattle.turn_client_api.specs.Payloads as Outcomes
use Rattle.turn_client_api.specs.Receive.{is_from_server, recv_step}
use Rattle.turn_client_api.specs.State.{State}
use Rattle.turn_session_client.specs.Answering.{is_channel_data}
use Rattle.turn_session_client.specs.Ending.{is_open, is_over}
use Rattle.turn_session_client.specs.NotedState.{NotedState, is_stream}
use Rattle.turn_session_client.specs.Receiving.{answers_nothing, ended_with, outcome_in}
use Rattle.turn_session_client.specs.Receiving as Client
use Rattle.turn_session_life.specs.Watch.{watched_response}
use Rattle.turn_session.specs.Checking.{told_path}
use Rattle.turn_session.specs.Counting.{with_answer}
use Rattle.turn_session.specs.PathMessages.{response_in}
use Rattle.turn_session.specs.SessionState.{SessionState, with_noted, with_watch}
use Rattle.turn_session.specs.declared.path_messages.PathText.{PathText}

-- ---- a response to a request of the client or of the path

abbrev pub is_of_server : TransportType → SocketAddr → SocketAddr → State → Bool
is_of_server transport from to client = is_from_server transport from client && same_address to client.local

-- one with the ID of such a request, after the path has learned what was received before
abbrev pub answered_path : PathText → ℕ → SessionState → Bool × SessionState
answered_path r now s =
    let t = told_path s in let step = watched_response r.id r.mapped now t.watch in (step.0, with_watch step.1 t)

-- the path of an open session is checked
abbrev pub response_step : PathText → ℕ → SessionState → Bool × SessionState
response_step r now s =
    let t = with_answer r.id now s in if is_open s.noted.life.phase then answered_path r now t else (false, t)

-- before the end of the session
abbrev pub path_step : TransportType → SocketAddr → SocketAddr → List ℕ → ℕ → SessionState → Bool × SessionState
path_step transport from to bytes now s =
    by (not (is_over s.noted.life.phase) && is_of_server transport from to s.noted.client) (response_in bytes)
  where
    by : Bool → Option PathText → Bool × SessionState
    by true (Some r) = response_step r now s
    by _ _ = (false, s)

-- ---- all else is the client's

abbrev pub noted_outcome : TransportType → SocketAddr → SocketAddr → List ℕ → ℕ → NotedState → Outcome
noted_outcome transport from to bytes now s =
    outcome_in s.life.phase (answers_nothing to bytes s.client) (recv_step transport from to bytes now s.client).0

-- what the client does not ignore shows that the path carries packets
abbrev pub with_sign : Outcome → ℕ → SessionState → SessionState
with_sign Outcomes.Ignored now s = s
with_sign outcome now s = record s { received = Some now }

abbrev pub Passes : TransportType → SocketAddr → SocketAddr → List ℕ → ℕ → SessionState → SessionState → Type 0
Passes transport from to bytes now was s =
    Client.Receives transport from to bytes now was.noted s.noted
    × (s ≡ with_sign (noted_outcome transport from to bytes now was.noted) now (with_noted s.noted was))

-- a datagram that begins as ChannelData does (RFC 8656, section 12.4) takes no memory
abbrev pub is_channel_datagram : TransportType → List ℕ → Bool
is_channel_datagram transport bytes = not (is_stream transport) && is_channel_data bytes

-- ---- the call

abbrev pub outcome_by : Bool × SessionState → TransportType → SocketAddr → SocketAddr → List ℕ → ℕ → Outcome
outcome_by (true, t) transport from to bytes now = Outcomes.Handled
outcome_by (false, t) transport from to bytes now = noted_outcome transport from to bytes now t.noted

abbrev pub outcome_after : TransportType → SocketAddr → SocketAddr → List ℕ → ℕ → SessionState → Outcome
outcome_after transport from to bytes now s =
    outcome_by (path_step transport from to bytes now s) transport from to bytes now

abbrev pub ReceivesBy : Bool × SessionState → TransportType → SocketAddr → SocketAddr → List ℕ → ℕ → SessionState → Type 0
ReceivesBy (true, t) transport from to bytes now s = s ≡ t
ReceivesBy (false, t) transport from to bytes now s = Passes transport from to bytes now t s

abbrev pub Receives : TransportType → SocketAddr → SocketAddr → List ℕ → ℕ → SessionState → SessionState → Type 0
Receives transport from to bytes now was s =
    ReceivesBy (path_step transport from to bytes now was) transport from to bytes now s

-- without memory the client has ended in this state, and the session with it
abbrev pub Ends : TransportType → SocketAddr → SocketAddr → List ℕ → ℕ → SessionState → SessionState → Type 0
Ends transport from to bytes now was s =
    let t = (path_step transport from to bytes now was).1 in s ≡ with_noted (ended_with s.noted.client t.noted) t
