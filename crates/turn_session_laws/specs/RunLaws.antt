-- The client of a session makes a run: the session changes it by its own calls alone.
use Rattle.std.specs.Prelude.{◌≡◌, ◌⊎◌, ℕ, Bool, List, Result, Option}
use Rattle.std.specs.declared.net.socket_addr.SocketAddr.{SocketAddr}
use Rattle.turn_stun.specs.declared.transport.TransportType.{TransportType}
use Rattle.turn_client_api.specs.Effect.{closed}
use Rattle.turn_client_api.specs.Payloads.{Outcome, Payload}
use Rattle.turn_client_api.specs.State.{State}
use Rattle.turn_client_api.specs.Steps.{state_after_all}
use Rattle.turn_client_api.specs.declared.call.Call.{Call}
use Rattle.turn_client_api.specs.declared.error.TcpAllocateError.{TcpAllocateError}
use Rattle.turn_client_api.specs.declared.poll.TurnPollRet.{TurnPollRet}
use Rattle.turn_client_api.specs.declared.poll.Socket5Tuple.{Socket5Tuple}
use Rattle.turn_session_book.specs.declared.answers.Answer.{Answer}
use Rattle.turn_session_book.specs.declared.keys.Key.{Key}
use Rattle.turn_session_book.specs.declared.tags.Tag.{Tag}
use Rattle.turn_session_client.specs.Asking.{Requests}
use Rattle.turn_session_client.specs.Keeping.{kept_while_running}
use Rattle.turn_session_client.specs.NotedState.{NotedState}
use Rattle.turn_session_client.specs.Sending.{sent_step}
use Rattle.turn_session_client.specs.Sockets.{FailsSocket, TakesSocket, closed_socket}
use Rattle.turn_session.specs.Framing.{PollsData, ReceivesBytes}
use Rattle.turn_session.specs.Polling.{Polls}
use Rattle.turn_session.specs.Reporting.{reported_step}
use Rattle.turn_session.specs.Sending.{transmit_step}
use Rattle.turn_session.specs.SessionState.{SessionState}

-- some calls of a client lead from one of its states to the other
abbrev pub RunsOn : State → State → Type 0
RunsOn before after = (calls : List Call) × (after ≡ state_after_all before calls)

-- the last of them may have ended the client for want of memory
abbrev pub RunsOrEnds : State → State → Type 0
RunsOrEnds before after = (t : State) × RunsOn before t × ((after ≡ t) ⊎ (after ≡ closed t))

-- Each call of a session that changes its client, where it finds the memory that it wants. All others, but `abandon`, leave the client as
-- it is.
pub record SessionsAreRuns : Type 0 where
  pub recv : (transport : TransportType) (from to : SocketAddr) (bytes : List ℕ) (now : ℕ) (was s : SessionState) (outcome : Outcome)
      → ReceivesBytes transport from to bytes now was s outcome → RunsOn was.noted.client s.noted.client
  pub poll_recv : (now : ℕ) (was s : SessionState) (payload : Option Payload) → PollsData now was s payload → RunsOn was.noted.client s.noted.client
  pub poll : (now : ℕ) (was s : SessionState) (answer : TurnPollRet) → Polls now was s answer → RunsOrEnds was.noted.client s.noted.client
  pub poll_transmit : (now : ℕ) (s : SessionState) → RunsOn s.noted.client (transmit_step now s).1.noted.client
  pub poll_event : (s : SessionState) → (reported_step s).1.noted.client ≡ s.noted.client
  pub request : (key : Key) (is_for_data : Bool) (now : ℕ) (answer : Answer) (was s : NotedState) → Requests key is_for_data now answer was s
      → RunsOn was.client s.client
  pub set_kept : (key : Key) (is_kept : Bool) (s : NotedState) → RunsOn s.client (kept_while_running key is_kept s).1.client
  pub send_to : (transport : TransportType) (peer : SocketAddr) (bytes : List ℕ) (now : ℕ) (s : NotedState)
      → RunsOn s.client (sent_step transport peer bytes now s).1.client
  pub data_opened : (id : ℕ) (socket : Socket5Tuple) (peer : SocketAddr) (local : Option SocketAddr) (now : ℕ) (result : Result Unit TcpAllocateError)
      (was s : NotedState) → TakesSocket id socket peer local now result was s → RunsOn was.client s.client
  pub data_failed : (id : ℕ) (socket : Socket5Tuple) (peer : SocketAddr) (tag : Tag) (now : ℕ) (result : Result Unit TcpAllocateError)
      (was s : NotedState) → FailsSocket id socket peer tag now result was s → RunsOn was.client s.client
  pub data_closed : (local peer : SocketAddr) (tag : Tag) (now : ℕ) (s : NotedState) → RunsOn s.client (closed_socket local peer tag s).client
