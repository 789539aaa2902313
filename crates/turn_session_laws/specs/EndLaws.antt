-- Laws of the end.
use Rattle.std.specs.Prelude.{◌≡◌, ℕ, ◌+◌, ◌-◌, ◌^◌, ◌≤◌, min, Bool, true, List, [], Some, None, Err}
use Rattle.std.specs.declared.net.socket_addr.SocketAddr.{SocketAddr}
use Rattle.turn_stun.specs.declared.transport.TransportType.{TransportType}
use Rattle.turn_client_api.specs.declared.error.SendError.TheVariants.{NoAllocation}
use Rattle.turn_client_api.specs.declared.poll.TurnPollRet.{TurnPollRet}
use Rattle.turn_client_api.specs.declared.poll.TurnPollRet.TheVariants.{Closed}
use Rattle.turn_session_book.specs.declared.answers.Answer.{Answer}
use Rattle.turn_session_book.specs.declared.answers.Answer.TheVariants.{Ended}
use Rattle.turn_session_book.specs.declared.causes.Why.{Why}
use Rattle.turn_session_book.specs.declared.events.Event.TheVariants.{Over}
use Rattle.turn_session_book.specs.declared.keys.Key.{Key}
use Rattle.turn_session_book.specs.declared.tags.Tag.{Tag}
use Rattle.turn_session_life.specs.Life.{is_running}
use Rattle.turn_session_life.specs.declared.life.Leave.{Leave}
use Rattle.turn_session_life.specs.declared.life.Phase.{Phase}
use Rattle.turn_session_life.specs.declared.life.Phase.TheVariants as Phases
use Rattle.turn_session_client.specs.Asking.{Requests}
use Rattle.turn_session_client.specs.Ending.{abandon_state, after_socket_error, ended, left, left_for}
use Rattle.turn_session_client.specs.Keeping.{kept_while_running}
use Rattle.turn_session_client.specs.NotedState.{NotedState}
use Rattle.turn_session_client.specs.Polling.{Polls, transmitted}
use Rattle.turn_session_client.specs.Receiving.{Receives}
use Rattle.turn_session_client.specs.Reporting.{reported_step}
use Rattle.turn_session_client.specs.Sending.{sent_step}
use Rattle.turn_session_client.specs.Sockets.{after_writing}

-- it has ended, or it leaves and has ended by this time
abbrev pub EndsBy : ℕ → Phase → Type 0
EndsBy until (Phases.Over why) = Unit {0}
EndsBy until (Phases.Leaving leave) = leave.until ≡ until
EndsBy until _ = ⊥

pub record LeavesInTime : Type 0 where
  pub begins : (now : ℕ) (s : NotedState) → is_running s.life.phase ≡ true → EndsBy (min (now + s.leave_wait) (2 ^ 63 - 1)) (left now s).life.phase
  -- it leaves by itself
  pub itself : (why : Why) (now : ℕ) (s : NotedState) → is_running s.life.phase ≡ true
      → EndsBy (min (now + s.leave_wait) (2 ^ 63 - 1)) (left_for why now s).life.phase
  -- a later call of the caller does not put it off
  pub stands : (now : ℕ) (s : NotedState) (leave : Leave) → s.life.phase ≡ Phases.Leaving leave → (left now s).life.phase ≡ s.life.phase
  pub ends : (now : ℕ) (was s : NotedState) (answer : TurnPollRet) (leave : Leave) → was.life.phase ≡ Phases.Leaving leave → leave.until ≤ now
      → Polls now was s answer → (answer ≡ Closed) × (s.life.phase ≡ Phases.Over leave.why)

-- what was noted is reported before it
pub record OverIsLast : Type 0 where
  pub last : (s : NotedState) (why : Why) → s.notes.book.events ≡ [] → (reported_step s).0 ≡ Some (Over why) → (reported_step (reported_step s).1).0 ≡ None

-- no call changes a session that has ended, but for the reports that are due
pub record NothingFollows : Type 0 where
  pub requested : (key : Key) (is_for_data : Bool) (now : ℕ) (answer : Answer) (was s : NotedState) (why : Why) → was.life.phase ≡ Phases.Over why
      → Requests key is_for_data now answer was s → (answer ≡ Ended why) × (s ≡ was)
  pub kept : (key : Key) (is_kept : Bool) (s : NotedState) (why : Why) → s.life.phase ≡ Phases.Over why → (kept_while_running key is_kept s).1 ≡ s
  pub received : (transport : TransportType) (from to : SocketAddr) (bytes : List ℕ) (now : ℕ) (was s : NotedState) (why : Why)
      → was.life.phase ≡ Phases.Over why → Receives transport from to bytes now was s → s ≡ was
  pub polled : (now : ℕ) (was s : NotedState) (answer : TurnPollRet) (why : Why) → was.life.phase ≡ Phases.Over why → Polls now was s answer
      → (answer ≡ Closed) × (s ≡ was)
  pub transmitted : (now : ℕ) (s : NotedState) (why : Why) → s.life.phase ≡ Phases.Over why → transmitted now s ≡ (None, s)
  pub sent : (transport : TransportType) (peer : SocketAddr) (bytes : List ℕ) (now : ℕ) (s : NotedState) (why : Why) → s.life.phase ≡ Phases.Over why
      → sent_step transport peer bytes now s ≡ (Err NoAllocation, s)
  pub failed : (tag : Tag) (now : ℕ) (s : NotedState) (why : Why) → s.life.phase ≡ Phases.Over why → after_socket_error tag now s ≡ s
  pub written : (now : ℕ) (s : NotedState) (why : Why) → s.life.phase ≡ Phases.Over why → after_writing now s ≡ s
  pub left : (now : ℕ) (s : NotedState) (why : Why) → s.life.phase ≡ Phases.Over why → left now s ≡ s
  pub left_for : (now : ℕ) (s : NotedState) (why other : Why) → s.life.phase ≡ Phases.Over why → left_for other now s ≡ s
  pub ended : (s : NotedState) (why other : Why) → s.life.phase ≡ Phases.Over why → ended other s ≡ s
  pub abandoned : (now : ℕ) (s : NotedState) (why : Why) → s.life.phase ≡ Phases.Over why → abandon_state now s ≡ s
