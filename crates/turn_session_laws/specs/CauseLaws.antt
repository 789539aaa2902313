-- Laws of causes: why a session ends.
use Rattle.std.specs.Prelude.{◌≡◌, ◌⊎◌, ℕ, true, List, Some}
use Rattle.std.specs.declared.net.socket_addr.SocketAddr.{SocketAddr}
use Rattle.turn_stun.specs.declared.transport.TransportType.{TransportType}
use Rattle.turn_client_api.specs.declared.poll.TurnPollRet.{TurnPollRet}
use Rattle.turn_session_book.specs.declared.causes.Why.{Why}
use Rattle.turn_session_book.specs.declared.causes.Why.TheVariants.{Closed, GrantSilent, OutOfMemory}
use Rattle.turn_session_book.specs.declared.keys.Key.{Key}
use Rattle.turn_session_life.specs.Heard.{IsCauseWithoutAddress, cause_of_end}
use Rattle.turn_session_life.specs.Life.{cause_in, is_running}
use Rattle.turn_session_life.specs.Verdict.{verdict_step}
use Rattle.turn_session_life.specs.declared.verdict.VerdictStep.TheVariants as Verdict
use Rattle.turn_session_client.specs.Drain.{drained}
use Rattle.turn_session_client.specs.Ending.{ended, left}
use Rattle.turn_session_client.specs.NotedState.{NotedState}
use Rattle.turn_session_client.specs.Polling.{Polls, silent_grant}
use Rattle.turn_session_client.specs.Receiving.{Receives}

-- over a stream, a grant that was kept, and whose renewal had no response
abbrev pub IsSilentGrant : ℕ → NotedState → Why → Type 0
IsSilentGrant now s why = (key : Key) × (silent_grant (drained now s) ≡ Some key) × (why ≡ GrantSilent key)

-- an error while the allocation was requested, which nothing that is signed has overruled in time
abbrev pub IsVerdict : ℕ → NotedState → Why → Type 0
IsVerdict now s why = verdict_step now s.verdict.blame ≡ Verdict.Ended why

-- its client has ended: by what the server has said of the allocation
abbrev pub IsOfServer : ℕ → NotedState → Why → Type 0
IsOfServer now s why = IsCauseWithoutAddress now s.heard why ⊎ (why ≡ cause_of_end s.heard)

abbrev pub IsCauseOfPoll : ℕ → NotedState → Why → Type 0
IsCauseOfPoll now s why = IsSilentGrant now s why ⊎ (IsVerdict now s why ⊎ (IsOfServer now s why ⊎ (why ≡ OutOfMemory)))

-- a session that neither leaves nor has ended
pub record EndsHaveCauses : Type 0 where
  -- its caller leaves
  pub left : (now : ℕ) (s : NotedState) (why : Why) → is_running s.life.phase ≡ true → cause_in (left now s).life.phase ≡ Some why → why ≡ Closed
  -- what it receives does not end it
  pub received : (transport : TransportType) (from to : SocketAddr) (bytes : List ℕ) (now : ℕ) (was s : NotedState) → is_running was.life.phase ≡ true
      → Receives transport from to bytes now was s → is_running s.life.phase ≡ true
  -- polled, it may find one of these causes
  pub polled : (now : ℕ) (was s : NotedState) (answer : TurnPollRet) (why : Why) → is_running was.life.phase ≡ true → Polls now was s answer
      → cause_in s.life.phase ≡ Some why → IsCauseOfPoll now was why
  -- the first cause stays
  pub stays : (s : NotedState) (why other : Why) → cause_in s.life.phase ≡ Some why → cause_in (ended other s).life.phase ≡ Some why
