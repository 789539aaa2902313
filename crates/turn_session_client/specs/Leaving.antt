-- A session that leaves (RFC 8656, section 8.1).
use Rattle.std.specs.Prelude.{◌≡◌, ◌⊎◌, ℕ, ◌+◌, ◌-◌, ◌^◌, min, nat_le, nat_lt, not, ◌&&◌, Bool, true, false, if◌then◌else◌, drop, slice_get}
use Rattle.std.specs.Prelude.{is_some, Option, Some, None, Result, Ok, Err}
use Rattle.turn_client_api.specs.Calls.{delete_step}
use Rattle.turn_client_api.specs.Effect.{closed}
use Rattle.turn_client_api.specs.Poll.{poll_step}
use Rattle.turn_client_api.specs.State.{State}
use Rattle.turn_client_api.specs.declared.error.DeleteError.{DeleteError}
use Rattle.turn_client_api.specs.declared.poll.TurnPollRet.{TurnPollRet}
use Rattle.turn_client_api.specs.declared.poll.TurnPollRet.TheVariants.{WaitUntil, Closed}
use Rattle.turn_session_book.specs.declared.causes.Why.{Why}
use Rattle.turn_session_life.specs.Life.{after_deletion}
use Rattle.turn_session_life.specs.declared.life.Leave.{Leave}
use Rattle.turn_session_client.specs.Ending.{ended}
use Rattle.turn_session_client.specs.NotedState.{NotedState}

-- a call that found no memory is repeated after 100 ms
abbrev pub shortage_end : ℕ → ℕ
shortage_end now = min (now + 100_000_000) (2 ^ 63 - 1)

-- ---- bytes that are on their way to a peer

-- they have 1 s, and at most half of the time of leaving, since the rest is for the deletion
abbrev pub linger_end : Leave → ℕ → ℕ
linger_end leave written = min (min (written + 1_000_000_000) (2 ^ 63 - 1)) leave.delete_by

-- until when the deletion waits for them
abbrev pub lingers_until : Leave → ℕ → NotedState → Option ℕ
lingers_until leave now s = by s.written
  where
    by : Option ℕ → Option ℕ
    by None = None
    by (Some written) = if not leave.is_deleted && nat_lt now (linger_end leave written) then Some (linger_end leave written) else None

-- ---- the deletion

-- without an allocation it is tried again by the next poll: the server may grant one late
abbrev pub delete_tried : ℕ → NotedState → NotedState
delete_tried now s = by (delete_step now s.client)
  where
    by : Result Unit DeleteError × State → NotedState
    by (Ok done, client) = record s { client = client; life = after_deletion s.life }
    by (Err refusal, client) = s

-- it is requested once
abbrev pub deleted_once : Leave → ℕ → NotedState → NotedState
deleted_once leave now s = if leave.is_deleted then s else delete_tried now s

-- whether there was memory
abbrev pub DeletesOnce : Leave → ℕ → NotedState → NotedState → Bool → Type 0
DeletesOnce leave now was s true = s ≡ deleted_once leave now was
DeletesOnce leave now was s false = s ≡ was

-- ---- the call

-- nobody waits for the events of the client: one is taken
abbrev pub event_forgotten : NotedState → Bool × NotedState
event_forgotten s = (is_some (slice_get s.client.events 0), record s { client = record s.client { events = drop 1 s.client.events } })

-- the session has ended when its client has
abbrev pub ended_with_answer : Why → ℕ → TurnPollRet → NotedState → TurnPollRet × NotedState
ended_with_answer why until (WaitUntil time) s = (WaitUntil (min time until), s)
ended_with_answer why until Closed s = (Closed, ended why s)
ended_with_answer why until answer s = (answer, s)

abbrev pub IsAnswer : TurnPollRet → NotedState → TurnPollRet × NotedState → Type 0
IsAnswer answer s said = (answer ≡ said.0) × (s ≡ said.1)

-- or when it wants memory
abbrev pub PollsToEnd : Why → ℕ → ℕ → NotedState → NotedState → TurnPollRet → Type 0
PollsToEnd why until now was s answer =
    let step = poll_step now was.client in
    IsAnswer answer s (ended_with_answer why until step.0 (record was { client = step.1 }))
    ⊎ IsAnswer answer s (Closed, ended why (record was { client = closed was.client }))

abbrev pub PollsForgotten : Why → ℕ → ℕ → Bool × NotedState → NotedState → TurnPollRet → Type 0
PollsForgotten why until now (true, t) s answer = IsAnswer answer s (WaitUntil now, t)
PollsForgotten why until now (false, t) s answer = PollsToEnd why until now t s answer

-- it is called again by this time
abbrev pub PollsUntil : Why → ℕ → ℕ → NotedState → NotedState → TurnPollRet → Type 0
PollsUntil why until now was s answer = PollsForgotten why until now (event_forgotten was) s answer

abbrev pub TriesDeletion : Leave → ℕ → NotedState → NotedState → TurnPollRet → Type 0
TriesDeletion leave now was s answer =
    PollsUntil leave.why leave.until now (deleted_once leave now was) s answer
    ⊎ IsAnswer answer s (WaitUntil (min (shortage_end now) leave.until), was)

-- the time is over at the latest when it was said
abbrev pub PollsLeaving : Leave → ℕ → NotedState → NotedState → TurnPollRet → Type 0
PollsLeaving leave now was s answer = by (nat_le leave.until now) (lingers_until leave now was)
  where
    by : Bool → Option ℕ → Type 0
    by true _ = IsAnswer answer s (Closed, ended leave.why was)
    by false (Some end) = PollsUntil leave.why end now was s answer
    by false None = TriesDeletion leave now was s answer
