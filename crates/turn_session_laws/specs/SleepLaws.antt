-- Laws of sleep: before the time that `poll` tells nothing is due.
use Rattle.std.specs.Prelude.{◌≡◌, ◌⊎◌, ℕ, ◌<◌, ◌≤◌, true, false, List, [], Option, Some, None}
use Rattle.turn_stun.specs.declared.transport.TransportType.TheVariants.{Udp}
use Rattle.turn_agent.specs.TransactionIds.{Source}
use Rattle.turn_client_api.specs.Alarm.{IsIdleUntil, IsTimely}
use Rattle.turn_client_api.specs.Poll.{poll_step}
use Rattle.turn_client_api.specs.State.{State}
use Rattle.turn_client_api.specs.declared.state.Phase.TheVariants.{Requesting}
use Rattle.turn_client_api.specs.declared.poll.TurnPollRet.TheVariants.{WaitUntil}
use Rattle.turn_session_book.specs.declared.held.HeldGrant.{HeldGrant}
use Rattle.turn_session_idle.specs.IdlePeers.{idle_step, looks_now}
use Rattle.turn_session_idle.specs.IdleState.{IdleState}
use Rattle.turn_session_idle.specs.declared.peers.IdleStep.{IdleStep}
use Rattle.turn_session_idle.specs.declared.peers.IdleStep.TheVariants as Idling
use Rattle.turn_session_path.specs.PathDue.{IsLater}
use Rattle.turn_session_life.specs.Doubts.{doubts_step}
use Rattle.turn_session_life.specs.Life.{is_running}
use Rattle.turn_session_life.specs.Watch.{watch_step, watching}
use Rattle.turn_session_life.specs.declared.doubts.Doubts.{Doubts}
use Rattle.turn_session_life.specs.declared.doubts.DoubtsStep.{DoubtsStep}
use Rattle.turn_session_life.specs.declared.doubts.DoubtsStep.TheVariants as Doubting
use Rattle.turn_session_life.specs.declared.watch.Watch.{Watch}
use Rattle.turn_session_life.specs.declared.watch.WatchStep.{WatchStep}
use Rattle.turn_session_life.specs.declared.watch.WatchStep.TheVariants as Watching
use Rattle.turn_session_client.specs.Doubting.{PollsDoubts}
use Rattle.turn_session_client.specs.Ending.{is_open}
use Rattle.turn_session_client.specs.Expiring.{expiry_noted, first_expired}
use Rattle.turn_session_client.specs.Leaving.{shortage_end}
use Rattle.turn_session_client.specs.NotedState.{NotedState, new_noted}
use Rattle.turn_session_client.specs.Polling.{AfterPoll, next_made, prepared, verdict_noted}
use Rattle.turn_session_client.specs.Polling as Client
use Rattle.turn_session_client.specs.declared.noted.doubting.DoubtsPoll.{DoubtsPoll}
use Rattle.turn_session_client.specs.declared.noted.doubting.DoubtsPoll.TheVariants as Doubted
use Rattle.turn_session.specs.Polling.{Polls, begun}
use Rattle.turn_session.specs.Sending.{transmit_step}
use Rattle.turn_session.specs.SessionState.{SessionState}

-- ---- a part that waits, until a time or for ever

abbrev pub path_waits : Option ℕ → WatchStep
path_waits None = Watching.Idle
path_waits (Some time) = Watching.WaitUntil time

abbrev pub doubts_wait : Option ℕ → DoubtsStep
doubts_wait None = Doubting.Idle
doubts_wait (Some time) = Doubting.WaitUntil time

abbrev pub idle_waits : Option ℕ → IdleStep
idle_waits None = Idling.Off
idle_waits (Some time) = Idling.WaitUntil time

-- ---- a client that waits

-- what `TurnClientApi::poll` promises of its time
abbrev pub IsPolledTimely : ℕ → State → Type 0
IsPolledTimely now client = let step = poll_step now client in IsTimely step.0 now client step.1

-- nothing was to be noted or made, and so the client was polled
abbrev pub GoesOn : ℕ → NotedState → NotedState → Type 0
GoesOn now was s =
    (t : NotedState) × (u : NotedState)
    × (prepared now was ≡ (false, t)) × (expiry_noted now t ≡ (false, u)) × (next_made now u ≡ (false, s))

abbrev pub ClientWaits : ℕ → ℕ → NotedState → NotedState → Type 0
ClientWaits now time was s =
    let step = poll_step now was.client in
    (told : ℕ) × (step.0 ≡ WaitUntil told) × AfterPoll now (WaitUntil told) (record was { client = step.1 }) s (WaitUntil time)

-- ---- the soonest of several times, of which each may be missing

abbrev pub IsNotAfter : ℕ → Option ℕ → Type 0
IsNotAfter time None = Unit {0}
IsNotAfter time (Some due) = time ≤ due

-- without memory the doubts are polled again after 100 ms
abbrev pub doubts_time : ℕ → DoubtsPoll → Option ℕ
doubts_time now Doubted.Now = Some now
doubts_time now (Doubted.WaitUntil time) = Some time
doubts_time now Doubted.Idle = None
doubts_time now Doubted.NoMemory = Some (shortage_end now)

-- without memory for a look idle peers are polled again after 100 ms
abbrev pub IdleTells : ℕ → List HeldGrant → IdleState → IdleState → Option ℕ → Type 0
IdleTells now granted was s time =
    (idle_step granted now was ≡ (idle_waits time, s))
    ⊎ ((looks_now now was ≡ true) × (s ≡ was) × (time ≡ Some (shortage_end now)))

pub record TellsSoonest (now time : ℕ) (was s : SessionState) : Type 0 where
  pub path : Option ℕ
  pub path_waits : watch_step now (begun now was).watch ≡ (path_waits path, s.watch)
  pub of_path : IsNotAfter time path
  pub noted : NotedState
  pub said : DoubtsPoll
  pub doubts_wait : PollsDoubts now (begun now was).noted noted said
  pub of_doubts : IsNotAfter time (doubts_time now said)
  pub idle : Option ℕ
  pub idle_tells : IdleTells now noted.notes.book.held was.idle s.idle idle
  pub of_idle : IsNotAfter time idle
  -- the path has learned what was received
  pub received : s.received ≡ None
  pub told : ℕ
  pub client_waits : Client.Polls now noted s.noted (WaitUntil told)
  pub of_client : time ≤ told

-- ---- laws

-- the times of polls are `now` and then `later`
pub record SleepsThroughNothing : Type 0 where
  -- before its time a part does nothing, and tells the same
  pub path : (now later : ℕ) (time : Option ℕ) (was w : Watch) → watch_step now was ≡ (path_waits time, w) → IsLater later time
      → watch_step later w ≡ (path_waits time, w)
  pub doubts : (now later : ℕ) (time : Option ℕ) (was d : Doubts) → doubts_step now was ≡ (doubts_wait time, d) → IsLater later time
      → doubts_step later d ≡ (doubts_wait time, d)
  -- whatever is granted then
  pub idle : (now later : ℕ) (time : Option ℕ) (granted others : List HeldGrant) (was s : IdleState)
      → idle_step granted now was ≡ (idle_waits time, s) → IsLater later time → idle_step others later s ≡ (idle_waits time, s)
  pub verdict : (now time later : ℕ) (was s : NotedState) → ClientWaits now time was s → now < time → later < time
      → (verdict_noted later s ≡ (false, s)) × (first_expired s ≡ None)
  pub client : (now time : ℕ) (was s : NotedState) → IsPolledTimely now was.client → ClientWaits now time was s → now < time
      → IsIdleUntil now time s.client
  -- a client that tells a later time had nothing to note or to make, or wants memory and is to be polled again after 100 ms
  pub noted : (now time : ℕ) (was s : NotedState) → is_running was.life.phase ≡ true → Client.Polls now was s (WaitUntil time)
      → now < time → ((t : NotedState) × GoesOn now was t × ClientWaits now time t s) ⊎ (time ≡ shortage_end now)
  pub packets : (now time later : ℕ) (path : Option ℕ) (s : SessionState) → IsIdleUntil now time s.noted.client
      → (is_open s.noted.life.phase ≡ true → watch_step later s.watch ≡ (path_waits path, s.watch)) → now ≤ later → later < time
      → transmit_step later s ≡ (None, s)
  -- an open session tells the soonest time, and another one that of its client
  pub opened : (now time : ℕ) (was s : SessionState) → is_open was.noted.life.phase ≡ true → Polls now was s (WaitUntil time)
      → now < time → TellsSoonest now time was s
  pub unopened : (now time : ℕ) (was s : SessionState) → is_open was.noted.life.phase ≡ false → Polls now was s (WaitUntil time)
      → now < time → Client.Polls now was.noted s.noted (WaitUntil time)

-- ---- worked, with times in nanoseconds

-- a client over UDP that awaits nothing
abbrev pub quiet_client : State → State
quiet_client s = record s {
  transport = Udp;
  phase = Requesting;
  config = record s.config { timed_from_send = false };
  transactions = [];
  queue = [];
  events = [];
  grants = [];
  closes = [];
}

abbrev pub quiet_session : State → NotedState
quiet_session s = new_noted false 2_000_000_000 0 (quiet_client s)

-- it waits as long as a client does at most
abbrev pub WaitsLong : State → Type 0
WaitsLong s = GoesOn 0 (quiet_session s) (quiet_session s) × ClientWaits 0 9_999_000_000_000 (quiet_session s) (quiet_session s)

abbrev pub probed_watch : Source → Watch
probed_watch ids = watching Udp (Some 15_000_000_000) ids 0
