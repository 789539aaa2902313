-- A session is polled: first the path, then the doubts of the allocation, then what idle peers were granted, and then the client.
use Rattle.std.specs.Prelude.{◌≡◌, ◌⊎◌, ℕ, min, Bool, true, false, Option, Some, None}
use Rattle.turn_client_api.specs.declared.poll.TurnPollRet.{TurnPollRet}
use Rattle.turn_client_api.specs.declared.poll.TurnPollRet.TheVariants.{WaitUntil}
use Rattle.turn_session_client.specs.Doubting.{after_doubt, after_move}
use Rattle.turn_session_client.specs.Doubting as Doubting
use Rattle.turn_session_client.specs.Ending.{is_open, left_for}
use Rattle.turn_session_client.specs.Keeping.{kept_while_running}
use Rattle.turn_session_client.specs.Leaving.{shortage_end}
use Rattle.turn_session_client.specs.Polling as Client
use Rattle.turn_session_client.specs.declared.noted.doubting.DoubtsPoll.{DoubtsPoll}
use Rattle.turn_session_client.specs.declared.noted.doubting.DoubtsPoll.TheVariants as Doubts
use Rattle.turn_session_idle.specs.IdlePeers.{idle_step, looks_now}
use Rattle.turn_session_idle.specs.IdleState.{IdleState}
use Rattle.turn_session_idle.specs.declared.peers.IdleStep.{IdleStep}
use Rattle.turn_session_idle.specs.declared.peers.IdleStep.TheVariants as Idle
use Rattle.turn_session_life.specs.Watch.{after_opening, watch_step}
use Rattle.turn_session_life.specs.declared.watch.Watch.{Watch}
use Rattle.turn_session_life.specs.declared.watch.WatchStep.{WatchStep}
use Rattle.turn_session_life.specs.declared.watch.WatchStep.TheVariants as Path
use Rattle.turn_session_path.specs.PathDue.{sooner}
use Rattle.turn_session.specs.Checking.{told_path}
use Rattle.turn_session.specs.SessionState.{SessionState, NotesAlone, with_idle, with_noted, with_watch}

-- a client that waits does so no longer than for this time
abbrev pub capped : Option ℕ → TurnPollRet → TurnPollRet
capped (Some own) (WaitUntil time) = WaitUntil (min own time)
capped own answer = answer

-- ---- the client

abbrev pub PollsClient : ℕ → SessionState → SessionState → TurnPollRet → Type 0
PollsClient now was s said = Client.Polls now was.noted s.noted said × NotesAlone was s

abbrev pub PollsBoth : Option ℕ → ℕ → SessionState → SessionState → TurnPollRet → Type 0
PollsBoth own now was s answer = (said : TurnPollRet) × PollsClient now was s said × (answer ≡ capped own said)

-- ---- a session that is not open

-- its path is polled as soon as it opens
abbrev pub own_time : Bool → ℕ → Option ℕ
own_time true now = Some now
own_time false now = None

abbrev pub PollsUnopened : ℕ → SessionState → SessionState → TurnPollRet → Type 0
PollsUnopened now was s answer = PollsBoth (own_time (is_open s.noted.life.phase) now) now was s answer

-- ---- one that is open

-- its path is probed from then on, and learns what was received
abbrev pub watched : ℕ → SessionState → SessionState
watched now s = by s.is_watching
  where
    by : Bool → SessionState
    by true = s
    by false = record (with_watch (after_opening s.probe s.noted.notes.mapped now s.watch) s) { is_watching = true }

abbrev pub begun : ℕ → SessionState → SessionState
begun now s = told_path (watched now s)

-- what an idle peer was granted is let go, and kept again when the peer is used
abbrev pub IdleLeads : Option ℕ → ℕ → IdleStep × IdleState → SessionState → SessionState → TurnPollRet → Type 0
IdleLeads own now (Idle.Keep key, after) was s answer =
    (answer ≡ WaitUntil now) × (s ≡ with_noted (kept_while_running key true was.noted).1 (with_idle after was))
IdleLeads own now (Idle.Release key, after) was s answer =
    (answer ≡ WaitUntil now) × (s ≡ with_noted (kept_while_running key false was.noted).1 (with_idle after was))
IdleLeads own now (Idle.WaitUntil time, after) was s answer = PollsBoth (sooner own (Some time)) now (with_idle after was) s answer
IdleLeads own now (Idle.Off, after) was s answer = PollsBoth own now (with_idle after was) s answer

-- a look for which memory was wanted is tried again
abbrev pub PollsIdle : Option ℕ → ℕ → SessionState → SessionState → TurnPollRet → Type 0
PollsIdle own now was s answer =
    IdleLeads own now (idle_step was.noted.notes.book.held now was.idle) was s answer
    ⊎ ((looks_now now was.idle ≡ true) × PollsBoth (sooner own (Some (shortage_end now))) now was s answer)

-- a doubt that could not be asked of, since memory was wanted, is tried again
abbrev pub DoubtsLead : Option ℕ → ℕ → DoubtsPoll → SessionState → SessionState → TurnPollRet → Type 0
DoubtsLead path now Doubts.Now t s answer = (answer ≡ WaitUntil now) × (s ≡ t)
DoubtsLead path now (Doubts.WaitUntil time) t s answer = PollsIdle (sooner path (Some time)) now t s answer
DoubtsLead path now Doubts.Idle t s answer = PollsIdle path now t s answer
DoubtsLead path now Doubts.NoMemory t s answer = PollsIdle (sooner path (Some (shortage_end now))) now t s answer

abbrev pub PollsDoubts : Option ℕ → ℕ → SessionState → SessionState → TurnPollRet → Type 0
PollsDoubts path now was s answer =
    (t : SessionState) × (said : DoubtsPoll) × Doubting.PollsDoubts now was.noted t.noted said × NotesAlone was t
    × DoubtsLead path now said t s answer

-- a request or a result of the path is for the caller to take; a doubt, a move and an end are noted
abbrev pub PathLeads : ℕ → WatchStep × Watch → SessionState → SessionState → TurnPollRet → Type 0
PathLeads now (Path.Now, after) was s answer = PollsBoth (Some now) now (with_watch after was) s answer
PathLeads now (Path.WaitUntil time, after) was s answer = PollsDoubts (Some time) now (with_watch after was) s answer
PathLeads now (Path.Idle, after) was s answer = PollsDoubts None now (with_watch after was) s answer
PathLeads now (Path.Doubt, after) was s answer = (answer ≡ WaitUntil now) × (s ≡ with_noted (after_doubt was.noted) (with_watch after was))
PathLeads now (Path.Moved, after) was s answer = (answer ≡ WaitUntil now) × (s ≡ with_noted (after_move was.noted) (with_watch after was))
PathLeads now (Path.End why, after) was s answer = (answer ≡ WaitUntil now) × (s ≡ with_noted (left_for why now was.noted) (with_watch after was))

abbrev pub PollsOpen : ℕ → SessionState → SessionState → TurnPollRet → Type 0
PollsOpen now was s answer = let t = begun now was in PathLeads now (watch_step now t.watch) t s answer

-- ---- the call

abbrev pub Polls : ℕ → SessionState → SessionState → TurnPollRet → Type 0
Polls now was s answer = by (is_open was.noted.life.phase)
  where
    by : Bool → Type 0
    by true = PollsOpen now was s answer
    by false = PollsUnopened now was s answer
