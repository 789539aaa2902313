-- What a session is asked for again, and what becomes of requests.
use Rattle.std.specs.Prelude.{◌≡◌, ℕ, ◌==◌, ◌||◌, ◌&&◌, Bool, true, false, if◌then◌else◌, Option, Some, None}
use Rattle.std.specs.declared.net.socket_addr.SocketAddr.{SocketAddr}
use Rattle.turn_session_book.specs.declared.answers.Answer.{Answer}
use Rattle.turn_session_book.specs.declared.answers.Answer.TheVariants as Answers
use Rattle.turn_session_book.specs.declared.answers.CallError.{CallError}
use Rattle.turn_session_book.specs.declared.answers.CallError.TheVariants.{NoAllocation, OutOfMemory}
use Rattle.turn_session_book.specs.declared.answers.Outcome.{Outcome}
use Rattle.turn_session_book.specs.declared.answers.Outcome.TheVariants as Outcomes
use Rattle.turn_session_book.specs.declared.keys.Key.{Key}
use Rattle.turn_session_book.specs.declared.replies.ErrorReply.{ErrorReply}
use Rattle.turn_session_client.specs.Asking.{Requests}
use Rattle.turn_session.specs.Uses.{NotesUse}
use Rattle.turn_relay_tries.specs.Tries.{after}
use Rattle.turn_relay_tries.specs.Wanted.{after_answer, after_asking, after_doubt, counts_at, is_restored, next_key, outcome_of}
use Rattle.turn_relay_tries.specs.Wanted.{row_of}
use Rattle.turn_relay_tries.specs.declared.wanted.Doubt.{Doubt}
use Rattle.turn_relay_tries.specs.declared.wanted.Unsure.{Unsure}
use Rattle.turn_relay_tries.specs.declared.wanted.Unsure.TheVariants as Unsure
use Rattle.turn_relay_tries.specs.declared.wanted.WantedKey.{WantedKey}
use Rattle.turn_relay_course.specs.declared.course.Phase.{Phase}
use Rattle.turn_relay_course.specs.declared.course.Phase.TheVariants as At
use Rattle.turn_relay_course.specs.declared.reopen.Reopen.{Reopen}
use Rattle.turn_relay_course.specs.declared.reopen.Reopen.TheVariants.{Always}
use Rattle.turn_relay_plan.specs.Progress.{after_restoring}
use Rattle.turn_relay_lives.specs.LiveState.{is_used}
use Rattle.turn_relay.specs.Ending.{again}
use Rattle.turn_relay.specs.RelayState.{RelayState, CallsFirst}
use Rattle.turn_relay.specs.declared.due.RelayDue.{RelayDue}
use Rattle.turn_relay.specs.declared.due.RelayDue.TheVariants as Due
use Rattle.turn_relay.specs.declared.events.Addresses.{Addresses}
use Rattle.turn_relay.specs.declared.events.RelayEvent.TheVariants as Event

-- ---- an outcome

-- the caller has it under its ticket, and what the session before had is lost unless it is granted again
abbrev pub settled_due : Key → Outcome → ℕ → Option ℕ → RelayDue
settled_due key outcome now (Some ticket) = Due.Event (Event.Outcome ticket key outcome)
settled_due key Outcomes.Granted now None = again now
settled_due key outcome now None = Due.Event (Event.Lost key outcome)

abbrev pub row_due : Key → Outcome → ℕ → Option WantedKey → RelayDue
row_due key outcome now (Some row) = settled_due key outcome now row.ticket
row_due key outcome now None = again now

abbrev pub settle_step : Key → Outcome → ℕ → RelayState → RelayDue × RelayState
settle_step key outcome now r = (row_due key outcome now (row_of key r.wanted), record r { wanted = after_answer key r.wanted })

-- a server that has forgotten the allocation refuses so, too
abbrev pub is_unsure_code : Option ℕ → Bool
is_unsure_code (Some code) = (code == 400) || (code == 401) || (code == 437)
is_unsure_code None = true

abbrev pub unsure_if : Bool → ErrorReply → Option Unsure
unsure_if true error = Some (Unsure.Refused error)
unsure_if false error = None

abbrev pub doubt_in : Reopen → Outcome → Option Unsure
doubt_in Always (Outcomes.Refused error) = unsure_if (is_unsure_code error.code) error
doubt_in Always (Outcomes.TimedOut error) = Some (Unsure.TimedOut error)
doubt_in _ _ = None

-- it counts 10 s later, if the session goes on
abbrev pub doubted : Key → Unsure → ℕ → RelayState → RelayDue × RelayState
doubted key answer now r = (again now, record r { wanted = after_doubt key answer (after now 10_000_000_000) r.wanted })

abbrev pub doubted_or_settled : Option Unsure → Key → Outcome → ℕ → RelayState → RelayDue × RelayState
doubted_or_settled (Some answer) key outcome now r = doubted key answer now r
doubted_or_settled None key outcome now r = settle_step key outcome now r

-- what a session has not answered that ends, the next one is asked
abbrev pub outcome_step : Key → Outcome → ℕ → RelayState → RelayDue × RelayState
outcome_step key (Outcomes.Ended why) now r = (again now, r)
outcome_step key outcome now r = doubted_or_settled (doubt_in r.settings.reopen outcome) key outcome now r

-- ---- a request

abbrev pub asked_step : Key → ℕ → RelayState → RelayDue × RelayState
asked_step key now r = (again now, record r { wanted = after_asking key r.wanted })

abbrev pub refused_step : Key → CallError → ℕ → RelayState → Option (RelayDue × RelayState)
refused_step key OutOfMemory now r = None
refused_step key error now r = Some (settle_step key (Outcomes.NotMade error) now r)

-- what follows from the answer of the session, or `None` without memory
abbrev pub answered_step : Key → Answer → ℕ → RelayState → Option (RelayDue × RelayState)
answered_step key Answers.Granted now r = Some (settle_step key Outcomes.Granted now r)
answered_step key (Answers.Refused error) now r = refused_step key error now r
answered_step key _ now r = Some (asked_step key now r)

-- the session that is used is asked
abbrev pub AsksUsed : Key → ℕ → RelayState → RelayState → Answer → Type 0
AsksUsed key now was r answer =
    CallsFirst is_used (λ w s. Requests key false now answer w.noted s.noted × NotesUse key now w s)
    (answer ≡ Answers.Refused NoAllocation) was r

abbrev pub Asks : Key → ℕ → RelayState → RelayState → RelayDue → Type 0
Asks key now was r due =
    (t : RelayState) × (answer : Answer) × AsksUsed key now was t answer × (answered_step key answer now t ≡ Some (due, r))

abbrev pub AskingFails : Key → ℕ → RelayState → RelayState → Type 0
AskingFails key now was r = AsksUsed key now was r (Answers.Refused OutOfMemory)

-- ---- the step

abbrev pub up_due : ℕ → Option Addresses → RelayDue
up_due now (Some addresses) = Due.Event (Event.Up addresses)
up_due now None = again now

abbrev pub is_restoring_in : Phase → Bool
is_restoring_in At.Restoring = true
is_restoring_in _ = false

abbrev pub relayed_in : Option Addresses → Option SocketAddr → Option SocketAddr
relayed_in (Some addresses) last = Some addresses.relayed
relayed_in None last = last

-- the relay is up once there is an answer for each key that the session before had
abbrev pub up_step : ℕ → RelayState → Option RelayDue × RelayState
up_step now r =
    if is_restoring_in r.plan.course.phase && is_restored r.wanted
    then (Some (up_due now r.addresses), record r { plan = after_restoring now r.plan; last = relayed_in r.addresses r.last })
    else (None, r)

abbrev pub some_due : RelayDue × RelayState → Option RelayDue × RelayState
some_due (due, r) = (Some due, r)

abbrev pub RestoresKey : Option Key → ℕ → RelayState → RelayState → Option RelayDue → Type 0
RestoresKey (Some key) now was r result = (due : RelayDue) × (result ≡ Some due) × Asks key now was r due
RestoresKey None now was r result = (result, r) ≡ up_step now was

-- the doubt that counts now
abbrev pub doubt_of : Option WantedKey → Option (Key × Doubt)
doubt_of (Some row) = by row.doubt
  where
    by : Option Doubt → Option (Key × Doubt)
    by (Some doubt) = Some (row.key, doubt)
    by None = None
doubt_of None = None

abbrev pub RestoresBy : Option (Key × Doubt) → ℕ → RelayState → RelayState → Option RelayDue → Type 0
RestoresBy (Some (key, doubt)) now was r result = (result, r) ≡ some_due (settle_step key (outcome_of doubt.answer) now was)
RestoresBy None now was r result = RestoresKey (next_key was.wanted) now was r result

abbrev pub Restores : ℕ → RelayState → RelayState → Option RelayDue → Type 0
Restores now was r result = RestoresBy (doubt_of (counts_at now was.wanted)) now was r result
