-- Requests of the caller, and what it keeps.
use Rattle.std.specs.Prelude.{◌≡◌, ℕ, Bool, true, false, if◌then◌else◌, Option, Some, None, Result, Ok, Err}
use Rattle.std.specs.declared.alloc.AllocError.{AllocError}
use Rattle.turn_session_book.specs.declared.answers.Answer.{Answer}
use Rattle.turn_session_book.specs.declared.answers.Answer.TheVariants as Answers
use Rattle.turn_session_book.specs.declared.answers.CallError.{CallError}
use Rattle.turn_session_book.specs.declared.answers.CallError.TheVariants.{NoAllocation, NotGranted}
use Rattle.turn_session_book.specs.declared.keys.Key.{Key}
use Rattle.turn_session_book.specs.declared.replies.ErrorReply.{ErrorReply}
use Rattle.turn_session_client.specs.Asking.{grant_of, keep_result}
use Rattle.turn_session_client.specs.Keeping.{kept_while_running}
use Rattle.turn_session.specs.Checking.{checked_step}
use Rattle.turn_session.specs.SessionState.{SessionState}
use Rattle.turn_session.specs.Uses.{kept_after}
use Rattle.turn_relay_tries.specs.Wanted.{after_request, is_wanted, ticket_for}
use Rattle.turn_relay_course.specs.declared.course.Phase.{Phase}
use Rattle.turn_relay_course.specs.declared.course.Phase.TheVariants as At
use Rattle.turn_relay_lives.specs.LiveState.{LiveState, is_used}
use Rattle.turn_relay.specs.RelayState.{RelayState, called_first, open_live}
use Rattle.turn_relay.specs.declared.answer.RelayAnswer.{RelayAnswer}
use Rattle.turn_relay.specs.declared.answer.RelayAnswer.TheVariants as Relay

-- the session that is used is called
abbrev pub called_used : (SessionState → SessionState) → RelayState → RelayState
called_used call r = called_first is_used call r

-- ---- what the caller keeps

abbrev pub kept : Key → Bool → SessionState → SessionState
kept key is_kept s = kept_after key (kept_while_running key is_kept s.noted) s

abbrev pub keep_step : Key → Bool → RelayState → Result Unit CallError × RelayState
keep_step key is_kept r = by (open_live r)
  where
    by : Option LiveState → Result Unit CallError × RelayState
    by (Some l) = (keep_result (kept_while_running key is_kept l.session.noted).0, called_used (kept key is_kept) r)
    by None = (Err NotGranted, r)

-- ---- a request

-- a request for data is not made while its key rests
abbrev pub resting_if : Bool → ℕ → Option ErrorReply → Option RelayAnswer
resting_if true until error = Some (Relay.Resting until error)
resting_if false until error = None

-- the answer that a session has without a request
abbrev pub known_in : Bool → Option Answer → Option RelayAnswer
known_in is_for_data (Some Answers.Granted) = Some Relay.Granted
known_in is_for_data (Some (Answers.Resting until error)) = resting_if is_for_data until error
known_in is_for_data _ = None

abbrev pub known_of : Key → Bool → ℕ → Option LiveState → Option RelayAnswer
known_of key is_for_data now (Some l) = known_in is_for_data (grant_of key now l.session.noted)
known_of key is_for_data now None = None

-- a key that is wanted has no other answer than its ticket
abbrev pub known_answer : Key → Bool → ℕ → RelayState → Option RelayAnswer
known_answer key is_for_data now r = if is_wanted key r.wanted then None else known_of key is_for_data now (open_live r)

-- what was granted is kept again
abbrev pub after_known : Key → RelayAnswer → RelayState → RelayState
after_known key Relay.Granted r = (keep_step key true r).1
after_known key answer r = r

-- with a ticket, or without memory nothing changes
abbrev pub Tickets : Key → RelayState → RelayState → Result RelayAnswer AllocError → Type 0
Tickets key was r (Ok answer) =
    (answer ≡ Relay.Ticket (ticket_for key was.wanted)) × (r ≡ record was { wanted = after_request key was.wanted })
Tickets key was r (Err error) = r ≡ was

abbrev pub AnswersBy : Option RelayAnswer → Key → RelayState → RelayState → Result RelayAnswer AllocError → Type 0
AnswersBy (Some answer) key was r result = (result ≡ Ok answer) × (r ≡ after_known key answer was)
AnswersBy None key was r result = Tickets key was r result

abbrev pub AnswersIn : Phase → Key → Bool → ℕ → RelayState → RelayState → Result RelayAnswer AllocError → Type 0
AnswersIn (At.Over cause) key is_for_data now was r result = (result ≡ Ok (Relay.Over cause)) × (r ≡ was)
AnswersIn _ key is_for_data now was r result = AnswersBy (known_answer key is_for_data now was) key was r result

abbrev pub AnswersRequest : Key → Bool → ℕ → RelayState → RelayState → Result RelayAnswer AllocError → Type 0
AnswersRequest key is_for_data now was r result = AnswersIn was.plan.course.phase key is_for_data now was r result

-- ---- a check of the path

abbrev pub check_step : ℕ → RelayState → Answer × RelayState
check_step now r = by (open_live r)
  where
    by : Option LiveState → Answer × RelayState
    by (Some l) = ((checked_step now l.session).0, called_used (λ s. (checked_step now s).1) r)
    by None = (Answers.Refused NoAllocation, r)
