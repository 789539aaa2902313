-- Laws of outcomes: each request has one.
use Rattle.std.specs.Prelude.{◌≡◌, ℕ, ◌+◌, ◌==◌, if◌then◌else◌, [], Option, Some, None}
use Rattle.std.specs.List.{sum_by}
use Rattle.turn_session_book.specs.Book.{after_failure, after_settlement}
use Rattle.turn_session_book.specs.BookState.{BookState}
use Rattle.turn_session_book.specs.OpenRequests.{request_for}
use Rattle.turn_session_book.specs.declared.answers.Outcome.{Outcome}
use Rattle.turn_session_book.specs.declared.events.Event.{Event}
use Rattle.turn_session_book.specs.declared.events.Event.TheVariants as Events
use Rattle.turn_session_book.specs.declared.keys.Key.{Key}
use Rattle.turn_session_book.specs.declared.open_requests.OpenRequest.{OpenRequest}
use Rattle.turn_session_book.specs.declared.open_requests.Progress.{Progress}
use Rattle.turn_session_book.specs.declared.replies.ErrorReply.{ErrorReply}
use Rattle.turn_session_book.specs.declared.causes.Why.{Why}
use Rattle.turn_session_client.specs.Asking.{added}
use Rattle.turn_session_client.specs.Drain.{drained}
use Rattle.turn_session_client.specs.Expiring.{expiry_noted}
use Rattle.turn_session_client.specs.NotedState.{NotedState}
use Rattle.turn_session_client.specs.Polling.{next_made}
use Rattle.turn_session_client.specs.Reporting.{reported_step}

-- ---- what the caller is owed

-- an open request with this ticket
abbrev pub has_ticket : ℕ → OpenRequest → ℕ
has_ticket ticket r = if r.ticket == ticket then 1 else 0

-- an outcome under this ticket
abbrev pub is_outcome : ℕ → Event → ℕ
is_outcome ticket (Events.Outcome of key outcome) = if of == ticket then 1 else 0
is_outcome ticket _ = 0

abbrev pub outcomes_in : ℕ → Option Event → ℕ
outcomes_in ticket None = 0
outcomes_in ticket (Some event) = is_outcome ticket event

-- the requests with this ticket that have no outcome, and the outcomes that are not reported
abbrev pub owed : ℕ → BookState → ℕ
owed ticket b = sum_by (has_ticket ticket) b.requests + sum_by (is_outcome ticket) b.events

-- a request that is noted under the next ticket; one that shares another's is none
abbrev pub is_new : ℕ → Key → NotedState → ℕ
is_new ticket key s = by (request_for key s.notes.book.requests)
  where
    by : Option OpenRequest → ℕ
    by None = if s.next_ticket == ticket then 1 else 0
    by (Some r) = 0

-- ---- laws

pub record OneOutcome : Type 0 where
  -- a request is owed one outcome
  pub added : (ticket : ℕ) (key : Key) (progress : Progress) (s : NotedState)
      → owed ticket (added key progress s).1.notes.book ≡ owed ticket s.notes.book + is_new ticket key s
  -- events of the client, failures and settlements change nothing of that
  pub noted : (ticket now : ℕ) (s : NotedState) → owed ticket (drained now s).notes.book ≡ owed ticket s.notes.book
  -- nor does what happens without one: what expires, is closed, or has its permission refused or granted
  pub expired : (ticket now : ℕ) (s : NotedState) → owed ticket (expiry_noted now s).1.notes.book ≡ owed ticket s.notes.book
  -- nor a request that is made of the client
  pub made : (ticket now : ℕ) (s : NotedState) → owed ticket (next_made now s).1.notes.book ≡ owed ticket s.notes.book
  pub failed : (ticket : ℕ) (key : Key) (error : Option ErrorReply) (now : ℕ) (b : BookState) → owed ticket (after_failure key error now b) ≡ owed ticket b
  pub settled : (ticket : ℕ) (key : Key) (outcome : Outcome) (b : BookState) → owed ticket (after_settlement key outcome b) ≡ owed ticket b
  -- until it is reported
  pub reported : (ticket : ℕ) (s : NotedState)
      → owed ticket (reported_step s).1.notes.book + outcomes_in ticket (reported_step s).0 ≡ owed ticket s.notes.book
  -- and nothing is owed after the end
  pub over : (ticket : ℕ) (s : NotedState) (why : Why) → s.notes.book.events ≡ [] → (reported_step s).0 ≡ Some (Events.Over why)
      → owed ticket s.notes.book ≡ 0
