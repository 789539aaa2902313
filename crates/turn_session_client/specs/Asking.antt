-- Requests of the caller: one for each key at a time.
use Rattle.std.specs.Prelude.{◌≡◌, ◌⊎◌, ℕ, ◌+◌, ◌%◌, ◌^◌, ◌&&◌, not, Bool, true, false, if◌then◌else◌, Option, Some, None, Result, Ok, Err}
use Rattle.std.specs.Net.Socket.{socket_ip}
use Rattle.turn_stun.specs.declared.transport.TransportType.{TransportType}
use Rattle.turn_stun.specs.declared.transport.TransportType.TheVariants.{Udp, Tcp}
use Rattle.turn_client_api.specs.Calls.{can_send_to}
use Rattle.turn_client_api.specs.State.{State}
use Rattle.turn_session_book.specs.Held.{is_held}
use Rattle.turn_session_book.specs.OpenRequests.{after_request, request_for, ticket_for}
use Rattle.turn_session_book.specs.Rests.{rest_in_force}
use Rattle.turn_session_book.specs.declared.answers.Answer.{Answer}
use Rattle.turn_session_book.specs.declared.answers.Answer.TheVariants.{Granted, Ticket, Resting, Refused, Ended}
use Rattle.turn_session_book.specs.declared.answers.CallError.{CallError}
use Rattle.turn_session_book.specs.declared.answers.CallError.TheVariants.{NoAllocation, NotGranted, OutOfMemory}
use Rattle.turn_session_book.specs.declared.keys.Key.{Key}
use Rattle.turn_session_book.specs.declared.keys.Key.TheVariants.{Permission, Channel, Connect}
use Rattle.turn_session_book.specs.declared.open_requests.OpenRequest.{OpenRequest}
use Rattle.turn_session_book.specs.declared.open_requests.Progress.{Progress}
use Rattle.turn_session_book.specs.declared.rests.Rest.{Rest}
use Rattle.turn_session_book.specs.declared.causes.Why.{Why}
use Rattle.turn_session_life.specs.Life.{cause_in}
use Rattle.turn_session_client.specs.Keeping.{keep_step}
use Rattle.turn_session_client.specs.Making.{made}
use Rattle.turn_session_client.specs.NotedState.{NotedState, with_book}
use Rattle.turn_session_client.specs.Notes.{adopted}
use Rattle.turn_session_client.specs.Waiting.{must_wait}
use Rattle.turn_session_client.specs.declared.making.Made.{Made}
use Rattle.turn_session_client.specs.declared.making.Made.TheVariants as Client

abbrev pub keep_result : Bool → Result Unit CallError
keep_result true = Ok tt
keep_result false = Err NotGranted

-- ---- what needs nothing of the client

-- a permission is granted if data may be sent, and a channel if the server bound it and data may be sent
abbrev pub is_granted : Key → NotedState → Bool
is_granted key s = by s.notes.relays key
  where
    by : Option TransportType → Key → Bool
    by None _ = false
    by (Some relays) (Permission ip) = can_send_to relays ip s.client
    by (Some relays) (Channel peer) = is_held (Channel peer) s.notes.book.held && can_send_to relays (socket_ip peer) s.client
    by (Some relays) (Connect peer) = false

abbrev pub answer_with : Bool → Option OpenRequest → Option Rest → Option Answer
answer_with true request rest = Some Granted
answer_with false (Some r) rest = Some (Ticket r.ticket)
answer_with false None (Some rest) = Some (Resting rest.until rest.error)
answer_with false None None = None

abbrev pub known_answer : Key → Bool → ℕ → NotedState → Option Answer
known_answer key is_for_data now s =
    answer_with (is_granted key s) (request_for key s.notes.book.requests) (if is_for_data then rest_in_force key now s.notes.book.rests else None)

-- how far a key has come; nothing of a session that leaves or has ended
abbrev pub grant_of : Key → ℕ → NotedState → Option Answer
grant_of key now s = by (cause_in s.life.phase)
  where
    by : Option Why → Option Answer
    by (Some why) = Some (Ended why)
    by None = known_answer key true now s

-- a permission by which the session has asked the server is the caller's from now on
abbrev pub taken_over : Key → NotedState → Answer × NotedState
taken_over key s = (Granted, record s { notes = adopted key s.notes })

-- ---- a new request

abbrev pub next_number : ℕ → ℕ
next_number ticket = (ticket + 1) % 2 ^ 32

-- it is noted under the next ticket
abbrev pub added : Key → Progress → NotedState → Answer × NotedState
added key progress s = (
  Ticket (ticket_for s.next_ticket key s.notes.book.requests),
  record (with_book (record s.notes.book { requests = after_request s.next_ticket key progress s.notes.book.requests }) s) {
    next_ticket = next_number s.next_ticket;
  },
)

-- the client is asked at once
abbrev pub makes : Key → TransportType → ℕ → NotedState → Answer × NotedState
makes key relays now s = by (made key relays now s.client)
  where
    by : Made × State → Answer × NotedState
    by (Client.Queued, client) = (Ticket s.next_ticket, record (added key Progress.Queued s).1 { client = client })
    by (Client.Refused error, client) = (Refused error, record s { client = client })
    by (Client.NoMemory, client) = (Refused OutOfMemory, s)

-- a channel that is bound, since its permission is missing then, or a data connection to a peer that is not permitted
abbrev pub lacks_permission : Key → TransportType → NotedState → Bool
lacks_permission (Permission ip) relays s = false
lacks_permission (Channel peer) relays s = is_held (Channel peer) s.notes.book.held
lacks_permission (Connect peer) Udp s = false
lacks_permission (Connect peer) Tcp s = not (can_send_to Tcp (socket_ip peer) s.client)

-- the permission is requested first; others wait, or are made at once
abbrev pub begun_over : Key → TransportType → ℕ → NotedState → Answer × NotedState
begun_over key relays now s =
    if lacks_permission key relays s then added key Progress.Unpermitted s
    else (if must_wait s then added key Progress.Waiting s else makes key relays now s)

abbrev pub begun : Key → ℕ → NotedState → Answer × NotedState
begun key now s = by s.notes.relays
  where
    by : Option TransportType → Answer × NotedState
    by None = (Refused NoAllocation, s)
    by (Some relays) = begun_over key relays now s

-- ---- without memory

-- nothing is requested then, and nothing else changes
abbrev pub Begins : Answer → NotedState → NotedState → Answer × NotedState → Type 0
Begins answer was s said =
    ((answer ≡ said.0) × (s ≡ said.1)) ⊎ ((answer ≡ Refused OutOfMemory) × (s ≡ was))

abbrev pub Answers : Option Answer → Key → ℕ → Answer → NotedState → NotedState → Type 0
Answers (Some Granted) key now answer was s = Begins answer was s (taken_over key was)
Answers (Some known) key now answer was s = (answer ≡ known) × (s ≡ was)
Answers None key now answer was s = Begins answer was s (begun key now was)

-- ---- the call

abbrev pub AnswersNow : Key → Bool → ℕ → Answer → NotedState → NotedState → Type 0
AnswersNow key is_for_data now answer was s =
    let k = (keep_step key true was).1 in Answers (known_answer key is_for_data now k) key now answer k s

-- what was let go is kept again; a session that leaves or has ended requests nothing
abbrev pub Requests : Key → Bool → ℕ → Answer → NotedState → NotedState → Type 0
Requests key is_for_data now answer was s = by (cause_in was.life.phase)
  where
    by : Option Why → Type 0
    by (Some why) = (answer ≡ Ended why) × (s ≡ was)
    by None = AnswersNow key is_for_data now answer was s
