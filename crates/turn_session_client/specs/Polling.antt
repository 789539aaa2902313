-- A session is polled.
use Rattle.std.specs.Prelude.{◌≡◌, ◌⊎◌, ℕ, min, nat_lt, Bool, true, false, if◌then◌else◌, List, Option, Some, None, is_some}
use Rattle.std.specs.declared.net.socket_addr.SocketAddr.{SocketAddr}
use Rattle.turn_stun.specs.declared.transport.Transmit.{Transmit}
use Rattle.turn_stun.specs.declared.transport.TransportType.{TransportType}
use Rattle.turn_client_api.specs.Effect.{closed}
use Rattle.turn_client_api.specs.Poll.{poll_step}
use Rattle.turn_client_api.specs.State.{State}
use Rattle.turn_client_api.specs.Transmit.{transmit_step}
use Rattle.turn_client_api.specs.declared.poll.TurnPollRet.{TurnPollRet}
use Rattle.turn_client_api.specs.declared.poll.TurnPollRet.TheVariants.{WaitUntil, TcpClose, Closed}
use Rattle.turn_session_book.specs.Book.{after_settlement}
use Rattle.turn_session_book.specs.OpenRequests.{is_unpermitted, with_closed, with_progress}
use Rattle.turn_session_book.specs.declared.answers.Outcome.TheVariants.{NotMade}
use Rattle.turn_session_book.specs.declared.causes.Why.{Why}
use Rattle.turn_session_book.specs.declared.causes.Why.TheVariants.{GrantSilent, OutOfMemory}
use Rattle.turn_session_book.specs.declared.keys.Key.{Key}
use Rattle.turn_session_book.specs.declared.open_requests.OpenRequest.{OpenRequest}
use Rattle.turn_session_book.specs.declared.open_requests.Progress.TheVariants.{Queued}
use Rattle.turn_session_life.specs.Heard.{IsCauseWithoutAddress, cause_of_end, settled}
use Rattle.turn_session_life.specs.Life.{after_opening}
use Rattle.turn_session_life.specs.Verdict.{verdict_step}
use Rattle.turn_session_life.specs.declared.life.Phase.{Phase}
use Rattle.turn_session_life.specs.declared.life.Phase.TheVariants.{Opening, Leaving, Over}
use Rattle.turn_session_life.specs.declared.verdict.Blame.{Blame}
use Rattle.turn_session_life.specs.declared.verdict.VerdictStep.{VerdictStep}
use Rattle.turn_session_life.specs.declared.verdict.VerdictStep.TheVariants as Verdict
use Rattle.turn_session_client.specs.Drain.{DrainsSome, drained}
use Rattle.turn_session_client.specs.Ending.{ended, is_opening, is_over, left_for}
use Rattle.turn_session_client.specs.Expiring.{ExpiryWaits, expiry_noted, first_expired}
use Rattle.turn_session_client.specs.Keeping.{let_go}
use Rattle.turn_session_client.specs.Leaving.{PollsLeaving, shortage_end}
use Rattle.turn_session_client.specs.Making.{made}
use Rattle.turn_session_client.specs.NotedState.{NotedState, is_stream, with_book}
use Rattle.turn_session_client.specs.Permitting.{PermissionWaits, permission_made}
use Rattle.turn_session_client.specs.Waiting.{next_to_make}
use Rattle.turn_session_client.specs.declared.making.Made.{Made}
use Rattle.turn_session_client.specs.declared.making.Made.TheVariants as Client

-- ---- a request that waits is made

-- it waits no longer, or it is not made, which is its outcome
abbrev pub waiting_made : OpenRequest → TransportType → ℕ → NotedState → NotedState
waiting_made r relays now s = by (made r.key relays now s.client)
  where
    by : Made × State → NotedState
    by (Client.Queued, client) =
        record (with_book (record s.notes.book { requests = with_progress r.key Queued s.notes.book.requests }) s) {
          client = let_go r.is_kept r.key relays client;
        }
    by (Client.Refused error, client) = record (with_book (after_settlement r.key (NotMade error) s.notes.book) s) { client = client }
    by (Client.NoMemory, client) = s

-- one that needs a permission has that requested first
abbrev pub request_made : OpenRequest → TransportType → ℕ → NotedState → NotedState
request_made r relays now s = if is_unpermitted r.progress then permission_made r relays now s else waiting_made r relays now s

-- the next of them, if fewer than eight requests of the client are queued
abbrev pub next_made : ℕ → NotedState → Bool × NotedState
next_made now s = by s.notes.relays (next_to_make s)
  where
    by : Option TransportType → Option OpenRequest → Bool × NotedState
    by (Some relays) (Some r) = (true, request_made r relays now s)
    by _ _ = (false, s)

-- ---- without memory

-- the request waits on, and the client is as it was, or refused the request
abbrev pub WaitsOn : Key → TransportType → ℕ → NotedState → NotedState → Type 0
WaitsOn key relays now was s = (s ≡ was) ⊎ (s ≡ record was { client = (made key relays now was.client).1 })

abbrev pub RequestWaits : OpenRequest → TransportType → ℕ → NotedState → NotedState → Type 0
RequestWaits r relays now was s = by (is_unpermitted r.progress)
  where
    by : Bool → Type 0
    by true = PermissionWaits r relays now was s
    by false = WaitsOn r.key relays now was s

abbrev pub NextWaitsOn : ℕ → NotedState → NotedState → Type 0
NextWaitsOn now was s = by was.notes.relays (next_to_make was)
  where
    by : Option TransportType → Option OpenRequest → Type 0
    by (Some relays) (Some r) = RequestWaits r relays now was s
    by _ _ = ⊥

-- ---- what is noted first

-- once an address is granted the session is open, and the error that was received last belongs to events that are noted
abbrev pub opened : NotedState → NotedState
opened s = record s {
  notes = record s.notes { reply = None };
  life = if is_some s.notes.relays then after_opening s.life else s.life;
}

-- over a stream, where nothing is lost, a kept grant whose renewal had no response
abbrev pub silent_grant : NotedState → Option Key
silent_grant s = if is_stream s.client.transport then s.notes.silent else None

-- the verdict, while an address is requested
abbrev pub verdict_noted : ℕ → NotedState → Bool × NotedState
verdict_noted now s = by s.life.phase (verdict_step now s.verdict.blame)
  where
    by : Phase → VerdictStep → Bool × NotedState
    by Opening (Verdict.Ended why) = (true, left_for why now s)
    by _ _ = (false, s)

abbrev pub cause_noted : ℕ → NotedState → Bool × NotedState
cause_noted now s = by (silent_grant s)
  where
    by : Option Key → Bool × NotedState
    by (Some key) = (true, ended (GrantSilent key) s)
    by None = verdict_noted now s

-- what has happened is noted first
abbrev pub prepared : ℕ → NotedState → Bool × NotedState
prepared now s = cause_noted now (opened (drained now s))

-- ---- the client is polled

-- without an address, and with one
abbrev pub IsCause : ℕ → NotedState → Why → Type 0
IsCause now s why = by (is_opening s.life.phase)
  where
    by : Bool → Type 0
    by true = IsCauseWithoutAddress now s.heard why
    by false = why ≡ cause_of_end s.heard

abbrev pub EndsWithCause : ℕ → NotedState → NotedState → Type 0
EndsWithCause now was s = (why : Why) × IsCause now was why × (s ≡ ended why was)

-- the call is repeated, since memory was wanted for an event
abbrev pub IsShort : ℕ → TurnPollRet → Type 0
IsShort now answer = answer ≡ WaitUntil (shortage_end now)

-- the client has ended: its last events are noted, and then the session has ended
abbrev pub Closes : ℕ → NotedState → NotedState → TurnPollRet → Type 0
Closes now was s answer =
    ((answer ≡ Closed) × EndsWithCause now (drained now was) s) ⊎ (IsShort now answer × DrainsSome now was s)

-- a client that waits has not ended by a challenge
abbrev pub waiting : ℕ → ℕ → NotedState → NotedState
waiting time now s = if nat_lt now time then record s { heard = settled s.heard } else s

-- nor does it wait beyond the verdict
abbrev pub sooner : ℕ → NotedState → ℕ
sooner time s = by s.life.phase s.verdict.blame
  where
    by : Phase → Option Blame → ℕ
    by Opening (Some blame) = min time blame.until
    by _ _ = time

-- what has ended with its allocation is noted before time passes
abbrev pub next_time : ℕ → ℕ → NotedState → ℕ
next_time time now s = if is_some (first_expired s) then now else sooner time s

-- a request that this data connection was opened for has its outcome by the next call, unless an event of the client reports it
abbrev pub after_close : SocketAddr → NotedState → NotedState
after_close local s = with_book (record s.notes.book { requests = with_closed local s.notes.book.requests }) s

abbrev pub AfterPoll : ℕ → TurnPollRet → NotedState → NotedState → TurnPollRet → Type 0
AfterPoll now (WaitUntil time) was s answer = (answer ≡ WaitUntil (next_time time now was)) × (s ≡ waiting time now was)
AfterPoll now Closed was s answer = Closes now was s answer
AfterPoll now (TcpClose local remote) was s answer = (answer ≡ TcpClose local remote) × (s ≡ after_close local was)
AfterPoll now said was s answer = (answer ≡ said) × (s ≡ was)

-- without memory the client has ended
abbrev pub PollsClient : ℕ → NotedState → NotedState → TurnPollRet → Type 0
PollsClient now was s answer =
    let step = poll_step now was.client in
    AfterPoll now step.0 (record was { client = step.1 }) s answer
    ⊎ ((answer ≡ Closed) × (s ≡ ended OutOfMemory (record was { client = closed was.client })))

-- ---- the call

abbrev pub MadeOrPolled : ℕ → NotedState → Bool × NotedState → NotedState → TurnPollRet → Type 0
MadeOrPolled now was (true, t) s answer = ((answer ≡ WaitUntil now) × (s ≡ t)) ⊎ (IsShort now answer × NextWaitsOn now was s)
MadeOrPolled now was (false, t) s answer = PollsClient now t s answer

-- a request that waits is made, or else the client is polled
abbrev pub MakesOrPolls : ℕ → NotedState → NotedState → TurnPollRet → Type 0
MakesOrPolls now was s answer = MadeOrPolled now was (next_made now was) s answer

abbrev pub ExpiredOrWent : ℕ → NotedState → Bool × NotedState → NotedState → TurnPollRet → Type 0
ExpiredOrWent now was (true, t) s answer = ((answer ≡ WaitUntil now) × (s ≡ t)) ⊎ (IsShort now answer × ExpiryWaits now was s)
ExpiredOrWent now was (false, t) s answer = MakesOrPolls now t s answer

-- what has ended with its allocation or its data connection is noted first, one after the other
abbrev pub ExpiresOrGoesOn : ℕ → NotedState → NotedState → TurnPollRet → Type 0
ExpiresOrGoesOn now was s answer = ExpiredOrWent now was (expiry_noted now was) s answer

abbrev pub PollsNoted : ℕ → Bool × NotedState → NotedState → TurnPollRet → Type 0
PollsNoted now (true, t) s answer = (answer ≡ WaitUntil now) × (s ≡ t)
PollsNoted now (false, t) s answer = ExpiresOrGoesOn now t s answer

abbrev pub PollsRunning : ℕ → NotedState → NotedState → TurnPollRet → Type 0
PollsRunning now was s answer =
    PollsNoted now (prepared now was) s answer ⊎ (IsShort now answer × DrainsSome now was s)

abbrev pub Polls : ℕ → NotedState → NotedState → TurnPollRet → Type 0
Polls now was s answer = by was.life.phase
  where
    by : Phase → Type 0
    by (Over why) = (answer ≡ Closed) × (s ≡ was)
    by (Leaving leave) = PollsLeaving leave now was s answer
    by _ = PollsRunning now was s answer

-- ---- packets

-- those of the client, and none after the end
abbrev pub transmitted : ℕ → NotedState → Option (Transmit (List ℕ)) × NotedState
transmitted now s =
    if is_over s.life.phase then (None, s)
    else (let step = transmit_step now s.client in (step.0, record s { client = step.1 }))
