-- Requests whose peer's IP address is not permitted: that permission is requested first (RFC 8656, section 12; RFC 6062, section 4.3).
use Rattle.std.specs.Prelude.{◌≡◌, ◌⊎◌, ◌&&◌, ℕ, Bool, true, false, if◌then◌else◌, find, Option, Some, None}
use Rattle.turn_stun.specs.declared.transport.TransportType.{TransportType}
use Rattle.turn_client_api.specs.State.{State}
use Rattle.turn_session_book.specs.Book.{after_denial, after_settlement}
use Rattle.turn_session_book.specs.Keys.{permission_for}
use Rattle.turn_session_book.specs.OpenRequests.{first_denied, is_unpermitted, with_progress}
use Rattle.turn_session_book.specs.declared.answers.Outcome.TheVariants.{Granted, NotMade}
use Rattle.turn_session_book.specs.declared.keys.Key.{Key}
use Rattle.turn_session_book.specs.declared.keys.Key.TheVariants.{Connect}
use Rattle.turn_session_book.specs.declared.open_requests.OpenRequest.{OpenRequest}
use Rattle.turn_session_book.specs.declared.open_requests.Progress.TheVariants.{Waiting, Permitting}
use Rattle.turn_session_client.specs.Asking.{is_granted}
use Rattle.turn_session_client.specs.Keeping.{let_go}
use Rattle.turn_session_client.specs.Making.{made}
use Rattle.turn_session_client.specs.NotedState.{NotedState, with_book}
use Rattle.turn_session_client.specs.Notes.{adopted, is_asked}
use Rattle.turn_session_client.specs.declared.making.Made.{Made}
use Rattle.turn_session_client.specs.declared.making.Made.TheVariants as Client

-- ---- it is granted

-- a channel, which is bound, has its outcome, and a data connection waits to be requested
abbrev pub with_permission : Key → NotedState → NotedState
with_permission (Connect peer) s =
    with_book (record s.notes.book { requests = with_progress (Connect peer) Waiting s.notes.book.requests }) s
with_permission key s = with_book (after_settlement key Granted s.notes.book) s

-- if it was a question, it is the caller's first
abbrev pub permission_taken : Key → Key → NotedState → NotedState
permission_taken key permission s =
    if is_asked permission s.notes then record s { notes = adopted permission s.notes } else with_permission key s

-- the request needs a permission, which is granted
abbrev pub is_permitted : NotedState → OpenRequest → Bool
is_permitted s r = is_unpermitted r.progress && is_granted (permission_for r.key) s

abbrev pub first_permitted : NotedState → Option OpenRequest
first_permitted s = find (is_permitted s) s.notes.book.requests

-- the first of them goes on
abbrev pub permitted_noted : NotedState → Bool × NotedState
permitted_noted s = by (first_permitted s)
  where
    by : Option OpenRequest → Bool × NotedState
    by (Some r) = (true, permission_taken r.key (permission_for r.key) s)
    by None = (false, s)

-- ---- it is requested of the client

-- if it cannot be, that is the outcome
abbrev pub permission_made : OpenRequest → TransportType → ℕ → NotedState → NotedState
permission_made r relays now s = by (made (permission_for r.key) relays now s.client)
  where
    by : Made × State → NotedState
    by (Client.Queued, client) =
        record (with_book (record s.notes.book { requests = with_progress r.key Permitting s.notes.book.requests }) s) {
          client = let_go r.keeps_permission (permission_for r.key) relays client;
        }
    by (Client.Refused error, client) = record (with_book (after_settlement r.key (NotMade error) s.notes.book) s) { client = client }
    by (Client.NoMemory, client) = s

-- ---- it was refused, or not answered in time

abbrev pub denied_noted : ℕ → NotedState → Bool × NotedState
denied_noted now s = by (first_denied s.notes.book.requests)
  where
    by : Option OpenRequest → Bool × NotedState
    by (Some r) = (true, with_book (after_denial r now s.notes.book) s)
    by None = permitted_noted s

-- ---- without memory

-- the request waits on, and the client is as it was, or refused the permission
abbrev pub PermissionWaits : OpenRequest → TransportType → ℕ → NotedState → NotedState → Type 0
PermissionWaits r relays now was s =
    (s ≡ was) ⊎ (s ≡ record was { client = (made (permission_for r.key) relays now was.client).1 })

abbrev pub PermittedWaits : NotedState → NotedState → Type 0
PermittedWaits was s = by (first_permitted was)
  where
    by : Option OpenRequest → Type 0
    by (Some r) = s ≡ was
    by None = ⊥

abbrev pub DeniedWaits : ℕ → NotedState → NotedState → Type 0
DeniedWaits now was s = by (first_denied was.notes.book.requests)
  where
    by : Option OpenRequest → Type 0
    by (Some r) = s ≡ was
    by None = PermittedWaits was s
