-- Requests that wait: the client sends one after the other, and its timers run from when they were made.
use Rattle.std.specs.Prelude.{nat_le, Bool, ◌||◌, if◌then◌else◌, Option, None, is_some}
use Rattle.std.specs.Option.{option_or}
use Rattle.turn_client_api.specs.RequestViews.{queued_request_count}
use Rattle.turn_session_book.specs.OpenRequests.{first_unpermitted, first_waiting}
use Rattle.turn_session_book.specs.declared.open_requests.OpenRequest.{OpenRequest}
use Rattle.turn_session_client.specs.NotedState.{NotedState}

-- eight requests of the client are queued and not sent
abbrev pub is_full : NotedState → Bool
is_full s = nat_le 8 (queued_request_count s.client)

-- a new request waits behind others that do
abbrev pub must_wait : NotedState → Bool
must_wait s = is_full s || is_some (first_waiting s.notes.book.requests)

-- the request that is made next, if one can be: the first that waits, or else the first whose permission no other request awaits
abbrev pub next_to_make : NotedState → Option OpenRequest
next_to_make s =
    if is_full s then None else option_or (first_waiting s.notes.book.requests) (first_unpermitted s.notes.book.requests)
