-- What the caller keeps of what was granted.
use Rattle.std.specs.Prelude.{Bool, true, false, ◌||◌, if◌then◌else◌, List, Result, Err, is_ok, Option, Some, None}
use Rattle.turn_stun.specs.declared.transport.TransportType.{TransportType}
use Rattle.turn_client_api.specs.State.{State}
use Rattle.turn_client_api.specs.Calls.{channel_kept_step, permission_kept_step}
use Rattle.turn_client_api.specs.declared.error.KeepError.{KeepError}
use Rattle.turn_client_api.specs.declared.error.KeepError.TheVariants.{NotGranted}
use Rattle.turn_session_book.specs.Book.{after_mark}
use Rattle.turn_session_book.specs.OpenRequests.{is_waiting, request_for}
use Rattle.turn_session_book.specs.declared.keys.Key.{Key}
use Rattle.turn_session_book.specs.declared.keys.Key.TheVariants.{Permission, Channel, Connect}
use Rattle.turn_session_book.specs.declared.open_requests.OpenRequest.{OpenRequest}
use Rattle.turn_session_life.specs.Life.{is_running}
use Rattle.turn_session_client.specs.NotedState.{NotedState, with_book}

-- what the client says, and the client after it
abbrev pub kept : Key → TransportType → Bool → State → Result Unit KeepError × State
kept (Permission ip) relays is_kept s = permission_kept_step relays ip is_kept s
kept (Channel peer) relays is_kept s = channel_kept_step relays peer is_kept s
kept (Connect peer) relays is_kept s = (Err NotGranted, s)

-- what was let go before the client was asked for it
abbrev pub let_go : Bool → Key → TransportType → State → State
let_go true key relays s = s
let_go false key relays s = (kept key relays false s).1

-- a request that waits is not known to the client yet
abbrev pub waits_for : Key → List OpenRequest → Bool
waits_for (Connect peer) requests = false
waits_for key requests = by (request_for key requests)
  where
    by : Option OpenRequest → Bool
    by None = false
    by (Some r) = is_waiting r.progress

-- whether there is such a grant, or a request for it, and the session after it
abbrev pub keep_step : Key → Bool → NotedState → Bool × NotedState
keep_step key is_kept s = by s.notes.relays
  where
    marked : Bool → State → Bool × NotedState
    marked true client = (true, record (with_book (after_mark key is_kept s.notes.book) s) { client = client })
    marked false client = (false, record s { client = client })

    by : Option TransportType → Bool × NotedState
    by None = (false, s)
    by (Some relays) =
        let told = kept key relays is_kept s.client in marked (is_ok told.0 || waits_for key s.notes.book.requests) told.1

-- of a session that leaves or has ended nothing is kept
abbrev pub kept_while_running : Key → Bool → NotedState → Bool × NotedState
kept_while_running key is_kept s = if is_running s.life.phase then keep_step key is_kept s else (false, s)
