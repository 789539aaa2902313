-- The requests of the caller that have no outcome yet.
use Rattle.std.specs.declared.net.socket_addr.SocketAddr.{SocketAddr}
use Rattle.std.specs.Prelude.{ℕ, ◌-◌, ◌&&◌, ◌||◌, Bool, true, false, not, if◌then◌else◌, List, [], ◌∷◌, ◌++◌, find, length, map, slice_get, take}
use Rattle.std.specs.Prelude.{Option, Some, None, is_none}
use Rattle.turn_session_book.specs.First.{with_first, without_first}
use Rattle.turn_types.specs.declared.family.AddressFamily.{AddressFamily}
use Rattle.turn_session_book.specs.Keys.{is_in, permission_for, same_key, same_peer}
use Rattle.turn_session_book.specs.declared.keys.Key.{Key}
use Rattle.turn_session_book.specs.declared.open_requests.OpenRequest.{OpenRequest}
use Rattle.turn_session_book.specs.declared.open_requests.Progress.{Progress}
use Rattle.turn_session_book.specs.declared.open_requests.Progress.TheVariants.{Waiting, Queued, Sent, Opened, Closed, Unpermitted, Permitting, Denied}
use Rattle.turn_session_book.specs.declared.replies.ErrorReply.{ErrorReply}

abbrev pub new_request : ℕ → Key → Progress → OpenRequest
new_request ticket key progress = record {
  ticket = ticket;
  key = key;
  progress = progress;
  is_kept = true;
  keeps_permission = true;
  is_repeated = false;
  error = None;
}

abbrev pub is_for : Key → OpenRequest → Bool
is_for key r = same_key r.key key

abbrev pub request_for : Key → List OpenRequest → Option OpenRequest
request_for key requests = find (is_for key) requests

-- who asks for a key while a request for it is under way shares its ticket
abbrev pub ticket_for : ℕ → Key → List OpenRequest → ℕ
ticket_for ticket key requests = by (request_for key requests)
  where
    by : Option OpenRequest → ℕ
    by None = ticket
    by (Some r) = r.ticket

-- the first request for a key stands behind the others
abbrev pub after_request : ℕ → Key → Progress → List OpenRequest → List OpenRequest
after_request ticket key progress requests = by (request_for key requests)
  where
    by : Option OpenRequest → List OpenRequest
    by None = requests ++ new_request ticket key progress ∷ []
    by (Some r) = requests

abbrev pub without_last : List OpenRequest → List OpenRequest
without_last requests = take (length requests - 1) requests

-- the others
abbrev pub without_request : Key → List OpenRequest → List OpenRequest
without_request key requests = without_first (is_for key) requests

-- all but the oldest
abbrev pub without_oldest : List OpenRequest → List OpenRequest
without_oldest requests = by (slice_get requests 0)
  where
    by : Option OpenRequest → List OpenRequest
    by None = requests
    by (Some r) = without_request r.key requests

abbrev pub is_waiting : Progress → Bool
is_waiting Waiting = true
is_waiting _ = false

abbrev pub first_waiting : List OpenRequest → Option OpenRequest
first_waiting requests = find (λ r. is_waiting r.progress) requests

-- a request that does not wait is the client's
abbrev pub is_made_in : AddressFamily → OpenRequest → Bool
is_made_in family r = not (is_waiting r.progress) && is_in family r.key

abbrev pub first_made : AddressFamily → List OpenRequest → Option OpenRequest
first_made family requests = find (is_made_in family) requests

abbrev pub progressed : Progress → OpenRequest → OpenRequest
progressed progress r = record r { progress = progress }

-- the request for this key has come so far
abbrev pub with_progress : Key → Progress → List OpenRequest → List OpenRequest
with_progress key progress requests = with_first (is_for key) (progressed progress) requests

abbrev pub kept_as : Bool → OpenRequest → OpenRequest
kept_as is_kept r = record r { is_kept = is_kept }

-- the caller keeps what the request for this key is for, or lets it go
abbrev pub with_keeping : Key → Bool → List OpenRequest → List OpenRequest
with_keeping key is_kept requests = with_first (is_for key) (kept_as is_kept) requests

abbrev pub is_denied : Progress → Bool
is_denied Denied = true
is_denied _ = false

-- one that is denied has the error of its permission
abbrev pub hinted : ErrorReply → OpenRequest → OpenRequest
hinted error r = if is_denied r.progress then r else record r { error = Some error }

-- the client ignored an error response to it
abbrev pub with_hint : Key → ErrorReply → List OpenRequest → List OpenRequest
with_hint key error requests = with_first (is_for key) (hinted error) requests

-- ---- requests of the client

-- it was asked for it, and is to report what becomes of it
abbrev pub is_clients : Progress → Bool
is_clients Queued = true
is_clients (Sent until) = true
is_clients (Opened local) = true
is_clients Closed = true
is_clients _ = false

abbrev pub is_clients_in : Key → List OpenRequest → Bool
is_clients_in key requests = by (request_for key requests)
  where
    by : Option OpenRequest → Bool
    by None = false
    by (Some r) = is_clients r.progress

-- ---- data connections (RFC 6062, section 4.3)

-- one that the peer has requested is for no request that waits
abbrev pub with_opened : Key → SocketAddr → List OpenRequest → List OpenRequest
with_opened key local requests = if is_clients_in key requests then with_progress key (Opened local) requests else requests

-- it is open from this local address, and not bound
abbrev pub opened_from : SocketAddr → Progress → Bool
opened_from local (Opened other) = same_peer other local
opened_from local _ = false

abbrev pub is_opened_at : SocketAddr → OpenRequest → Bool
is_opened_at local r = opened_from local r.progress

abbrev pub with_closed : SocketAddr → List OpenRequest → List OpenRequest
with_closed local requests = with_first (is_opened_at local) (progressed Closed) requests

abbrev pub is_closed : Progress → Bool
is_closed Closed = true
is_closed _ = false

abbrev pub first_closed : List OpenRequest → Option OpenRequest
first_closed requests = find (λ r. is_closed r.progress) requests

abbrev pub repeated : OpenRequest → OpenRequest
repeated r = record r { progress = Unpermitted; is_repeated = true }

-- it is made once more
abbrev pub with_repeated : Key → List OpenRequest → List OpenRequest
with_repeated key requests = with_first (is_for key) repeated requests

-- ---- permissions for channels and data connections (RFC 8656, section 12; RFC 6062, section 4.3)

abbrev pub needs : Key → OpenRequest → Bool
needs permission r = same_key (permission_for r.key) permission

abbrev pub first_needing : Key → List OpenRequest → Option OpenRequest
first_needing permission requests = find (needs permission) requests

abbrev pub permission_kept_as : Bool → OpenRequest → OpenRequest
permission_kept_as is_kept r = record r { keeps_permission = is_kept }

-- the caller keeps this permission, which is requested for another key, or lets it go
abbrev pub with_permission_kept : Key → Bool → List OpenRequest → List OpenRequest
with_permission_kept permission is_kept requests = with_first (needs permission) (permission_kept_as is_kept) requests

-- what is granted is kept, unless its request was let go, or it was let go as the permission of another
abbrev pub keeps : Option OpenRequest → Option OpenRequest → Bool
keeps (Some r) needing = r.is_kept
keeps None (Some r) = r.keeps_permission
keeps None None = true

abbrev pub is_unpermitted : Progress → Bool
is_unpermitted Unpermitted = true
is_unpermitted _ = false

abbrev pub is_permitting : Progress → Bool
is_permitting Permitting = true
is_permitting _ = false

-- this permission is requested for it
abbrev pub awaits : Key → OpenRequest → Bool
awaits permission r = is_permitting r.progress && needs permission r

abbrev pub first_awaiting : Key → List OpenRequest → Option OpenRequest
first_awaiting permission requests = find (awaits permission) requests

-- its permission is to be requested, and is not requested for another
abbrev pub is_unrequested : List OpenRequest → OpenRequest → Bool
is_unrequested requests r = is_unpermitted r.progress && is_none (first_awaiting (permission_for r.key) requests)

-- those that share a permission with another wait for it, and hold up no other peer
abbrev pub first_unpermitted : List OpenRequest → Option OpenRequest
first_unpermitted requests = find (is_unrequested requests) requests

-- once it is granted, the request goes on
abbrev pub with_resumed : Key → List OpenRequest → List OpenRequest
with_resumed permission requests = with_first (awaits permission) (progressed Unpermitted) requests

abbrev pub first_denied : List OpenRequest → Option OpenRequest
first_denied requests = find (λ r. is_denied r.progress) requests

abbrev pub denied : Option ErrorReply → OpenRequest → OpenRequest
denied error r = record r { progress = Denied; error = error }

-- it cannot go on without this permission, which is to be requested or is requested, for it or for another
abbrev pub depends_on : Key → OpenRequest → Bool
depends_on permission r = (is_unpermitted r.progress || is_permitting r.progress) && needs permission r

abbrev pub denied_with : Key → Option ErrorReply → OpenRequest → OpenRequest
denied_with permission error r = if depends_on permission r then denied error r else r

-- if it is refused, or not answered in time, so are all requests that depend on it
abbrev pub with_denied : Key → Option ErrorReply → List OpenRequest → List OpenRequest
with_denied permission error requests = map (denied_with permission error) requests
