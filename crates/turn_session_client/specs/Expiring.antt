-- What has come so far without an event of the client: what was in an allocation that has expired, and a request whose data connection
-- was closed, or whose peer is not permitted.
use Rattle.std.specs.Prelude.{◌≡◌, ℕ, Bool, true, if◌then◌else◌, Option, Some, None}
use Rattle.std.specs.List.{list_any}
use Rattle.std.specs.Net.Socket.{socket_ip}
use Rattle.std.specs.declared.net.socket_addr.SocketAddr.{SocketAddr}
use Rattle.turn_stun.specs.declared.transport.TransportType.{TransportType}
use Rattle.turn_types.specs.declared.family.AddressFamily.{AddressFamily}
use Rattle.turn_types.specs.declared.family.AddressFamily.TheVariants.{IPV4, IPV6}
use Rattle.turn_client_api.specs.Calls.{relayed_addresses_of}
use Rattle.turn_client_api.specs.State.{State}
use Rattle.turn_session_book.specs.Addresses.{family_of_ip, same_family}
use Rattle.turn_session_book.specs.Book.{after_failure, after_settlement, first_in}
use Rattle.turn_session_book.specs.OpenRequests.{first_closed, with_repeated}
use Rattle.turn_session_book.specs.declared.answers.Outcome.TheVariants.{NotBound}
use Rattle.turn_session_book.specs.declared.keys.Key.{Key}
use Rattle.turn_session_book.specs.declared.open_requests.OpenRequest.{OpenRequest}
use Rattle.turn_session_client.specs.NotedState.{NotedState, with_book}
use Rattle.turn_session_client.specs.Permitting.{DeniedWaits, denied_noted}

abbrev pub is_relayed_in : AddressFamily → TransportType × SocketAddr → Bool
is_relayed_in family relayed = same_family (family_of_ip (socket_ip relayed.1)) family

-- one that is past its expiry relays nothing any more, and is not refreshed
abbrev pub has_allocation : AddressFamily → State → Bool
has_allocation family client = list_any (is_relayed_in family) (relayed_addresses_of client)

abbrev pub expired_in : AddressFamily → NotedState → Option Key
expired_in family s = if has_allocation family s.client then None else first_in family s.notes.book

-- the first grant, or the first request that was made, without an allocation of its family
abbrev pub first_expired : NotedState → Option Key
first_expired s = by (expired_in IPV4 s)
  where
    by : Option Key → Option Key
    by (Some key) = Some key
    by None = expired_in IPV6 s

-- ---- a data connection that was closed before the server had bound it (RFC 6062, section 4.3)

-- the request for it is made once more, and the second time that is its outcome
abbrev pub closed_settled : OpenRequest → NotedState → NotedState
closed_settled r s =
    if r.is_repeated then with_book (after_settlement r.key NotBound s.notes.book) s
    else with_book (record s.notes.book { requests = with_repeated r.key s.notes.book.requests }) s

abbrev pub closed_noted : ℕ → NotedState → Bool × NotedState
closed_noted now s = by (first_closed s.notes.book.requests)
  where
    by : Option OpenRequest → Bool × NotedState
    by (Some r) = (true, closed_settled r s)
    by None = denied_noted now s

-- nothing was noted, though it was closed
abbrev pub ClosedWaits : ℕ → NotedState → NotedState → Type 0
ClosedWaits now was s = by (first_closed was.notes.book.requests)
  where
    by : Option OpenRequest → Type 0
    by (Some r) = s ≡ was
    by None = DeniedWaits now was s

-- ---- one after the other

-- no response comes any more: it has timed out, and what was kept is lost
abbrev pub expiry_noted : ℕ → NotedState → Bool × NotedState
expiry_noted now s = by (first_expired s)
  where
    by : Option Key → Bool × NotedState
    by (Some key) = (true, with_book (after_failure key None now s.notes.book) s)
    by None = closed_noted now s

-- nothing was noted, though something has expired
abbrev pub ExpiryWaits : ℕ → NotedState → NotedState → Type 0
ExpiryWaits now was s = by (first_expired was)
  where
    by : Option Key → Type 0
    by (Some key) = s ≡ was
    by None = ClosedWaits now was s
