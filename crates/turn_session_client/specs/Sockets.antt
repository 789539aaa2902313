-- Data connections, which the caller opens and closes (RFC 6062, section 4.3).
use Rattle.std.specs.Prelude.{◌≡◌, ◌⊎◌, ℕ, Bool, true, false, if◌then◌else◌, Option, Some, None, Result, Ok, Err}
use Rattle.std.specs.declared.net.socket_addr.SocketAddr.{SocketAddr}
use Rattle.turn_client_api.specs.Answers as Client
use Rattle.turn_client_api.specs.Calls.{allocated_tcp_socket_step}
use Rattle.turn_client_api.specs.Receive.{tcp_closed_step}
use Rattle.turn_client_api.specs.declared.error.TcpAllocateError.{TcpAllocateError}
use Rattle.turn_client_api.specs.declared.error.TcpAllocateError.TheVariants.{NoAllocation, OutOfMemory}
use Rattle.turn_client_api.specs.declared.poll.Socket5Tuple.{Socket5Tuple}
use Rattle.turn_session_book.specs.Book.{after_opening_failed}
use Rattle.turn_session_book.specs.OpenRequests.{with_opened}
use Rattle.turn_session_book.specs.declared.keys.Key.TheVariants.{Connect}
use Rattle.turn_session_book.specs.declared.tags.Tag.{Tag}
use Rattle.turn_session_client.specs.Ending.{is_over}
use Rattle.turn_session_client.specs.NotedState.{NotedState, with_book}

-- ---- an offer of the client is answered

-- the data connection is open for a request that the client was asked for
abbrev pub with_socket : Result Unit TcpAllocateError → SocketAddr → Option SocketAddr → NotedState → NotedState
with_socket (Ok done) peer (Some local) s =
    with_book (record s.notes.book { requests = with_opened (Connect peer) local s.notes.book.requests }) s
with_socket _ peer _ s = s

-- the client takes the answer, but none after the end
abbrev pub TakesSocket : ℕ → Socket5Tuple → SocketAddr → Option SocketAddr → ℕ → Result Unit TcpAllocateError → NotedState → NotedState → Type 0
TakesSocket id socket peer local now result was s = by (is_over was.life.phase)
  where
    by : Bool → Type 0
    by true = (result ≡ Err NoAllocation) × (s ≡ was)
    by false =
        Client.TakesSocket result was.client s.client (allocated_tcp_socket_step id socket peer local now was.client)
        × (s ≡ with_socket result peer local (record was { client = s.client }))

-- a request for this peer that the client was asked for has no other outcome
abbrev pub settled_socket : SocketAddr → Tag → NotedState → NotedState
settled_socket peer tag s = with_book (after_opening_failed (Connect peer) tag s.notes.book) s

-- it could not be opened
abbrev pub FailsSocket : ℕ → Socket5Tuple → SocketAddr → Tag → ℕ → Result Unit TcpAllocateError → NotedState → NotedState → Type 0
FailsSocket id socket peer tag now result was s =
    TakesSocket id socket peer None now result (settled_socket peer tag was) s ⊎ ((result ≡ Err OutOfMemory) × (s ≡ was))

-- ---- the end of one

abbrev pub closed_socket : SocketAddr → SocketAddr → Tag → NotedState → NotedState
closed_socket local peer tag s =
    let t = settled_socket peer tag s in record t { client = tcp_closed_step local t.client.remote t.client }

-- ---- bytes of one that have left

abbrev pub after_writing : ℕ → NotedState → NotedState
after_writing now s = if is_over s.life.phase then s else record s { written = Some now }
