-- Data connections, which the caller opens and closes (RFC 6062, section 4.3).
use Rattle.std.specs.Prelude.{ℕ, Some, Result, Ok, Err}
use Rattle.std.specs.declared.net.socket_addr.SocketAddr.{SocketAddr}
use Rattle.turn_client_api.specs.declared.error.TcpAllocateError.{TcpAllocateError}
use Rattle.turn_client_api.specs.declared.poll.Socket5Tuple.{Socket5Tuple}
use Rattle.turn_session_book.specs.declared.tags.Tag.{Tag}
use Rattle.turn_session_client.specs.Sockets.{FailsSocket, TakesSocket, after_writing, closed_socket}
use Rattle.turn_session.specs.SessionState.{SessionState, NotesAlone, with_noted}

-- it was opened from this local address, or could not be opened
abbrev pub TakesData : ℕ → Socket5Tuple → SocketAddr → Result SocketAddr Tag → ℕ → Result Unit TcpAllocateError
    → SessionState → SessionState → Type 0
TakesData id socket peer (Ok local) now result was s =
    TakesSocket id socket peer (Some local) now result was.noted s.noted × NotesAlone was s
TakesData id socket peer (Err tag) now result was s = FailsSocket id socket peer tag now result was.noted s.noted × NotesAlone was s

abbrev pub closed : SocketAddr → SocketAddr → Tag → SessionState → SessionState
closed local peer tag s = with_noted (closed_socket local peer tag s.noted) s

abbrev pub written : ℕ → SessionState → SessionState
written now s = with_noted (after_writing now s.noted) s
