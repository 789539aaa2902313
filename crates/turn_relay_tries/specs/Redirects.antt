-- Servers that name another one to be used instead (RFC 8489, section 10).
use Rattle.std.specs.Prelude.{ℕ, ◌-◌, ◌&&◌, nat_lt, not, Bool, if◌then◌else◌, List}
use Rattle.std.specs.List.{list_any}
use Rattle.std.specs.declared.net.socket_addr.SocketAddr.{SocketAddr}
use Rattle.turn_session_book.specs.Keys.{same_peer}

abbrev pub was_asked : SocketAddr → List SocketAddr → Bool
was_asked server asked = list_any (λ a. same_peer a server) asked

-- it was not asked before, and the relay still goes where it is sent
abbrev pub is_followed : SocketAddr → ℕ → List SocketAddr → Bool
is_followed to left asked = nat_lt 0 left && not (was_asked to asked)

abbrev pub after_redirect : SocketAddr → ℕ → List SocketAddr → ℕ
after_redirect to left asked = if is_followed to left asked then left - 1 else left
