-- In which order the addresses of a server are attempted (RFC 8305, section 4).
use Rattle.std.specs.Prelude.{ℕ, ◌+◌, ◌-◌, ◌^◌, min, length, if◌then◌else◌, List, [], ◌∷◌, ◌++◌, drop, slice_get, Option, Some, None}
use Rattle.std.specs.List.{list_any}
use Rattle.std.specs.declared.net.socket_addr.SocketAddr.{SocketAddr}
use Rattle.std.specs.declared.net.socket_addr.SocketAddr.TheVariants.{V4, V6}
use Rattle.turn_types.specs.declared.family.AddressFamily.{AddressFamily}
use Rattle.turn_types.specs.declared.family.AddressFamily.TheVariants.{IPV4, IPV6}
use Rattle.turn_session_book.specs.Keys.{same_peer}
use Rattle.turn_relay_tries.specs.AddressesState.{AddressesState}

abbrev pub no_addresses : AddressesState
no_addresses = record { v4 = []; v6 = []; turn = None }

-- each address once
abbrev pub with_address : SocketAddr → List SocketAddr → List SocketAddr
with_address address queue = if list_any (λ a. same_peer a address) queue then queue else queue ++ address ∷ []

-- the family of the first address is the first one
abbrev pub turn_after : AddressFamily → Option AddressFamily → Option AddressFamily
turn_after family None = Some family
turn_after family (Some first) = Some first

abbrev pub added : SocketAddr → AddressesState → AddressesState
added (V4 a) s = record s { v4 = with_address (V4 a) s.v4; turn = turn_after IPV4 s.turn }
added (V6 a) s = record s { v6 = with_address (V6 a) s.v6; turn = turn_after IPV6 s.turn }

-- at most as many as are counted
abbrev pub addresses_left : AddressesState → ℕ
addresses_left s = min (length s.v4 + length s.v6) (2 ^ 64 - 1)

-- the first of a family, and then it is the other one's turn
abbrev pub taken_v4 : AddressesState → Option SocketAddr × AddressesState
taken_v4 s = (slice_get s.v4 0, record s { v4 = drop 1 s.v4; turn = Some IPV6 })

abbrev pub taken_v6 : AddressesState → Option SocketAddr × AddressesState
taken_v6 s = (slice_get s.v6 0, record s { v6 = drop 1 s.v6; turn = Some IPV4 })

abbrev pub or_other : (AddressesState → Option SocketAddr × AddressesState) → Option SocketAddr × AddressesState → Option SocketAddr × AddressesState
or_other other (Some address, s) = (Some address, s)
or_other other (None, s) = other s

-- of the family whose turn it is, or else of the other one
abbrev pub next_address : AddressesState → Option SocketAddr × AddressesState
next_address s = by s.turn
  where
    by : Option AddressFamily → Option SocketAddr × AddressesState
    by (Some IPV4) = or_other taken_v6 (taken_v4 s)
    by (Some IPV6) = or_other taken_v4 (taken_v6 s)
    by None = (None, s)
