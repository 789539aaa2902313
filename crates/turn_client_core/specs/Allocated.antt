-- Which addresses the server allocated (RFC 8656, section 7.3).
use Rattle.std.specs.Prelude.{ℕ, ◌≡◌, not, List, ◌∷◌, ◌++◌, filter}
use Rattle.std.specs.List.{list_any}
use Rattle.std.specs.declared.net.socket_addr.SocketAddr.{SocketAddr}
use Rattle.turn_types.specs.declared.family.AddressFamily.{AddressFamily}
use Rattle.turn_client_api.specs.Effect.{allocated, relayed_in, taken_addresses}
use Rattle.turn_client_api.specs.Grants.{is_of_family}
use Rattle.turn_client_api.specs.State.{State}

-- the families for which the list has no address
abbrev pub missing : List SocketAddr → List AddressFamily → List AddressFamily
missing addresses families = filter (λ family. not (list_any (is_of_family family) addresses)) families

-- whatever addresses follow, the same ones are taken after this address is read as before
abbrev pub IsRead : SocketAddr → List AddressFamily → List SocketAddr → List SocketAddr → Type 0
IsRead address families was taken =
    (later : List SocketAddr)
    → taken ++ taken_addresses (missing taken families) later ≡ was ++ taken_addresses (missing was families) (address ∷ later)

-- the server allocates the addresses of this message for so many seconds
abbrev pub addresses_allocated : ℕ → List ℕ → ℕ → State → State
addresses_allocated lifetime message now s = allocated lifetime (taken_addresses s.families (relayed_in message)) now s
