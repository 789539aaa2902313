-- The signed ALLOCATE and replies to it.
use Rattle.std.specs.Prelude.{ℕ, Bool, false, true, [], ◌∷◌}
use Rattle.turn_client_api.specs.Effect.{in_phase}
use Rattle.turn_client_api.specs.Grants.{wait}
use Rattle.turn_client_api.specs.Requests.{requested}
use Rattle.turn_client_api.specs.State.{State}
use Rattle.turn_client_api.specs.declared.grant.Purpose.TheVariants.{ForAllocation}
use Rattle.turn_client_api.specs.declared.event.TurnEvent.TheVariants.{AllocationCreateFailed}
use Rattle.turn_client_api.specs.declared.state.Phase.{Phase}
use Rattle.turn_client_api.specs.declared.state.Phase.TheVariants.{Authenticating}
use Rattle.turn_types.specs.declared.family.AddressFamily.TheVariants.{IPV4, IPV6}

-- IPv4 fails, and IPv6 is requested alone by a request with this ID (RFC 8656, section 7.4)
abbrev pub asks_ipv6 : ℕ → ℕ → State → State
asks_ipv6 fresh now s =
    requested fresh ForAllocation now (wait (AllocationCreateFailed IPV4 ∷ []) (record (in_phase s.phase s) { families = IPV6 ∷ [] }))

-- a signed ALLOCATE awaits its response
abbrev pub is_authenticating : Phase → Bool
is_authenticating Authenticating = true
is_authenticating _ = false
