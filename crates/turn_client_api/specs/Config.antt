-- What a client is configured with.
use Rattle.std.specs.Prelude.{◌≡◌, ℕ, Bool, true, false, List, [], ◌∷◌, ◌++◌, Option, unwrap_or, if◌then◌else◌}
use Rattle.std.specs.List.{list_any}
use Rattle.smallvec.specs.SmallVec.{SmallVec}
use Rattle.turn_stun.specs.declared.transport.TransportType.{TransportType}
use Rattle.turn_types.specs.declared.family.AddressFamily.{AddressFamily}
use Rattle.turn_types.specs.declared.family.AddressFamily.TheVariants.{IPV4, IPV6}
use Rattle.turn_auth.specs.Credentials.{Credentials}
use Rattle.turn_auth.specs.declared.feature.Feature.{Feature}
use Rattle.turn_auth.specs.declared.integrity.IntegrityAlgorithm.{IntegrityAlgorithm}
use Rattle.turn_auth.specs.declared.integrity.IntegrityAlgorithm.TheVariants.{Sha1, Sha256}
use Rattle.turn_agent.specs.Schedule.{Timers, default_timers}

-- the settings, times in nanoseconds; the timers of requests are `Some` only if they were set
pub record Config : Type 0 where
  pub allocation_transport : TransportType
  pub address_families : List AddressFamily
  pub credentials : Credentials
  pub supported_integrity : List IntegrityAlgorithm
  pub anonymous_username : Feature
  pub request_timers : Option Timers
  -- so many challenges are answered in sequence
  pub max_stale_nonces : ℕ
  -- so long after a packet no other request is sent for the first time
  pub request_cadence : ℕ
  -- so long after the last packet an indication keeps the path to the server alive, if ever
  pub keepalive : Option ℕ
  -- so long before its expiry a grant is refreshed, but not before half of its lifetime is over
  pub refresh_ahead : ℕ
  -- the waits of a request begin when its first copy is given out, and not when the request is made
  pub timed_from_send : Bool

-- unless another limit is set (our choice)
abbrev pub default_max_stale_nonces : ℕ
default_max_stale_nonces = 9

-- unless another pause between two requests is set, so that a server is not flooded (our choice)
abbrev pub default_request_cadence : ℕ
default_request_cadence = 50_000_000

-- unless another time is set (our choice: RFC 8656, section 8, suggests about a minute), and at least this
abbrev pub default_refresh_ahead : ℕ
default_refresh_ahead = 60_000_000_000

abbrev pub least_refresh_ahead : ℕ
least_refresh_ahead = 1_000_000_000

-- a path is kept alive no more often than once in a second (our choice)
abbrev pub least_keepalive : ℕ
least_keepalive = 1_000_000_000

-- when requests are retransmitted and time out: as it was set, or else as in RFC 8489, section 6.2.1
abbrev pub timers_of : Config → Timers
timers_of config = unwrap_or config.request_timers default_timers

-- whether two families are the same
abbrev pub same_family : AddressFamily → AddressFamily → Bool
same_family IPV4 IPV4 = true
same_family IPV4 IPV6 = false
same_family IPV6 IPV4 = false
same_family IPV6 IPV6 = true

-- the families with one more, each of them once
abbrev pub with_family : List AddressFamily → AddressFamily → List AddressFamily
with_family families family = if list_any (same_family family) families then families else families ++ family ∷ []

-- a list of families that is not empty and has each of them at most once
abbrev pub is_family_list : List AddressFamily → Bool
is_family_list (family ∷ []) = true
is_family_list (IPV4 ∷ IPV6 ∷ []) = true
is_family_list (IPV6 ∷ IPV4 ∷ []) = true
is_family_list _ = false

-- a list of algorithms that is not empty and has each of them at most once
abbrev pub is_algorithm_list : List IntegrityAlgorithm → Bool
is_algorithm_list (algorithm ∷ []) = true
is_algorithm_list (Sha1 ∷ Sha256 ∷ []) = true
is_algorithm_list (Sha256 ∷ Sha1 ∷ []) = true
is_algorithm_list _ = false

-- what holds for every configuration; a list with room for two never grows past its inline places
pub record IsKeptConfig (families : SmallVec AddressFamily) (algorithms : SmallVec IntegrityAlgorithm) : Type 0 where
  pub some_family : is_family_list families.items ≡ true
  pub room_for_families : families.capacity ≡ 2
  pub some_algorithm : is_algorithm_list algorithms.items ≡ true
  pub room_for_algorithms : algorithms.capacity ≡ 2
