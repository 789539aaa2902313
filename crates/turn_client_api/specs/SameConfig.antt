-- When two configurations have the same settings.
use Rattle.std.specs.Prelude.{ℕ, Bool, true, false, not, ◌==◌, ◌&&◌, Option, Some, None}
use Rattle.std.specs.Cmp.Lexicographic.{pointwise}
use Rattle.turn_stun.specs.declared.transport.TransportType.{TransportType}
use Rattle.turn_stun.specs.declared.transport.TransportType.TheVariants.{Udp, Tcp}
use Rattle.turn_auth.specs.Credentials.{Credentials}
use Rattle.turn_auth.specs.LongTerm.{same_algorithm}
use Rattle.turn_auth.specs.declared.feature.Feature.{Feature}
use Rattle.turn_auth.specs.declared.feature.Feature.TheVariants.{Auto, Disabled, Required}
use Rattle.turn_agent.specs.Schedule.{Timers}
use Rattle.turn_client_api.specs.Config.{Config, same_family}

abbrev pub same_allocation_transport : TransportType → TransportType → Bool
same_allocation_transport Udp Udp = true
same_allocation_transport Udp Tcp = false
same_allocation_transport Tcp Udp = false
same_allocation_transport Tcp Tcp = true

abbrev pub same_feature : Feature → Feature → Bool
same_feature Auto Auto = true
same_feature Disabled Disabled = true
same_feature Required Required = true
same_feature _ _ = false

abbrev pub same_credentials : Credentials → Credentials → Bool
same_credentials a b = pointwise ◌==◌ a.user b.user && pointwise ◌==◌ a.password b.password

abbrev pub same_timers : Timers → Timers → Bool
same_timers a b =
    (a.initial == b.initial) && (a.max == b.max) && (a.transmissions == b.transmissions) && (a.last == b.last)

-- timers that were never set are not the same as any that were
abbrev pub same_set_timers : Option Timers → Option Timers → Bool
same_set_timers None None = true
same_set_timers None (Some b) = false
same_set_timers (Some a) None = false
same_set_timers (Some a) (Some b) = same_timers a b

-- both request the same allocations
abbrev pub same_request : Config → Config → Bool
same_request a b =
    same_allocation_transport a.allocation_transport b.allocation_transport
    && pointwise same_family a.address_families b.address_families

-- both identify themselves to a server alike, and support the same integrity algorithms
abbrev pub same_user : Config → Config → Bool
same_user a b =
    same_credentials a.credentials b.credentials
    && pointwise same_algorithm a.supported_integrity b.supported_integrity
    && same_feature a.anonymous_username b.anonymous_username

-- both wait for a server alike, and answer as many challenges
abbrev pub same_limits : Config → Config → Bool
same_limits a b = same_set_timers a.request_timers b.request_timers && (a.max_stale_nonces == b.max_stale_nonces)

-- a path that is never kept alive is not the same as any that is
abbrev pub same_keepalive : Option ℕ → Option ℕ → Bool
same_keepalive None None = true
same_keepalive None (Some b) = false
same_keepalive (Some a) None = false
same_keepalive (Some a) (Some b) = a == b

-- both are on, or both are off
abbrev pub same_switch : Bool → Bool → Bool
same_switch true on = on
same_switch false on = not on

-- both send and refresh at the same times
abbrev pub same_times : Config → Config → Bool
same_times a b =
    (a.request_cadence == b.request_cadence) && same_keepalive a.keepalive b.keepalive && (a.refresh_ahead == b.refresh_ahead)
    && same_switch a.timed_from_send b.timed_from_send

abbrev pub same_config : Config → Config → Bool
same_config a b = same_request a b && same_user a b && same_limits a b && same_times a b
