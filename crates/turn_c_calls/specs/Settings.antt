-- The settings of a new client.
use Rattle.std.specs.Prelude.{ℕ, Bool, true, false, ◌&&◌, ◌==◌, if◌then◌else◌, slice_index, Option, Some, None}
use Rattle.std.specs.Option.{option_map}
use Rattle.turn_types.specs.declared.family.AddressFamily.{AddressFamily}
use Rattle.turn_types.specs.declared.family.AddressFamily.TheVariants as Family
use Rattle.turn_auth.specs.declared.feature.Feature.{Feature}
use Rattle.turn_auth.specs.declared.feature.Feature.TheVariants.{Auto, Disabled, Required}
use Rattle.turn_auth.specs.declared.integrity.IntegrityAlgorithm.{IntegrityAlgorithm}
use Rattle.turn_auth.specs.declared.integrity.IntegrityAlgorithm.TheVariants.{Sha1, Sha256}
use Rattle.turn_client_calls.specs.Checks.{◌>>=◌}
use Rattle.turn_client_calls.specs.Settings.{relayed_for}
use Rattle.turn_client_calls.specs.declared.settings.Ends.{Ends}
use Rattle.turn_client_calls.specs.declared.settings.Request.{Request}
use Rattle.turn_client_calls.specs.declared.settings.Waits.{Waits}
use Rattle.turn_c_calls.specs.Address.{socket_at, c_transport}
use Rattle.turn_c_calls.specs.declared.code.TheConstants.{AUTO, DISABLED, NO_PAUSE, NONE, REQUIRED, SHA1, SHA256, VERSION_4, VERSION_6}
use Rattle.turn_c_calls.specs.declared.settings.Plan.{Plan}
use Rattle.turn_c_calls.specs.declared.settings.Settings.{Settings}

abbrev pub c_ends : Settings → Option Ends
c_ends s = do
  transport ← c_transport s.transport
  local ← socket_at s.local
  remote ← socket_at s.remote
  Some (record { transport = transport; local = local; remote = remote })

abbrev pub c_family : ℕ → Option AddressFamily
c_family code = if code == VERSION_4 then Some Family.IPV4 else if code == VERSION_6 then Some Family.IPV6 else None

abbrev pub c_algorithm : ℕ → Option IntegrityAlgorithm
c_algorithm code = if code == SHA1 then Some Sha1 else if code == SHA256 then Some Sha256 else None

-- another one, or none
abbrev pub other_family : ℕ → Option (Option AddressFamily)
other_family code = if code == NONE then Some None else option_map Some (c_family code)

abbrev pub other_algorithm : ℕ → Option (Option IntegrityAlgorithm)
other_algorithm code = if code == NONE then Some None else option_map Some (c_algorithm code)

-- one or two, in this order
abbrev pub c_families : ℕ → ℕ → Option (AddressFamily × Option AddressFamily)
c_families first other = do
  one ← c_family first
  two ← other_family other
  Some (one, two)

abbrev pub c_algorithms : ℕ → ℕ → Option (IntegrityAlgorithm × Option IntegrityAlgorithm)
c_algorithms first other = do
  one ← c_algorithm first
  two ← other_algorithm other
  Some (one, two)

abbrev pub c_feature : ℕ → Option Feature
c_feature code =
    if code == AUTO then Some Auto else if code == REQUIRED then Some Required else if code == DISABLED then Some Disabled else None

abbrev pub c_requested : Settings → Option Request
c_requested s = do
  allocation ← c_transport s.relays
  families ← c_families s.family s.other_family
  algorithms ← c_algorithms s.algorithm s.other_algorithm
  anonymous ← c_feature s.anonymous
  Some (record { allocation = allocation; families = families; algorithms = algorithms; anonymous = anonymous })

-- the retransmission times, if the settings have them
abbrev pub c_waits : Settings → Option Waits
c_waits s =
    if s.has_waits == NONE then None
    else Some (record { initial = s.wait_initial; max = s.wait_max; count = s.wait_count; last = s.wait_last })

-- a time, unless it is 0
abbrev pub unless_zero : ℕ → Option ℕ
unless_zero nanos = if nanos == 0 then None else Some nanos

-- the pause between two requests, if it is not the default one
abbrev pub c_cadence : ℕ → Option ℕ
c_cadence nanos = if nanos == NO_PAUSE then Some 0 else unless_zero nanos

-- the reserved places are 0; an address looks at its own
abbrev pub has_reserved_zero : Settings → Bool
has_reserved_zero s = slice_index s.reserved_places 0 == 0 && slice_index s.reserved_places 1 == 0

-- a setting that is off or on
abbrev pub c_switch : ℕ → Option Bool
c_switch number = if number == 0 then Some false else if number == 1 then Some true else None

abbrev pub if_true : Bool → Option (Unit {0})
if_true true = Some tt
if_true false = None

-- an allocation over TCP needs a client over TCP (RFC 6062, section 4.1)
abbrev pub plan_of : Settings → Option Plan
plan_of s = do
  _ ← if_true (has_reserved_zero s)
  ends ← c_ends s
  request ← c_requested s
  _ ← relayed_for ends.transport request.allocation
  timed_from_send ← c_switch s.timed_from_send
  Some (record {
    ends = ends;
    request = request;
    waits = c_waits s;
    max_stale_nonces = s.max_stale_nonces;
    request_cadence = c_cadence s.request_cadence;
    keepalive = unless_zero s.keepalive;
    refresh_ahead = unless_zero s.refresh_ahead;
    timed_from_send = timed_from_send;
  })
