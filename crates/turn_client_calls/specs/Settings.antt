-- The settings of a new client: what they may be, and its configuration.
use Rattle.std.specs.Prelude.{ℕ, false, nat_le, ◌&&◌, if◌then◌else◌, List, [], ◌∷◌, length, Option, Some, None}
use Rattle.turn_stun.specs.declared.transport.TransportType.{TransportType}
use Rattle.turn_stun.specs.declared.transport.TransportType.TheVariants.{Udp, Tcp}
use Rattle.turn_types.specs.declared.family.AddressFamily.{AddressFamily}
use Rattle.turn_auth.specs.Credentials.{Credentials}
use Rattle.turn_auth.specs.LongTerm.{with_algorithm}
use Rattle.turn_auth.specs.declared.integrity.IntegrityAlgorithm.{IntegrityAlgorithm}
use Rattle.turn_client_api.specs.Config.{Config, default_max_stale_nonces, default_refresh_ahead, default_request_cadence, with_family}
use Rattle.turn_agent.specs.Schedule.{Timers}
use Rattle.turn_client_calls.specs.declared.settings.Request.{Request}
use Rattle.turn_client_calls.specs.declared.settings.Waits.{Waits}

-- an allocation over TCP needs a client over TCP (RFC 6062, section 4.1)
abbrev pub relayed_for : TransportType → TransportType → Option (Unit {0})
relayed_for Udp Tcp = None
relayed_for _ _ = Some tt

-- a user name of 1 to 508 bytes, and a password of at most 65,535
abbrev pub credentials_with : List ℕ → List ℕ → Option Credentials
credentials_with user password =
    if nat_le 1 (length user) && nat_le (length user) 508 && nat_le (length password) 65535
    then Some (record { user = user; password = password }) else None

-- the first family, and the second if there is one
abbrev pub families_with : AddressFamily × Option AddressFamily → List AddressFamily
families_with (first, None) = first ∷ []
families_with (first, Some second) = with_family (first ∷ []) second

-- the same for algorithms
abbrev pub algorithms_with : IntegrityAlgorithm × Option IntegrityAlgorithm → List IntegrityAlgorithm
algorithms_with (first, None) = first ∷ []
algorithms_with (first, Some second) = with_algorithm (first ∷ []) second

-- the retransmission times, if there are any
abbrev pub timers_with : Option Waits → Option Timers
timers_with None = None
timers_with (Some waits) = Some (record {
  initial = waits.initial;
  max = waits.max;
  transmissions = waits.count;
  last = waits.last;
})

abbrev pub config_with : Request → Credentials → Option Waits → Config
config_with request credentials waits = record {
  allocation_transport = request.allocation;
  address_families = families_with request.families;
  credentials = credentials;
  supported_integrity = algorithms_with request.algorithms;
  anonymous_username = request.anonymous;
  request_timers = timers_with waits;
  max_stale_nonces = default_max_stale_nonces;
  request_cadence = default_request_cadence;
  keepalive = None;
  refresh_ahead = default_refresh_ahead;
  timed_from_send = false;
}
