-- The settings that a session has unless its caller changes them.
use Rattle.std.specs.Prelude.{◌≡◌, ℕ, ◌-◌, ◌==◌, ◌^◌, min, false, if◌then◌else◌, option_and_then, Option, Some, None}
use Rattle.std.specs.Option.{option_map}
use Rattle.std.specs.Duration.{as_nanos}
use Rattle.std.specs.declared.time.Duration.{Duration}
use Rattle.turn_stun.specs.declared.transport.TransportType.{TransportType}
use Rattle.turn_stun.specs.declared.transport.TransportType.TheVariants.{Udp, Tcp}
use Rattle.turn_session.specs.declared.settings.SessionSettings.{SessionSettings}

-- over a stream the path is checked every 15 s, over UDP never
abbrev pub default_probe : TransportType → Option ℕ
default_probe Udp = None
default_probe Tcp = Some 15_000_000_000

pub record AreDefault (transport : TransportType) (s : SessionSettings) : Type 0 where
  pub probe : option_map as_nanos s.probe ≡ default_probe transport
  pub checks_no_allocation : s.checks_allocation ≡ false
  pub no_peer_is_idle : s.idle ≡ None
  pub leaves_in_2_s : as_nanos s.leave_wait ≡ 2_000_000_000

-- a time in nanoseconds: no time at all is none, since probes and looks would follow each other without a pause
abbrev pub if_above_zero : ℕ → Option ℕ
if_above_zero nanos = if nanos == 0 then None else Some nanos

abbrev pub time_nanos : Option Duration → Option ℕ
time_nanos time = option_and_then (λ t. if_above_zero (min (as_nanos t) (2 ^ 64 - 1))) time
