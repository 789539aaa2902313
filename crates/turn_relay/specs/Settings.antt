-- The settings of a relay, and of its sessions.
use Rattle.std.specs.Prelude.{◌≡◌, ℕ, Bool, true, false, Option, Some, None}
use Rattle.std.specs.Option.{option_map}
use Rattle.std.specs.Duration.{as_nanos}
use Rattle.turn_stun.specs.declared.transport.TransportType.{TransportType}
use Rattle.turn_relay_tries.specs.Backoff.{default_backoff}
use Rattle.turn_relay_course.specs.declared.reopen.Reopen.{Reopen}
use Rattle.turn_relay_course.specs.declared.reopen.Reopen.TheVariants.{Never, Always}
use Rattle.turn_session.specs.Settings.{default_probe}
use Rattle.turn_session.specs.declared.settings.SessionSettings.{SessionSettings}
use Rattle.turn_relay.specs.declared.settings.RelaySettings.{RelaySettings}

pub record AreDefault (chosen : Reopen) (s : RelaySettings) : Type 0 where
  pub reopen : s.reopen ≡ chosen
  pub backoff : s.backoff ≡ default_backoff
  pub follows_three : s.redirects ≡ 3
  pub probe : s.probe ≡ None
  pub no_peer_is_idle : s.idle ≡ None
  pub leaves_in_2_s : as_nanos s.leave_wait ≡ 2_000_000_000

-- only a relay that comes back doubts an allocation
abbrev pub comes_back : Reopen → Bool
comes_back Always = true
comes_back Never = false

-- how often the path is checked, unless the caller says it
abbrev pub probe_or : Option ℕ → Option ℕ → Option ℕ
probe_or usual (Some probe) = Some probe
probe_or usual None = usual

-- those of its sessions over a transport
pub record AreFor (r : RelaySettings) (transport : TransportType) (s : SessionSettings) : Type 0 where
  pub probe : option_map as_nanos s.probe ≡ probe_or (default_probe transport) (option_map as_nanos r.probe)
  pub checks_if_it_comes_back : s.checks_allocation ≡ comes_back r.reopen
  pub idle : s.idle ≡ r.idle
  pub leave_wait : s.leave_wait ≡ r.leave_wait
