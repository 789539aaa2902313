-- What a client keeps true of its parts.
use Rattle.std.specs.Prelude.{◌≡◌, ◌≤◌, ℕ, List, Some, length}
use Rattle.turn_auth.specs.LongTerm.{ClientAuth}
use Rattle.turn_agent.specs.Schedule.{Timers}
use Rattle.turn_client_api.specs.Config.{Config, timers_of}
use Rattle.turn_client_laws.specs.LawsStates.{IsHeldIn}
use Rattle.turn_client_api.specs.declared.state.Phase.{Phase}
use Rattle.turn_client_api.specs.declared.state.Phase.TheVariants.{Requesting}
use Rattle.turn_types.specs.declared.family.AddressFamily.{AddressFamily}

-- The parts are those of the configuration, and once a challenge was answered requests can be signed. While
-- the first ALLOCATE awaits its response there is room for an event for each family, to report that it
-- failed.
pub record IsWhole (config : Config) (auth : ClientAuth) (timers : Timers) (phase : Phase) (families : List AddressFamily) (event_room : ℕ) : Type 0 where
  pub credentials : auth.credentials ≡ Some config.credentials
  pub supported : auth.supported ≡ config.supported_integrity
  pub anonymous : auth.anonymous_username ≡ config.anonymous_username
  pub times : timers ≡ timers_of config
  pub held : IsHeldIn phase auth.held
  pub reportable : phase ≡ Requesting → length families ≤ event_room
