-- The new client of a head.
use Rattle.std.specs.Prelude.{Bool, Option}
use Rattle.turn_auth.specs.Credentials.{Credentials}
use Rattle.turn_client_api.specs.Config.{Config}
use Rattle.turn_client_api.specs.State.{State, initial}
use Rattle.turn_client_calls.specs.Settings.{config_with}
use Rattle.turn_client_calls.specs.declared.settings.Request.{Request}
use Rattle.turn_client_calls.specs.declared.settings.Waits.{Waits}
use Rattle.turn_lines.specs.declared.head.Head.{Head}

abbrev pub timed_config : Request → Credentials → Option Waits → Bool → Config
timed_config request credentials waits timed_from_send =
    record (config_with request credentials waits) { timed_from_send = timed_from_send }

abbrev pub config_of : Head → Config
config_of head = timed_config head.request head.credentials head.waits head.timed_from_send

abbrev pub client_of : Head → State
client_of head = initial head.ends.transport head.ends.local head.ends.remote (config_of head) head.seed
