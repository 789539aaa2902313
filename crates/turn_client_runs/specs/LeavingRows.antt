-- Worked messages, so that the check computes what leaves.
use Rattle.std.specs.Prelude.{ℕ, List, [], ◌∷◌, Option, Some, None}
use Rattle.turn_stun.specs.declared.transport.TransportType.TheVariants.{Udp}
use Rattle.turn_types.specs.declared.family.AddressFamily.TheVariants.{IPV4}
use Rattle.turn_auth.specs.LongTerm.{Challenge}
use Rattle.turn_client_api.specs.Effect.{new_allocation}
use Rattle.turn_client_api.specs.State.{State, seconds}
use Rattle.turn_client_api.specs.Steps.{state_after}
use Rattle.turn_client_api.specs.declared.call.Call.TheVariants.{CreatePermission}
use Rattle.turn_client_api.specs.declared.state.Phase.TheVariants.{New}
use Rattle.turn_client_laws.specs.LawsRows.{granted_at, ip_of_peer, relayed_v4}
use Rattle.turn_client_runs.specs.PacedRows.{sent_at}

-- a new client over UDP that requests an IPv4 address
abbrev pub new_over_udp : State → State
new_over_udp s = record (granted_at 0 [] s) { phase = New; families = IPV4 ∷ []; last_send = None }

-- one with an allocation of 600 s, which holds this challenge
abbrev pub holding : Challenge → State → State
holding challenge s = record (granted_at 0 (new_allocation 600 0 relayed_v4 ∷ []) s) { held = Some challenge }

-- what it sends at 1 s, at which a permission is requested
abbrev pub permission_sent : Challenge → State → Option (List ℕ)
permission_sent challenge s = sent_at (seconds 1) (state_after (CreatePermission Udp ip_of_peer (seconds 1)) (holding challenge s))
