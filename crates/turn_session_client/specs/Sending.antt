-- Data for a peer.
use Rattle.std.specs.Prelude.{ℕ, if◌then◌else◌, List, Result, Err}
use Rattle.std.specs.declared.net.socket_addr.SocketAddr.{SocketAddr}
use Rattle.turn_stun.specs.declared.transport.Transmit.{Transmit}
use Rattle.turn_stun.specs.declared.transport.TransportType.{TransportType}
use Rattle.turn_client_api.specs.Calls.{send_to_step}
use Rattle.turn_client_api.specs.declared.error.SendError.{SendError}
use Rattle.turn_client_api.specs.declared.error.SendError.TheVariants.{NoAllocation}
use Rattle.turn_session_client.specs.Ending.{is_over}
use Rattle.turn_session_client.specs.NotedState.{NotedState}

-- the client carries it; after the end there is no allocation
abbrev pub sent_step : TransportType → SocketAddr → List ℕ → ℕ → NotedState → Result (Transmit (List ℕ)) SendError × NotedState
sent_step transport peer bytes now s =
    if is_over s.life.phase then (Err NoAllocation, s)
    else (let step = send_to_step transport peer bytes now s.client in (step.0, record s { client = step.1 }))
