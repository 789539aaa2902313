-- The client over UDP or TCP.
use Rattle.turn_client_api.specs.State.{State}
use Rattle.turn_client_proto.specs.declared.client.TurnClient.{TurnClient}
use Rattle.turn_client_proto.specs.declared.client.TurnClient.TheVariants.{Udp, Tcp}

-- the state by which contracts describe it
abbrev pub state_of : TurnClient → State
state_of (Udp client) = client
state_of (Tcp client) = client
