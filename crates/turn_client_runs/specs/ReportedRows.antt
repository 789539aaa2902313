-- Worked runs, in which events are reported.
use Rattle.std.specs.Prelude.{List, [], ◌∷◌, None, Some}
use Rattle.turn_stun.specs.declared.transport.TransportType.TheVariants.{Tcp, Udp}
use Rattle.turn_client_api.specs.declared.call.Call.{Call}
use Rattle.turn_client_api.specs.declared.call.Call.TheVariants.{CreatePermission, Poll, PollEvent, ProtocolError, Recv}
use Rattle.turn_client_api.specs.Effect.{without_families}
use Rattle.turn_client_api.specs.State.{State, seconds}
use Rattle.turn_client_api.specs.declared.state.Mode.TheVariants.{Bound, Waiting}
use Rattle.turn_client_laws.specs.LawsReceived.{client, server, with_connection}
use Rattle.turn_client_laws.specs.LawsRows.{ip_of_peer, peer, with_permission}
use Rattle.turn_client_laws.specs.LawsSockets.{attempted, permission, relaying_tcp}

-- the caller ends the client twice, and asks for an event each time
abbrev pub ended_twice : List Call
ended_twice = ProtocolError ∷ PollEvent ∷ ProtocolError ∷ PollEvent ∷ []

-- a client with an allocation and a permission, which requests no address any more
abbrev pub permitting_peer : State → State
permitting_peer s = without_families (with_permission 50_000_000 s)

-- the permission expires, which the client tells once, and the caller requests it anew
abbrev pub lost_and_requested : List Call
lost_and_requested = Poll 300_100_000_000 ∷ PollEvent ∷ PollEvent ∷ CreatePermission Udp ip_of_peer 300_200_000_000 ∷ []

-- a client over TCP, which requests no address any more, opened a data connection to the peer: the server may bind it
-- for 39 s, or has bound it
abbrev pub joining : State → State
joining s = without_families (with_connection (Some (seconds 39)) Waiting s)

abbrev pub joined_peer : State → State
joined_peer s = without_families (with_connection None (Bound peer) s)

-- the server does not bind it, and the caller asks twice for an event
abbrev pub never_bound : List Call
never_bound = Poll (seconds 40) ∷ PollEvent ∷ PollEvent ∷ []

-- the server tells twice, at 1 s, that the peer connected
abbrev pub attempted_twice : List Call
attempted_twice =
    Recv (record { payload = attempted; transport = Tcp; from = server; to = client }) (seconds 1)
    ∷ Recv (record { payload = attempted; transport = Tcp; from = server; to = client }) (seconds 1)
    ∷ []

-- a client whose peer may connect
abbrev pub awaiting_peer : State → State
awaiting_peer s = without_families (relaying_tcp (permission ∷ []) s)
