-- Worked data connections, so that the check computes the machine's effect on them.
use Rattle.std.specs.Prelude.{ℕ, List, [], ◌∷◌, ◌++◌, Option, None, Result, false, true}
use Rattle.std.specs.declared.net.socket_addr.SocketAddr.{SocketAddr}
use Rattle.turn_stun.specs.declared.transport.TransportType.TheVariants.{Tcp}
use Rattle.turn_client_api.specs.Config.{default_refresh_ahead, default_request_cadence}
use Rattle.turn_client_api.specs.State.{State, seconds}
use Rattle.turn_client_api.specs.declared.grant.Grant.{Grant}
use Rattle.turn_client_api.specs.declared.grant.Grant.TheVariants.{Permission}
use Rattle.turn_client_api.specs.declared.grant.Origin.TheVariants.{ServerIndication}
use Rattle.turn_client_api.specs.Calls.{allocated_tcp_socket_step}
use Rattle.turn_client_laws.specs.LawsRows.{ip_of_peer}
use Rattle.turn_client_laws.specs.LawsMessages.{message_with, ms, offer_of, with_connection_id, with_peer}
use Rattle.turn_client_laws.specs.LawsReceived.{client, over_tcp, server}
use Rattle.turn_client_api.specs.declared.error.TcpAllocateError.{TcpAllocateError}
use Rattle.turn_client_api.specs.declared.poll.Socket5Tuple.{Socket5Tuple}
use Rattle.turn_client_api.specs.Effect.{granted_until}

-- a client with an allocation over TCP and these grants, whose control stream holds nothing
abbrev pub relaying_tcp : List Grant → State → State
relaying_tcp grants s = record (over_tcp grants [] s) {
  config = record s.config {
    allocation_transport = Tcp;
    request_timers = None;
    request_cadence = default_request_cadence;
    keepalive = None;
    refresh_ahead = default_refresh_ahead;
    timed_from_send = false;
  };
}

-- the peer has a permission
abbrev pub permission : Grant
permission = Permission ip_of_peer (granted_until (seconds 300) true)

-- the server reported a connection of the peer
abbrev pub offered : State → State
offered s = relaying_tcp (permission ∷ offer_of ServerIndication ∷ []) s

-- a ConnectionAttempt of the server's connection ID 9: an indication, a request, and one that names no peer
abbrev pub attempted : List ℕ
attempted = message_with 0x00 0x1c (with_connection_id ++ with_peer)

abbrev pub asked_to_connect : List ℕ → List ℕ
asked_to_connect signature = message_with 0x00 0x0c (with_connection_id ++ with_peer ++ signature)

abbrev pub asked_without_peer : List ℕ → List ℕ
asked_without_peer signature = message_with 0x00 0x0c (with_connection_id ++ signature)

-- the control connection
abbrev pub control : Socket5Tuple
control = record { transport = Tcp; from = client; to = server }

-- the caller opened connection 9 to the peer from this local address at 150 ms, or could not
abbrev pub opened : SocketAddr → Option SocketAddr → State → Result Unit TcpAllocateError × State
opened to local s = allocated_tcp_socket_step 9 control to local (ms 150) (offered s)
