-- Worked calls, so that the check computes what they take out of a stream, and what they send.
use Rattle.std.specs.Prelude.{ℕ, true, List, [], ◌∷◌, ◌++◌, Option, Result, Some, option_map}
use Rattle.std.specs.declared.net.socket_addr.SocketAddr.{SocketAddr}
use Rattle.turn_stun.specs.declared.transport.TransportType.TheVariants.{Tcp, Udp}
use Rattle.turn_stun.specs.declared.transport.Transmit.{Transmit}
use Rattle.turn_client_api.specs.State.{State, seconds}
use Rattle.turn_client_api.specs.declared.call.Call.{Call}
use Rattle.turn_client_api.specs.declared.call.Call.TheVariants.{AllocatedTcpSocket, PollRecv, Recv}
use Rattle.turn_client_api.specs.declared.grant.Grant.TheVariants.{Offer}
use Rattle.turn_client_api.specs.declared.grant.Origin.TheVariants.{OwnConnect}
use Rattle.turn_client_api.specs.declared.error.SendError.{SendError}
use Rattle.turn_client_api.specs.Calls.{send_to_step}
use Rattle.turn_client_api.specs.Steps.{state_after}
use Rattle.turn_client_api.specs.Transmit.{next_transmit}
use Rattle.turn_client_laws.specs.LawsReceived.{abc, abc_frame, client, data_end, half_header, hello_message, over_tcp, server, with_channel}
use Rattle.turn_client_laws.specs.LawsRows.{peer}

-- one piece of the control connection has two frames and half of a header, and the client is polled once
abbrev pub two_frames_and_half : List Call
two_frames_and_half =
    Recv (record { payload = abc_frame ++ hello_message ++ half_header; transport = Tcp; from = server; to = client }) (seconds 1)
    ∷ PollRecv (seconds 1) ∷ []

-- a client over TCP whose CONNECT to the peer has succeeded, with the connection ID 7
abbrev pub with_own_offer : State → State
with_own_offer s =
    let t = over_tcp (Offer (record { connection_id = 7; peer = peer; is_reported = true; origin = OwnConnect }) ∷ []) [] s in
    record t { config = record t.config { allocation_transport = Tcp } }

-- the caller opens the data connection at 1 s
abbrev pub socket_named : State → State
socket_named s = state_after (AllocatedTcpSocket 7 (record { transport = Tcp; from = client; to = server }) peer (Some data_end) (seconds 1)) (with_own_offer s)

-- from where the next packet goes then
abbrev pub sent_next_from : State → Option SocketAddr
sent_next_from s = option_map (λ packet. packet.from) (next_transmit (seconds 1) s)

-- the caller sends abc to the peer at 1 s, over channel 4000
abbrev pub abc_sent : State → Result (Transmit (List ℕ)) SendError
abc_sent s = (send_to_step Udp peer abc (seconds 1) (with_channel s)).0

-- the frame, from the control address to the server
abbrev pub abc_frame_sent : Transmit (List ℕ)
abc_frame_sent = record { payload = abc_frame; transport = Tcp; from = client; to = server }
