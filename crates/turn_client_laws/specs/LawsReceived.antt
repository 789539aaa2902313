-- Worked pieces of streams, so that the check computes their effect on the machine.
use Rattle.std.specs.Prelude.{◌≡◌, ℕ, ◌+◌, List, [], ◌∷◌, ◌++◌, length, map, Option, Some, None, true}
use Rattle.std.specs.declared.ops.Range.{Range}
use Rattle.std.specs.declared.net.socket_addr.SocketAddr.{SocketAddr}
use Rattle.std.specs.declared.net.socket_addr.SocketAddr.TheVariants.{V4}
use Rattle.turn_stun.specs.XorAddress.{xor_v4}
use Rattle.turn_stun.specs.declared.transport.TransportType.TheVariants.{Udp, Tcp}
use Rattle.turn_auth.specs.Validation.{validation_of}
use Rattle.turn_auth.specs.declared.validation.Validation.{Validation}
use Rattle.turn_agent.specs.Agent.{first_sent}
use Rattle.turn_client_api.specs.State.{State, auth_of, seconds}
use Rattle.turn_client_api.specs.declared.grant.Grant.{Grant}
use Rattle.turn_client_api.specs.declared.grant.Grant.TheVariants.{Permission, Channel, Connection}
use Rattle.turn_client_api.specs.declared.state.Mode.{Mode}
use Rattle.turn_client_api.specs.declared.state.Mode.TheVariants.{Control, Waiting, Bound}
use Rattle.turn_client_api.specs.declared.state.Stream.{Stream}
use Rattle.turn_client_api.specs.declared.grant.Purpose.TheVariants.{ForBind}
use Rattle.turn_client_api.specs.Requests.{listings}
use Rattle.turn_client_api.specs.Effect.{new_allocation, granted_until}
use Rattle.turn_client_api.specs.Payloads.{Outcome, Payload, PeerIcmp, datagram_step}
use Rattle.turn_client_api.specs.Streams.{poll_recv_step}
use Rattle.turn_client_api.specs.Receive.{recv_step}
use Rattle.turn_client_laws.specs.LawsRows.{granted_at, peer, ip_of_peer, relayed_v4}

-- ---- addresses

-- 192.168.0.1:1000, its port 1001 for a data connection, and the server at 10.0.0.2:2000
abbrev pub client : SocketAddr
client = V4 (xor_v4 (192 ∷ 168 ∷ 0 ∷ 1 ∷ []) 1000)

abbrev pub data_end : SocketAddr
data_end = V4 (xor_v4 (192 ∷ 168 ∷ 0 ∷ 1 ∷ []) 1001)

abbrev pub server : SocketAddr
server = V4 (xor_v4 (10 ∷ 0 ∷ 0 ∷ 2 ∷ []) 2000)

-- ---- clients over TCP, at 1 s

-- the stream at this local address holds nothing
abbrev pub empty_stream : SocketAddr → Mode → Stream
empty_stream local mode = record { local = local; mode = mode; bytes = [] }

-- with these grants and streams
abbrev pub over_tcp : List Grant → List Stream → State → State
over_tcp grants streams s = record (granted_at 0 (new_allocation 1800 0 relayed_v4 ∷ grants) s) {
  transport = Tcp;
  local = client;
  remote = server;
  streams = empty_stream client Control ∷ streams;
}

-- channel 4000 leads to the peer, which has a permission
abbrev pub with_channel : State → State
with_channel s = over_tcp (Permission ip_of_peer (granted_until (seconds 300) true) ∷ Channel 0x4000 peer (granted_until (seconds 600) true) ∷ []) [] s

-- the data connection to the peer is bound, or waits for the reply to request 1
abbrev pub with_connection : Option ℕ → Mode → State → State
with_connection deadline mode s =
    over_tcp (Connection (record { local = data_end; peer = peer; deadline = deadline }) ∷ []) (empty_stream data_end mode ∷ []) s

abbrev pub with_bound : State → State
with_bound s = with_connection None (Bound peer) s

abbrev pub with_waiting : List ℕ → State → State
with_waiting text s = record (with_connection (Some (seconds 39)) Waiting s) {
  transactions = first_sent 1 server 0 text ∷ [];
  listed = listings 1 (ForBind data_end peer 7 ∷ []);
}

-- a datagram of the server is received
abbrev pub datagram_in : List ℕ → State → Outcome × State
datagram_in bytes s = datagram_step bytes (seconds 1) s

-- the server's piece of the stream at this local address is received
abbrev pub server_piece_step : SocketAddr → List ℕ → State → Outcome × State
server_piece_step local piece s = recv_step Tcp server local piece (seconds 1) s

-- the client is polled for buffered data
abbrev pub poll_recv_at_1_s : State → Option Payload × State
poll_recv_at_1_s s = poll_recv_step (seconds 1) s

-- ---- pieces

-- a frame of channel 4000, with padding: abc
abbrev pub abc : List ℕ
abc = 0x61 ∷ 0x62 ∷ 0x63 ∷ []

abbrev pub abc_frame : List ℕ
abc_frame = (0x40 ∷ 0x00 ∷ 0x00 ∷ 0x03 ∷ []) ++ abc ++ 0x00 ∷ []

-- half of its header, and the bytes after that
abbrev pub half_header : List ℕ
half_header = 0x40 ∷ 0x00 ∷ []

abbrev pub behind_half : List ℕ
behind_half = (0x00 ∷ 0x03 ∷ []) ++ abc ++ 0x00 ∷ []

abbrev pub hello : List ℕ
hello = 0x68 ∷ 0x65 ∷ 0x6c ∷ 0x6c ∷ 0x6f ∷ []

-- a DATA indication of the peer, with so many bytes after the header and these attributes
abbrev pub indication_with : ℕ → List ℕ → List ℕ
indication_with len attributes =
    (0x00 ∷ 0x17 ∷ 0x00 ∷ len ∷ 0x21 ∷ 0x12 ∷ 0xa4 ∷ 0x42 ∷ []) ++ (0 ∷ 0 ∷ 0 ∷ 0 ∷ 0 ∷ 0 ∷ 0 ∷ 0 ∷ 0 ∷ 0 ∷ 0 ∷ 1 ∷ [])
    ++ (0x00 ∷ 0x12 ∷ 0x00 ∷ 0x08 ∷ 0x00 ∷ 0x01 ∷ 0x02 ∷ 0x3a ∷ 0x2b ∷ 0x12 ∷ 0xa4 ∷ 0x41 ∷ []) ++ attributes

abbrev pub with_hello : List ℕ
with_hello = (0x00 ∷ 0x13 ∷ 0x00 ∷ 0x05 ∷ []) ++ hello ++ 0 ∷ 0 ∷ 0 ∷ []

abbrev pub hello_message : List ℕ
hello_message = indication_with 0x18 with_hello

-- with an ICMP report of type 3 and code 4
abbrev pub icmp_message : List ℕ
icmp_message = indication_with 0x18 (0x80 ∷ 0x04 ∷ 0x00 ∷ 0x08 ∷ 0x00 ∷ 0x00 ∷ 0x03 ∷ 0x04 ∷ 0x00 ∷ 0x00 ∷ 0x05 ∷ 0x00 ∷ [])

-- with a second peer of four bytes, and with an attribute of type 7000
abbrev pub second_peer_message : List ℕ
second_peer_message = indication_with 0x20 (with_hello ++ 0x00 ∷ 0x12 ∷ 0x00 ∷ 0x04 ∷ 0x00 ∷ 0x01 ∷ 0x02 ∷ 0x3a ∷ [])

abbrev pub unknown_message : List ℕ
unknown_message = indication_with 0x1c (with_hello ++ 0x70 ∷ 0x00 ∷ 0x00 ∷ 0x00 ∷ [])

-- the success to CONNECTION_BIND, request 1, with MESSAGE-INTEGRITY of these twenty bytes
abbrev pub bind_success : (ℕ → ℕ) → List ℕ
bind_success byte =
    (0x01 ∷ 0x0b ∷ 0x00 ∷ 0x18 ∷ 0x21 ∷ 0x12 ∷ 0xa4 ∷ 0x42 ∷ []) ++ (0 ∷ 0 ∷ 0 ∷ 0 ∷ 0 ∷ 0 ∷ 0 ∷ 0 ∷ 0 ∷ 0 ∷ 0 ∷ 1 ∷ [])
    ++ (0x00 ∷ 0x08 ∷ 0x00 ∷ 0x14 ∷ [])
    ++ map byte (0 ∷ 1 ∷ 2 ∷ 3 ∷ 4 ∷ 5 ∷ 6 ∷ 7 ∷ 8 ∷ 9 ∷ 10 ∷ 11 ∷ 12 ∷ 13 ∷ 14 ∷ 15 ∷ 16 ∷ 17 ∷ 18 ∷ 19 ∷ [])

-- ---- their effects

-- the peer sent this over the allocation, and it is that range of the caller's piece, or owned
abbrev pub relayed : List ℕ → Option ℕ → Payload
relayed bytes at = record { transport = Udp; peer = peer; bytes = bytes; place = from_to at }
  where
    from_to : Option ℕ → Option (Range ℕ)
    from_to (Some start) = Some (record { start = start; end = start + length bytes })
    from_to None = None

-- the peer sent this over its data connection
abbrev pub from_peer : List ℕ → Option ℕ → Payload
from_peer bytes at = record (relayed bytes at) { transport = Tcp }

abbrev pub reported : ℕ → ℕ → ℕ → Outcome
reported icmp_type code value = PeerIcmp Udp peer (record { icmp_type = icmp_type; code = code; «data» = value })

-- the client's credentials and what it holds judge the message so
abbrev pub IsJudged : Validation → List ℕ → State → Type 0
IsJudged verdict message s = validation_of (auth_of s) message ≡ verdict

-- if the success to CONNECTION_BIND is judged so, this holds of its effect and of these bytes after it
abbrev pub WhenJudged : Validation → List ℕ → (Outcome × State → Type 0) → Type 0
WhenJudged verdict behind Is =
    (byte : ℕ → ℕ) (text : List ℕ) (s : State) → IsJudged verdict (bind_success byte) (with_waiting text s)
    → Is (server_piece_step data_end (bind_success byte ++ behind) (with_waiting text s))
