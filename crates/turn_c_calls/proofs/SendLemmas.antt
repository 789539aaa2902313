-- How long a packet is that carries data to a peer.
use Rattle.std.proofs.Common.{◌≡◌, ℕ, ◌+◌, ◌-◌, ◌≤◌, Bool, true, false, List, [], ◌∷◌, ◌++◌, length, replicate, Option, Some, None, Ok, Err, Result, subst, arith, length-append}
use Rattle.std.specs.Prelude.{find, filter_map, nat_le, ⊤, if◌then◌else◌}
use Rattle.std.specs.Net.Socket.{socket_ip}
use Rattle.std.proofs.lemmas.List.{length-replicate}
use Rattle.std.specs.Int.{w16, to_be_bytes}
use Rattle.std.specs.declared.net.socket_addr.SocketAddr.{SocketAddr}
use Rattle.std.specs.declared.net.socket_addr.SocketAddr.TheVariants.{V4, V6}
use Rattle.turn_stun.specs.Message.{padded_len}
use Rattle.turn_stun.specs.Writer.{attribute_bytes, header_of, with_length}
use Rattle.turn_stun.specs.XorAddress.{xor_value, xor_value_len}
use Rattle.turn_stun.specs.declared.transport.TransportType.{TransportType}
use Rattle.turn_stun.specs.declared.transport.TransportType.TheVariants.{Udp, Tcp}
use Rattle.turn_stun.specs.declared.transport.Transmit.{Transmit}
use Rattle.turn_stun.proofs.WriteLemmas.{length-with_length}
use Rattle.turn_types.specs.Channel.{channel_frame}
use Rattle.turn_types.specs.Send.{send_indication, send_type, peer_kind, data_kind}
use Rattle.turn_client_api.specs.State.{State}
use Rattle.turn_client_api.specs.declared.grant.DataConnection.{DataConnection}
use Rattle.turn_client_api.specs.Grants.{as_connection}
use Rattle.turn_client_api.specs.Requests.{fresh_id, to_server}
use Rattle.turn_client_api.specs.Calls.{active_channel, as_indication, bound_to, can_send_to, on_channel, on_connection, send_over, send_to_step}
use Rattle.turn_client_api.specs.declared.error.SendError.{SendError}

attribute_short : (kind : ℕ) (value : List ℕ) → length (attribute_bytes kind value) ≤ length value + 7
attribute_short kind value =
    let zeros : List ℕ = replicate (padded_len (length value) - length value) 0 in
    let a = length-append ((to_be_bytes w16 kind ++ to_be_bytes w16 (length value)) ++ value) zeros in
    let b = length-append (to_be_bytes w16 kind ++ to_be_bytes w16 (length value)) value in
    let c = length-replicate {A = ℕ} (padded_len (length value) - length value) 0 in
    omega (arith, a, b, c)

peer_short : (peer : SocketAddr) (id : ℕ) → length (xor_value peer id) ≤ 20
peer_short (V4 a) id = omega arith
peer_short (V6 a) id = omega arith

header_short : (n id : ℕ) → length (with_length n (header_of send_type id)) ≡ 20
header_short n id = length-with_length n (header_of send_type id) (omega arith)

indication_short : (peer : SocketAddr) (bytes : List ℕ) (id : ℕ) → length (send_indication peer bytes id) ≤ length bytes + 64
indication_short peer bytes id =
    let front : List ℕ = with_length (8 + xor_value_len peer + padded_len (length bytes)) (header_of send_type id) in
    let a = length-append (front ++ attribute_bytes peer_kind (xor_value peer id)) (attribute_bytes data_kind bytes) in
    let b = length-append front (attribute_bytes peer_kind (xor_value peer id)) in
    omega (arith, a, b, attribute_short peer_kind (xor_value peer id), attribute_short data_kind bytes, peer_short peer id, header_short (8 + xor_value_len peer + padded_len (length bytes)) id)

-- a packet is short
abbrev pub IsShortPacket : List ℕ → Result (Transmit (List ℕ)) SendError → Type 0
IsShortPacket bytes (Ok packet) = length packet.payload ≤ length bytes + 64
IsShortPacket bytes (Err error) = ⊤

by_test : (bytes : List ℕ) (test : Bool) (a b : Result (Transmit (List ℕ)) SendError × State) → IsShortPacket bytes a.0 → IsShortPacket bytes b.0 → IsShortPacket bytes (if test then a else b).0
by_test bytes true a b f g = f
by_test bytes false a b f g = g

connection_short : (o : Option DataConnection) (bytes : List ℕ) (s : State) → IsShortPacket bytes (on_connection o bytes s).0
connection_short (Some c) bytes s = omega arith
connection_short None bytes s = tt

channel_short : (channels : List (ℕ × ℕ)) (peer : SocketAddr) (bytes : List ℕ) (now : ℕ) (s : State) → IsShortPacket bytes (on_channel channels peer bytes now s).0
channel_short [] peer bytes now s = indication_short peer bytes (fresh_id s)
channel_short (c ∷ others) peer bytes now s =
    by_test bytes (nat_le now c.1) (Ok (to_server s s.local (channel_frame c.0 bytes)), s) (as_indication peer bytes s)
    (omega (arith, attribute_short c.0 bytes)) (indication_short peer bytes (fresh_id s))

over_short : (transport : TransportType) (peer : SocketAddr) (bytes : List ℕ) (now : ℕ) (s : State) → IsShortPacket bytes (send_over transport peer bytes now s).0
over_short Tcp peer bytes now s = connection_short (find (bound_to peer) (filter_map as_connection s.grants)) bytes s
over_short Udp peer bytes now s = channel_short (filter_map (active_channel peer) s.grants) peer bytes now s

pub send_short : (transport : TransportType) (peer : SocketAddr) (bytes : List ℕ) (now : ℕ) (s : State) → IsShortPacket bytes (send_to_step transport peer bytes now s).0
send_short transport peer bytes now s =
    by_test bytes (can_send_to transport (socket_ip peer) s) (send_over transport peer bytes now s) _ (over_short transport peer bytes now s) tt

-- so is the one that was made
pub sent_short : (said : Result (Transmit (List ℕ)) SendError) (packet : Transmit (List ℕ)) (bytes : List ℕ) → said ≡ Ok packet → IsShortPacket bytes said → length packet.payload ≤ length bytes + 64
sent_short said packet bytes e h = let short : IsShortPacket bytes (Ok packet) = subst (IsShortPacket bytes) e h in short
