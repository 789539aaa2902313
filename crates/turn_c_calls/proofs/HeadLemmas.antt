-- The packet for no data becomes the head of the packet for any data.
use Rattle.std.proofs.Common.{◌≡◌, ℕ, ◌≤◌, Bool, true, false, List, [], ◌∷◌, ◌++◌, length, replicate, Option, Some, None, Ok, Err, Result, refl, sym, ap, subst, arith}
use Rattle.std.specs.Prelude.{find, filter_map, nat_le, ⊤, if◌then◌else◌}
use Rattle.std.specs.Net.Socket.{socket_ip}
use Rattle.std.proofs.lemmas.List.{append-nil}
use Rattle.std.specs.declared.net.socket_addr.SocketAddr.{SocketAddr}
use Rattle.std.specs.declared.net.socket_addr.SocketAddr.TheVariants.{V4, V6}
use Rattle.turn_stun.specs.declared.transport.TransportType.{TransportType}
use Rattle.turn_stun.specs.declared.transport.TransportType.TheVariants.{Udp, Tcp}
use Rattle.turn_stun.specs.declared.transport.Transmit.{Transmit}
use Rattle.turn_types.specs.Channel.{channel_frame}
use Rattle.turn_client_api.specs.State.{State}
use Rattle.turn_client_api.specs.declared.grant.DataConnection.{DataConnection}
use Rattle.turn_client_api.specs.Grants.{as_connection}
use Rattle.turn_client_api.specs.Requests.{to_server}
use Rattle.turn_client_api.specs.Calls.{active_channel, as_indication, bound_to, can_send_to, on_channel, on_connection, send_over, send_to_step}
use Rattle.turn_client_api.specs.declared.error.SendError.{SendError}
use Rattle.turn_c_calls.specs.Head.{head_of, padding_of}

abbrev pub Sent : Type 0
Sent = Result (Transmit (List ℕ)) SendError × State

-- the packet for no data, its head counting these bytes, with them and the padding behind it
abbrev pub with_data : List ℕ → Result (Transmit (List ℕ)) SendError → Result (Transmit (List ℕ)) SendError
with_data bytes (Ok none) =
    Ok (record none { payload = head_of (length bytes) none.payload ++ bytes ++ replicate (padding_of (length bytes) none.payload) 0 })
with_data bytes (Err error) = Err error

-- how long a packet for no data is, and the head of one that carries so much
pub record IsBare (len : ℕ) (none : List ℕ) : Type 0 where
  pub same : length (head_of len none) ≡ length none
  pub most : length none ≤ 48

abbrev pub IsBareIfSent : ℕ → Result (Transmit (List ℕ)) SendError → Type 0
IsBareIfSent len (Ok none) = IsBare len none.payload
IsBareIfSent len (Err error) = ⊤

-- what sending no data says of sending these bytes
pub record Foretells (bytes : List ℕ) (none whole : Sent) : Type 0 where
  pub said : whole.0 ≡ with_data bytes none.0
  pub after : whole.1 ≡ none.1
  pub bare : IsBareIfSent (length bytes) none.0

by_test : (bytes : List ℕ) (test : Bool) (a b c d : Sent) → Foretells bytes a c → Foretells bytes b d → Foretells bytes (if test then a else b) (if test then c else d)
by_test bytes true a b c d f g = f
by_test bytes false a b c d f g = g

connection_foretells : (o : Option DataConnection) (bytes : List ℕ) (s : State) → Foretells bytes (on_connection o [] s) (on_connection o bytes s)
connection_foretells (Some c) bytes s = record {
  said = ap (λ (payload : List ℕ). Ok (record { payload = payload; transport = Tcp; from = c.local; to = s.remote })) (sym (append-nil bytes));
  after = refl;
  bare = record { same = refl; most = omega arith };
}
connection_foretells None bytes s = record { said = refl; after = refl; bare = tt }

frame_foretells : (number : ℕ) (bytes : List ℕ) (s : State)
    → Foretells bytes (Ok (to_server s s.local (channel_frame number [])), s) (Ok (to_server s s.local (channel_frame number bytes)), s)
frame_foretells number bytes s = record { said = refl; after = refl; bare = record { same = refl; most = omega arith } }

indication_foretells : (peer : SocketAddr) (bytes : List ℕ) (s : State) → Foretells bytes (as_indication peer [] s) (as_indication peer bytes s)
indication_foretells (V4 a) bytes s = record { said = refl; after = refl; bare = record { same = refl; most = omega arith } }
indication_foretells (V6 a) bytes s = record { said = refl; after = refl; bare = record { same = refl; most = omega arith } }

channel_foretells : (channels : List (ℕ × ℕ)) (peer : SocketAddr) (bytes : List ℕ) (now : ℕ) (s : State)
    → Foretells bytes (on_channel channels peer [] now s) (on_channel channels peer bytes now s)
channel_foretells [] peer bytes now s = indication_foretells peer bytes s
channel_foretells (c ∷ others) peer bytes now s =
    by_test bytes (nat_le now c.1) _ _ _ _ (frame_foretells c.0 bytes s) (indication_foretells peer bytes s)

over_foretells : (transport : TransportType) (peer : SocketAddr) (bytes : List ℕ) (now : ℕ) (s : State)
    → Foretells bytes (send_over transport peer [] now s) (send_over transport peer bytes now s)
over_foretells Tcp peer bytes now s = connection_foretells (find (bound_to peer) (filter_map as_connection s.grants)) bytes s
over_foretells Udp peer bytes now s = channel_foretells (filter_map (active_channel peer) s.grants) peer bytes now s

pub none_foretells : (transport : TransportType) (peer : SocketAddr) (bytes : List ℕ) (now : ℕ) (s : State)
    → Foretells bytes (send_to_step transport peer [] now s) (send_to_step transport peer bytes now s)
none_foretells transport peer bytes now s =
    by_test bytes (can_send_to transport (socket_ip peer) s) _ _ _ _ (over_foretells transport peer bytes now s) (record { said = refl; after = refl; bare = tt })

-- so of the packet that was made
pub bare_sent : (len : ℕ) (said : Result (Transmit (List ℕ)) SendError) (none : Transmit (List ℕ)) → said ≡ Ok none → IsBareIfSent len said → IsBare len none.payload
bare_sent len said none e h = let bare : IsBareIfSent len (Ok none) = subst (IsBareIfSent len) e h in bare
