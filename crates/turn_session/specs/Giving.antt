-- Data for a peer that may not be permitted yet.
use Rattle.std.specs.Prelude.{◌≡◌, ℕ, nat_lt, ◌&&◌, not, Bool, true, false, List, length, Result, Ok, Err}
use Rattle.std.specs.Net.Socket.{socket_ip}
use Rattle.std.specs.declared.convert.AsSlice.{Ghosts}
use Rattle.std.specs.declared.net.socket_addr.SocketAddr.{SocketAddr}
use Rattle.turn_stun.specs.declared.transport.Transmit.{Transmit}
use Rattle.turn_stun.specs.declared.transport.TransportType.{TransportType}
use Rattle.turn_stun.specs.declared.transport.TransportType.TheVariants.{Udp, Tcp}
use Rattle.turn_types.specs.declared.transmit.TransmitBuild.{TransmitBuild}
use Rattle.turn_client_api.specs.Calls.{can_send_to}
use Rattle.turn_client_api.specs.Delayed.{delayed_send_bytes}
use Rattle.turn_client_api.specs.declared.error.SendError.{SendError}
use Rattle.turn_client_api.specs.declared.send.DelayedMessageOrChannelSend.{DelayedMessageOrChannelSend}
use Rattle.turn_session_book.specs.declared.answers.Answer.{Answer}
use Rattle.turn_session_book.specs.declared.keys.Key.TheVariants.{Permission}
use Rattle.turn_session_client.specs.Asking.{Requests}
use Rattle.turn_session_client.specs.Ending.{is_over}
use Rattle.turn_session_client.specs.Sending.{sent_step}
use Rattle.turn_session.specs.Checking.{data_sent}
use Rattle.turn_session.specs.SessionState.{SessionState, with_noted}
use Rattle.turn_session.specs.Uses.{NotesUse}
use Rattle.turn_session.specs.declared.sent.SendRefusal.{SendRefusal}
use Rattle.turn_session.specs.declared.sent.SendRefusal.TheVariants.{TooLong, Refused}
use Rattle.turn_session.specs.declared.sent.Sent.{Sent}
use Rattle.turn_session.specs.declared.sent.Sent.TheVariants.{Packet, Requested}

-- a message to the server; a data connection carries any length
abbrev pub is_longer : TransportType → ℕ → ℕ → Bool
is_longer Udp max len = nat_lt max len
is_longer Tcp max len = false

-- ---- a packet

abbrev pub GivesPacket : {T : Type 0} {g : Ghosts T ℕ} → TransportType → SocketAddr → TransmitBuild (DelayedMessageOrChannelSend T g) → ℕ
    → Result (Sent T g) SendRefusal → SessionState → SessionState → Type 0
GivesPacket transport to packet now result was s = by (is_longer transport 65_507 (length (delayed_send_bytes packet.payload)))
  where
    by : Bool → Type 0
    by true = (result ≡ Err TooLong) × (s ≡ was)
    by false = (result ≡ Ok (Packet packet)) × (s ≡ data_sent to now was)

-- this packet is what the machine sends
abbrev pub IsPacket : {T : Type 0} {g : Ghosts T ℕ} → Result (Sent T g) SendRefusal → Transmit (List ℕ) → Type 0
IsPacket (Ok (Packet packet)) said =
    said ≡ record { payload = delayed_send_bytes packet.payload; transport = packet.transport; from = packet.from; to = packet.to }
IsPacket _ said = ⊥

-- ---- a peer that is permitted

abbrev pub GivesStep : {T : Type 0} {g : Ghosts T ℕ} → TransportType → SocketAddr → ℕ → Result (Transmit (List ℕ)) SendError → SessionState
    → Result (Sent T g) SendRefusal → SessionState → Type 0
GivesStep transport to now (Err refusal) t result s = (result ≡ Err (Refused refusal)) × (s ≡ t)
GivesStep transport to now (Ok packet) t result s = by (is_longer transport 65_507 (length packet.payload))
  where
    by : Bool → Type 0
    by true = (result ≡ Err TooLong) × (s ≡ t)
    by false = IsPacket result packet × (s ≡ data_sent to now t)

-- the client makes the packet, and its next transaction ID may be used by one that is too long
abbrev pub GivesPermitted : {T : Type 0} {g : Ghosts T ℕ} → TransportType → SocketAddr → List ℕ → ℕ → Result (Sent T g) SendRefusal
    → SessionState → SessionState → Type 0
GivesPermitted transport to bytes now result was s =
    let step = sent_step transport to bytes now was.noted in GivesStep transport to now step.0 (with_noted step.1 was) result s

-- ---- the call

-- the permission is requested, as for data, by the request's contract
abbrev pub IsRequested : {T : Type 0} {g : Ghosts T ℕ} → SocketAddr → ℕ → Result (Sent T g) SendRefusal → SessionState → SessionState → Type 0
IsRequested to now result was s =
    (answer : Answer) × (result ≡ Ok (Requested answer)) × Requests (Permission (socket_ip to)) true now answer was.noted s.noted
    × NotesUse (Permission (socket_ip to)) now was s

abbrev pub is_permitted : TransportType → SocketAddr → SessionState → Bool
is_permitted transport to s = not (is_over s.noted.life.phase) && can_send_to transport (socket_ip to) s.noted.client

-- a message has at least the 4 bytes of a channel's header (RFC 8656, section 12.4)
abbrev pub Gives : {T : Type 0} {g : Ghosts T ℕ} → TransportType → SocketAddr → List ℕ → ℕ → Result (Sent T g) SendRefusal
    → SessionState → SessionState → Type 0
Gives transport to bytes now result was s = by (is_longer transport 65_503 (length bytes)) (is_permitted transport to was)
  where
    by : Bool → Bool → Type 0
    by true _ = (result ≡ Err TooLong) × (s ≡ was)
    by false true = GivesPermitted transport to bytes now result was s
    by false false = IsRequested to now result was s
