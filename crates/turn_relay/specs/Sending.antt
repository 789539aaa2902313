-- Data for peers.
use Rattle.std.specs.Prelude.{◌≡◌, ℕ, true, List, slice_get, Option, Some, None, Result, Ok, Err}
use Rattle.std.specs.Net.Socket.{socket_ip}
use Rattle.std.specs.declared.alloc.AllocError.{AllocError}
use Rattle.std.specs.declared.convert.AsSlice.{Ghosts}
use Rattle.std.specs.declared.net.socket_addr.SocketAddr.{SocketAddr}
use Rattle.turn_stun.specs.declared.transport.TransportType.{TransportType}
use Rattle.turn_session.specs.Giving.{Gives}
use Rattle.turn_session.specs.declared.sent.SendRefusal.{SendRefusal}
use Rattle.turn_session.specs.declared.sent.Sent.{Sent}
use Rattle.turn_session.specs.declared.sent.Sent.TheVariants as Session
use Rattle.turn_session_book.specs.declared.keys.Key.TheVariants.{Permission}
use Rattle.turn_relay_lives.specs.Calls.{CallsAt}
use Rattle.turn_relay_lives.specs.LiveState.{LiveState}
use Rattle.turn_relay.specs.Asking.{AnswersRequest}
use Rattle.turn_relay.specs.RelayState.{RelayState, open_place}
use Rattle.turn_relay.specs.declared.answer.RelayAnswer.{RelayAnswer}
use Rattle.turn_relay.specs.declared.answer.RelaySent.{RelaySent}
use Rattle.turn_relay.specs.declared.answer.RelaySent.TheVariants.{Packet, Requested, NotUp}
use Rattle.turn_relay.specs.declared.relay.data.RelaySendError.{RelaySendError}
use Rattle.turn_relay.specs.declared.relay.data.RelaySendError.TheVariants.{Refused, OutOfMemory}

-- the permission of the peer is requested, as for data
abbrev pub requested : {T : Type 0} {g : Ghosts T ℕ} → Result RelayAnswer AllocError → Result (RelaySent T g) RelaySendError
requested (Ok answer) = Ok (Requested answer)
requested (Err error) = Err OutOfMemory

abbrev pub RequestsFor : {T : Type 0} {g : Ghosts T ℕ} → SocketAddr → ℕ → Result (RelaySent T g) RelaySendError → RelayState
    → RelayState → Type 0
RequestsFor to now result was r =
    (answer : Result RelayAnswer AllocError) × AnswersRequest (Permission (socket_ip to)) true now was r answer
    × (result ≡ requested answer)

-- what follows from the session's answer
abbrev pub SendLeads : {T : Type 0} {g : Ghosts T ℕ} → ℕ → SocketAddr → ℕ → Result (Sent T g) SendRefusal
    → Result (RelaySent T g) RelaySendError
    → RelayState → RelayState → Type 0
SendLeads socket to now (Ok (Session.Packet packet)) result t r = (result ≡ Ok (Packet socket packet)) × (r ≡ t)
SendLeads socket to now (Ok (Session.Requested answer)) result t r = RequestsFor to now result t r
SendLeads socket to now (Err refusal) result t r = (result ≡ Err (Refused refusal)) × (r ≡ t)

abbrev pub SendsOver : {T : Type 0} {g : Ghosts T ℕ} → ℕ → TransportType → SocketAddr → List ℕ → ℕ
    → Result (RelaySent T g) RelaySendError → RelayState → RelayState → Type 0
SendsOver {T = T} {g = g} place transport to bytes now result was r =
    (live : LiveState) × (slice_get was.lives place ≡ Some live) × (lives : List LiveState)
    × (given : Result (Sent T g) SendRefusal) × CallsAt place (Gives transport to bytes now given) was.lives lives
    × SendLeads live.link.socket to now given result (record was { lives = lives }) r

abbrev pub Sends : {T : Type 0} {g : Ghosts T ℕ} → TransportType → SocketAddr → List ℕ → ℕ → Result (RelaySent T g) RelaySendError
    → RelayState → RelayState → Type 0
Sends transport to bytes now result was r = by (open_place was)
  where
    by : Option ℕ → Type 0
    by (Some place) = SendsOver place transport to bytes now result was r
    by None = (result ≡ Ok NotUp) × (r ≡ was)
