-- What uses a peer: data of it, data for it, and a request (RFC 8656, sections 10 to 12).
use Rattle.std.specs.Prelude.{◌≡◌, ℕ, Bool, true, false, Option, Some, None, Result, Ok, Err}
use Rattle.std.specs.declared.convert.AsSlice.{Ghosts}
use Rattle.std.specs.declared.net.socket_addr.SocketAddr.{SocketAddr}
use Rattle.turn_client_api.specs.Answers.{outcome_of}
use Rattle.turn_client_api.specs.Payloads.{Payload}
use Rattle.turn_client_api.specs.Streams.{payload_in}
use Rattle.turn_client_api.specs.declared.receive.TurnRecvRet.{TurnRecvRet}
use Rattle.turn_session_book.specs.declared.keys.Key.{Key}
use Rattle.turn_session_book.specs.declared.keys.Key.TheVariants.{Channel}
use Rattle.turn_session_client.specs.NotedState.{NotedState}
use Rattle.turn_session_idle.specs.IdlePeers.{after_decision, after_use}
use Rattle.turn_session.specs.SessionState.{SessionState, with_idle, with_noted}

abbrev pub used_key : Key → ℕ → SessionState → SessionState
used_key key now s = with_idle (after_use key now s.idle) s

-- the channel to it, and the permission for its IP address, also by data of a data connection
abbrev pub used_peer : SocketAddr → ℕ → SessionState → SessionState
used_peer peer now s = used_key (Channel peer) now s

-- data that it has sent
abbrev pub used_by : Option Payload → ℕ → SessionState → SessionState
used_by None now s = s
used_by (Some payload) now s = used_peer payload.peer now s

abbrev pub used_in : {T E : Type 0} {g : Ghosts T ℕ} → Result (TurnRecvRet T g) E → ℕ → SessionState → SessionState
used_in (Ok answer) now s = used_by (payload_in (outcome_of answer)) now s
used_in (Err error) now s = s

-- what the caller keeps, or lets go, it has decided by itself
abbrev pub kept_after : Key → Bool × NotedState → SessionState → SessionState
kept_after key (true, noted) s = with_idle (after_decision key s.idle) (with_noted noted s)
kept_after key (false, noted) s = with_noted noted s

-- nothing but its client has changed, what is noted of that, and the use of this key
abbrev pub NotesUse : Key → ℕ → SessionState → SessionState → Type 0
NotesUse key now was s = s ≡ used_key key now (with_noted s.noted was)
