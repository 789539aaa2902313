-- The use of a peer is noted after what was received of it.
use Rattle.std.proofs.Common.{◌≡◌, ◌∙◌, ℕ, false, List, Option, None, Some, ap, refl, subst, sym}
use Rattle.std.specs.Prelude.{is_some, IfOk, OnErr, Result, Ok, Err}
use Rattle.std.specs.declared.convert.AsSlice.{Ghosts}
use Rattle.std.specs.declared.net.socket_addr.SocketAddr.{SocketAddr}
use Rattle.turn_stun.specs.declared.transport.TransportType.{TransportType}
use Rattle.turn_client_api.specs.Answers.{outcome_of}
use Rattle.turn_client_api.specs.Payloads.{Payload}
use Rattle.turn_client_api.specs.Streams.{payload_in}
use Rattle.turn_client_api.specs.declared.receive.TurnRecvRet.{TurnRecvRet}
use Rattle.turn_session_book.specs.declared.keys.Key.{Key}
use Rattle.turn_session_book.specs.declared.keys.Key.TheVariants.{Channel}
use Rattle.turn_session_idle.specs.IdlePeers.{after_use}
use Rattle.turn_session_idle.specs.IdleState.{IdleState}
use Rattle.turn_session.specs.Framing.{BytesGive, ReceivesBytes, ReceivingFails}
use Rattle.turn_session.specs.SessionState.{SessionState, with_idle}
use Rattle.turn_session.specs.Uses.{used_by, used_in}

-- ---- where no peer may be idle, nothing is noted

off-peers : (key : Key) (now : ℕ) (idle : Option ℕ) (s : IdleState) → s.idle ≡ idle → is_some idle ≡ false → after_use key now s ≡ s
off-peers key now None s same off = rw same refl
off-peers key now (Some time) s same off = cc

off-unused : (payload : Option Payload) (now : ℕ) (s : SessionState) → is_some s.idle.idle ≡ false → used_by payload now s ≡ s
off-unused None now s off = refl
off-unused (Some payload) now s off = ap (λ (i : IdleState). with_idle i s) (off-peers (Channel payload.peer) now s.idle.idle s.idle refl off)

module _ {T E : Type 0} {g : Ghosts T ℕ} (transport : TransportType) (from to : SocketAddr) (bytes : List ℕ) (now : ℕ) (was t s : SessionState) where
  pub received-use : (r : Result (TurnRecvRet T g) E) → IfOk r (λ answer. BytesGive transport from to bytes now was t (outcome_of answer))
      → s ≡ used_in r now t → IfOk r (λ answer. ReceivesBytes transport from to bytes now was s (outcome_of answer))
  received-use (Ok answer) gives same = (t, gives, same)
  received-use (Err error) gives same = tt

  pub failed-unused : (r : Result (TurnRecvRet T g) E) → OnErr r (ReceivingFails transport from to bytes now was t) → s ≡ used_in r now t
      → OnErr r (ReceivingFails transport from to bytes now was s)
  failed-unused (Ok answer) fails same = tt
  failed-unused (Err error) fails same = subst (λ (u : SessionState). ReceivingFails transport from to bytes now was u) (sym same) fails

module _ {T E : Type 0} {g : Ghosts T ℕ} (transport : TransportType) (from to : SocketAddr) (bytes : List ℕ) (now : ℕ) (was s : SessionState) where
  pub received-unused : (r : Result (TurnRecvRet T g) E) → IfOk r (λ answer. BytesGive transport from to bytes now was s (outcome_of answer))
      → is_some was.idle.idle ≡ false → s.idle ≡ was.idle
      → IfOk r (λ answer. ReceivesBytes transport from to bytes now was s (outcome_of answer))
  received-unused (Ok answer) gives off same =
      (s, gives, sym (off-unused (payload_in (outcome_of answer)) now s (ap (λ (i : IdleState). is_some i.idle) same ∙ off)))
  received-unused (Err error) gives off same = tt
