-- A call of the session at a place, in a relay as the call sees it.
use Rattle.std.proofs.Common.{◌≡◌, ℕ, Bool, List, Some, refl, sym, ap, subst}
use Rattle.std.specs.Prelude.{Result, slice_get, slice_set}
use Rattle.std.specs.List.{position}
use Rattle.std.specs.declared.convert.AsSlice.{Ghosts}
use Rattle.std.specs.declared.net.socket_addr.SocketAddr.{SocketAddr}
use Rattle.turn_stun.specs.declared.transport.TransportType.{TransportType}
use Rattle.turn_session_book.specs.declared.answers.Answer.{Answer}
use Rattle.turn_session_book.specs.declared.answers.CallError.{CallError}
use Rattle.turn_session_book.specs.declared.keys.Key.{Key}
use Rattle.turn_session_client.specs.Asking.{keep_result}
use Rattle.turn_session_client.specs.Keeping.{kept_while_running}
use Rattle.turn_session.specs.Checking.{checked_step}
use Rattle.turn_session.specs.Giving.{Gives}
use Rattle.turn_session.specs.SessionState.{SessionState}
use Rattle.turn_session.specs.declared.sent.SendRefusal.{SendRefusal}
use Rattle.turn_session.specs.declared.sent.Sent.{Sent}
use Rattle.turn_relay_lives.specs.Calls.{called_as}
use Rattle.turn_relay_lives.specs.LiveState.{LiveState}
use Rattle.turn_relay.specs.Asking.{check_step, keep_step, kept}
use Rattle.turn_relay.specs.RelayState.{RelayState, CallsFirst, open_place}
use Rattle.turn_relay.specs.Sending.{SendLeads, SendsOver}
use Rattle.turn_relay.specs.declared.answer.RelaySent.{RelaySent}
use Rattle.turn_relay.specs.declared.relay.data.RelaySendError.{RelaySendError}
use Rattle.turn_relay.proofs.PlaceLemmas.{calls-at, check-at, keep-at, with_live}

module _ (was inside : RelayState) (place : ℕ) (l : LiveState) (s t : SessionState) (same : inside ≡ was)
    (is : Some l ≡ slice_get inside.lives place) (lent : t ≡ l.session) where
  pub calls-in : (test : LiveState → Bool) (call : SessionState → SessionState → Type 0) (otherwise : Type 0)
      → position test inside.lives ≡ Some place → call t s → CallsFirst test call otherwise was (with_live place (called_as s l) inside)
  calls-in test call otherwise at holds =
      subst (λ (w : RelayState). CallsFirst test call otherwise w (with_live place (called_as s l) inside)) same
      (calls-at test call otherwise inside (with_live place (called_as s l) inside) place l s at is
      (subst (λ (v : SessionState). call v s) lent holds) refl)

  pub keep-in : (key : Key) (is_kept : Bool) (result : Result Unit CallError) → open_place was ≡ Some place
      → result ≡ keep_result (kept_while_running key is_kept t.noted).0 → s ≡ kept key is_kept t
      → (result, with_live place (called_as s l) inside) ≡ keep_step key is_kept was
  keep-in key is_kept result at said stepped =
      subst (λ (w : RelayState). open_place w ≡ Some place → (result, with_live place (called_as s l) inside) ≡ keep_step key is_kept w) same
      (λ here. rw (said, stepped, lent) (sym (keep-at key is_kept inside place l here is))) at

  pub check-in : (now : ℕ) (result : Answer) → open_place was ≡ Some place → (result, s) ≡ checked_step now t
      → (result, with_live place (called_as s l) inside) ≡ check_step now was
  check-in now result at stepped =
      let step = subst (λ (v : SessionState). (result, s) ≡ checked_step now v) lent stepped in
      subst (λ (w : RelayState). open_place w ≡ Some place → (result, with_live place (called_as s l) inside) ≡ check_step now w) same
      (λ here. rw (ap (λ x. x.0) step, ap (λ x. x.1) step) (sym (check-at now inside place l here is))) at

  pub sends-in : {T : Type 0} {g : Ghosts T ℕ} (transport : TransportType) (to : SocketAddr) (bytes : List ℕ) (now : ℕ)
      (result : Result (RelaySent T g) RelaySendError) (given : Result (Sent T g) SendRefusal) (r : RelayState)
      → Gives transport to bytes now given t s → SendLeads l.link.socket to now given result (with_live place (called_as s l) inside) r
      → SendsOver place transport to bytes now result was r
  sends-in transport to bytes now result given r gives leads =
      let gave = subst (λ (v : SessionState). Gives transport to bytes now given v s) lent gives in
      subst (λ (w : RelayState). SendsOver place transport to bytes now result w r) same
      (l, sym is, slice_set inside.lives place (called_as s l), given, (l, sym is, s, gave, refl), leads)
