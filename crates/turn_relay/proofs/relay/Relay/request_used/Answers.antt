use Rattle.std.proofs.Common.{false, refl, subst, sym}
use Rattle.turn_session_client.specs.Asking.{Requests}
use Rattle.turn_session.specs.SessionState.{SessionState}
use Rattle.turn_session.specs.Uses.{NotesUse}
use Rattle.turn_relay_lives.specs.LiveState.{is_used}
use Rattle.turn_relay.proofs.PlaceLemmas.{calls-at}
use Rattle.turn_relay.proofs.relay.Relay.request_used.Goals as goal

pub returns-in-Some : goal.returns-in-Some
returns-in-Some g c =
    let a = c.args in
    let requested = subst
    (λ (s : SessionState).
    Requests a.key false a.now c.request.result s.noted c.request.new.self.noted × NotesUse a.key a.now s c.request.new.self)
    c.touch.ensures.value (c.request.ensures.answer, c.request.ensures.rest) in
    rw (← c.self.view_is)
    (calls-at is_used (λ w s. Requests a.key false a.now c.request.result w.noted s.noted × NotesUse a.key a.now w s) _ _ _ c.in-Some.place
    c.at.result.now _ (sym c.in-Some.ensures) c.at.ensures.value requested refl)
