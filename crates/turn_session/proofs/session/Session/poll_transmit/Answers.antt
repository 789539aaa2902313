use Rattle.std.proofs.Common.{◌≡◌, ◌∙◌, ℕ, List, Option, None, ap, subst, sym}
use Rattle.std.specs.Prelude.{Result, IfOk}
use Rattle.turn_stun.specs.declared.transport.Transmit.{Transmit}
use Rattle.turn_session_client.specs.NotedState.{NotedState}
use Rattle.turn_session_client.specs.Polling.{transmitted}
use Rattle.turn_session.specs.Sending.{or_own, own_step, transmit_step}
use Rattle.turn_session.specs.SessionState.{SessionState, with_noted}
use Rattle.turn_session.proofs.session.Session.poll_transmit.Goals as goal

-- the client has no packet to send
own-next : {E : Type 0} (now : ℕ) (inside was : SessionState) → inside ≡ was → (noted : NotedState) → None ≡ (transmitted now inside.noted).0 →
    noted ≡ (transmitted now inside.noted).1 → (result : Result (Option (Transmit (List ℕ))) E) →
    IfOk result (λ packet. packet ≡ (own_step (with_noted noted inside)).0) → IfOk result (λ packet. packet ≡ (transmit_step now was).0)
own-next now inside was same noted none after result own =
    let by-packet = ap (λ (p : Option (Transmit (List ℕ))). or_own now inside (p, noted)) none in
    let by-state = ap (λ (n : NotedState). or_own now inside ((transmitted now inside.noted).0, n)) after in
    let step : own_step (with_noted noted inside) ≡ transmit_step now inside = by-packet ∙ by-state in
    subst (λ (u : SessionState). IfOk result (λ packet. packet ≡ (transmit_step now u).0)) same
    (subst (λ (t : Option (Transmit (List ℕ)) × SessionState). IfOk result (λ packet. packet ≡ t.0)) step own)

pub returns-in-Ok-None-clause-answer : goal.returns-in-Ok-None-clause-answer
returns-in-Ok-None-clause-answer g c =
    let none = sym c.in-Ok-None.field-0-is ∙ c.in-Ok-None.ensures.answer in
    own-next c.args.now _ _ c.self.view_is c.poll_transmit.new.self none c.in-Ok-None.ensures.after c.own_packet.result c.own_packet.ensures.answer
