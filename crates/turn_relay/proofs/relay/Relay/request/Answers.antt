use Rattle.std.proofs.Common.{◌∙◌, ap, refl, sym}
use Rattle.turn_relay.specs.RelayState.{RelayState}
use Rattle.turn_relay.proofs.RequestLemmas.{answers-known, answers-over}
use Rattle.turn_relay.proofs.relay.Relay.request.Goals as goal

pub returns-in-Over : goal.returns-in-Over
returns-in-Over g c =
    let a = c.args in
    let phase = ap (λ (r : RelayState). r.plan.course.phase) c.self.view_is in
    answers-over a.key a.is_for_data a.now a.self.now _ _ c.in-Over.cause (sym phase ∙ sym c.phase.ensures ∙ c.in-Over.is) refl refl

pub returns-in-Some : goal.returns-in-Some
returns-in-Some g c =
    let a = c.args in
    let phase = ap (λ (r : RelayState). r.plan.course.phase) c.self.view_is in
    answers-known a.key a.is_for_data a.now a.self.now _ _ c.in-Some.answer
    (λ cause is. c.in_default.not-Over cause (c.phase.ensures ∙ phase ∙ is)) (sym c.in-Some.ensures) refl c.keep_granted.ensures
