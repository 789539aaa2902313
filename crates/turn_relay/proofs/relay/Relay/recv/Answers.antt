use Rattle.std.proofs.Common.{◌≡◌, sym}
use Rattle.turn_client_api.specs.Answers.{outcome_of}
use Rattle.turn_client_api.specs.Payloads.{Ignored}
use Rattle.turn_session.proofs.FramingLemmas.{on-err, on-ok}
use Rattle.turn_session.specs.Framing.{ReceivesBytes, ReceivingFails}
use Rattle.turn_session.specs.SessionState.{SessionState}
use Rattle.turn_relay_lives.specs.LiveState.{is_socket}
use Rattle.turn_relay.proofs.CallLemmas.{calls-in}
use Rattle.turn_relay.proofs.relay.Relay.recv.Goals as goal

pub returns-in-Some-clause-answer : goal.returns-in-Some-clause-answer
returns-in-Some-clause-answer g c =
    let a = c.args in
    on-ok c.recv.result c.recv.ensures.answer (λ answer receives.
    calls-in a.self.now _ c.in-Some.place c.at.result.now c.recv.new.self c.touch.result.now c.self.view_is c.at.ensures.value
    c.touch.ensures.value (is_socket a.socket)
    (λ (was s : SessionState). ReceivesBytes a.transmit.transport a.transmit.from a.transmit.to (g.T.AsSlice.items a.transmit.payload) a.now
    was s (outcome_of answer)) (outcome_of answer ≡ Ignored) (sym c.in-Some.ensures) receives)

pub returns-in-Some-clause-no_memory : goal.returns-in-Some-clause-no_memory
returns-in-Some-clause-no_memory g c =
    let a = c.args in
    on-err c.recv.result c.recv.ensures.no_memory (λ fails.
    calls-in a.self.now _ c.in-Some.place c.at.result.now c.recv.new.self c.touch.result.now c.self.view_is c.at.ensures.value
    c.touch.ensures.value (is_socket a.socket)
    (λ (was s : SessionState). ReceivingFails a.transmit.transport a.transmit.from a.transmit.to (g.T.AsSlice.items a.transmit.payload) a.now
    was s) ⊥ (sym c.in-Some.ensures) fails)
