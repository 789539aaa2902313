use Rattle.std.proofs.Common.{◌≡◌, None, sym}
use Rattle.std.specs.Prelude.{option_map}
use Rattle.turn_client_api.specs.Answers.{given_payload}
use Rattle.turn_session.proofs.FramingLemmas.{on-err, on-ok}
use Rattle.turn_session.specs.Framing.{DataFails, PollsData}
use Rattle.turn_session.specs.SessionState.{SessionState}
use Rattle.turn_relay_lives.specs.LiveState.{is_socket}
use Rattle.turn_relay.proofs.CallLemmas.{calls-in}
use Rattle.turn_relay.proofs.relay.Relay.poll_recv.Goals as goal

pub returns-in-Some-clause-answer : goal.returns-in-Some-clause-answer
returns-in-Some-clause-answer g c =
    let a = c.args in
    on-ok c.poll_recv.result c.poll_recv.ensures.answer (λ given polls.
    calls-in a.self.now _ c.in-Some.place c.at.result.now c.poll_recv.new.self c.touch.result.now c.self.view_is c.at.ensures.value
    c.touch.ensures.value (is_socket a.socket) (λ (was s : SessionState). PollsData a.now was s (option_map given_payload given))
    (option_map given_payload given ≡ None) (sym c.in-Some.ensures) polls)

pub returns-in-Some-clause-no_memory : goal.returns-in-Some-clause-no_memory
returns-in-Some-clause-no_memory g c =
    let a = c.args in
    on-err c.poll_recv.result c.poll_recv.ensures.no_memory (λ fails.
    calls-in a.self.now _ c.in-Some.place c.at.result.now c.poll_recv.new.self c.touch.result.now c.self.view_is c.at.ensures.value
    c.touch.ensures.value (is_socket a.socket) (λ (was s : SessionState). DataFails a.now was s) ⊥ (sym c.in-Some.ensures) fails)
