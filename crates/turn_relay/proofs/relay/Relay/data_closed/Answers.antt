use Rattle.std.proofs.Common.{◌≡◌, sym}
use Rattle.turn_session.proofs.FramingLemmas.{on-err}
use Rattle.turn_session.specs.SessionState.{SessionState}
use Rattle.turn_relay_lives.specs.LiveState.{is_socket}
use Rattle.turn_relay.proofs.CallLemmas.{calls-in}
use Rattle.turn_relay.proofs.relay.Relay.data_closed.Goals as goal

pub returns-in-Some-clause-err : goal.returns-in-Some-clause-err
returns-in-Some-clause-err g c =
    let a = c.args in
    on-err c.data_closed.result c.data_closed.ensures.err (λ unchanged.
    calls-in a.self.now _ c.in-Some.place c.at.result.now c.data_closed.new.self c.touch.result.now c.self.view_is c.at.ensures.value
    c.touch.ensures.value (is_socket a.number) (λ (was s : SessionState). s ≡ was) ⊥ (sym c.in-Some.ensures) unchanged)
