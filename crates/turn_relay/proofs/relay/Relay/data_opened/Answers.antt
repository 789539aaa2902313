use Rattle.std.proofs.Common.{◌≡◌, ◌∙◌, refl, sym}
use Rattle.std.specs.Prelude.{Err}
use Rattle.turn_client_api.specs.declared.error.TcpAllocateError.TheVariants.{NoAllocation}
use Rattle.turn_relay_lives.specs.LiveState.{is_socket}
use Rattle.turn_relay.specs.Connecting.{TakesData}
use Rattle.turn_relay.proofs.CallLemmas.{calls-in}
use Rattle.turn_relay.proofs.PlaceLemmas.{calls-none}
use Rattle.turn_relay.proofs.relay.Relay.data_opened.Goals as goal

pub returns : goal.returns
returns g c =
    let a = c.args in
    calls-in a.self.now _ c.in-Some.place c.at-live.result.now c.take_socket.new.session c.touch.result.now c.self.view_is
    c.at-live.ensures.value c.touch.ensures.value (is_socket a.number)
    (TakesData a.id a.socket a.peer a.local a.now c.take_socket.result) (c.take_socket.result ≡ Err NoAllocation)
    (sym c.in-Some.ensures) c.take_socket.ensures

pub returns-in_default : goal.returns-in_default
returns-in_default g c =
    let a = c.args in
    rw (← c.self.view_is) (calls-none (is_socket a.number) (TakesData a.id a.socket a.peer a.local a.now _) _ _ _
    (sym c.place_of.ensures ∙ c.in_default.is) refl refl)
