use Rattle.std.proofs.Common.{◌∙◌, sym}
use Rattle.turn_relay_lives.specs.LiveState.{is_socket}
use Rattle.turn_relay.specs.Connecting.{written}
use Rattle.turn_relay.proofs.PlaceLemmas.{called-at, called-none}
use Rattle.turn_relay.proofs.relay.Relay.data_written.Goals as goal

pub returns-in-Some : goal.returns-in-Some
returns-in-Some g c =
    rw (← c.self.view_is, c.data_written.ensures, c.touch.ensures.value)
    (sym (called-at (is_socket c.args.number) (written c.args.now) _ c.in-Some.place c.at-live.result.now (sym c.in-Some.ensures)
    c.at-live.ensures.value))

pub returns-in_default : goal.returns-in_default
returns-in_default g c =
    let none = sym c.place_of.ensures ∙ c.in_default.is in
    rw (← c.self.view_is) (sym (called-none (is_socket c.args.number) (written c.args.now) _ none))
