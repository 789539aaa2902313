use Rattle.std.proofs.Common.{◌∙◌, sym}
use Rattle.turn_relay_lives.specs.LiveState.{is_socket}
use Rattle.turn_relay.specs.Calls.{reported}
use Rattle.turn_relay.proofs.PlaceLemmas.{called-at, called-none}
use Rattle.turn_relay.proofs.relay.Relay.report.Goals as goal

pub returns-in-Some : goal.returns-in-Some
returns-in-Some g c =
    let call = reported c.args.report c.args.now in
    rw (← c.self.view_is, c.tell.ensures, c.touch.ensures.value)
    (sym (called-at (is_socket c.args.socket) call _ c.in-Some.place c.at-live.result.now (sym c.in-Some.ensures) c.at-live.ensures.value))

pub returns-in_default : goal.returns-in_default
returns-in_default g c =
    let none = sym c.place_of.ensures ∙ c.in_default.is in
    rw (← c.self.view_is) (sym (called-none (is_socket c.args.socket) (reported c.args.report c.args.now) _ none))
