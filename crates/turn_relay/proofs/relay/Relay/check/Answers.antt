use Rattle.std.proofs.Common.{refl, sym}
use Rattle.turn_relay.proofs.CallLemmas.{check-in}
use Rattle.turn_relay.proofs.PlaceLemmas.{open-none}
use Rattle.turn_relay.proofs.relay.Relay.check.Goals as goal

-- the answer of the session, and the session after it
pub returns-in-Some : goal.returns-in-Some
returns-in-Some g c =
    check-in c.args.self.now _ c.in-Some.place c.at.result.now c.check.new.self c.touch.result.now c.self.view_is c.at.ensures.value
    c.touch.ensures.value c.args.now c.check.result (sym c.in-Some.ensures) c.check.ensures

pub returns-in-None : goal.returns-in-None
returns-in-None g c = rw (open-none _ c.args.self.now.lives (sym c.in-None.ensures)) refl
