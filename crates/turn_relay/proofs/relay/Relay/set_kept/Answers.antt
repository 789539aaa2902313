use Rattle.std.proofs.Common.{refl, sym}
use Rattle.turn_relay.proofs.CallLemmas.{keep-in}
use Rattle.turn_relay.proofs.PlaceLemmas.{open-none}
use Rattle.turn_relay.proofs.relay.Relay.set_kept.Goals as goal

pub returns-in-Some : goal.returns-in-Some
returns-in-Some g c =
    keep-in c.args.self.now _ c.in-Some.place c.at.result.now c.set_kept.new.self c.touch.result.now c.self.view_is c.at.ensures.value
    c.touch.ensures.value c.args.key c.args.is_kept c.set_kept.result (sym c.in-Some.ensures) c.set_kept.ensures.answer c.set_kept.ensures.after

pub returns-in-None : goal.returns-in-None
returns-in-None g c = rw (open-none _ c.args.self.now.lives (sym c.in-None.ensures)) refl
