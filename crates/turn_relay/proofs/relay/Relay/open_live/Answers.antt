use Rattle.std.proofs.Common.{◌∙◌, refl, sym}
use Rattle.turn_relay.proofs.relay.Relay.open_live.Goals as goal

pub returns-then-is_open : goal.returns-then-is_open
returns-then-is_open g c =
    rw (sym c.is_open.ensures ∙ c.if-is_open.true) (rw (← c.self.view_is) c.in_use.ensures)

pub returns-else-is_open : goal.returns-else-is_open
returns-else-is_open g c = rw (sym c.is_open.ensures ∙ c.if-is_open.false) refl
