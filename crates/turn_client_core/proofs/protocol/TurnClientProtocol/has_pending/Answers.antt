use Rattle.turn_client_laws.proofs.Common.{◌≡◌, ◌∙◌, false, sym, true}
use Rattle.turn_client_laws.proofs.Machine.{has_event}
use Rattle.turn_client_core.specs.contracts.protocol.TurnClientProtocol.{the_view}
use Rattle.turn_client_core.proofs.protocol.TurnClientProtocol.has_pending.Goals as goal

pub returns-then-has_event : goal.returns-then-has_event
returns-then-has_event c =
    let event : has_event c.args.self.now ≡ true = rw (← c.self.view_is) (sym (c.has_event.ensures (the_view c.self.inside)) ∙ c.if-has_event.true) in
    rw event c.if-has_event.true

pub returns-else-has_event : goal.returns-else-has_event
returns-else-has_event c =
    let none : has_event c.args.self.now ≡ false = rw (← c.self.view_is) (sym (c.has_event.ensures (the_view c.self.inside)) ∙ c.if-has_event.false) in
    rw none (rw (← c.self.view_is) (rw c.queue.ensures at c.has_reply.ensures))
