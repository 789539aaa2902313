use Rattle.turn_client_core.specs.contracts.protocol.TurnClientProtocol.{the_view}
use Rattle.turn_client_core.proofs.protocol.TurnClientProtocol.next_offer.Goals as goal

pub returns-in-Allocated : goal.returns-in-Allocated
returns-in-Allocated c =
    rw (← c.self.view_is, c.in-Allocated.is, ← c.table.ensures.grants) (c.next_offer.ensures (the_view c.self.inside))
