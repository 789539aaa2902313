use Rattle.turn_client_laws.proofs.Common.{◌≡◌, ap, drop, sym}
use Rattle.turn_client_core.specs.contracts.protocol.TurnClientProtocol.{the_view}
use Rattle.turn_client_core.proofs.calls.ListLemmas.{first_of}
use Rattle.turn_client_core.proofs.protocol.TurnClientProtocol.poll_event.Goals as goal

pub returns-clause-answer : goal.returns-clause-answer
returns-clause-answer c =
    let was = c.self.inside.ledger.events in
    let rest : c.next_event.new.self.events ≡ drop 1 was = ap (λ s. s.events) (c.next_event.ensures.state (the_view c.self.inside)) in
    rw (← c.self.view_is) (sym (first_of was c.next_event.result (rw rest at c.next_event.ensures.first)))

pub returns-clause-after : goal.returns-clause-after
returns-clause-after c = rw (← c.self.view_is) (c.next_event.ensures.state (the_view c.self.inside))
