use Rattle.turn_client_core.specs.contracts.protocol.TurnClientProtocol.{the_view}
use Rattle.turn_client_core.proofs.time.LeftLemmas.{placed-is}
use Rattle.turn_client_core.proofs.protocol.TurnClientProtocol.send_queued.Goals as goal

pub returns : goal.returns
returns c =
    let s = the_view c.self.inside in
    let taken = rw c.requests_timed_from_send-timed_from_send.ensures at c.take_front.ensures in
    rw (← c.self.view_is)
    (placed-is c.args.now c.args.place s c.self.inside.outbox c.drop_front.new.self c.take_front.new.self c.take_front.result c.drop_front.ensures taken)
