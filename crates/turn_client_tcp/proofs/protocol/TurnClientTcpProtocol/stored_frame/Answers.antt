use Rattle.std.proofs.Common.{◌≡◌, ◌∙◌, ap}
use Rattle.turn_client_tcp.specs.Origins.{carried_step}
use Rattle.turn_client_tcp.specs.StreamSteps.{left_by}
use Rattle.turn_client_tcp.specs.contracts.protocol.TurnClientTcpProtocol.{the_view}
use Rattle.turn_client_tcp.proofs.protocol.TurnClientTcpProtocol.stored_frame.Goals as goal

pub returns-clause-after : goal.returns-clause-after
returns-clause-after g c =
    let after : c.frame.new.self ≡ (carried_step c.args.origin c.args.frame.items c.args.now c.args.self.now).1 = rw c.as_slice.ensures.value at c.in_ok-reported.ensures.after in
    c.put.ensures (the_view c.self.inside) ∙ ap (left_by c.args.stream) (c.self.view_is ∙ after)
