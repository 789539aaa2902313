use Rattle.turn_client_laws.proofs.Common.{ap}
use Rattle.turn_client_laws.proofs.Machine.{State}
use Rattle.turn_client_api.specs.declared.poll.TurnPollRet.TheVariants as Do
use Rattle.turn_client_core.specs.contracts.protocol.TurnClientProtocol.{the_view}
use Rattle.turn_client_core.proofs.protocol.TurnClientProtocol.report_offer.Goals as goal

pub returns : goal.returns
returns c =
    let s = the_view c.self.inside in
    rw (c.transport.ensures, c.local_addr.ensures, c.remote_addr.ensures, ← c.self.view_is)
    (ap (λ (t : State). (Do.AllocateTcpSocket c.args.offer.now.connection_id (record { transport = s.transport; from = s.local; to = s.remote }) c.args.offer.now.peer, t))
    (c.offer_reported.ensures.state s))
