use Rattle.turn_client_laws.proofs.Common.{Some, ap, sym}
use Rattle.turn_client_core.proofs.AuthLemmas.{signs_as}
use Rattle.turn_client_core.proofs.protocol.TurnClientProtocol.acceptance.Goals as goal

pub returns-in_ok-accepted_reply-in-ServerRequest : goal.returns-in_ok-accepted_reply-in-ServerRequest
returns-in_ok-accepted_reply-in-ServerRequest c =
    rw c.in-ServerRequest.is
    (ap Some (c.in_ok-accepted_reply-in-ServerRequest.ensures c.args.self.now (sym (signs_as c.self.inside c.args.self.now c.self.invariant c.self.view_is))))
