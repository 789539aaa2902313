use Rattle.turn_client_laws.proofs.Common.{◌∙◌, ap}
use Rattle.turn_client_core.specs.Apart.{with_streams_of}
use Rattle.turn_client_core.specs.Opened.{opened_with}
use Rattle.turn_client_core.proofs.calls.SocketLemmas.{opened-is}
use Rattle.turn_client_core.proofs.protocol.TurnClientProtocol.open_socket.Goals as goal

pub returns-clause-ok : goal.returns-clause-ok
returns-clause-ok c =
    let s = c.args.self.now in
    let reply = ap (λ r. opened_with r c.args.id c.args.peer c.args.local c.args.now s) c.in_ok-reply.ensures in
    c.in_ok-open_answered.ensures.ok ∙ ap (with_streams_of s) (reply ∙ opened-is c.args.origin.now c.args.id c.args.peer c.args.local c.args.now s)
