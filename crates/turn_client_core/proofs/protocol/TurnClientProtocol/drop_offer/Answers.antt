use Rattle.turn_client_laws.proofs.Common.{◌∙◌, ap, codes}
use Rattle.turn_client_laws.proofs.Machine.{offer_taken, connection_timed_out, refused_reply}
use Rattle.turn_client_grants.specs.Ledger.{with_ledger}
use Rattle.turn_client_core.specs.Opened.{with_reply}
use Rattle.turn_client_core.specs.contracts.protocol.TurnClientProtocol.{the_view}
use Rattle.turn_client_core.proofs.calls.AskLemmas.{with_outbox}
use Rattle.turn_client_core.proofs.calls.SocketLemmas.{answered-is}
use Rattle.turn_client_core.proofs.protocol.TurnClientProtocol.drop_offer.Goals as goal

pub returns-clause-ok : goal.returns-clause-ok
returns-clause-ok c =
    let s = the_view c.self.inside in
    let was = c.args.self.now in
    let reply = c.in_ok-reply.reply in
    ap (λ o. with_ledger c.offer_taken.new.self (with_outbox o s)) c.in_ok-answer.ensures.ok
    ∙ (ap (with_reply reply) (c.offer_taken.ensures.state s ∙ ap (offer_taken c.args.id c.args.peer) c.self.view_is)
    ∙ (ap (λ r. with_reply r (offer_taken c.args.id c.args.peer was)) c.in_ok-reply.ensures
    ∙ answered-is (refused_reply connection_timed_out (codes "Connection Timeout or Failure") was) c.args.origin.now (offer_taken c.args.id c.args.peer was)))
