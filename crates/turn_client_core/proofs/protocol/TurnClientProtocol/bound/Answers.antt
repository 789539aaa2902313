use Rattle.turn_client_laws.proofs.Common.{◌∙◌, ap}
use Rattle.turn_client_laws.proofs.Machine.{bound, transaction_ended, id_of}
use Rattle.turn_client_grants.specs.Ledger.{with_ledger}
use Rattle.turn_client_core.specs.Apart.{with_streams_of}
use Rattle.turn_client_core.specs.contracts.protocol.TurnClientProtocol.{the_view}
use Rattle.turn_client_core.proofs.calls.AskLemmas.{with_outbox}
use Rattle.turn_client_core.proofs.ResultLemmas.{on-err}
use Rattle.turn_client_core.proofs.protocol.TurnClientProtocol.bound.Goals as goal

pub returns-in_err-reserve-clause-err : goal.returns-in_err-reserve-clause-err
returns-in_err-reserve-clause-err c = on-err _ (c.reserve.ensures.same (the_view c.self.inside) ∙ c.self.view_is)

pub returns-clause-ok : goal.returns-clause-ok
returns-clause-ok c =
    let s = the_view c.self.inside in
    let d = c.args.connection.now in
    let e = transaction_ended c.transaction_id.result s in
    ap (λ o. with_ledger c.bound.new.self (with_outbox o s)) c.end.ensures
    ∙ (ap (with_streams_of e) (c.bound.ensures.state e)
    ∙ (ap (λ u. with_streams_of e (bound d u)) (c.reserve.ensures.same e)
    ∙ (ap (λ i. with_streams_of s (bound d (transaction_ended i s))) c.transaction_id.ensures
    ∙ ap (λ u. with_streams_of u (bound d (transaction_ended (id_of c.args.message.now) u))) c.self.view_is)))
