use Rattle.turn_client_laws.proofs.Common.{◌∙◌, ap}
use Rattle.turn_client_laws.proofs.Machine.{connection_at, not_bound, transaction_ended, id_of}
use Rattle.turn_client_grants.specs.Ledger.{with_ledger}
use Rattle.turn_client_core.specs.contracts.protocol.TurnClientProtocol.{the_view}
use Rattle.turn_client_core.proofs.calls.AskLemmas.{with_outbox}
use Rattle.turn_client_core.proofs.protocol.TurnClientProtocol.bind_refused.Goals as goal

pub not_bound-requires : goal.not_bound-requires
not_bound-requires c = record { there = ap (connection_at c.args.connection.now.local) c.self.view_is ∙ c.requires }

pub returns : goal.returns
returns c =
    let s = the_view c.self.inside in
    let d = c.args.connection.now in
    let e = transaction_ended c.transaction_id.result s in
    ap (λ o. with_ledger c.not_bound.new.self (with_outbox o s)) c.end.ensures
    ∙ (c.not_bound.ensures.state e
    ∙ (ap (λ i. not_bound d (transaction_ended i s)) c.transaction_id.ensures
    ∙ ap (λ u. not_bound d (transaction_ended (id_of c.args.message.now) u)) c.self.view_is))
