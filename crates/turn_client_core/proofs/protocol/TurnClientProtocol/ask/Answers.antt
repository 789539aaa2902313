use Rattle.turn_client_laws.proofs.Common.{◌∙◌, ap, sym}
use Rattle.turn_client_laws.proofs.Machine.{with_more_grants, fresh_id, request_for, sent_from, waits_from}
use Rattle.turn_client_grants.specs.Ledger.{with_ledger}
use Rattle.turn_client_grants.specs.GrantFilter.{purposes_in}
use Rattle.turn_client_core.specs.Asked.{asks}
use Rattle.turn_client_core.specs.contracts.protocol.TurnClientProtocol.{the_view}
use Rattle.turn_client_core.proofs.calls.AskLemmas.{asked-is, asks-is, with_outbox}
use Rattle.turn_client_core.proofs.ResultLemmas.{on-err}
use Rattle.turn_client_core.proofs.protocol.TurnClientProtocol.ask.Goals as goal

pub returns-in_err-reserve-clause-err : goal.returns-in_err-reserve-clause-err
returns-in_err-reserve-clause-err c = on-err _ (c.reserve.ensures.same (the_view c.self.inside) ∙ c.self.view_is)

pub returns-in_err-ask-clause-err : goal.returns-in_err-ask-clause-err
returns-in_err-ask-clause-err c =
    rw c.in_err-ask.ensures.err (on-err _ (c.reserve.ensures.same (the_view c.self.inside) ∙ c.self.view_is))

pub ask-requires-2-clause-new : goal.ask-requires-2-clause-new
ask-requires-2-clause-new c =
    let same = ap (λ s. s.grants) (c.reserve.ensures.same (the_view c.self.inside) ∙ c.self.view_is) in
    rw same c.requires.new

pub ask-requires-2-clause-new_id : goal.ask-requires-2-clause-new_id
ask-requires-2-clause-new_id c =
    let same = ap (λ s. s.listed) (c.reserve.ensures.same (the_view c.self.inside) ∙ c.self.view_is) in
    rw same c.fresh_id-id.ensures.unlisted

pub returns-clause-ok : goal.returns-clause-ok
returns-clause-ok c =
    let s = the_view c.self.inside in
    let purpose = c.args.purpose.now in
    let purposes = purposes_in c.args.purposes.now in
    let grants = c.args.grants.now in
    let id = c.fresh_id-id.result in
    let from = c.sent_from-from.result in
    let text = c.in_ok-text.text in
    let waits = c.waits_from-waits_from.result in
    ap (λ o. with_ledger c.ask-2.new.self (with_outbox o s)) c.in_ok-ask.ensures.ok
    ∙ (asked-is s c.reserve.new.self c.ask-2.new.self id from text purposes waits (with_more_grants grants) (c.reserve.ensures.same s) (c.ask-2.ensures.state s text waits)
    ∙ (asks-is s id from text purpose purposes grants c.args.now waits
    (c.in_ok-text.ensures ∙ ap (λ t. request_for t purpose id) (sym c.self.view_is))
    (c.sent_from-from.ensures ∙ ap (λ t. sent_from t purpose) (sym c.self.view_is))
    (c.fresh_id-id.ensures.id ∙ ap fresh_id (sym c.self.view_is))
    (c.waits_from-waits_from.ensures ∙ ap (waits_from c.args.now) (sym c.self.view_is))
    ∙ ap (asks purpose purposes grants c.args.now) c.self.view_is))
