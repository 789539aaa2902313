use Rattle.turn_client_laws.proofs.Common.{◌∙◌, true, ap, refl, sym}
use Rattle.turn_client_laws.proofs.Machine.{waits_from, deleted, request_started, fresh_id, queued}
use Rattle.turn_client_grants.specs.Asked.{all_back, expired_now}
use Rattle.turn_client_grants.specs.Ledger.{with_ledger}
use Rattle.turn_client_core.specs.contracts.protocol.TurnClientProtocol.{the_view}
use Rattle.turn_client_core.proofs.calls.AskLemmas.{asked-is, deletes-is, with_outbox}
use Rattle.turn_client_core.proofs.AuthLemmas.{auth-is}
use Rattle.turn_client_core.proofs.ResultLemmas.{on-err}
use Rattle.turn_client_core.proofs.protocol.TurnClientProtocol.queue_delete.Goals as goal

pub returns-in_err-reserve-clause-err : goal.returns-in_err-reserve-clause-err
returns-in_err-reserve-clause-err c = on-err _ (c.reserve.ensures.same (the_view c.self.inside) ∙ c.self.view_is)

pub returns-in_err-ask-clause-err : goal.returns-in_err-ask-clause-err
returns-in_err-ask-clause-err c =
    rw c.in_err-ask.ensures.err (on-err _ (c.reserve.ensures.same (the_view c.self.inside) ∙ c.self.view_is))

pub queue_delete-requires-clause-new_id : goal.queue_delete-requires-clause-new_id
queue_delete-requires-clause-new_id c =
    let same = ap (λ s. s.listed) (c.reserve.ensures.same (the_view c.self.inside) ∙ c.self.view_is) in
    rw same c.fresh_id-id.ensures.unlisted

pub returns-clause-ok : goal.returns-clause-ok
returns-clause-ok c =
    let s = the_view c.self.inside in
    let id = c.fresh_id-id.result in
    let from = c.local_addr-from.result in
    let text = c.in_ok-text.text in
    let waits = c.waits_from-waits_from.result in
    let signs = auth-is s c.self.inside.auth c.self.invariant.credentials c.self.invariant.supported c.self.invariant.anonymous refl in
    ap (λ o. with_ledger c.queue_delete.new.self (with_outbox o s)) c.in_ok-ask.ensures.ok
    ∙ (asked-is s c.reserve.new.self c.queue_delete.new.self id from text (all_back (with_ledger c.reserve.new.self s)) waits (expired_now c.args.now) (c.reserve.ensures.same s)
    (c.queue_delete.ensures.state s text waits)
    ∙ (ap (λ t. queued true from text (request_started id text (all_back t) waits (expired_now c.args.now s))) (c.reserve.ensures.same s)
    ∙ (deletes-is s id from text c.args.now waits
    (c.in_ok-text.ensures s signs (sym (c.fresh_id-id.ensures.id ∙ ap fresh_id (sym c.self.view_is))))
    (c.local_addr-from.ensures ∙ ap (λ t. t.local) (sym c.self.view_is))
    (c.fresh_id-id.ensures.id ∙ ap fresh_id (sym c.self.view_is))
    (c.waits_from-waits_from.ensures ∙ ap (waits_from c.args.now) (sym c.self.view_is))
    ∙ ap (deleted c.args.now) c.self.view_is)))
