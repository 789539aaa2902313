use Rattle.turn_client_laws.proofs.Common.{◌≡◌, ◌∙◌, None, ap, sym, or_parts}
use Rattle.turn_client_laws.proofs.Machine.{waits_from, same_address, connection_at, fresh_id, request_for, ForBind}
use Rattle.turn_client_grants.specs.Ledger.{with_ledger}
use Rattle.turn_client_core.specs.Apart.{with_streams_of}
use Rattle.turn_client_core.specs.Opened.{opened_with}
use Rattle.turn_client_core.specs.contracts.protocol.TurnClientProtocol.{the_view}
use Rattle.turn_client_core.proofs.calls.AskLemmas.{with_outbox}
use Rattle.turn_client_core.proofs.ResultLemmas.{none-some_not, on-err}
use Rattle.turn_client_core.proofs.calls.SocketLemmas.{opens-is}
use Rattle.turn_client_core.proofs.protocol.TurnClientProtocol.open_answered.Goals as goal

pub returns-in_err-reserve-clause-err : goal.returns-in_err-reserve-clause-err
returns-in_err-reserve-clause-err c = on-err _ (c.reserve.ensures.same (the_view c.self.inside) ∙ c.self.view_is)

pub returns-in_err-ask_over-clause-err : goal.returns-in_err-ask_over-clause-err
returns-in_err-ask_over-clause-err c =
    rw c.in_err-ask_over.ensures.err (on-err _ (c.reserve.ensures.same (the_view c.self.inside) ∙ c.self.view_is))

pub opened-requires-clause-new : goal.opened-requires-clause-new
opened-requires-clause-new c =
    let free : connection_at c.args.local c.args.self.now ≡ None =
    none-some_not _ (or_parts (same_address c.args.local c.args.self.now.local) _ c.requires.free).1 in
    let same = ap (λ s. s.grants) (c.reserve.ensures.same (the_view c.self.inside) ∙ c.self.view_is) in
    rw same free

pub opened-requires-clause-new_id : goal.opened-requires-clause-new_id
opened-requires-clause-new_id c =
    let same = ap (λ s. s.listed) (c.reserve.ensures.same (the_view c.self.inside) ∙ c.self.view_is) in
    rw same c.fresh_id-request.ensures.unlisted

pub returns-clause-ok : goal.returns-clause-ok
returns-clause-ok c =
    let s = the_view c.self.inside in
    let request = c.fresh_id-request.result in
    let text = c.in_ok-text.text in
    let purpose = ForBind c.args.local c.args.peer c.args.id in
    ap (λ o. with_ledger c.opened.new.self (with_outbox o s)) c.in_ok-ask_over.ensures.sent
    ∙ (opens-is s c.reserve.new.self c.opened.new.self c.args.reply c.args.id request c.args.peer c.args.local text c.args.now c.waits_from-waits_from.result
    (c.reserve.ensures.same s)
    (c.opened.ensures.state s text c.waits_from-waits_from.result)
    (c.in_ok-text.ensures ∙ ap (λ t. request_for t purpose request) (sym c.self.view_is))
    (c.fresh_id-request.ensures.id ∙ ap fresh_id (sym c.self.view_is))
    (c.waits_from-waits_from.ensures ∙ ap (waits_from c.args.now) (sym c.self.view_is))
    ∙ ap (λ t. with_streams_of t (opened_with c.args.reply c.args.id c.args.peer c.args.local c.args.now t)) c.self.view_is)
