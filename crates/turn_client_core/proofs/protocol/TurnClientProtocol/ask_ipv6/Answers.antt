use Rattle.turn_client_laws.proofs.Common.{◌≡◌, ◌∙◌, false, true, ap, refl, sym, not, list_any, append-nil}
use Rattle.turn_client_laws.proofs.Machine.{waits_from, first_sent, without_transaction, transaction_ended, in_phase, is_for_allocation, wait, request_started, id_used, fresh_id, queued, request_for}
use Rattle.turn_client_laws.proofs.Machine.{AllocationCreateFailed, ForAllocation, id_of, IPV4, IPV6}
use Rattle.std.specs.Prelude.{◌==◌, ◌∷◌, [], ◌++◌}
use Rattle.turn_client_requests.specs.RequestAttributes.{with_asked_families}
use Rattle.turn_client_grants.specs.Ledger.{with_ledger}
use Rattle.turn_client_core.specs.Replies.{asks_ipv6}
use Rattle.turn_client_core.specs.Outgoing.{Outgoing}
use Rattle.turn_client_core.specs.contracts.protocol.TurnClientProtocol.{the_view}
use Rattle.turn_client_core.proofs.calls.AskLemmas.{with_outbox}
use Rattle.turn_client_core.proofs.AuthLemmas.{auth-is}
use Rattle.turn_client_core.proofs.ResultLemmas.{on-err}
use Rattle.turn_client_core.proofs.incoming.RetryLemmas.{answered-other, first-is, none-filtered, without-other}
use Rattle.turn_client_core.proofs.protocol.TurnClientProtocol.ask_ipv6.Goals as goal

pub returns-in_err-reserve-clause-err : goal.returns-in_err-reserve-clause-err
returns-in_err-reserve-clause-err c = on-err _ (c.reserve.ensures.same (the_view c.self.inside) ∙ c.self.view_is)

pub returns-in_err-ask-clause-err : goal.returns-in_err-ask-clause-err
returns-in_err-ask-clause-err c =
    rw c.in_err-ask.ensures.err (on-err _ (c.reserve.ensures.same (the_view c.self.inside) ∙ c.self.view_is))

pub ask-requires-2-clause-new_id : goal.ask-requires-2-clause-new_id
ask-requires-2-clause-new_id c =
    let s = the_view c.self.inside in
    let fresh = c.fresh_id-fresh.result in
    let unlisted : list_any (λ l. l.id == fresh) s.listed ≡ false = ap (λ u. list_any (λ l. l.id == fresh) u.listed) c.self.view_is ∙ c.fresh_id-fresh.ensures.unlisted in
    let listed = ap (λ u. u.listed) (c.push_event.ensures.state s ∙ ap (wait (AllocationCreateFailed IPV4 ∷ [])) (c.unlist_allocates.ensures.state s s.phase
    ∙ ap (in_phase s.phase) (c.reserve.ensures.same s))) in
    rw listed (none-filtered (λ l. l.id == fresh) (λ l. not (is_for_allocation l.purpose)) s.listed unlisted)

pub returns-clause-ok : goal.returns-clause-ok
returns-clause-ok c =
    let s = the_view c.self.inside in
    let id = c.transaction_id.result in
    let fresh = c.fresh_id-fresh.result in
    let from = c.local_addr-from.result in
    let text = c.in_ok-text.text in
    let now = c.args.now in
    let waits = c.waits_from-waits_from.result in
    let v = record (transaction_ended id s) { families = IPV6 ∷ [] } in
    let u = wait (AllocationCreateFailed IPV4 ∷ []) (record (in_phase s.phase (transaction_ended id s)) { families = IPV6 ∷ [] }) in
    let new = first_sent fresh s.remote waits text in
    let own = sym (auth-is s c.self.inside.auth c.self.invariant.credentials c.self.invariant.supported c.self.invariant.anonymous refl) in
    let other : (fresh == id) ≡ false = rw c.transaction_id.ensures (answered-other
    (id_of c.args.message.now) fresh c.args.self.now.transactions c.fresh_id-fresh.ensures.unsent c.requires.outstanding) in
    let all : with_asked_families c.transport.result (IPV6 ∷ []) u ≡ u = rw c.transport.ensures refl in
    let written : text ≡ request_for u ForAllocation fresh = c.in_ok-text.ensures u (sym own) ∙ ap (λ w. request_for w ForAllocation fresh) all in
    let outcome : with_ledger c.push_event.new.self v ≡ u = c.push_event.ensures.state v
    ∙ ap (wait (AllocationCreateFailed IPV4 ∷ [])) (c.unlist_allocates.ensures.state v v.phase ∙ ap (in_phase v.phase) (c.reserve.ensures.same v)) in
    let more : record (with_ledger c.push_event.new.self v) { grants = c.push_event.new.self.grants ++ [] } ≡ u = ap (λ gs. record (with_ledger c.push_event.new.self v) { grants = gs })
    (append-nil c.push_event.new.self.grants) ∙ outcome in
    rw c.only_ipv6-families.ensures
    (ap (λ o. with_ledger c.ask-2.new.self (with_outbox o v)) (c.end.ensures ∙ ap (λ (o : Outgoing). record o { transactions = without_transaction id o.transactions }) c.in_ok-ask.ensures.ok)
    ∙ (ap (λ ts. queued true from text (with_ledger c.ask-2.new.self (record (id_used v) { transactions = ts }))) (without-other id new s.transactions other)
    ∙ (ap (queued true from text) ((rw c.one.ensures at (c.ask-2.ensures.state v text waits)) ∙ ap (λ w. request_started fresh text (ForAllocation ∷ []) waits w) more)
    ∙ (first-is u fresh from text now waits written (c.local_addr-from.ensures ∙ ap (λ t. t.local) (sym c.self.view_is))
    (c.waits_from-waits_from.ensures ∙ ap (waits_from c.args.now) (sym c.self.view_is))
    ∙ (ap (λ i. asks_ipv6 i now (transaction_ended id s)) (c.fresh_id-fresh.ensures.id)
    ∙ (ap (λ i. asks_ipv6 (fresh_id c.args.self.now) now (transaction_ended i s)) c.transaction_id.ensures
    ∙ ap (λ w. asks_ipv6 (fresh_id c.args.self.now) now (transaction_ended (id_of c.args.message.now) w)) c.self.view_is))))))
