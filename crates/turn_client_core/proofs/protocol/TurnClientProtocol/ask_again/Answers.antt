use Rattle.turn_client_laws.proofs.Common.{◌≡◌, ◌∙◌, false, true, ap, refl, subst, sym}
use Rattle.turn_client_laws.proofs.Machine.{waits_from, first_sent, without_transaction, MayTake, ClientAuth, with_challenge, purposes_of, request_started, id_used, fresh_id, queued, request_for}
use Rattle.turn_client_laws.proofs.Machine.{state_after_retry, auth_of}
use Rattle.std.specs.Prelude.{◌==◌}
use Rattle.turn_client_requests.specs.RequestAttributes.{with_asked_families}
use Rattle.turn_client_grants.specs.Ledger.{with_ledger}
use Rattle.turn_client_core.specs.Outgoing.{Outgoing}
use Rattle.turn_client_core.specs.contracts.protocol.TurnClientProtocol.{the_view}
use Rattle.turn_client_core.proofs.calls.AskLemmas.{with_outbox}
use Rattle.turn_client_core.proofs.AuthLemmas.{auth-is}
use Rattle.turn_client_core.proofs.ResultLemmas.{on-err}
use Rattle.turn_client_core.proofs.incoming.RetryLemmas.{again-is, asked-other, taken, without-other}
use Rattle.turn_client_core.proofs.protocol.TurnClientProtocol.ask_again.Goals as goal

pub returns-in_err-challenge-clause-err : goal.returns-in_err-challenge-clause-err
returns-in_err-challenge-clause-err c =
    rw c.in_err-challenge.ensures.err (on-err _ (c.queue_again.ensures.same (the_view c.self.inside) ∙ c.self.view_is))

pub ask_again-requires-clause-new_id : goal.ask_again-requires-clause-new_id
ask_again-requires-clause-new_id c =
    let same = ap (λ s. s.listed) (c.queue_again.ensures.same (the_view c.self.inside) ∙ c.self.view_is) in
    rw same c.fresh_id-fresh.ensures.unlisted

pub accept-requires : goal.accept-requires
accept-requires c =
    let own = auth-is (the_view c.self.inside) c.self.inside.auth c.self.invariant.credentials c.self.invariant.supported c.self.invariant.anonymous refl in
    let fits : MayTake c.self.inside.auth c.args.challenge.now =
    subst (λ (auth : ClientAuth). MayTake auth c.args.challenge.now) (sym (ap auth_of c.self.view_is) ∙ own) c.requires.fits in
    rw (c.in_ok-challenge.ensures.challenge, c.in_ok-signed.ensures.exact) fits

pub returns-clause-ok : goal.returns-clause-ok
returns-clause-ok c =
    let s = the_view c.self.inside in
    let id = c.args.id in
    let fresh = c.fresh_id-fresh.result in
    let from = c.local_addr-from.result in
    let text = c.in_ok-signed.signed.1 in
    let given = c.args.challenge.now in
    let purpose = c.args.purpose.now in
    let now = c.args.now in
    let waits = c.waits_from-waits_from.result in
    let t = taken s id given in
    let new = first_sent fresh s.remote waits text in
    let own = sym (auth-is s c.self.inside.auth c.self.invariant.credentials c.self.invariant.supported c.self.invariant.anonymous refl) in
    let other : (fresh == id) ≡ false = asked-other id fresh c.args.self.now.listed purpose c.fresh_id-fresh.ensures.unlisted c.requires.asked in
    let all : with_asked_families c.transport.result c.as_slice.result.now t ≡ t = rw (c.transport.ensures, c.as_slice.ensures) refl in
    let written : text ≡ request_for t purpose fresh = c.in_ok-signed.ensures.text t (sym (ap (with_challenge given) own)) ∙ ap (λ u. request_for u purpose fresh) all in
    rw (c.accept.ensures.taken, c.in_ok-challenge.ensures.challenge, c.in_ok-signed.ensures.exact, c.after_challenge-self-inside.ensures)
    (ap (λ o. with_ledger c.ask_again.new.self (with_outbox o t))
    (c.end.ensures ∙ ap (λ (o : Outgoing). record o { transactions = without_transaction id o.transactions }) c.in_ok-challenge.ensures.ok)
    ∙ (ap (λ ts. queued true from text (with_ledger c.ask_again.new.self (record (id_used t) { transactions = ts }))) (without-other id new s.transactions other)
    ∙ (ap (queued true from text) (c.ask_again.ensures.state t text waits ∙ ap (λ u. request_started fresh text (purposes_of id u) waits u) (c.queue_again.ensures.same t))
    ∙ (again-is s id fresh from text purpose given now waits written (c.local_addr-from.ensures ∙ ap (λ t. t.local) (sym c.self.view_is)) (c.fresh_id-fresh.ensures.id ∙ ap fresh_id (sym c.self.view_is))
    (c.waits_from-waits_from.ensures ∙ ap (waits_from c.args.now) (sym c.self.view_is))
    ∙ ap (λ u. state_after_retry u id purpose given now) c.self.view_is))))
