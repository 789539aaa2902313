use Rattle.turn_client_laws.proofs.Common.{◌≡◌, ◌∙◌, ap, refl, subst, sym, Some, find}
use Rattle.turn_client_laws.proofs.Machine.{waits_from, MayTake, ClientAuth, with_challenge, bind_again, purposes_of, is_bind_of, request_started, fresh_id, queued, request_for, sent_from, with_held, auth_of}
use Rattle.std.specs.Prelude.{◌∷◌, [], true}
use Rattle.turn_client_requests.specs.RequestAttributes.{with_asked_families}
use Rattle.turn_client_grants.specs.Asked.{bind_retried}
use Rattle.turn_client_grants.specs.Ledger.{with_ledger}
use Rattle.turn_client_core.specs.contracts.protocol.TurnClientProtocol.{the_view}
use Rattle.turn_client_core.proofs.calls.AskLemmas.{with_outbox}
use Rattle.turn_client_core.proofs.AuthLemmas.{auth-is}
use Rattle.turn_client_core.proofs.incoming.BindLemmas.{bind-asked}
use Rattle.turn_client_core.proofs.ResultLemmas.{on-err}
use Rattle.turn_client_core.proofs.protocol.TurnClientProtocol.ask_bind.Goals as goal

pub returns-in_err-challenge-clause-err : goal.returns-in_err-challenge-clause-err
returns-in_err-challenge-clause-err c =
    rw c.in_err-challenge.ensures.err (on-err _ (c.queue_again.ensures.same (the_view c.self.inside) ∙ c.self.view_is))

pub bind_again-requires-clause-new_id : goal.bind_again-requires-clause-new_id
bind_again-requires-clause-new_id c =
    let same = ap (λ s. s.listed) (c.queue_again.ensures.same (the_view c.self.inside) ∙ c.self.view_is) in
    rw same c.fresh_id-fresh.ensures.unlisted

pub accept-requires : goal.accept-requires
accept-requires c =
    let own = auth-is (the_view c.self.inside) c.self.inside.auth c.self.invariant.credentials c.self.invariant.supported c.self.invariant.anonymous refl in
    let fits : MayTake c.self.inside.auth c.args.challenge.now =
    subst (λ (auth : ClientAuth). MayTake auth c.args.challenge.now) (sym (ap auth_of c.self.view_is) ∙ own) c.requires.fits in
    rw (c.in_ok-challenge.ensures.challenge, c.in_ok-signed.ensures.exact) fits

pub returns-clause-ok : goal.returns-clause-ok
returns-clause-ok c = λ id asked.
    let s = the_view c.self.inside in
    let d = c.args.connection.now in
    let fresh = c.fresh_id-fresh.result in
    let from = c.sent_from-from.result in
    let text = c.in_ok-signed.signed.1 in
    let given = c.args.challenge.now in
    let purpose = c.args.purpose.now in
    let now = c.args.now in
    let waits = c.waits_from-waits_from.result in
    let t = with_held given s in
    let own = sym (auth-is s c.self.inside.auth c.self.invariant.credentials c.self.invariant.supported c.self.invariant.anonymous refl) in
    let all : with_asked_families c.transport.result c.as_slice.result.now t ≡ t = rw (c.transport.ensures, c.as_slice.ensures) refl in
    let written : text ≡ request_for t purpose fresh = c.in_ok-signed.ensures.text t (sym (ap (with_challenge given) own)) ∙ ap (λ u. request_for u purpose fresh) all in
    let listed : find (is_bind_of d.local) (purposes_of id s) ≡ Some purpose = ap (λ u. find (is_bind_of d.local) (purposes_of id u)) c.self.view_is ∙ asked in
    let sent : from ≡ sent_from s purpose = c.sent_from-from.ensures ∙ ap (λ u. sent_from u purpose) (sym c.self.view_is) in
    rw (c.accept.ensures.taken, c.in_ok-challenge.ensures.challenge, c.in_ok-signed.ensures.exact)
    (ap (λ o. with_ledger c.bind_again.new.self (with_outbox o t)) c.in_ok-challenge.ensures.ok
    ∙ (ap (queued true from text) (c.bind_again.ensures.state t text waits ∙ ap (λ u. request_started fresh text (purpose ∷ []) waits (bind_retried d.local now u)) (c.queue_again.ensures.same t))
    ∙ (bind-asked s d id fresh from text purpose given now waits listed written sent (c.fresh_id-fresh.ensures.id ∙ ap fresh_id (sym c.self.view_is))
    (c.waits_from-waits_from.ensures ∙ ap (waits_from c.args.now) (sym c.self.view_is))
    ∙ ap (λ u. bind_again d id given now u) c.self.view_is)))
