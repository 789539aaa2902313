use Rattle.turn_client_laws.proofs.Common.{◌≡◌, ◌∙◌, ap, refl, sym, true}
use Rattle.turn_client_laws.proofs.Machine.{challenge_of-MayTake, bind_again, connection_at, not_bound, bind_judgement, keeps_connection, auth_of, id_of}
use Rattle.turn_client_laws.proofs.Laws.{bind-is}
use Rattle.turn_client_api.specs.Judgement as J
use Rattle.turn_client_core.specs.Apart.{with_streams_of}
use Rattle.turn_client_core.specs.Judged.{judgement_in}
use Rattle.turn_client_core.specs.contracts.protocol.TurnClientProtocol.{the_view}
use Rattle.turn_client_core.proofs.incoming.BindLemmas.{again-streams, binds-otherwise, not_bound-otherwise}
use Rattle.turn_client_core.proofs.ResultLemmas.{on-err}
use Rattle.turn_client_core.proofs.protocol.TurnClientProtocol.bind_answered.Goals as goal

-- ---- a challenge

pub bind_again-requires : goal.bind_again-requires
bind_again-requires c =
    let s = c.args.self.now in
    let message = c.args.message.now in
    let is = sym c.judge_bind.ensures ∙ ap judgement_in c.in-Challenged.is in
    challenge_of-MayTake (auth_of s) message c.in-Challenged.challenge (bind-is s c.args.connection.now.local message c.in-Challenged.challenge is)

pub returns-in_ok-bind_again-in-Challenged-clause-ok : goal.returns-in_ok-bind_again-in-Challenged-clause-ok
returns-in_ok-bind_again-in-Challenged-clause-ok c =
    let s = c.args.self.now in
    let d = c.args.connection.now in
    let challenge = c.in-Challenged.challenge in
    let is : bind_judgement s d.local c.args.message.now ≡ J.Challenged challenge = sym c.judge_bind.ensures ∙ ap judgement_in c.in-Challenged.is in
    rw is
    (c.in_ok-bind_again-in-Challenged.ensures.ok
    ∙ (ap (λ id. bind_again d id challenge c.args.now s) c.transaction_id.ensures ∙ again-streams d (id_of c.args.message.now) challenge c.args.now s))

pub returns-in_ok-bind_again-in-Challenged-clause-peer : goal.returns-in_ok-bind_again-in-Challenged-clause-peer
returns-in_ok-bind_again-in-Challenged-clause-peer c =
    let is : bind_judgement c.args.self.now c.args.connection.now.local c.args.message.now ≡ J.Challenged c.in-Challenged.challenge =
    sym c.judge_bind.ensures ∙ ap judgement_in c.in-Challenged.is in
    rw is refl

pub returns-in_err-bind_again-in-Challenged-clause-wanted : goal.returns-in_err-bind_again-in-Challenged-clause-wanted
returns-in_err-bind_again-in-Challenged-clause-wanted c =
    let judged = bind_judgement c.args.self.now c.args.connection.now.local c.args.message.now in
    let is : judged ≡ J.Challenged c.in-Challenged.challenge = sym c.judge_bind.ensures ∙ ap judgement_in c.in-Challenged.is in
    let kept : keeps_connection judged ≡ true = rw is refl in
    on-err _ kept

-- ---- a signed reply

pub returns-in_ok-bound-in-SignedSuccess-clause-ok : goal.returns-in_ok-bound-in-SignedSuccess-clause-ok
returns-in_ok-bound-in-SignedSuccess-clause-ok c =
    let is : bind_judgement c.args.self.now c.args.connection.now.local c.args.message.now ≡ J.SignedSuccess = sym c.judge_bind.ensures ∙ ap judgement_in c.in-SignedSuccess.is in
    rw is c.in_ok-bound-in-SignedSuccess.ensures.ok

pub returns-in_ok-bound-in-SignedSuccess-clause-peer : goal.returns-in_ok-bound-in-SignedSuccess-clause-peer
returns-in_ok-bound-in-SignedSuccess-clause-peer c =
    let is : bind_judgement c.args.self.now c.args.connection.now.local c.args.message.now ≡ J.SignedSuccess = sym c.judge_bind.ensures ∙ ap judgement_in c.in-SignedSuccess.is in
    rw is refl

pub returns-in_err-bound-in-SignedSuccess-clause-wanted : goal.returns-in_err-bound-in-SignedSuccess-clause-wanted
returns-in_err-bound-in-SignedSuccess-clause-wanted c =
    let judged = bind_judgement c.args.self.now c.args.connection.now.local c.args.message.now in
    let is : judged ≡ J.SignedSuccess = sym c.judge_bind.ensures ∙ ap judgement_in c.in-SignedSuccess.is in
    let kept : keeps_connection judged ≡ true = rw is refl in
    on-err _ kept

pub returns-in-SignedError-clause-ok : goal.returns-in-SignedError-clause-ok
returns-in-SignedError-clause-ok c =
    let is : bind_judgement c.args.self.now c.args.connection.now.local c.args.message.now ≡ J.SignedError = sym c.judge_bind.ensures ∙ ap judgement_in c.in-SignedError.is in
    rw is c.bind_refused.ensures

pub returns-in-SignedError-clause-peer : goal.returns-in-SignedError-clause-peer
returns-in-SignedError-clause-peer c =
    let is : bind_judgement c.args.self.now c.args.connection.now.local c.args.message.now ≡ J.SignedError = sym c.judge_bind.ensures ∙ ap judgement_in c.in-SignedError.is in
    rw is refl

-- ---- any other message

pub not_bound-requires : goal.not_bound-requires
not_bound-requires c = record { there = ap (connection_at c.args.connection.now.local) c.self.view_is ∙ c.requires.there }

pub returns-in_default-clause-ok : goal.returns-in_default-clause-ok
returns-in_default-clause-ok c =
    let s = c.args.self.now in
    let d = c.args.connection.now in
    c.not_bound.ensures.state (the_view c.self.inside)
    ∙ (ap (not_bound d) c.self.view_is
    ∙ ap (with_streams_of s) (sym (not_bound-otherwise d c.args.message.now c.args.now s c.judge_bind.result c.judge_bind.ensures
    c.in_default.not-Challenged c.in_default.not-SignedSuccess c.in_default.not-SignedError)))

pub returns-in_default-clause-peer : goal.returns-in_default-clause-peer
returns-in_default-clause-peer c = sym (binds-otherwise c.args.connection.now c.judge_bind.result _ c.judge_bind.ensures c.in_default.not-SignedSuccess)
