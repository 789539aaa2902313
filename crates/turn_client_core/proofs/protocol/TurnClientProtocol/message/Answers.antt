use Rattle.turn_client_laws.proofs.Common.{◌≡◌, ◌∙◌, ap, refl, subst, sym, true}
use Rattle.turn_client_laws.proofs.Machine.{judgement_of, message_takes_memory}
use Rattle.turn_client_laws.proofs.Laws.{Challenged-is}
use Rattle.turn_client_api.specs.Judgement as J
use Rattle.turn_client_core.specs.Judged.{judgement_in}
use Rattle.turn_client_core.proofs.incoming.JudgedLemmas.{data-judged, error-answers, request-signs}
use Rattle.turn_client_core.proofs.ResultLemmas.{on-err}
use Rattle.turn_client_core.proofs.incoming.UnreadLemmas.{data-message}
use Rattle.turn_client_core.specs.ProtocolRecv.{IsPart}
use Rattle.turn_client_core.proofs.protocol.TurnClientProtocol.message.Goals as goal

pub returns-in-Unrelated-clause-answer : goal.returns-in-Unrelated-clause-answer
returns-in-Unrelated-clause-answer c =
    let is : judgement_of c.args.self.now c.args.message.now ≡ J.Unrelated = sym c.judge-judged.ensures ∙ ap judgement_in c.in-Unrelated.is in
    rw is refl

pub returns-in-Unrelated-clause-after : goal.returns-in-Unrelated-clause-after
returns-in-Unrelated-clause-after c =
    let is : judgement_of c.args.self.now c.args.message.now ≡ J.Unrelated = sym c.judge-judged.ensures ∙ ap judgement_in c.in-Unrelated.is in
    rw is refl

pub returns-in-LateResponse-clause-answer : goal.returns-in-LateResponse-clause-answer
returns-in-LateResponse-clause-answer c =
    let is : judgement_of c.args.self.now c.args.message.now ≡ J.LateResponse = sym c.judge-judged.ensures ∙ ap judgement_in c.in-LateResponse.is in
    rw is refl

pub returns-in-LateResponse-clause-after : goal.returns-in-LateResponse-clause-after
returns-in-LateResponse-clause-after c =
    let is : judgement_of c.args.self.now c.args.message.now ≡ J.LateResponse = sym c.judge-judged.ensures ∙ ap judgement_in c.in-LateResponse.is in
    rw is refl

pub challenged-requires : goal.challenged-requires
challenged-requires c =
    Challenged-is c.args.self.now c.args.message.now c.in-Challenged.challenge (sym c.judge-judged.ensures ∙ ap judgement_in c.in-Challenged.is)

pub returns-in-Challenged : goal.returns-in-Challenged
returns-in-Challenged c =
    let is : judgement_of c.args.self.now c.args.message.now ≡ J.Challenged c.in-Challenged.challenge = sym c.judge-judged.ensures ∙ ap judgement_in c.in-Challenged.is in
    record {
      answer = rw is c.challenged.ensures.answer;
      part = c.challenged.ensures.part;
      after = rw is c.challenged.ensures.after;
      err = c.challenged.ensures.err;
      free = λ h. absurd (data-judged c.args.self.now c.args.message.now h _ is);
      wanted = rw is c.challenged.ensures.wanted;
      replied = rw is (on-err c.challenged.result tt);
    }

pub returns-in-Fatal : goal.returns-in-Fatal
returns-in-Fatal c =
    let is : judgement_of c.args.self.now c.args.message.now ≡ J.Fatal = sym c.judge-judged.ensures ∙ ap judgement_in c.in-Fatal.is in
    let takes : message_takes_memory c.args.message.now c.args.self.now ≡ true = rw is refl in
    record {
      answer = rw is c.fatal.ensures.answer;
      part = c.fatal.ensures.part;
      after = rw is c.fatal.ensures.after;
      err = c.fatal.ensures.err;
      free = λ h. absurd (data-judged c.args.self.now c.args.message.now h _ is);
      wanted = on-err _ takes;
      replied = rw is (on-err c.fatal.result tt);
    }

pub returns-in-DataIndication-clause-answer : goal.returns-in-DataIndication-clause-answer
returns-in-DataIndication-clause-answer c =
    let is : judgement_of c.args.self.now c.args.message.now ≡ J.DataIndication = sym c.judge-judged.ensures ∙ ap judgement_in c.in-DataIndication.is in
    rw is
    (data-message c.args.self.now c.as_bytes.result.now c.args.message.now c.data_indicated.result
    c.as_bytes.ensures.bytes c.as_bytes.ensures.message c.data_indicated.ensures.outcome)

pub returns-in-DataIndication-clause-part : goal.returns-in-DataIndication-clause-part
returns-in-DataIndication-clause-part c =
    subst (λ bytes. IsPart bytes c.args.self.now c.args.self.now c.data_indicated.result) c.as_bytes.ensures.bytes c.data_indicated.ensures.part

pub returns-in-DataIndication-clause-after : goal.returns-in-DataIndication-clause-after
returns-in-DataIndication-clause-after c =
    let is : judgement_of c.args.self.now c.args.message.now ≡ J.DataIndication = sym c.judge-judged.ensures ∙ ap judgement_in c.in-DataIndication.is in
    rw is refl

pub returns-in-ConnectionAttempt : goal.returns-in-ConnectionAttempt
returns-in-ConnectionAttempt c =
    let is : judgement_of c.args.self.now c.args.message.now ≡ J.ConnectionAttempt = sym c.judge-judged.ensures ∙ ap judgement_in c.in-ConnectionAttempt.is in
    record {
      answer = rw is c.attempt_indicated.ensures.answer;
      part = c.attempt_indicated.ensures.part;
      after = rw is c.attempt_indicated.ensures.after;
      err = c.attempt_indicated.ensures.err;
      free = λ h. absurd (data-judged c.args.self.now c.args.message.now h _ is);
      wanted = rw is c.attempt_indicated.ensures.wanted;
      replied = rw is (on-err c.attempt_indicated.result tt);
    }

pub returns-in-SignedRequest : goal.returns-in-SignedRequest
returns-in-SignedRequest c =
    let is : judgement_of c.args.self.now c.args.message.now ≡ J.SignedRequest = sym c.judge-judged.ensures ∙ ap judgement_in c.in-SignedRequest.is in
    record {
      answer = rw is c.requested.ensures.answer;
      part = c.requested.ensures.part;
      after = rw is c.requested.ensures.after;
      err = c.requested.ensures.err;
      free = λ h. absurd (data-judged c.args.self.now c.args.message.now h _ is);
      wanted = rw is c.requested.ensures.wanted;
      replied = rw is (on-err c.requested.result tt);
    }

pub returns-in-SignedSuccess : goal.returns-in-SignedSuccess
returns-in-SignedSuccess c =
    let is : judgement_of c.args.self.now c.args.message.now ≡ J.SignedSuccess = sym c.judge-judged.ensures ∙ ap judgement_in c.in-SignedSuccess.is in
    let takes : message_takes_memory c.args.message.now c.args.self.now ≡ true = rw is refl in
    record {
      answer = rw is c.succeeded.ensures.answer;
      part = c.succeeded.ensures.part;
      after = rw is c.succeeded.ensures.after;
      err = c.succeeded.ensures.err;
      free = λ h. absurd (data-judged c.args.self.now c.args.message.now h _ is);
      wanted = on-err _ takes;
      replied = rw is c.succeeded.ensures.wanted;
    }

pub returns-in-SignedError : goal.returns-in-SignedError
returns-in-SignedError c =
    let is : judgement_of c.args.self.now c.args.message.now ≡ J.SignedError = sym c.judge-judged.ensures ∙ ap judgement_in c.in-SignedError.is in
    let takes : message_takes_memory c.args.message.now c.args.self.now ≡ true = rw is refl in
    record {
      answer = rw is c.failed.ensures.answer;
      part = c.failed.ensures.part;
      after = rw is c.failed.ensures.after;
      err = c.failed.ensures.err;
      free = λ h. absurd (data-judged c.args.self.now c.args.message.now h _ is);
      wanted = on-err _ takes;
      replied = rw is c.failed.ensures.wanted;
    }

pub requested-requires : goal.requested-requires
requested-requires c = request-signs c.args.self.now c.args.message.now (sym c.judge-judged.ensures ∙ ap judgement_in c.in-SignedRequest.is)

pub failed-requires : goal.failed-requires
failed-requires c = error-answers c.args.self.now c.args.message.now (sym c.judge-judged.ensures ∙ ap judgement_in c.in-SignedError.is)
