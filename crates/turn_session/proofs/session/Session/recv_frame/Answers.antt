use Rattle.turn_client_api.specs.Answers.{outcome_of}
use Rattle.turn_session_client.proofs.DrainLemmas.{on_err}
use Rattle.turn_session.specs.Given.{given_outcome}
use Rattle.turn_session.proofs.FramingLemmas.{IsFromServer, client-fails, copy-fails, frame-gives, on-err, on-ok-with}
use Rattle.turn_session.proofs.session.Session.recv_frame.Goals as goal

pub returns-clause-given : goal.returns-clause-given
returns-clause-given g c =
    let t = c.from_server-transmit.result in
    let sent = c.from_server-transmit.ensures in
    let is : IsFromServer c.args.self.now.noted.client c.args.frame.now t.transport t.from t.to t.payload.now =
    record { is_frame = sent.frame; is_transport = sent.transport; is_from = sent.from; is_to = sent.to } in
    on-ok-with c.given_by.result c.given_by.ensures.given c.given_by.ensures.ok
    (λ given gives same. frame-gives c.args.frame.now c.args.now c.args.self.now c.recv_whole.new.self c.given_by.new.self
    t.transport t.from t.to t.payload.now (outcome_of c.in_ok-answer.answer) (given_outcome given) is
    c.in_ok-answer.ensures.after c.in_ok-answer.ensures.answer gives same)

pub returns-in_err-answer-clause-no_memory : goal.returns-in_err-answer-clause-no_memory
returns-in_err-answer-clause-no_memory g c =
    let t = c.from_server-transmit.result in
    let sent = c.from_server-transmit.ensures in
    let is : IsFromServer c.args.self.now.noted.client c.args.frame.now t.transport t.from t.to t.payload.now =
    record { is_frame = sent.frame; is_transport = sent.transport; is_from = sent.from; is_to = sent.to } in
    on_err _ (client-fails c.args.frame.now c.args.now c.args.self.now c.recv_whole.new.self t.transport t.from t.to t.payload.now is
    c.in_err-answer.ensures.no_memory c.in_err-answer.ensures.ended)

pub returns-clause-no_memory : goal.returns-clause-no_memory
returns-clause-no_memory g c =
    let t = c.from_server-transmit.result in
    let sent = c.from_server-transmit.ensures in
    let is : IsFromServer c.args.self.now.noted.client c.args.frame.now t.transport t.from t.to t.payload.now =
    record { is_frame = sent.frame; is_transport = sent.transport; is_from = sent.from; is_to = sent.to } in
    on-err c.given_by.result c.given_by.ensures.err
    (λ fails. copy-fails c.args.frame.now c.args.now c.args.self.now c.recv_whole.new.self c.given_by.new.self
    t.transport t.from t.to t.payload.now (outcome_of c.in_ok-answer.answer) is
    c.in_ok-answer.ensures.after c.in_ok-answer.ensures.answer fails)
