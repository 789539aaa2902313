use Rattle.std.proofs.Common.{◌≡◌, ◌∙◌, Some, ap, subst, sym}
use Rattle.std.specs.Option.{option_map, option_map_or}
use Rattle.turn_client_api.specs.Answers.{EndsAfterSteps}
use Rattle.turn_client_streams.specs.Held.{control_passed}
use Rattle.turn_client_tcp.specs.ControlData.{control_data}
use Rattle.turn_client_tcp.specs.StreamSteps.{received_payload}
use Rattle.turn_client_tcp.specs.Wanted.{EndsInNeed}
use Rattle.turn_client_tcp.proofs.ControlDataLemmas.{data-ends, data-given, data-wants}
use Rattle.turn_client_core.proofs.ResultLemmas.{on-err}
use Rattle.turn_client_tcp.proofs.protocol.carrier.TurnClientTcpProtocolCarrier.next_payload.Goals as goal

pub returns-in_err-given-clause-no_memory : goal.returns-in_err-given-clause-no_memory
returns-in_err-given-clause-no_memory c =
    let ended = data-ends c.args.now c.args.self.now c.in_err-given.ensures.wanted in
    on-err c.from_residual.result (subst (EndsAfterSteps c.args.now c.args.self.now) (sym c.in_err-given.ensures.no_memory) ended)

pub returns-in_err-given-clause-wanted : goal.returns-in_err-given-clause-wanted
returns-in_err-given-clause-wanted c =
    let ended = data-wants c.args.now c.args.self.now c.in_err-given.ensures.wanted in
    on-err c.from_residual.result (subst (EndsInNeed c.args.now c.args.self.now) (sym c.in_err-given.ensures.no_memory) ended)

pub returns-in-Some-clause-answer : goal.returns-in-Some-clause-answer
returns-in-Some-clause-answer c =
    let reported : control_data c.args.self.now ≡ Some (received_payload c.in-Some.given) = (sym c.in_ok-given.ensures.answer ∙ ap (λ o. option_map received_payload o) c.in-Some.is) in
    ap Some c.into_data.ensures ∙ sym (ap (λ p. p.0) (data-given c.args.now c.args.self.now _ reported))

pub returns-in-Some-clause-after : goal.returns-in-Some-clause-after
returns-in-Some-clause-after c =
    let reported : control_data c.args.self.now ≡ Some (received_payload c.in-Some.given) = (sym c.in_ok-given.ensures.answer ∙ ap (λ o. option_map received_payload o) c.in-Some.is) in
    c.in_ok-given.ensures.after
    ∙ (ap (λ o. option_map_or (λ payload. control_passed c.args.self.now) o c.args.self.now) reported
    ∙ sym (ap (λ p. p.1) (data-given c.args.now c.args.self.now _ reported)))
