use Rattle.std.proofs.Common.{◌≡◌, ◌∙◌, List, ℕ, ap, subst, sym}
use Rattle.std.proofs.lemmas.Result.{on_ok_weaker, on_err_weaker}
use Rattle.std.specs.Prelude.{IfOk}
use Rattle.turn_client_api.specs.Payloads.{Outcome}
use Rattle.turn_client_api.specs.State.{State}
use Rattle.turn_client_core.specs.ProtocolRecv.{outcome_in}
use Rattle.turn_client_laws.proofs.AnyStreamsLemmas.{with_streams}
use Rattle.turn_client_streams.specs.Front.{is_message_kind}
use Rattle.turn_client_tcp.specs.Origins.{carried_step, carried_takes_memory}
use Rattle.turn_client_tcp.proofs.CallLemmas.{message-frame, message-memory}
use Rattle.turn_client_tcp.proofs.FrameLemmas.{message-is, ok-and, whole-IsChannel}
use Rattle.turn_client_tcp.proofs.protocol.TurnClientTcpProtocol.frame.Goals as goal

-- the control machine is lent by its box, and its step is that of the client with the streams beside it

pub returns-in-Ok-clause-answer : goal.returns-in-Ok-clause-answer
returns-in-Ok-clause-answer c =
    let x = c.self.inside.streams.list in
    let was = c.deref_mut.result.now in
    let view = ap (with_streams x) c.deref_mut.ensures.value ∙ c.self.view_is in
    let r = c.message_unless_ignored.result in
    let step = message-frame x c.in-Ok.message c.args.frame.now c.args.now was c.args.self.now c.in-Ok.ensures.found.0
    (message-is c.args.frame.now _ _ _ c.in-Ok.ensures.found.1) (c.requires.kind ∙ ap is_message_kind c.in-Message.is) view
    ∙ ap (λ origin. carried_step origin c.args.frame.now c.args.now c.args.self.now) (sym c.in-Control.is) in
    subst (λ (bytes : List ℕ). IfOk r (λ reported. outcome_in bytes reported ≡ (carried_step c.args.origin c.args.frame.now c.args.now c.args.self.now).0)) c.in-Ok.ensures.found.0
    (subst (λ (p : Outcome × State). IfOk r (λ reported. outcome_in c.in-Ok.message reported ≡ p.0)) step c.message_unless_ignored.ensures.answer)

pub returns-in-Ok-clause-after : goal.returns-in-Ok-clause-after
returns-in-Ok-clause-after c =
    let x = c.self.inside.streams.list in
    let was = c.deref_mut.result.now in
    let view = ap (with_streams x) c.deref_mut.ensures.value ∙ c.self.view_is in
    let step = message-frame x c.in-Ok.message c.args.frame.now c.args.now was c.args.self.now c.in-Ok.ensures.found.0
    (message-is c.args.frame.now _ _ _ c.in-Ok.ensures.found.1) (c.requires.kind ∙ ap is_message_kind c.in-Message.is) view
    ∙ ap (λ origin. carried_step origin c.args.frame.now c.args.now c.args.self.now) (sym c.in-Control.is) in
    on_ok_weaker c.message_unless_ignored.result (λ e. ap (with_streams x) e ∙ ap (λ (p : Outcome × State). p.1) step) c.message_unless_ignored.ensures.after

pub returns-in-Ok-clause-wanted : goal.returns-in-Ok-clause-wanted
returns-in-Ok-clause-wanted c =
    let x = c.self.inside.streams.list in
    let view = ap (with_streams x) c.deref_mut.ensures.value ∙ c.self.view_is in
    on_err_weaker c.message_unless_ignored.result
    (λ wants. ap (λ origin. carried_takes_memory origin c.args.frame.now c.args.self.now) c.in-Control.is
    ∙ message-memory x c.in-Ok.message c.args.frame.now c.deref_mut.result.now c.args.self.now c.in-Ok.ensures.found.0
    (message-is c.args.frame.now _ _ _ c.in-Ok.ensures.found.1) view wants)
    c.message_unless_ignored.ensures.wanted

pub unwrap-channel-requires : goal.unwrap-channel-requires
unwrap-channel-requires c =
    let channel = c.requires.kind ∙ ap is_message_kind c.in-Channel.is in
    ok-and c.parse.result _ (c.parse.ensures.only _ _ _ (whole-IsChannel c.args.frame.now c.requires.whole channel))
