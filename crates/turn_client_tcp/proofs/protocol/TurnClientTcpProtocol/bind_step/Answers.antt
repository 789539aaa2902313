use Rattle.std.proofs.Common.{◌∙◌, ap, sym}
use Rattle.turn_client_api.specs.Connections.{bind_step}
use Rattle.turn_client_core.proofs.ResultLemmas.{on-err}
use Rattle.turn_client_laws.proofs.AnyStreamsEffects.{bind-alike}
use Rattle.turn_client_laws.proofs.AnyStreamsLemmas.{with_streams}
use Rattle.turn_client_laws.specs.StreamEffects.{with_stream_bound}
use Rattle.turn_client_tcp.proofs.CallLemmas.{bind_memory-alike}
use Rattle.turn_client_tcp.proofs.protocol.TurnClientTcpProtocol.bind_step.Goals as goal

-- the step of the control machine, and then what it says of the stream
pub returns-clause-ok : goal.returns-clause-ok
returns-clause-ok c =
    let x = c.self.inside.streams.list in
    let was = c.deref_mut.result.now in
    let view = ap (with_streams x) c.deref_mut.ensures.value ∙ c.self.view_is in
    let local = c.args.local in
    let left =
    c.bind_stream.ensures
    ∙ (ap (λ t. with_stream_bound local c.in_ok-peer.peer (with_streams x t)) c.in_ok-peer.ensures.ok
    ∙ (ap (λ peer. with_stream_bound local peer (with_streams x (bind_step local c.args.message.now c.args.now was))) c.in_ok-peer.ensures.peer
    ∙ sym (bind-alike x local c.args.message.now c.args.now was))) in
    left ∙ ap (bind_step local c.args.message.now c.args.now) view

pub returns-in_err-peer-clause-err : goal.returns-in_err-peer-clause-err
returns-in_err-peer-clause-err c =
    rw (← c.self.view_is) (on-err _ (ap (with_streams c.self.inside.streams.list) (c.in_err-peer.ensures.err ∙ c.deref_mut.ensures.value)))

pub returns-in_err-peer-clause-wanted : goal.returns-in_err-peer-clause-wanted
returns-in_err-peer-clause-wanted c =
    let x = c.self.inside.streams.list in
    let view = ap (with_streams x) c.deref_mut.ensures.value ∙ c.self.view_is in
    rw (← view)
    (on-err _ (bind_memory-alike x c.args.local c.args.message.now c.deref_mut.result.now ∙ c.in_err-peer.ensures.wanted))
