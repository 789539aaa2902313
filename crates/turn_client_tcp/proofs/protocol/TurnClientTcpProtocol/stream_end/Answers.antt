use Rattle.std.proofs.Common.{◌∙◌, ap, sym}
use Rattle.turn_client_api.specs.Receive.{connection_gone}
use Rattle.turn_client_api.specs.Streams.{without_stream}
use Rattle.turn_client_laws.proofs.AnyStreamsCalls.{gone-alike}
use Rattle.turn_client_laws.proofs.AnyStreamsLemmas.{with_streams}
use Rattle.turn_client_tcp.proofs.ArrivalLemmas.{end-at, end-none}
use Rattle.turn_client_tcp.proofs.protocol.TurnClientTcpProtocol.stream_end.Goals as goal

pub returns-in_default-clause-answer : goal.returns-in_default-clause-answer
returns-in_default-clause-answer g c = λ now.
    sym (ap (λ p. p.0) (end-none c.args.transmit.to now c.args.self.now (sym c.in_default.is ∙ c.stream_local.ensures)))

pub returns-in_default-clause-after : goal.returns-in_default-clause-after
returns-in_default-clause-after g c = λ now.
    sym (ap (λ p. p.1) (end-none c.args.transmit.to now c.args.self.now (sym c.in_default.is ∙ c.stream_local.ensures)))

pub returns-clause-answer : goal.returns-clause-answer
returns-clause-answer g c = λ now.
    sym (ap (λ p. p.0) (end-at c.args.transmit.to c.in-Some.local now c.args.self.now (sym c.in-Some.is ∙ c.stream_local.ensures)))

pub returns-clause-after : goal.returns-clause-after
returns-clause-after g c = λ now.
    let x = c.self.inside.streams.list in
    let local = c.in-Some.local in
    let was = c.deref_mut.result.now in
    let view = ap (with_streams x) c.deref_mut.ensures.value ∙ c.self.view_is in
    let gone = ap (with_streams x) c.connection_gone.ensures ∙ (sym (gone-alike x local was) ∙ ap (connection_gone local) view) in
    c.remove.ensures c.connection_gone.new.self
    ∙ (ap (without_stream local) gone ∙ sym (ap (λ p. p.1) (end-at c.args.transmit.to local now c.args.self.now (sym c.in-Some.is ∙ c.stream_local.ensures))))
