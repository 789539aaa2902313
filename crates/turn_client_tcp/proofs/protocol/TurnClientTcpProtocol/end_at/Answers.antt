use Rattle.std.proofs.Common.{◌∙◌, ap}
use Rattle.turn_client_api.specs.Effect.{closed}
use Rattle.turn_client_api.specs.State.{State}
use Rattle.turn_client_api.specs.Streams.{broken_at}
use Rattle.turn_client_laws.proofs.AnyStreamsLemmas.{with_streams}
use Rattle.turn_client_tcp.proofs.protocol.TurnClientTcpProtocol.end_at.Goals as goal

pub returns : goal.returns
returns c =
    ap (with_streams c.break_at.new.self.list) c.close.ensures
    ∙ ap (λ (s : State). with_streams c.break_at.new.self.list (closed s)) c.deref_mut.ensures.value
    ∙ (ap closed (c.break_at.ensures c.self.inside.control.value) ∙ ap (λ (s : State). closed (broken_at c.args.local s)) c.self.view_is)
