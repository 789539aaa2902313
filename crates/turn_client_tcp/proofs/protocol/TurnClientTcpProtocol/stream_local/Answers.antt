use Rattle.std.proofs.Common.{◌≡◌, ◌∙◌, None, Some, ap}
use Rattle.std.specs.Option.{option_map}
use Rattle.turn_client_api.specs.Streams.{stream_at}
use Rattle.turn_client_api.specs.declared.state.Stream.{Stream}
use Rattle.turn_client_tcp.specs.contracts.protocol.TurnClientTcpProtocol.{the_view}
use Rattle.turn_client_tcp.proofs.protocol.TurnClientTcpProtocol.stream_local.Goals as goal

pub returns-in-Some : goal.returns-in-Some
returns-in-Some c =
    let e : Some c.in-Some.stream.now ≡ stream_at c.args.local (the_view c.self.inside) = rw c.in-Some.is at (c.get.ensures (the_view c.self.inside)) in
    ap Some c.local.ensures ∙ ap (λ o. option_map (λ (x : Stream). x.local) o) (e ∙ ap (stream_at c.args.local) c.self.view_is)

pub returns-in-None : goal.returns-in-None
returns-in-None c =
    let e : None ≡ stream_at c.args.local (the_view c.self.inside) = rw c.in-None.is at (c.get.ensures (the_view c.self.inside)) in
    ap (λ o. option_map (λ (x : Stream). x.local) o) (e ∙ ap (stream_at c.args.local) c.self.view_is)
