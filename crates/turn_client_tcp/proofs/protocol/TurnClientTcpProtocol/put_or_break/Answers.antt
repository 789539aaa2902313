use Rattle.std.proofs.Common.{◌∙◌, ap, sym}
use Rattle.turn_client_api.specs.Streams.{broken_at}
use Rattle.turn_client_tcp.specs.StreamSteps.{left_by}
use Rattle.turn_client_tcp.specs.contracts.protocol.TurnClientTcpProtocol.{the_view}
use Rattle.turn_client_tcp.proofs.protocol.TurnClientTcpProtocol.put_or_break.Goals as goal

pub returns-then-is_broken : goal.returns-then-is_broken
returns-then-is_broken c =
    rw (sym c.is_broken.ensures ∙ c.if-is_broken.true)
    (c.break_at.ensures (the_view c.self.inside)
    ∙ (ap (λ a. broken_at a (the_view c.self.inside)) c.local.ensures ∙ ap (broken_at c.args.stream.local) c.self.view_is))

pub returns-else-is_broken : goal.returns-else-is_broken
returns-else-is_broken c =
    rw (sym c.is_broken.ensures ∙ c.if-is_broken.false)
    (c.put.ensures (the_view c.self.inside) ∙ ap (left_by c.args.stream) c.self.view_is)
