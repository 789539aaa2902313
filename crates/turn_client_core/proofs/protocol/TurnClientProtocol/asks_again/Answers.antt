use Rattle.turn_client_laws.proofs.Common.{◌∙◌, ◌==◌, ap, is_some, map, filter}
use Rattle.turn_client_laws.proofs.Machine.{purposes_of, retried}
use Rattle.turn_client_core.proofs.protocol.TurnClientProtocol.asks_again.Goals as goal

pub returns : goal.returns
returns c =
    let listed = c.purposes_of.ensures ∙ ap (λ all. map (λ l. l.purpose) (filter (λ l. l.id == c.args.id) all)) c.table.ensures.listed in
    c.is_some.ensures ∙ ap is_some (c.retried.ensures ∙ ap retried (listed ∙ ap (purposes_of c.args.id) c.self.view_is))
