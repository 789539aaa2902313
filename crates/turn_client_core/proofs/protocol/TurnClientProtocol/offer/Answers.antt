use Rattle.turn_client_laws.proofs.Common.{◌∙◌, ap}
use Rattle.turn_client_laws.proofs.Machine.{with_offer}
use Rattle.turn_client_core.proofs.ResultLemmas.{on-err}
use Rattle.turn_client_core.specs.contracts.protocol.TurnClientProtocol.{the_view}
use Rattle.turn_client_core.proofs.protocol.TurnClientProtocol.offer.Goals as goal

pub returns-in_err-reserve-clause-err : goal.returns-in_err-reserve-clause-err
returns-in_err-reserve-clause-err c = on-err _ (c.reserve.ensures.same (the_view c.self.inside) ∙ c.self.view_is)

pub returns-clause-ok : goal.returns-clause-ok
returns-clause-ok c =
    let s = the_view c.self.inside in
    c.offer.ensures.state s
    ∙ ap (with_offer c.args.connection_id c.args.peer c.args.origin) (c.reserve.ensures.same s ∙ c.self.view_is)
