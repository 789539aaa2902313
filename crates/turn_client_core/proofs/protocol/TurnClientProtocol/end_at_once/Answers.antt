use Rattle.turn_client_laws.proofs.Common.{◌∙◌, [], ap}
use Rattle.turn_client_laws.proofs.Machine.{Closed}
use Rattle.turn_client_api.specs.Abandon.{abandoned}
use Rattle.turn_client_grants.specs.Ledger.{with_ledger}
use Rattle.turn_client_core.specs.contracts.protocol.TurnClientProtocol.{the_view}
use Rattle.turn_client_core.proofs.calls.AskLemmas.{with_outbox}
use Rattle.turn_client_core.proofs.protocol.TurnClientProtocol.end_at_once.Goals as goal

pub returns : goal.returns
returns c =
    let s = the_view c.self.inside in
    ap (λ o. with_ledger c.forget.new.self (with_outbox o (record s { phase = Closed }))) c.end_all.ensures
    ∙ (c.forget.ensures (record s { phase = Closed; transactions = []; queue = [] }) ∙ ap abandoned c.self.view_is)
