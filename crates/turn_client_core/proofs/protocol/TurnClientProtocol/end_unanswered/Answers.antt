use Rattle.turn_client_laws.proofs.Common.{ap}
use Rattle.turn_client_laws.proofs.Machine.{closed, without_families, State}
use Rattle.turn_client_api.specs.declared.poll.TurnPollRet.TheVariants as Do
use Rattle.turn_client_core.specs.contracts.protocol.TurnClientProtocol.{the_view}
use Rattle.turn_client_core.proofs.protocol.TurnClientProtocol.end_unanswered.Goals as goal

pub fail_families_first-requires : goal.fail_families_first-requires
fail_families_first-requires c =
    let requesting = rw (← c.self.view_is) at c.requires in
    let room = c.self.invariant.reportable requesting in
    rw c.as_slice.ensures room

pub returns : goal.returns
returns c =
    let u = without_families (the_view c.self.inside) in
    let failed = rw c.as_slice.ensures at c.fail_families_first.ensures.state u in
    rw (c.close.ensures, c.clear.ensures.items, ← c.self.view_is) (ap (λ (t : State). (Do.Closed, closed t)) failed)
