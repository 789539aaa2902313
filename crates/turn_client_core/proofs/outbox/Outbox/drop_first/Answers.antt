use Rattle.turn_client_laws.proofs.Common.{ap, sym}
use Rattle.turn_client_core.specs.contracts.outbox.Outbox.{the_view}
use Rattle.turn_client_core.proofs.outbox.FrontLemmas.{dropped, first-none, first-some}
use Rattle.turn_client_core.proofs.outbox.Outbox.drop_first.Goals as goal

pub returns-in-Some : goal.returns-in-Some
returns-in-Some c =
    let o = the_view c.self.inside in
    rw (← c.self.view_is, c.end_queued.ensures, c.in-Some.ensures.rest) (ap (dropped o) (sym (first-some o c.in-Some.queued c.in-Some.ensures.front)))

pub returns-in-None : goal.returns-in-None
returns-in-None c =
    let o = the_view c.self.inside in
    rw (← c.self.view_is, c.in-None.ensures.rest) (ap (dropped o) (sym (first-none o c.in-None.ensures.front)))
