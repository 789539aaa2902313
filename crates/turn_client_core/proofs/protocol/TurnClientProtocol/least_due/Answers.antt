use Rattle.turn_client_laws.proofs.Common.{◌∙◌}
use Rattle.turn_client_core.specs.contracts.protocol.TurnClientProtocol.{the_view}
use Rattle.turn_client_core.proofs.time.PollLemmas.{least_due-by}
use Rattle.turn_client_core.proofs.protocol.TurnClientProtocol.least_due.Goals as goal

pub returns : goal.returns
returns c =
    let s = the_view c.self.inside in
    let second = rw (c.agent.ensures.transport, c.agent.ensures.timers, c.agent.ensures.transactions) at c.earliest-second.ensures in
    let third = c.soonest-third.ensures s in
    let alive = rw (← c.self.view_is) at c.keepalive_time.ensures in
    c.sooner.ensures
    ∙ rw (alive, third, c.refresh_ahead-ahead.ensures, c.table.ensures.grants, c.table.ensures.listed, second, c.self.invariant.times)
    (least_due-by c.args.now c.first_due-first.result c.pause_end-pause.result s c.args.self.now c.self.view_is c.pause_end-pause.ensures c.first_due-first.ensures)
