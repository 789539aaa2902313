use Rattle.std.proofs.Common.{◌≡◌, ◌<◌, ◌^◌, Some, min, rules}
use Rattle.turn_agent.specs.Agent.{IsSoonest}
use Rattle.turn_agent.specs.contracts.agent.StunAgent.{the_view}
use Rattle.turn_agent.proofs.AgentLemmas.{earliest-known}
use Rattle.turn_agent.proofs.agent.StunAgent.earliest.Goals as goal

pub returns-in-Some : goal.returns-in-Some
returns-in-Some c =
    let a = the_view c.self.inside in
    let known : IsSoonest a.timers a.transport a.transactions (Some c.in-Some.soonest) = rw c.in-Some.is at c.self.invariant.earliest in
    let range : c.args.time < 2 ^ 63 = search rules in
    let least : c.min.result ≡ min c.args.time c.in-Some.soonest = search rules in
    rw (least, ← c.self.view_is) (earliest-known a c.args.time c.in-Some.soonest known range)
