use Rattle.turn_agent.proofs.AgentLemmas.{due-quiet}
use Rattle.turn_agent.proofs.agent.StunAgent.is_quiet.Goals as goal

pub returns-in-Some : goal.returns-in-Some
returns-in-Some c = λ is. due-quiet c.args.self.now c.args.now c.in-Some._time c.in-Some.ensures
