use Rattle.std.proofs.Common.{sym}
use Rattle.turn_agent.specs.Agent.{answers}
use Rattle.turn_agent.proofs.AgentLemmas.{position-unpassed, unanswered}
use Rattle.turn_agent.proofs.agent.StunAgent.answered.Goals as goal

pub returns-then-is_stray : goal.returns-then-is_stray
returns-then-is_stray c = sym (position-unpassed (answers c.args.id c.args.from) c.args.self.now.transactions
    (unanswered c.args.id c.args.from c.args.self.now.transactions (c.is_stray.ensures c.if-is_stray.true)))
