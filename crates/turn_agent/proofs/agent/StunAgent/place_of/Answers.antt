use Rattle.std.proofs.Common.{eqb, sym}
use Rattle.turn_agent.proofs.AgentLemmas.{position-unpassed}
use Rattle.turn_agent.proofs.agent.StunAgent.place_of.Goals as goal

pub returns-then-is_stray : goal.returns-then-is_stray
returns-then-is_stray c = sym (position-unpassed (λ t. eqb t.id c.args.id) c.args.self.now.transactions (c.is_stray.ensures c.if-is_stray.true))
