use Rattle.std.proofs.Common.{eqb, sym, refl}
use Rattle.turn_agent.proofs.AgentLemmas.{position-IsOf, position-none, list_any-none}
use Rattle.turn_agent.proofs.TransactionLemmas.{without-none}
use Rattle.turn_agent.proofs.agent.StunAgent.end.Goals as goal

pub returns-in-Some-clause-was : goal.returns-in-Some-clause-was
returns-in-Some-clause-was c =
    sym (position-IsOf c.args.id c.args.self.now.transactions c.in-Some.place c.take_out-ended.result (sym c.in-Some.ensures) c.take_out-ended.ensures.taken).was

pub returns-in-Some-clause-after : goal.returns-in-Some-clause-after
returns-in-Some-clause-after c =
    let is = position-IsOf c.args.id c.args.self.now.transactions c.in-Some.place c.take_out-ended.result (sym c.in-Some.ensures) c.take_out-ended.ensures.taken in
    rw (c.take_out-ended.ensures.after, is.same) refl

pub returns-in-None-clause-was : goal.returns-in-None-clause-was
returns-in-None-clause-was c =
    let ts = c.args.self.now.transactions in
    sym (list_any-none (λ t. eqb t.id c.args.id) ts (position-none (λ t. eqb t.id c.args.id) ts (sym c.in-None.ensures)))

pub returns-in-None-clause-after : goal.returns-in-None-clause-after
returns-in-None-clause-after c =
    let ts = c.args.self.now.transactions in
    rw (without-none c.args.id ts (list_any-none (λ t. eqb t.id c.args.id) ts (position-none (λ t. eqb t.id c.args.id) ts (sym c.in-None.ensures)))) refl
