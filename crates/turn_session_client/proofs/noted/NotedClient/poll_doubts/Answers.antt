use Rattle.std.proofs.Common.{◌≡◌, Bool, false, true, rules, subst}
use Rattle.turn_session_life.specs.Doubts.{doubts_step}
use Rattle.turn_session_life.specs.declared.doubts.Doubts.{Doubts}
use Rattle.turn_session_life.specs.declared.doubts.DoubtsStep.{DoubtsStep}
use Rattle.turn_session_life.specs.declared.doubts.DoubtsStep.TheVariants.{Ask}
use Rattle.turn_session_client.specs.Doubting.{AsksNext, DoubtsLead, PollsTold, told_step, with_doubts}
use Rattle.turn_session_client.specs.Ending.{is_open}
use Rattle.turn_session_client.specs.NotedState.{NotedState}
use Rattle.turn_session_client.proofs.noted.NotedClient.poll_doubts.Goals as goal

pub returns-in-Ask : goal.returns-in-Ask
returns-in-Ask g c =
    let s = c.ask_next.new.self in
    let told = c.take_told.new.self in
    let running : is_open c.args.self.now.life.phase ≡ true = search rules in
    let untold : (false, told) ≡ told_step c.args.now c.args.self.now = search rules in
    let asks : (Ask, c.poll.new.self) ≡ doubts_step c.args.now told.doubts = search rules in
    let next = subst (λ (u : NotedState). AsksNext c.args.now (with_doubts c.poll.new.self u) s c.ask_next.result) c.self-2.view_is c.ask_next.ensures in
    let leads = subst (λ (x : DoubtsStep × Doubts). DoubtsLead c.args.now x told s c.ask_next.result) asks next in
    rw running (subst (λ (x : Bool × NotedState). PollsTold c.args.now x s c.ask_next.result) untold leads)
