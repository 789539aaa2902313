use Rattle.std.proofs.Common.{◌∙◌, sym}
use Rattle.turn_relay_plan.specs.declared.step.PlanStep.TheVariants as Plan
use Rattle.turn_relay.proofs.PlanLemmas.{plan-kept, plan-polled}
use Rattle.turn_relay.proofs.RestoreLemmas.{on-error}
use Rattle.turn_relay.proofs.relay.Relay.next_of_plan.Goals as goal

pub returns-in_err-poll-clause-no_memory : goal.returns-in_err-poll-clause-no_memory
returns-in_err-poll-clause-no_memory g c =
    on-error c.from_residual.result
    (plan-kept _ _ _ c.poll.new.self c.self.view_is (sym c.give_task.ensures.task ∙ c.in_default.is) c.give_task.ensures.after
    c.in_err-poll.ensures.no_memory)

pub returns-in-Again-clause-due : goal.returns-in-Again-clause-due
returns-in-Again-clause-due g c =
    plan-polled c.args.others c.args.now _ _ c.give_task.new.self c.poll.new.self Plan.Again c.self.view_is
    (sym c.give_task.ensures.task ∙ c.in_default.is) c.give_task.ensures.after (sym c.in-Again.is ∙ c.in_ok-poll.ensures.step)
    c.in_ok-poll.ensures.after

pub returns-in-Failed-clause-due : goal.returns-in-Failed-clause-due
returns-in-Failed-clause-due g c =
    c.give_up.ensures
    ∙ plan-polled c.args.others c.args.now _ _ c.give_task.new.self c.poll.new.self (Plan.Failed c.in-Failed.cause) c.self.view_is
    (sym c.give_task.ensures.task ∙ c.in_default.is) c.give_task.ensures.after (sym c.in-Failed.is ∙ c.in_ok-poll.ensures.step)
    c.in_ok-poll.ensures.after

pub returns-in-Wait-clause-due : goal.returns-in-Wait-clause-due
returns-in-Wait-clause-due g c =
    rw c.sooner.ensures
    (plan-polled c.args.others c.args.now _ _ c.give_task.new.self c.poll.new.self (Plan.Wait c.in-Wait.time) c.self.view_is
    (sym c.give_task.ensures.task ∙ c.in_default.is) c.give_task.ensures.after (sym c.in-Wait.is ∙ c.in_ok-poll.ensures.step)
    c.in_ok-poll.ensures.after)
