use Rattle.turn_client_laws.proofs.Common.{rules, ◌≡◌, ◌∙◌, ◌++◌, ◌∷◌, [], Vec, Global, ap, map, refl, sym, map-append}
use Rattle.turn_driver.specs.Given.{given_of}
use Rattle.turn_driver.specs.Next.{Does, Rests, answer_of}
use Rattle.turn_driver.specs.Driver.{going, drive_steps, with_answer}
use Rattle.turn_driver.specs.declared.task.Task.{Task}
use Rattle.turn_driver.specs.declared.task.Rest.{Rest}
use Rattle.turn_driver.specs.declared.task.Rest.TheVariants.{Now}
use Rattle.turn_driver.proofs.DriverLemmas.{on_err, stops-client, stops-list, steps-going, steps-rest}
use Rattle.turn_driver.proofs.driver.poll_tasks.Goals as goal
use Rattle.turn_driver.proofs.driver.poll_tasks.Goals.{in-Do+in_ok-push-in-Do, in-Rest+else-ne}

pub loop-init : goal.loop-init
unfolding drive_steps
loop-init g c = refl

pub returns-in_err-reserve-clause-no_memory : goal.returns-in_err-reserve-clause-no_memory
returns-in_err-reserve-clause-no_memory g c =
    on_err _ (stops-list c.loop.counter c.args.most c.args.now _ _ _ _ _ (search rules) c.loop.invariant (ap (map given_of) c.reserve.ensures.items) refl)

pub returns-in_err-task-clause-no_memory : goal.returns-in_err-task-clause-no_memory
returns-in_err-task-clause-no_memory g c =
    on_err _ (stops-client c.loop.counter c.args.most c.args.now _ _ _ _ _ (search rules) c.loop.invariant (ap (map given_of) c.reserve.ensures.items) c.in_err-task.ensures.no_memory)

pub returns-then-ne-clause-ok : goal.returns-then-ne-clause-ok
returns-then-ne-clause-ok g c =
    ap (λ gs. record { given = gs; rest = c.in-Rest.rest; client = g.C.TurnClientApi.state c.next_task.new.client }) (ap (map given_of) c.reserve.ensures.items)
    ∙ steps-rest c.loop.counter c.args.most c.args.now _ _ c.in-Rest.rest _ _ (search rules) (search rules) c.loop.invariant (sym (ap answer_of c.in-Rest.is)
    ∙ c.in_ok-task.ensures.answer) c.in_ok-task.ensures.after

pub loop-preserved : goal.loop-preserved
loop-preserved g c = elim c.match-branch-3.branch [
  | in-Do+in_ok-push-in-Do w ↦
      steps-going c.loop.counter c.args.now _ _ _ _ (Does (given_of w.in-Do.task)) c.loop.invariant (sym (ap answer_of w.in-Do.is) ∙ c.in_ok-task.ensures.answer) c.in_ok-task.ensures.after
      ∙ ap (λ gs. going gs (g.C.TurnClientApi.state c.next_task.new.client)) (sym (ap (λ (v : Vec Task Global). map given_of v.items) w.tasks-is
      ∙ (ap (map given_of) w.in_ok-push-in-Do.ensures.items ∙ (map-append given_of c.reserve.new.self.items (w.in-Do.task ∷ [])
      ∙ ap (λ ts. map given_of ts ++ given_of w.in-Do.task ∷ []) c.reserve.ensures.items))))
  | in-Rest+else-ne w ↦
      steps-going c.loop.counter c.args.now _ _ _ _ (Rests w.in-Rest.rest) c.loop.invariant (sym (ap answer_of w.in-Rest.is) ∙ c.in_ok-task.ensures.answer) c.in_ok-task.ensures.after
      ∙ (ap (λ (r : Rest). with_answer (map given_of c.loop.tasks.items) (Rests r, g.C.TurnClientApi.state c.next_task.new.client)) (let same : w.in-Rest.rest ≡ Now = search rules in same)
      ∙ ap (λ gs. going gs (g.C.TurnClientApi.state c.next_task.new.client)) (sym (ap (λ (v : Vec Task Global). map given_of v.items) w.tasks-is ∙ ap (map given_of) c.reserve.ensures.items)))
]
