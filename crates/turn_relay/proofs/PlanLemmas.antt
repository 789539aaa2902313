-- A plan without a new task.
use Rattle.std.proofs.Common.{◌≡◌, ◌∙◌, ℕ, Bool, List, [], ◌∷◌, length, Option, Some, None, refl, sym, ap, inl, inr, ltb}
use Rattle.std.specs.Prelude.{find, option_map}
use Rattle.std.specs.List.{position, position_or_len}
use Rattle.std.proofs.lemmas.Bool.{cases_Bool, ltb-true}
use Rattle.std.proofs.lemmas.List.Folds.{find_at}
use Rattle.std.proofs.lemmas.Option.{slice_get-get_or, none-some}
use Rattle.turn_relay_tries.specs.Tasks.{after_giving, is_new, next_task, task_in}
use Rattle.turn_relay_tries.specs.TasksState.{TasksState}
use Rattle.turn_relay_tries.specs.declared.tasks.OpenTask.{OpenTask}
use Rattle.turn_relay_plan.specs.PlanState.{PlanState}
use Rattle.turn_relay_plan.specs.Polling.{plan_step}
use Rattle.turn_relay_plan.specs.declared.step.PlanStep.{PlanStep}
use Rattle.turn_relay.specs.Next.{after_plan, plan_next}
use Rattle.turn_relay.specs.RelayState.{RelayState}

none-of : {A B : Type 0} (f : A → B) (x : Option A) → option_map f x ≡ None → x ≡ None
none-of f None is = refl
none-of f (Some x) is = cc

-- where none is found, there is no place
none-place : (p : OpenTask → Bool) (xs : List OpenTask) → find p xs ≡ None → position p xs ≡ None
none-place p [] none = refl
none-place p (x ∷ xs) none = elim (cases_Bool (ltb (position_or_len p (x ∷ xs)) (length (x ∷ xs)))) [
  | inl within ↦ absurd (none-some _ (sym none ∙ find_at p (x ∷ xs) ∙ slice_get-get_or (x ∷ xs) _ x (ltb-true _ _ within)))
  | inr past ↦ rw past refl
]

pub untasked : (tasks : TasksState) → next_task tasks ≡ None → after_giving tasks ≡ tasks
untasked tasks none = rw (none-place is_new tasks.rows (none-of task_in (find is_new tasks.rows) none)) refl

pub plan-quiet : (p t : PlanState) → next_task p.tasks ≡ None → t ≡ record p { tasks = after_giving p.tasks } → t ≡ p
plan-quiet p t none given = given ∙ ap (λ (tasks : TasksState). record p { tasks = tasks }) (untasked p.tasks none)

-- without memory nothing has changed
pub plan-kept : (r was : RelayState) (t p : PlanState) → r ≡ was → next_task r.plan.tasks ≡ None
    → t ≡ record r.plan { tasks = after_giving r.plan.tasks } → p ≡ t → record r { plan = p } ≡ was
plan-kept r was t p is none given same = ap (λ (q : PlanState). record r { plan = q }) (same ∙ plan-quiet r.plan t none given) ∙ is

-- it is asked for its next step
pub plan-polled : (others : Option ℕ) (now : ℕ) (r was : RelayState) (t p : PlanState) (step : PlanStep) → r ≡ was
    → next_task r.plan.tasks ≡ None → t ≡ record r.plan { tasks = after_giving r.plan.tasks } → step ≡ (plan_step now t).0
    → p ≡ (plan_step now t).1 → after_plan others now step (record r { plan = p }) ≡ plan_next others now was
plan-polled others now r was t p step is none given steps after =
    let same : t ≡ r.plan = plan-quiet r.plan t none given in
    let first : after_plan others now step (record r { plan = p }) ≡ plan_next others now r = rw (none, steps, after, same) refl in
    first ∙ ap (λ (s : RelayState). plan_next others now s) is
