-- What is due next, from what each part of a relay says.
use Rattle.std.proofs.Common.{◌≡◌, ℕ, true, false, List, Option, Some, None, inl, inr, refl, subst, sym}
use Rattle.turn_session_path.specs.PathDue.{sooner}
use Rattle.turn_relay_tries.specs.Wanted.{due_in}
use Rattle.turn_relay_tries.specs.declared.causes.Cause.{Cause}
use Rattle.turn_relay_course.specs.declared.course.Phase.{Phase}
use Rattle.turn_relay_course.specs.declared.course.Phase.TheVariants as At
use Rattle.turn_relay_lives.specs.LifeSteps.{LivesFail, LivesNext}
use Rattle.turn_relay_lives.specs.LiveState.{LiveState}
use Rattle.turn_relay_lives.specs.declared.step.LifeStep.{LifeStep}
use Rattle.turn_relay_lives.specs.declared.step.LifeStep.TheVariants as Step
use Rattle.turn_relay.specs.Finishing.{finish_step}
use Rattle.turn_relay.specs.Next.{JobFails, JobLeads, NextFails, NextFailsBy, Nexts, NextsBy, job_step}
use Rattle.turn_relay.specs.Next.{LivesLead, LivesLeadFails, OpenFails, OpenNext, OwnFailsIn, OwnNext, OwnNextIn}
use Rattle.turn_relay.specs.Next.{StepLeads, plan_next, with_lives}
use Rattle.turn_relay.specs.RelayState.{RelayState, is_open_in}
use Rattle.turn_relay.specs.Restoring.{Restores}
use Rattle.turn_relay.specs.Taking.{taken_step}
use Rattle.turn_relay.specs.declared.due.RelayDue.{RelayDue}
use Rattle.turn_relay.specs.declared.events.RelayEvent.{RelayEvent}
use Rattle.turn_relay.specs.declared.job.Job.{Job}

-- ---- the call

module _ (now : ℕ) (was r : RelayState) (quiet : was.report ≡ None) where
  next-job : (due : RelayDue) → JobLeads was.job now was r due → Nexts now was r due
  next-job due leads = subst (λ (o : Option RelayEvent). NextsBy o now was r due) (sym quiet) leads

  pub next-does : (job : Job) (due : RelayDue) → was.job ≡ Some job → (due, r) ≡ job_step job now was → Nexts now was r due
  next-does job due is same = next-job due (subst (λ (j : Option Job). JobLeads j now was r due) (sym is) same)

  pub next-lives : (due : RelayDue) → was.job ≡ None → LivesLead now was r due → Nexts now was r due
  next-lives due job leads = next-job due (subst (λ (j : Option Job). JobLeads j now was r due) (sym job) leads)

  pub does-later : (job : Job) → was.job ≡ Some job → JobFails job was r → NextFails now was r
  does-later job is later = (quiet, subst (λ (j : Option Job). NextFailsBy j now was r) (sym is) later)

  pub lives-later : was.job ≡ None → LivesLeadFails now was r → NextFails now was r
  lives-later job later = (quiet, subst (λ (j : Option Job). NextFailsBy j now was r) (sym job) later)

-- ---- the sessions

-- a step that is no wait
pub step-leads : (step : LifeStep) (now : ℕ) (t r : RelayState) (due : RelayDue) → ((time : Option ℕ) → step ≡ Step.Wait time → ⊥)
    → (due, r) ≡ taken_step step now t → StepLeads step now t r due
step-leads (Step.Connection link answer) now t r due other same = same
step-leads (Step.Packet link packet) now t r due other same = same
step-leads (Step.Event link event) now t r due other same = same
step-leads Step.Again now t r due other same = same
step-leads (Step.Closed link) now t r due other same = same
step-leads (Step.Wait time) now t r due other same = absurd (other time refl)

module _ (now : ℕ) (u was r : RelayState) (is : u ≡ was) (lives : List LiveState) where
  pub leads-own : (time : Option ℕ) (due : RelayDue) → LivesNext now u.lives lives (Step.Wait time)
      → OwnNext time now (with_lives lives u) r due → LivesLead now was r due
  leads-own time due next own = subst (λ (w : RelayState). LivesLead now w r due) is (lives, Step.Wait time, next, own)

  pub leads-step : (step : LifeStep) (due : RelayDue) → LivesNext now u.lives lives step
      → ((time : Option ℕ) → step ≡ Step.Wait time → ⊥) → (due, r) ≡ taken_step step now (with_lives lives u) → LivesLead now was r due
  leads-step step due next other same =
      subst (λ (w : RelayState). LivesLead now w r due) is
      (lives, step, next, step-leads step now (with_lives lives u) r due other same)

  pub lives-fail : LivesFail now u.lives lives → r ≡ with_lives lives u → LivesLeadFails now was r
  lives-fail fails same = subst (λ (w : RelayState). LivesLeadFails now w r) is (inl (lives, fails, same))

  pub own-fails : (time : Option ℕ) → LivesNext now u.lives lives (Step.Wait time)
      → OwnFailsIn u.plan.course.phase now (with_lives lives u) r → LivesLeadFails now was r
  own-fails time next fails = subst (λ (w : RelayState). LivesLeadFails now w r) is (inr (lives, time, next, fails))

-- ---- the relay itself

module _ (lives : Option ℕ) (now : ℕ) (was r : RelayState) where
  pub own-over : (cause : Cause) (due : RelayDue) → was.plan.course.phase ≡ At.Over cause → (due, r) ≡ finish_step cause lives now was
      → OwnNext lives now was r due
  own-over cause due phase same = subst (λ (p : Phase). OwnNextIn p lives now was r due) (sym phase) same

  own-open-in : (phase : Phase) (due : RelayDue) → is_open_in phase ≡ true → OpenNext lives now was r due
      → OwnNextIn phase lives now was r due
  own-open-in At.Restoring due opened next = next
  own-open-in (At.Up since) due opened next = next
  own-open-in (At.Over cause) due opened next = cc
  own-open-in At.Asking due opened next = cc
  own-open-in (At.Trying until) due opened next = cc
  own-open-in At.Resting due opened next = cc

  own-plan-in : (phase : Phase) (due : RelayDue) → ((cause : Cause) → phase ≡ At.Over cause → ⊥) → is_open_in phase ≡ false
      → (due, r) ≡ plan_next lives now was → OwnNextIn phase lives now was r due
  own-plan-in At.Restoring due other shut same = cc
  own-plan-in (At.Up since) due other shut same = cc
  own-plan-in (At.Over cause) due other shut same = absurd (other cause refl)
  own-plan-in At.Asking due other shut same = same
  own-plan-in (At.Trying until) due other shut same = same
  own-plan-in At.Resting due other shut same = same

  pub own-open : (due : RelayDue) → is_open_in was.plan.course.phase ≡ true → OpenNext lives now was r due → OwnNext lives now was r due
  own-open due opened next = own-open-in was.plan.course.phase due opened next

  pub own-plan : (due : RelayDue) → ((cause : Cause) → was.plan.course.phase ≡ At.Over cause → ⊥) → is_open_in was.plan.course.phase ≡ false
      → (due, r) ≡ plan_next lives now was → OwnNext lives now was r due
  own-plan due other shut same = own-plan-in was.plan.course.phase due other shut same

module _ (now : ℕ) (was r : RelayState) where
  own-fails-open-in : (phase : Phase) → is_open_in phase ≡ true → OpenFails now was r → OwnFailsIn phase now was r
  own-fails-open-in At.Restoring opened fails = fails
  own-fails-open-in (At.Up since) opened fails = fails
  own-fails-open-in (At.Over cause) opened fails = cc
  own-fails-open-in At.Asking opened fails = cc
  own-fails-open-in (At.Trying until) opened fails = cc
  own-fails-open-in At.Resting opened fails = cc

  own-fails-plan-in : (phase : Phase) → ((cause : Cause) → phase ≡ At.Over cause → ⊥) → is_open_in phase ≡ false → r ≡ was
      → OwnFailsIn phase now was r
  own-fails-plan-in At.Restoring other shut same = cc
  own-fails-plan-in (At.Up since) other shut same = cc
  own-fails-plan-in (At.Over cause) other shut same = other cause refl
  own-fails-plan-in At.Asking other shut same = same
  own-fails-plan-in (At.Trying until) other shut same = same
  own-fails-plan-in At.Resting other shut same = same

  pub own-fails-open : is_open_in was.plan.course.phase ≡ true → OpenFails now was r → OwnFailsIn was.plan.course.phase now was r
  own-fails-open opened fails = own-fails-open-in was.plan.course.phase opened fails

  pub own-fails-plan : ((cause : Cause) → was.plan.course.phase ≡ At.Over cause → ⊥) → is_open_in was.plan.course.phase ≡ false → r ≡ was
      → OwnFailsIn was.plan.course.phase now was r
  own-fails-plan other shut same = own-fails-plan-in was.plan.course.phase other shut same

-- ---- a relay with an address

module _ (lives : Option ℕ) (now : ℕ) (was t r : RelayState) where
  pub open-first : (due : RelayDue) → Restores now was t (Some due) → r ≡ t → OpenNext lives now was r due
  open-first due restores same = (t, Some due, restores, (refl, same))

  pub open-plan : (due : RelayDue) → Restores now was t None
      → (due, r) ≡ plan_next (sooner lives (due_in t.wanted.session t.wanted.keys)) now t
      → OpenNext lives now was r due
  open-plan due restores same = (t, None, restores, same)
