-- Properties of the loop after some steps.
use Rattle.turn_client_laws.proofs.Common.{◌≡◌, ◌∙◌, ℕ, zero, suc, ◌+◌, ◌-◌, ◌<◌, List, add-one, ap, arith, inl, inr, refl, subst, suc-add, sym, zero-add, OnErr, Result, Ok, Err}
use Rattle.turn_client_laws.proofs.Machine.{State}
use Rattle.turn_driver.specs.Given.{Given}
use Rattle.turn_driver.specs.Next.{Answer, Rests, NextEnds, next_step}
use Rattle.turn_driver.specs.Driver.{Draws, DriveState, going, once_more, drive_steps, with_answer}
use Rattle.turn_driver.specs.declared.task.Rest.{Rest}
use Rattle.turn_driver.specs.declared.task.Rest.TheVariants.{Until, Now, Ended}

-- if work may be left, the next answer is appended to what was returned so far
pub steps-going : (n now : ℕ) (start : DriveState) (given : List Given) (s t : State) (answer : Answer) → drive_steps n now start ≡ going given s → answer ≡ (next_step now s).0
    → t ≡ (next_step now s).1 → drive_steps (n + 1) now start ≡ with_answer given (answer, t)
unfolding drive_steps
steps-going n now start given s t answer e reported after =
    rw (add-one n) (ap (once_more now) e ∙ sym (ap (λ (a : Answer). with_answer given (a, t)) reported ∙ ap (λ (u : State). with_answer given ((next_step now s).0, u)) after))

-- once there is nothing to do, the client is not polled again
once_more-rests : (now : ℕ) (given : List Given) (rest : Rest) (s : State) → (rest ≡ Now → ⊥)
    → once_more now (record { given = given; rest = rest; client = s }) ≡ record { given = given; rest = rest; client = s }
once_more-rests now given (Until time) s other = refl
once_more-rests now given Now s other = absurd (other refl)
once_more-rests now given Ended s other = refl

steps-rests : (j n now : ℕ) (start : DriveState) (given : List Given) (rest : Rest) (s : State) → (rest ≡ Now → ⊥) → drive_steps n now start ≡ record { given = given; rest = rest; client = s }
    → drive_steps (j + n) now start ≡ record { given = given; rest = rest; client = s }
unfolding drive_steps
steps-rests zero n now start given rest s other e = rw (zero-add n) e
steps-rests (suc j) n now start given rest s other e = rw (suc-add j n)
    (ap (once_more now) (steps-rests j n now start given rest s other e) ∙ once_more-rests now given rest s other)

-- the result then stays the same, up to the maximum number of polls
pub steps-rest : (n most now : ℕ) (start : DriveState) (given : List Given) (rest : Rest) (s t : State) → n < most → (rest ≡ Now → ⊥) → drive_steps n now start ≡ going given s
    → Rests rest ≡ (next_step now s).0 → t ≡ (next_step now s).1 → record { given = given; rest = rest; client = t } ≡ drive_steps most now start
steps-rest n most now start given rest s t less other e reported after =
    let ends : drive_steps (n + 1) now start ≡ record { given = given; rest = rest; client = t } = steps-going n now start given s t (Rests rest) e reported after in
    let is : (most - (n + 1)) + (n + 1) ≡ most = omega arith in
    sym (subst (λ (m : ℕ). drive_steps m now start ≡ record { given = given; rest = rest; client = t }) is (steps-rests (most - (n + 1)) (n + 1) now start given rest t other ends))

-- ---- allocation failure

pub on_err : {T E P : Type 0} (r : Result T E) → P → OnErr r P
on_err (Ok x) p = tt
on_err (Err e) p = p

pub stops-list : (n most now : ℕ) (start : DriveState) (given is : List Given) (s t : State) → n < most → drive_steps n now start ≡ going given s → is ≡ given → t ≡ s
    → Draws most now start (going is t)
stops-list n most now start given is s t less e same stays =
    (n, less, (ap (λ (u : DriveState). u.rest) e, same ∙ sym (ap (λ (u : DriveState). u.given) e), inl (stays ∙ sym (ap (λ (u : DriveState). u.client) e))))

pub stops-client : (n most now : ℕ) (start : DriveState) (given is : List Given) (s t : State) → n < most → drive_steps n now start ≡ going given s → is ≡ given → NextEnds now s t
    → Draws most now start (going is t)
stops-client n most now start given is s t less e same ends =
    (n, less, (ap (λ (u : DriveState). u.rest) e, same ∙ sym (ap (λ (u : DriveState). u.given) e), inr (subst (λ (u : State). NextEnds now u t) (sym (ap (λ (u : DriveState). u.client) e)) ends)))
