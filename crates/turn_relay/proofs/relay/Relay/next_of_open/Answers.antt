use Rattle.std.proofs.Common.{◌≡◌, ◌∙◌, ℕ, Option, ap, inl, refl}
use Rattle.turn_session.proofs.FramingLemmas.{on-err, on-ok}
use Rattle.turn_session_path.specs.PathDue.{sooner}
use Rattle.turn_relay_tries.specs.Wanted.{due_in}
use Rattle.turn_relay.specs.Next.{plan_next}
use Rattle.turn_relay.proofs.NextLemmas.{open-first, open-plan}
use Rattle.turn_relay.proofs.RestoreLemmas.{nothing-restored}
use Rattle.turn_relay.proofs.relay.Relay.next_of_open.Goals as goal

pub returns-in-Some-clause-due : goal.returns-in-Some-clause-due
returns-in-Some-clause-due g c =
    open-first c.args.lives c.args.now c.args.self.now c.restore.new.self _ _ (rw c.in-Some.is at c.in_ok-due.ensures.due) refl

pub returns-in-None-clause-due : goal.returns-in-None-clause-due
returns-in-None-clause-due g c =
    let restored = c.restore.new.self in
    let restores = rw c.in-None.is at c.in_ok-due.ensures.due in
    let requests : c.due-requests.result ≡ due_in restored.wanted.session restored.wanted.keys = rw (← c.self.view_is) c.due-requests.ensures in
    let others = c.sooner.ensures ∙ ap (λ (o : Option ℕ). sooner c.args.lives o) requests in
    on-ok c.next_of_plan.result c.next_of_plan.ensures.due
    (λ due same. open-plan c.args.lives c.args.now c.args.self.now restored _ due restores
    (same ∙ ap (λ (o : Option ℕ). plan_next o c.args.now restored) others))

pub returns-in-None-clause-no_memory : goal.returns-in-None-clause-no_memory
returns-in-None-clause-no_memory g c =
    let restores = rw c.in-None.is at c.in_ok-due.ensures.due in
    on-err c.next_of_plan.result c.next_of_plan.ensures.no_memory
    (λ same. inl (same ∙ nothing-restored c.args.now c.args.self.now c.restore.new.self restores))
