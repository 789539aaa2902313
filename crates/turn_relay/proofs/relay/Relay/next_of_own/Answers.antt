use Rattle.std.proofs.Common.{◌≡◌, ◌∙◌, ap, sym}
use Rattle.turn_session.proofs.FramingLemmas.{on-err, on-ok}
use Rattle.turn_relay_course.specs.declared.course.Phase.TheVariants as At
use Rattle.turn_relay.specs.RelayState.{RelayState}
use Rattle.turn_relay.proofs.NextLemmas.{own-fails-open, own-fails-plan, own-open, own-over, own-plan}
use Rattle.turn_relay.proofs.relay.Relay.next_of_own.Goals as goal

pub returns-in-Over-clause-due : goal.returns-in-Over-clause-due
returns-in-Over-clause-due g c =
    let over : c.args.self.now.plan.course.phase ≡ At.Over c.in-Over.cause = rw (← c.self.view_is) (sym c.in-Over.ensures) in
    own-over c.args.lives c.args.now c.args.self.now _ c.in-Over.cause _ over c.finish.ensures

pub returns-then-is_open-clause-due : goal.returns-then-is_open-clause-due
returns-then-is_open-clause-due g c =
    let opened = sym c.is_open.ensures ∙ c.if-is_open.true in
    on-ok c.next_of_open.result c.next_of_open.ensures.due
    (λ due next. own-open c.args.lives c.args.now c.args.self.now _ due opened next)

pub returns-then-is_open-clause-no_memory : goal.returns-then-is_open-clause-no_memory
returns-then-is_open-clause-no_memory g c =
    let opened = sym c.is_open.ensures ∙ c.if-is_open.true in
    on-err c.next_of_open.result c.next_of_open.ensures.no_memory
    (λ fails. own-fails-open c.args.now c.args.self.now _ opened fails)

pub returns-else-is_open-clause-due : goal.returns-else-is_open-clause-due
returns-else-is_open-clause-due g c =
    let shut = sym c.is_open.ensures ∙ c.if-is_open.false in
    let phase = c.phase.ensures ∙ ap (λ (s : RelayState). s.plan.course.phase) c.self.view_is in
    on-ok c.next_of_plan.result c.next_of_plan.ensures.due
    (λ due same. own-plan c.args.lives c.args.now c.args.self.now _ due (λ cause is. c.in_default.not-Over cause (phase ∙ is)) shut same)

pub returns-else-is_open-clause-no_memory : goal.returns-else-is_open-clause-no_memory
returns-else-is_open-clause-no_memory g c =
    let shut = sym c.is_open.ensures ∙ c.if-is_open.false in
    let phase = c.phase.ensures ∙ ap (λ (s : RelayState). s.plan.course.phase) c.self.view_is in
    on-err c.next_of_plan.result c.next_of_plan.ensures.no_memory
    (λ same. own-fails-plan c.args.now c.args.self.now _ (λ cause is. c.in_default.not-Over cause (phase ∙ is)) shut same)
