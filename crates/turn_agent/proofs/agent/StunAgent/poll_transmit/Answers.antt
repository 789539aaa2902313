use Rattle.std.proofs.Common.{◌≡◌, ◌≤◌, Some, None, get_or, sym, ap, ◌∙◌, arith}
use Rattle.std.specs.List.{position}
use Rattle.std.proofs.lemmas.Option.{none-some}
use Rattle.turn_agent.specs.Agent.{is_due}
use Rattle.turn_agent.specs.contracts.agent.StunAgent.{the_view}
use Rattle.turn_agent.proofs.AgentLemmas.{transmit_step-none, transmit_step-sent, same_transmit, is_due-counted, position-IsFirst}
use Rattle.turn_agent.proofs.FrontLemmas.{IsFront-set}
use Rattle.turn_agent.proofs.TransactionLemmas.{AreDistinct-resent, AreIdsOf-resent, length-resent, set-resent}
use Rattle.turn_agent.proofs.agent.StunAgent.poll_transmit.Goals as goal

pub returns-in_default-clause-step : goal.returns-in_default-clause-step
returns-in_default-clause-step c =
    let a = the_view c.self.inside in
    let none : position (is_due a.timers a.transport c.args.now) a.transactions ≡ None = sym (rw c.deref.ensures.value at c.first_due-found.ensures.place) ∙ c.in_default.is in
    rw (← c.self.view_is) (transmit_step-none a c.args.now none)

pub send_again-requires : goal.send_again-requires
send_again-requires c =
    let a = the_view c.self.inside in
    let t = c.index_mut-transaction.result.now in
    let place : position (is_due a.timers a.transport c.args.now) a.transactions ≡ Some c.in-Some.place = sym (rw c.deref.ensures.value at c.first_due-found.ensures.place) ∙ c.in-Some.is in
    let counted = is_due-counted a.timers a.transport c.args.now a.transactions c.in-Some.place t place in
    let same = ap (λ u. u.resends) c.index_mut-transaction.ensures.value in
    omega (arith, counted, same, c.first_due-found.ensures.range)

pub returns-in_err-payload-clause-none : goal.returns-in_err-payload-clause-none
returns-in_err-payload-clause-none c = λ none.
    let a = the_view c.self.inside in
    let place : position (is_due a.timers a.transport c.args.now) a.transactions ≡ Some c.in-Some.place = sym (rw c.deref.ensures.value at c.first_due-found.ensures.place) ∙ c.in-Some.is in
    let first = position-IsFirst (is_due a.timers a.transport c.args.now) a.transactions c.in-Some.place place in
    let none_due = rw (← c.self.view_is) at none in
    absurd (none-some _ (sym none_due ∙ first.found c.index_mut-transaction.result.now))

pub invariant_of-self-2 : goal.invariant_of-self-2
invariant_of-self-2 c =
    let a = the_view c.self.inside in
    let t = c.index_mut-transaction.result.now in
    let place : position (is_due a.timers a.transport c.args.now) a.transactions ≡ Some c.in-Some.place = sym (rw c.deref.ensures.value at c.first_due-found.ensures.place) ∙ c.in-Some.is in
    let first = position-IsFirst (is_due a.timers a.transport c.args.now) a.transactions c.in-Some.place place in
    let changed = set-resent c.args.now a.transactions c.in-Some.place t c.self.invariant.distinct first.within in
    let front = c.first_due-found.result.1 in
    let behind : front.count ≤ c.in-Some.place = rw c.in-Some.is at c.first_due-found.ensures.before in
    let passed = IsFront-set a.timers a.transport a.transactions front c.in-Some.place _ (rw c.deref.ensures.value at c.first_due-found.ensures.front) behind in
    rw (c.in_ok-payload.ensures.ok.1, c.index_mut-transaction.ensures.value, changed)
    (record {
      distinct = AreDistinct-resent _ c.args.now a.transactions c.self.invariant.distinct;
      ids = λ many. AreIdsOf-resent _ c.args.now a.transactions _ (c.self.invariant.ids (rw (length-resent (get_or a.transactions c.in-Some.place t).id c.args.now a.transactions) at many));
      passed = rw (← changed) passed;
      earliest = tt;
    })

pub returns-clause-step : goal.returns-clause-step
returns-clause-step c =
    let a = the_view c.self.inside in
    let t = c.index_mut-transaction.result.now in
    let place : position (is_due a.timers a.transport c.args.now) a.transactions ≡ Some c.in-Some.place = sym (rw c.deref.ensures.value at c.first_due-found.ensures.place) ∙ c.in-Some.is in
    let sent = transmit_step-sent a c.args.now c.in-Some.place t c.self.invariant.distinct place in
    let kept = c.in_ok-payload.ensures.ok in
    let packet = same_transmit c.new.result t.request a.transport a.local t.to (c.new.ensures.payload ∙ kept.0) c.new.ensures.transport c.new.ensures.from (c.new.ensures.to ∙ ap (λ u. u.to) kept.1) in
    rw (packet, kept.1, c.index_mut-transaction.ensures.value, ← c.self.view_is) sent
