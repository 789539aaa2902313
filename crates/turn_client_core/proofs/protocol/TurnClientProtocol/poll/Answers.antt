use Rattle.turn_client_laws.proofs.Common.{◌≡◌, ◌∙◌, ℕ, ◌≤◌, ◌^◌, subst, sym}
use Rattle.turn_client_laws.proofs.Machine.{IsTimely, poll_step, State, TurnPollRet}
use Rattle.turn_client_laws.proofs.Laws.{steady-FitsPhaseForPoll, poll-timely, GrantsHaveAllocations, FitsPhase}
use Rattle.turn_client_core.proofs.time.PollLemmas.{offers-is, pending-is, times-is}
use Rattle.turn_client_core.proofs.protocol.TurnClientProtocol.poll.Goals as goal

timely : (now : ℕ) (s : State) (r : TurnPollRet × State) → now ≤ 2 ^ 62 → r ≡ poll_step now s → FitsPhase s → GrantsHaveAllocations s → IsTimely r.0 now s r.1
timely now s r range is steady in_allocations =
    subst (λ (r : TurnPollRet × State). IsTimely r.0 now s r.1) (sym is)
    (poll-timely now s (steady-FitsPhaseForPoll s steady) in_allocations.0 range)

pub returns-then-has_pending-clause-alarm : goal.returns-then-has_pending-clause-alarm
returns-then-has_pending-clause-alarm c =
    timely c.args.now c.args.self.now _ c.requires.now_in_range
    (pending-is c.args.now c.args.self.now (sym c.has_pending.ensures ∙ c.if-has_pending.true))

pub returns-in-Some-clause-alarm : goal.returns-in-Some-clause-alarm
returns-in-Some-clause-alarm c =
    timely c.args.now c.args.self.now _ c.requires.now_in_range
    (c.report_offer.ensures
    ∙ offers-is c.args.now c.args.self.now c.in-Some.offer (sym c.has_pending.ensures ∙ c.if-has_pending.false) (sym c.next_offer.ensures ∙ c.in-Some.is))

pub returns-clause-alarm : goal.returns-clause-alarm
returns-clause-alarm c =
    timely c.args.now c.args.self.now _ c.requires.now_in_range
    (c.poll_time.ensures
    ∙ times-is c.args.now c.args.self.now (sym c.has_pending.ensures ∙ c.if-has_pending.false) (sym c.next_offer.ensures ∙ c.in_default.is))
