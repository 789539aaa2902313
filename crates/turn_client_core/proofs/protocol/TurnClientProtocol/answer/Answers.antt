use Rattle.turn_client_laws.proofs.Common.{◌∙◌, ap, sym, is_some}
use Rattle.turn_client_laws.proofs.Machine.{next_wakeup, State}
use Rattle.turn_client_api.specs.declared.poll.TurnPollRet.TheVariants as Do
use Rattle.turn_client_grants.specs.Ledger.{with_ledger}
use Rattle.turn_client_core.specs.Polled.{is_without_allocation}
use Rattle.turn_client_core.specs.contracts.protocol.TurnClientProtocol.{the_view}
use Rattle.turn_client_core.proofs.time.PollLemmas.{close-is, let_go-is, none_closed, waits-is}
use Rattle.turn_client_core.proofs.protocol.TurnClientProtocol.answer.Goals as goal

pub returns-in-Some : goal.returns-in-Some
returns-in-Some c =
    let s = the_view c.self.inside in
    rw (c.remote_addr.ensures, ← c.self.view_is, c.in-Some.ensures.state s)
    (close-is c.args.given.now c.args.now s c.in-Some.local_addr c.next_close.new.self.closes c.in-Some.ensures.first)

pub returns-then-is_without_allocation : goal.returns-then-is_without_allocation
returns-then-is_without_allocation c =
    let s = the_view c.self.inside in
    let none = none_closed s (with_ledger c.next_close.new.self s) c.in_default.ensures.first (c.in_default.ensures.state s) in
    rw (← c.self.view_is, none.1) (let_go-is c.args.given.now c.args.now s none.0 (ap is_without_allocation (sym none.1) ∙ (sym c.is_without_allocation.ensures ∙ c.if-is_without_allocation.true)))

pub returns : goal.returns
returns c =
    let s = the_view c.self.inside in
    let none = none_closed s (with_ledger c.next_close.new.self s) c.in_default.ensures.first (c.in_default.ensures.state s) in
    let stays = ap is_without_allocation (sym none.1) ∙ (sym c.is_without_allocation.ensures ∙ c.if-is_without_allocation.false) in
    rw (c.next_wakeup.ensures, c.is_some.ensures, ← c.self.view_is)
    (ap (λ (t : State). (Do.WaitUntil (next_wakeup (is_some c.args.given.now) c.args.now t), t)) none.1 ∙ waits-is c.args.given.now c.args.now s none.0 stays)
