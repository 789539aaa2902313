use Rattle.turn_client_laws.proofs.Common.{◌≡◌, ◌∙◌, None, ap, false, inl, inr, subst, IfOk, IsSome, OnErr}
use Rattle.turn_client_laws.proofs.Machine.{is_paused, next_queued, State}
use Rattle.turn_client_core.specs.Outgoing.{Outgoing}
use Rattle.turn_client_core.specs.Sending.{waiting_step}
use Rattle.turn_client_core.specs.Wanted.{SendWantsMemory}
use Rattle.turn_client_core.specs.contracts.protocol.TurnClientProtocol.{the_view}
use Rattle.turn_client_core.proofs.time.TransmitLemmas.{Packet, resend-due, resend-none, resends-first, sent_or, transmit-wanted}
use Rattle.turn_client_core.proofs.calls.AskLemmas.{with_outbox}
use Rattle.turn_client_core.proofs.ResultLemmas.{on-both, on-err}
use Rattle.turn_client_core.proofs.protocol.TurnClientProtocol.next_packet.Goals as goal

pub returns-in-Some-clause-step : goal.returns-in-Some-clause-step
returns-in-Some-clause-step c =
    let s = the_view c.self.inside in
    let o = c.self.inside.outbox in
    rw (← c.self.view_is)
    (ap (sent_or (waiting_step c.args.now) s) (rw c.in-Some.is at c.in_ok-packet.ensures.step) ∙ resends-first c.args.now s o c.self.invariant.times)

pub returns-in-None-clause-step : goal.returns-in-None-clause-step
returns-in-None-clause-step c =
    let s = the_view c.self.inside in
    let sent =
    ap (sent_or (waiting_step c.args.now) s) (rw c.in-None.is at c.in_ok-packet.ensures.step)
    ∙ resends-first c.args.now s c.self.inside.outbox c.self.invariant.times in
    rw (← c.self.view_is)
    (subst (λ (r : Packet × State). IfOk c.send_waiting.result (λ packet. ◌≡◌ {A = Packet × State} (packet, c.send_waiting.new.self) r))
    sent c.send_waiting.ensures.step)

pub returns-in_err-packet-clause-free : goal.returns-in_err-packet-clause-free
returns-in_err-packet-clause-free c =
    let s = the_view c.self.inside in
    let o = c.self.inside.outbox in
    rw (← c.self.view_is) (on-err _ (transmit-wanted c.args.now s o c.self.invariant.times c.in_err-packet.ensures.free))

pub returns-in-None-clause-free : goal.returns-in-None-clause-free
returns-in-None-clause-free c =
    let s = the_view c.self.inside in
    let sent =
    ap (sent_or (waiting_step c.args.now) s) (rw c.in-None.is at c.in_ok-packet.ensures.step)
    ∙ resends-first c.args.now s c.self.inside.outbox c.self.invariant.times in
    rw (← c.self.view_is) (subst (λ (r : Packet × State). OnErr c.send_waiting.result (IsSome r.0)) sent c.send_waiting.ensures.free)

pub returns-in_err-packet-clause-wanted : goal.returns-in_err-packet-clause-wanted
returns-in_err-packet-clause-wanted c =
    let s = the_view c.self.inside in
    let due : SendWantsMemory c.args.now s = inl (resend-due c.args.now s c.self.inside.outbox c.self.invariant.times c.in_err-packet.ensures.free) in
    rw (← c.self.view_is) (on-err _ due)

pub returns-in-None-clause-wanted : goal.returns-in-None-clause-wanted
returns-in-None-clause-wanted c =
    let s = the_view c.self.inside in
    let r = c.send_waiting.result in
    let same = resend-none c.args.now c.self.inside.outbox _ (rw c.in-None.is at c.in_ok-packet.ensures.step) in
    let running : OnErr r (is_paused c.args.now s ≡ false) =
    subst (λ (o : Outgoing). OnErr r (is_paused c.args.now (with_outbox o s) ≡ false)) same c.send_waiting.ensures.running in
    let none : OnErr r (next_queued c.args.now s ≡ None) =
    subst (λ (o : Outgoing). OnErr r (next_queued c.args.now (with_outbox o s) ≡ None)) same c.send_waiting.ensures.wanted in
    let both : OnErr r (SendWantsMemory c.args.now s) = on-both r (λ p q. inr (p, q)) running none in
    rw (← c.self.view_is) both
