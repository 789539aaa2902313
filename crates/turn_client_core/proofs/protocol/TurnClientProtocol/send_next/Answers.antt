use Rattle.turn_client_laws.proofs.Common.{◌≡◌, ◌∙◌, None, false, refl, subst, sym, true, IfOk, IsSome, OnErr}
use Rattle.turn_client_laws.proofs.Machine.{next_queued, refreshes_first, State}
use Rattle.turn_client_core.proofs.time.LeftLemmas.{none-placed, place-none, placed-first}
use Rattle.turn_client_core.proofs.time.TransmitLemmas.{Packet}
use Rattle.turn_client_core.proofs.ResultLemmas.{on-err}
use Rattle.turn_client_core.proofs.protocol.TurnClientProtocol.send_next.Goals as goal

pub returns-then-refreshes_first-clause-step : goal.returns-then-refreshes_first-clause-step
returns-then-refreshes_first-clause-step c =
    let first : refreshes_first c.args.now c.args.self.now ≡ true = sym c.refreshes_first-refreshes_first.ensures ∙ c.if-refreshes_first.true in
    rw first c.send_asked.ensures.step

pub returns-then-refreshes_first-clause-free : goal.returns-then-refreshes_first-clause-free
returns-then-refreshes_first-clause-free c =
    let first : refreshes_first c.args.now c.args.self.now ≡ true = sym c.refreshes_first-refreshes_first.ensures ∙ c.if-refreshes_first.true in
    rw first c.send_asked.ensures.free

pub returns-then-refreshes_first-clause-wanted : goal.returns-then-refreshes_first-clause-wanted
returns-then-refreshes_first-clause-wanted c =
    let first : refreshes_first c.args.now c.args.self.now ≡ true = sym c.refreshes_first-refreshes_first.ensures ∙ c.if-refreshes_first.true in
    on-err c.send_asked.result (rw first refl)

pub returns-in-Some-clause-step : goal.returns-in-Some-clause-step
returns-in-Some-clause-step c =
    let later : refreshes_first c.args.now c.args.self.now ≡ false = sym c.refreshes_first-refreshes_first.ensures ∙ c.if-refreshes_first.false in
    c.send_queued.ensures ∙ placed-first c.args.now c.in-Some.place c.args.self.now later (sym c.in-Some.ensures)

pub returns-in-None-clause-step : goal.returns-in-None-clause-step
returns-in-None-clause-step c =
    let asked = none-placed c.args.now c.args.self.now (sym c.in-None.ensures) in
    subst (λ (r : Packet × State). IfOk c.send_asked-in-None.result (λ packet. ◌≡◌ {A = Packet × State} (packet, c.send_asked-in-None.new.self) r)) asked c.send_asked-in-None.ensures.step

pub returns-in-None-clause-free : goal.returns-in-None-clause-free
returns-in-None-clause-free c =
    let asked = none-placed c.args.now c.args.self.now (sym c.in-None.ensures) in
    subst (λ (r : Packet × State). OnErr c.send_asked-in-None.result (IsSome r.0)) asked c.send_asked-in-None.ensures.free

pub returns-in-None-clause-wanted : goal.returns-in-None-clause-wanted
returns-in-None-clause-wanted c =
    let none : next_queued c.args.now c.args.self.now ≡ None = place-none c.args.now c.args.self.now (sym c.in-None.ensures) in
    on-err c.send_asked-in-None.result none
