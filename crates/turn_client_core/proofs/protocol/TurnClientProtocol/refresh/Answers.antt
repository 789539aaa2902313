use Rattle.turn_client_laws.proofs.Common.{◌≡◌, ◌∙◌, ap, List, refl, subst, sym, ℕ, IfOk, IsSome, OnErr}
use Rattle.turn_client_laws.proofs.Machine.{request_for, State, refresh_step, sent_at_once}
use Rattle.turn_client_core.proofs.ResultLemmas.{on-err}
use Rattle.turn_client_core.proofs.time.TransmitLemmas.{Packet, refresh-none, refresh-some}
use Rattle.turn_client_core.proofs.protocol.TurnClientProtocol.refresh.Goals as goal

pub returns-in_default-clause-step : goal.returns-in_default-clause-step
returns-in_default-clause-step c =
    let s = c.args.self.now in
    let grants = c.table.ensures.grants ∙ ap (λ (t : State). t.grants) c.self.view_is in
    let listed = c.table.ensures.listed ∙ ap (λ (t : State). t.listed) c.self.view_is in
    let ahead = c.refresh_ahead-ahead.ensures ∙ ap (λ (t : State). t.config.refresh_ahead) c.self.view_is in
    let none = refresh-none c.args.now s (rw (ahead, grants, listed) at (sym (c.first_refresh.ensures s) ∙ c.in_default.is)) in
    subst (λ (r : Packet × State). IfOk c.keep_alive.result (λ packet. ◌≡◌ {A = Packet × State} (packet, c.keep_alive.new.self) r)) none c.keep_alive.ensures.step

pub returns-in_default-clause-free : goal.returns-in_default-clause-free
returns-in_default-clause-free c =
    let s = c.args.self.now in
    let grants = c.table.ensures.grants ∙ ap (λ (t : State). t.grants) c.self.view_is in
    let listed = c.table.ensures.listed ∙ ap (λ (t : State). t.listed) c.self.view_is in
    let ahead = c.refresh_ahead-ahead.ensures ∙ ap (λ (t : State). t.config.refresh_ahead) c.self.view_is in
    let none = refresh-none c.args.now s (rw (ahead, grants, listed) at (sym (c.first_refresh.ensures s) ∙ c.in_default.is)) in
    subst (λ (r : Packet × State). OnErr c.keep_alive.result (IsSome r.0)) none c.keep_alive.ensures.free

pub returns-clause-step : goal.returns-clause-step
returns-clause-step c =
    let s = c.args.self.now in
    let purpose = c.in-Some.purpose in
    let grants = c.table.ensures.grants ∙ ap (λ (t : State). t.grants) c.self.view_is in
    let listed = c.table.ensures.listed ∙ ap (λ (t : State). t.listed) c.self.view_is in
    let ahead = c.refresh_ahead-ahead.ensures ∙ ap (λ (t : State). t.config.refresh_ahead) c.self.view_is in
    let found = rw (ahead, grants, listed) at (sym (c.first_refresh.ensures s) ∙ c.in-Some.is) in
    let text = c.in_ok-text.ensures ∙ ap (λ (n : ℕ). request_for s purpose n) c.fresh_id-id.ensures.id in
    c.in_ok-packet.ensures.step
    ∙ (ap (λ (t : List ℕ). sent_at_once t purpose c.args.now s) text ∙ sym (refresh-some c.args.now s purpose found))

pub returns-in_err-text-clause-free : goal.returns-in_err-text-clause-free
returns-in_err-text-clause-free c =
    let s = c.args.self.now in
    let grants = c.table.ensures.grants ∙ ap (λ (t : State). t.grants) c.self.view_is in
    let listed = c.table.ensures.listed ∙ ap (λ (t : State). t.listed) c.self.view_is in
    let ahead = c.refresh_ahead-ahead.ensures ∙ ap (λ (t : State). t.config.refresh_ahead) c.self.view_is in
    let found = rw (ahead, grants, listed) at (sym (c.first_refresh.ensures s) ∙ c.in-Some.is) in
    let wanted : IsSome (refresh_step c.args.now s).0 = rw (refresh-some c.args.now s c.in-Some.purpose found) refl in
    on-err _ wanted

pub returns-in_err-packet-clause-free : goal.returns-in_err-packet-clause-free
returns-in_err-packet-clause-free c =
    let s = c.args.self.now in
    let grants = c.table.ensures.grants ∙ ap (λ (t : State). t.grants) c.self.view_is in
    let listed = c.table.ensures.listed ∙ ap (λ (t : State). t.listed) c.self.view_is in
    let ahead = c.refresh_ahead-ahead.ensures ∙ ap (λ (t : State). t.config.refresh_ahead) c.self.view_is in
    let found = rw (ahead, grants, listed) at (sym (c.first_refresh.ensures s) ∙ c.in-Some.is) in
    let wanted : IsSome (refresh_step c.args.now s).0 = rw (refresh-some c.args.now s c.in-Some.purpose found) refl in
    on-err _ wanted
