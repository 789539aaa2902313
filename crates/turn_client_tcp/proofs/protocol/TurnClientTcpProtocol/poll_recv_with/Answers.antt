use Rattle.std.proofs.Common.{◌≡◌, ◌∙◌, Option, ap, refl, subst, sym}
use Rattle.turn_stun.specs.declared.transport.TransportType.{TransportType}
use Rattle.turn_client_api.specs.Payloads.{Payload}
use Rattle.turn_client_api.specs.State.{State}
use Rattle.turn_client_streams.specs.Held.{control_passed}
use Rattle.turn_client_tcp.specs.contracts.protocol.TurnClientTcpProtocol.{the_view}
use Rattle.turn_client_tcp.proofs.ControlDataLemmas.{data-given}
use Rattle.turn_client_tcp.proofs.protocol.TurnClientTcpProtocol.poll_recv_with.Goals as goal

pub returns-clause-answer : goal.returns-clause-answer
returns-clause-answer g c =
    let frame = c.in-Some.frame in
    let given = data-given c.args.now c.args.self.now _ (sym c.in-Some.ensures.payload) in
    let transport : c.allocation_transport.result ≡ c.args.self.now.config.allocation_transport =
    c.allocation_transport.ensures
    ∙ (ap (λ (s : State). s.config.allocation_transport) c.deref.ensures ∙ ap (λ (s : State). s.config.allocation_transport) c.self.view_is) in
    rw (ap (λ (p : Option Payload × State). p.0) given)
    (frame.payload, refl, subst (λ (t : TransportType). g.F.FnOnce.post c.args.read (t, (frame.peer.now, (frame.payload, tt))) c.read-given.result) transport c.read-given.ensures)

pub returns-clause-after : goal.returns-clause-after
returns-clause-after g c =
    c.pass_control.ensures (the_view c.self.inside)
    ∙ (ap control_passed c.self.view_is ∙ sym (ap (λ (p : Option Payload × State). p.1) (data-given c.args.now c.args.self.now _ (sym c.in-Some.ensures.payload))))
