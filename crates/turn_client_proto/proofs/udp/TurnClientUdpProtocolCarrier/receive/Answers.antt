use Rattle.std.proofs.Common.{◌≡◌, ◌∙◌, ℕ, List, [], not, true, ap, refl, subst, sym}
use Rattle.turn_client_api.specs.Memory.{packet_takes_memory}
use Rattle.turn_client_api.specs.Payloads.{Outcome, datagram_step}
use Rattle.turn_client_api.specs.State.{State}
use Rattle.turn_client_core.specs.ProtocolRecv.{outcome_in}
use Rattle.turn_client_proto.proofs.UdpLemmas.{datagram-left, datagram-memory, datagram-said, datagram-takes, own-datagram, without-streams}
use Rattle.turn_client_proto.proofs.udp.TurnClientUdpProtocolCarrier.receive.Goals as goal
use Rattle.turn_client_proto.proofs.udp.TurnClientUdpProtocolCarrier.receive.Goals.{in-Err, in-Ok}

-- the control machine processes the datagram, and no stream is beside it

abbrev without_streams : State → State
without_streams s = record s { streams = [] }

pub returns-clause-answer : goal.returns-clause-answer
returns-clause-answer g c =
    let packet = c.args.transmit in
    let bytes = g.T.AsSlice.items packet.payload in
    let was = c.deref_mut.result.now in
    let view = ap without_streams c.deref_mut.ensures.value ∙ c.self.view_is in
    let led = without-streams view c.datagram.new.self in
    let is = own-datagram packet.transport packet.from packet.to bytes c.args.self.now c.args.now c.requires.fit.carrier (sym c.is_own.ensures ∙ c.if-not-is_own.false) in
    elim c.match-datagram.branch [
      | in-Ok w ↦
          let said = subst (λ (b : List ℕ). outcome_in b w.in-Ok.outcome ≡ (datagram_step b c.args.now was).0) c.as_slice.ensures w.in-Ok.ensures.answer in
          rw w.result-is (w.lent.ensures.outcome ∙ (datagram-said led bytes (outcome_in bytes w.in-Ok.outcome) c.args.now said ∙ ap (λ (r : Outcome × State). r.0) (sym is)))
      | in-Err w ↦ rw w.result-is tt
    ]

pub returns-clause-after : goal.returns-clause-after
returns-clause-after g c =
    let packet = c.args.transmit in
    let bytes = g.T.AsSlice.items packet.payload in
    let was = c.deref_mut.result.now in
    let view = ap without_streams c.deref_mut.ensures.value ∙ c.self.view_is in
    let t = c.datagram.new.self in
    let is = own-datagram packet.transport packet.from packet.to bytes c.args.self.now c.args.now c.requires.fit.carrier (sym c.is_own.ensures ∙ c.if-not-is_own.false) in
    elim c.match-datagram.branch [
      | in-Ok w ↦
          let left = subst (λ (b : List ℕ). t ≡ (datagram_step b c.args.now was).1) c.as_slice.ensures w.in-Ok.ensures.after in
          rw w.result-is (datagram-left (without-streams view t) bytes c.args.now left ∙ ap (λ (r : Outcome × State). r.1) (sym is))
      | in-Err w ↦ rw w.result-is tt
    ]

pub returns-clause-free : goal.returns-clause-free
returns-clause-free g c =
    let packet = c.args.transmit in
    let bytes = g.T.AsSlice.items packet.payload in
    let was = c.deref_mut.result.now in
    let view = ap without_streams c.deref_mut.ensures.value ∙ c.self.view_is in
    let takes_none = datagram-takes packet.transport packet.from packet.to bytes c.args.self.now c.requires.fit.carrier (sym c.is_own.ensures ∙ c.if-not-is_own.false) in
    elim c.match-datagram.branch [
      | in-Ok w ↦ rw w.result-is (λ takes. refl)
      | in-Err w ↦
          let wanted = subst (λ (b : List ℕ). packet_takes_memory b was ≡ true) c.as_slice.ensures w.in-Err.ensures.wanted in
          rw w.result-is (λ takes. sym (ap not (datagram-memory (without-streams view c.datagram.new.self) bytes wanted)) ∙ (sym takes_none ∙ takes))
    ]
