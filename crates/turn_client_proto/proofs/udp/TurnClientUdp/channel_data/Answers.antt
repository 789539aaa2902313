use Rattle.std.proofs.Common.{◌≡◌, ◌∙◌, ap, subst, sym}
use Rattle.turn_client_api.specs.Payloads.{Ignored, Outcome, channel_sent}
use Rattle.turn_client_api.specs.Receive.{recv_step}
use Rattle.turn_client_api.specs.State.{State}
use Rattle.turn_client_proto.proofs.UdpLemmas.{frame-ignored, own-frame}
use Rattle.turn_client_proto.proofs.udp.TurnClientUdp.channel_data.Goals as goal
use Rattle.turn_client_proto.specs.declared.over.TurnClientOver.TheInside.{Inside}
use Rattle.turn_client_proto.specs.declared.udp.TurnClientUdpProtocol.{TurnClientUdpProtocol}

pub returns-in-PeerData-clause-received : goal.returns-in-PeerData-clause-received
returns-in-PeerData-clause-received c = λ now.
    let a = c.args in
    let bytes = a.bytes.now in
    let own = sym c.is_own.ensures ∙ c.if-not-is_own.false in
    let step = own-frame a.transport a.from.now a.to.now bytes c.self.inside.carrier now _ _ _ c.self.invariant.carrier own c.in-Ok.ensures.found in
    let sent = c.in-PeerData.ensures.outcome ∙ (ap (λ (s : State). channel_sent s bytes) c.deref.ensures ∙ ap (λ (v : Inside TurnClientUdpProtocol). channel_sent v.carrier bytes) c.self-inside.view_is) in
    let Brings = λ (outcome : Outcome) (v : State). recv_step a.transport a.from.now a.to.now bytes now v ≡ (outcome, v) in
    subst (Brings _) c.self.view_is (subst (λ (outcome : Outcome). Brings outcome c.self.inside.carrier) (sym sent) step)

pub returns-in_default-channel_sent : goal.returns-in_default-channel_sent
returns-in_default-channel_sent c = record {
  received = tt;
  others = λ none is_frame now.
      let a = c.args in
      let bytes = a.bytes.now in
      let s = c.self.inside.carrier in
      let own = sym c.is_own.ensures ∙ c.if-not-is_own.false in
      let step = own-frame a.transport a.from.now a.to.now bytes s now _ _ _ c.self.invariant.carrier own c.in-Ok.ensures.found in
      let sent = c.channel_sent.ensures.outcome ∙ (ap (λ (s : State). channel_sent s bytes) c.deref.ensures ∙ ap (λ (v : Inside TurnClientUdpProtocol). channel_sent v.carrier bytes) c.self-inside.view_is) in
      let ignored = frame-ignored bytes s c.channel_sent.result sent c.in_default-channel_sent.not-PeerData in
      subst (λ (v : State). recv_step a.transport a.from.now a.to.now bytes now v ≡ (Ignored, v)) c.self.view_is
      (step ∙ ap (λ (outcome : Outcome). (outcome, s)) ignored);
  within = tt;
}
