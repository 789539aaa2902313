use Rattle.std.proofs.Common.{refl}
use Rattle.turn_client_proto.proofs.CallLemmas.{error-keeps}
use Rattle.turn_client_proto.proofs.ControlLemmas.{closed-on_err, error-left, fails, follows}
use Rattle.turn_client_proto.proofs.OverLemmas.{leaves-IsClientOver}
use Rattle.turn_client_proto.proofs.over.TurnClientOverTurnClientApi.protocol_error.Goals as goal

pub invariant_of-self : goal.invariant_of-self
invariant_of-self g c =
    let led = follows refl c.control_mut.ensures.value (g.met.C.Carrier.controlled c.self.inside.carrier c.protocol_error.new.self) in
    let r = c.protocol_error.result in
    error-keeps (leaves-IsClientOver _) _ _ r (error-left led r c.protocol_error.ensures.ok) (closed-on_err led r c.protocol_error.ensures.err) c.self.invariant

pub returns : goal.returns
returns g c =
    let led = follows c.self.view_is c.control_mut.ensures.value (g.met.C.Carrier.controlled c.self.inside.carrier c.protocol_error.new.self) in
    let r = c.protocol_error.result in
    record {
      ok = error-left led r c.protocol_error.ensures.ok;
      err = closed-on_err led r c.protocol_error.ensures.err;
      free = fails led r c.protocol_error.ensures.free;
    }
