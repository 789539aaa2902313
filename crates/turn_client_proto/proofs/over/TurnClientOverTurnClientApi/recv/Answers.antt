use Rattle.std.proofs.Common.{ℕ, List}
use Rattle.turn_stun.specs.declared.transport.Transmit.{Transmit}
use Rattle.turn_client_proto.proofs.CallLemmas.{recv-keeps}
use Rattle.turn_client_proto.proofs.OverLemmas.{leaves-IsClientOver}
use Rattle.turn_client_proto.proofs.over.TurnClientOverTurnClientApi.recv.Goals as goal

pub invariant_of-self : goal.invariant_of-self
invariant_of-self g c =
    let packet : Transmit (List ℕ) = record { payload = g.T.AsSlice.items c.args.transmit.payload; transport = c.args.transmit.transport; from = c.args.transmit.from; to = c.args.transmit.to } in
    let said = c.receive.ensures in
    recv-keeps (leaves-IsClientOver _) _ _ c.receive.result packet c.args.now said.after said.no_memory said.free c.self.invariant
