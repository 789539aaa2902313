-- The payload passed up is the one that the client delivered.
use Rattle.turn_client_laws.proofs.Common.{◌≡◌, ℕ, subst, sym}
use Rattle.turn_client_laws.proofs.Machine.{Transmit, HandsBack, IsPartOf}
use Rattle.std.specs.declared.convert.AsSlice.{Ghosts}
use Rattle.turn_client_api.specs.PeerBytes.{held_in}
use Rattle.turn_client_api.specs.declared.receive.TurnPeerData.{TurnPeerData}
use Rattle.turn_client_api.specs.declared.receive.TurnRecvRet.{TurnRecvRet}
use Rattle.turn_client_api.specs.declared.receive.TurnRecvRet.TheVariants as Client
use Rattle.turn_gather.specs.Received.{HandsOn, PassesUp}
use Rattle.turn_gather.specs.declared.receive.GatherRecv.{GatherRecv}
use Rattle.turn_gather.specs.declared.receive.GatherRecv.TheVariants as Recv

-- it is a part of the caller's input wherever the client's payload was
pub passed-HandsOn : {T : Type 0} {g : Ghosts T ℕ} (transmit : Transmit T) (reported : TurnRecvRet T g) (given : TurnPeerData T g) (r : GatherRecv T g) → HandsBack transmit reported
    → reported ≡ Client.PeerData given → PassesUp given r → HandsOn transmit r
passed-HandsOn transmit reported given (Recv.Payload passed) back is up =
    subst (λ p. IsPartOf transmit.payload (held_in p)) (sym up) (subst (λ answer. HandsBack transmit answer) is back)
passed-HandsOn transmit reported given Recv.Handled back is up = tt
passed-HandsOn transmit reported given (Recv.Ignored again) back is up = absurd up
passed-HandsOn transmit reported given Recv.Dropped back is up = tt
