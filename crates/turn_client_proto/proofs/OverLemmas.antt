-- What holds for a client over UDP or TCP holds after each call.
use Rattle.std.proofs.Common.{◌≡◌, ◌∙◌}
use Rattle.turn_stun.specs.declared.transport.TransportType.{TransportType}
use Rattle.turn_stun.specs.declared.transport.TransportType.TheVariants.{Udp}
use Rattle.turn_client_api.specs.State.{State}
use Rattle.turn_client_api.specs.Steps.{Leaves}
use Rattle.turn_client_api.specs.declared.call.Call.{Call}
use Rattle.turn_client_laws.proofs.InAllocation.{leaves-GrantsHaveAllocations}
use Rattle.turn_client_laws.proofs.SendOrderLemmas.{leaves-steadies}
use Rattle.turn_client_tcp.specs.Over.{IsClientOver}
use Rattle.turn_client_proto.proofs.CarrierLemmas.{leaves-SameCarriers}
use Rattle.turn_client_proto.proofs.NoStreamLemmas.{leaves-no_streams}

pub leaves-IsClientOver : (transport : TransportType) (call : Call) (s t : State) → Leaves call s t → IsClientOver transport s → IsClientOver transport t
leaves-IsClientOver transport call s t leaves h =
    let same = leaves-SameCarriers call s t leaves in
    record {
      carrier = same.0 ∙ h.carrier;
      relays = λ (udp : transport ≡ Udp). same.1 ∙ h.relays udp;
      no_streams = λ (udp : transport ≡ Udp). leaves-no_streams call s t leaves (h.carrier ∙ udp) (h.relays udp) (h.no_streams udp);
      fits_phase = leaves-steadies call s t leaves h.fits_phase;
      have_allocations = leaves-GrantsHaveAllocations call s t leaves h.have_allocations;
    }
