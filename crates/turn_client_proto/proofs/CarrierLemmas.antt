-- No call changes the transport of a client, nor the transport over which its allocations relay.
use Rattle.std.proofs.Common.{◌≡◌, ap, refl}
use Rattle.turn_stun.specs.declared.transport.TransportType.{TransportType}
use Rattle.turn_client_api.specs.State.{State}
use Rattle.turn_client_api.specs.Steps.{Leaves}
use Rattle.turn_client_api.specs.declared.call.Call.{Call}
use Rattle.turn_client_laws.proofs.EditsOfCalls.{leaves-walk}
use Rattle.turn_client_laws.proofs.FixedFields.{Fixed, SameIn, fixed-all-edits}

abbrev pub SameCarriers : State → State → Type 0
SameCarriers s t = (t.transport ≡ s.transport) × (t.config.allocation_transport ≡ s.config.allocation_transport)

abbrev carriers : Fixed → TransportType × TransportType
carriers f = (f.0, f.1.0.allocation_transport)

-- even if memory allocation fails
pub leaves-SameCarriers : (call : Call) (s t : State) → Leaves call s t → SameCarriers s t
leaves-SameCarriers call s t leaves =
    let same = leaves-walk (SameIn carriers) (fixed-all-edits carriers) (λ s streams. refl) call s t leaves in
    (ap (λ (c : TransportType × TransportType). c.0) same, ap (λ (c : TransportType × TransportType). c.1) same)
