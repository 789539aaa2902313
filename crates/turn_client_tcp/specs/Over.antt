-- What holds for every client over UDP or TCP.
use Rattle.std.specs.Prelude.{◌≡◌, []}
use Rattle.turn_stun.specs.declared.transport.TransportType.{TransportType}
use Rattle.turn_stun.specs.declared.transport.TransportType.TheVariants.{Udp}
use Rattle.turn_client_laws.specs.LawsGrantAllocations.{GrantsHaveAllocations}
use Rattle.turn_client_laws.specs.LawsOrder.{FitsPhase}
use Rattle.turn_client_api.specs.State.{State}

-- Over UDP its allocations relay over UDP, since one over TCP needs a client over TCP (RFC 6062, section 4.1),
-- and it has no streams. Over TCP it may have streams, whatever its allocations relay over.
pub record IsClientOver (transport : TransportType) (s : State) : Type 0 where
  pub carrier : s.transport ≡ transport
  pub relays : transport ≡ Udp → s.config.allocation_transport ≡ Udp
  pub no_streams : transport ≡ Udp → s.streams ≡ []
  pub fits_phase : FitsPhase s
  pub have_allocations : GrantsHaveAllocations s
