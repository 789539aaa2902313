-- A challenge is held from the first one on.
use Rattle.turn_client_laws.proofs.Common.{ℕ, List, [], ◌∷◌, Option, Some, refl, subst, ⊤, IsSome, SocketAddr}
use Rattle.turn_client_laws.proofs.Machine.{TransportType, Challenge, Config, State, initial, Phase, Authenticating, Allocated, phase_with, phase_after, Leaves, Call}
use Rattle.turn_client_laws.specs.LawsStates.{HoldsChallenge, IsHeldIn}
use Rattle.turn_client_laws.proofs.Edits.{KeepsAllEdits}
use Rattle.turn_client_laws.proofs.PhaseEdits.{all-phase-edits}
use Rattle.turn_client_laws.proofs.EditsOfCalls.{leaves-walk}

held-any : (p : Phase) (held : Option Challenge) → IsSome held → IsHeldIn p held
held-any Authenticating held some = some
held-any Allocated held some = some
held-any p held some = tt

held-with : (addresses : List SocketAddr) (held : Option Challenge) → IsHeldIn Authenticating held → IsHeldIn (phase_with addresses) held
held-with [] held some = tt
held-with (a ∷ others) held some = some

abbrev StayHeld : State → State → Type 0
StayHeld s t = HoldsChallenge s → HoldsChallenge t

StayHeld-KeepsAllEdits : KeepsAllEdits StayHeld
StayHeld-KeepsAllEdits = all-phase-edits ⊤ StayHeld (record {
  edits = record { rest = λ s t h. h; trans = λ s t u first second h. second (first h); sends = λ now s h. h; begins = λ now s new h. tt; ends = λ s h. tt };
  holds = λ message d s e h. held-any s.phase (Some d) refl;
  counts = λ s held few h. held-any (phase_after s.phase) s.held held;
  resets = λ accepted s h. h;
  allocates = λ addresses s e h. held-with addresses s.held (subst (λ (p : Phase). IsHeldIn p s.held) e h);
})

pub initial-HoldsChallenge : (transport : TransportType) (local remote : SocketAddr) (config : Config) (seed : List ℕ) → HoldsChallenge (initial transport local remote config seed)
initial-HoldsChallenge transport local remote config seed = tt

pub leaves-HoldsChallenge : (call : Call) (s t : State) → Leaves call s t → HoldsChallenge s → HoldsChallenge t
leaves-HoldsChallenge = leaves-walk StayHeld StayHeld-KeepsAllEdits (λ s streams h. h)
