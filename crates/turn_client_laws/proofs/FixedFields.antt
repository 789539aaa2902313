-- Fields of a client that no edit touches: a law that one of them stays is one line.
use Rattle.turn_client_laws.proofs.Common.{◌≡◌, ◌∙◌, List, refl, ⊤}
use Rattle.turn_client_laws.proofs.Machine.{TransportType, Config, State, Stream}
use Rattle.turn_client_laws.proofs.Edits.{KeepsAllEdits, KeepsEdits}
use Rattle.turn_client_laws.proofs.PhaseEdits.{KeepsPhaseEdits, all-phase-edits, phase-edits}

abbrev pub Fixed : Type 0
Fixed = TransportType × (Config × List Stream)

-- the transport of its packets, what it was made with, and its streams
abbrev pub fixed : State → Fixed
fixed s = (s.transport, (s.config, s.streams))

-- this part of them is the same
abbrev pub SameIn : {A : Type 0} → (Fixed → A) → State → State → Type 0
SameIn part s t = part (fixed t) ≡ part (fixed s)

fixed-phase-edits : {A : Type 0} (part : Fixed → A) → KeepsPhaseEdits (SameIn part)
fixed-phase-edits part = record {
  rest = λ s t. refl;
  trans = λ s t u first second. second ∙ first;
  sends = λ now s. refl;
  begins = λ now s new. refl;
  ends = λ s. refl;
}

pub fixed-edits : {A : Type 0} (part : Fixed → A) → KeepsEdits (SameIn part)
fixed-edits part = phase-edits (SameIn part) (fixed-phase-edits part)

pub fixed-all-edits : {A : Type 0} (part : Fixed → A) → KeepsAllEdits (SameIn part)
fixed-all-edits part = all-phase-edits ⊤ (SameIn part) (record {
  edits = fixed-phase-edits part;
  holds = λ message d s e. refl;
  counts = λ s held few. refl;
  resets = λ accepted s. refl;
  allocates = λ addresses s e. refl;
})
