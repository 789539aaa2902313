-- What a client was made with never changes.
use Rattle.turn_client_laws.proofs.Common.{◌≡◌, ℕ, List, refl}
use Rattle.turn_client_laws.proofs.Machine.{State, Call, message_step, Leaves, state_after}
use Rattle.turn_client_laws.proofs.Edits.{KeepsAllEdits}
use Rattle.turn_client_laws.proofs.EditsOfCalls.{calls-walk, leaves-walk}
use Rattle.turn_client_laws.proofs.EditsOfMessages.{edits-IsKept}
use Rattle.turn_client_laws.proofs.FixedFields.{fixed-all-edits}

abbrev StayConfigured : State → State → Type 0
StayConfigured s t = t.config ≡ s.config

StayConfigured-KeepsAllEdits : KeepsAllEdits StayConfigured
StayConfigured-KeepsAllEdits = fixed-all-edits (λ f. f.1.0)

pub message-configured : (message : List ℕ) (now : ℕ) (s : State) → (message_step message now s).1.config ≡ s.config
message-configured = (edits-IsKept StayConfigured StayConfigured-KeepsAllEdits (λ s streams. refl)).message

pub call-configured : (call : Call) (s : State) → (state_after call s).config ≡ s.config
call-configured = calls-walk StayConfigured StayConfigured-KeepsAllEdits (λ s streams. refl)

-- even if memory allocation fails
pub leaves-configured : (call : Call) (s t : State) → Leaves call s t → t.config ≡ s.config
leaves-configured = leaves-walk StayConfigured StayConfigured-KeepsAllEdits (λ s streams. refl)
