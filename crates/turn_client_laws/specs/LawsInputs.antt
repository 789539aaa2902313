-- What a call causes by a message that it processes.
use Rattle.std.specs.Prelude.{◌≡◌, ℕ, true, List}
use Rattle.turn_client_api.specs.State.{State}
use Rattle.turn_client_api.specs.Payloads.{is_message}
use Rattle.turn_client_api.specs.declared.call.Call.{Call}
use Rattle.turn_client_laws.specs.LawsHandled.{IsDoneBy}

-- What a message did: it was received at this time by a client in this state.
abbrev pub Deed : Type 1
Deed = List ℕ → ℕ → State → Type 0

-- a whole message did it that this call processed
abbrev pub IsBroughtBy : Deed → Call → State → Type 0
IsBroughtBy Did call s = IsDoneBy (λ one. (is_message one.bytes ≡ true) × Did one.bytes one.time one.before) call s
