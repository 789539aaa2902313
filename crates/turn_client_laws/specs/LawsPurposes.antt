-- How many purposes a request has (RFC 8656, sections 8 and 12.1), over all calls.
use Rattle.std.specs.Prelude.{◌≡◌, ◌⊎◌, ℕ}
use Rattle.std.specs.List.{Contains}
use Rattle.turn_client_api.specs.State.{State}
use Rattle.turn_client_api.specs.declared.grant.Purpose.{Purpose}
use Rattle.turn_client_api.specs.Grants.{purposes_of}
use Rattle.turn_client_api.specs.Steps.{Leaves}
use Rattle.turn_client_api.specs.declared.call.Call.{Call}

-- the request with this ID is listed for two purposes at most
abbrev pub IsForTwo : ℕ → State → Type 0
IsForTwo id s = (one other : Purpose) × ((p : Purpose) → Contains (purposes_of id s) p → (p ≡ one) ⊎ (p ≡ other))

abbrev pub HasTwoPurposes : State → Type 0
HasTwoPurposes s = (id : ℕ) → IsForTwo id s

-- this holds in what the call leaves
abbrev pub KeepsTwoPurposes : Call → State → State → Type 0
KeepsTwoPurposes call s t = Leaves call s t → HasTwoPurposes s → HasTwoPurposes t
