-- What a call changes and returns that is not by its inputs.
use Rattle.std.specs.Prelude.{◌≡◌, ◌⊎◌, ℕ, List, ◌∷◌, ◌++◌}
use Rattle.std.specs.List.{Contains}
use Rattle.turn_client_api.specs.State.{State}
use Rattle.turn_client_api.specs.Steps.{state_after, state_after_all}
use Rattle.turn_client_api.specs.declared.call.Call.{Call}
use Rattle.turn_client_api.specs.declared.call.Call.TheVariants.{Poll}
use Rattle.turn_client_api.specs.declared.grant.Grant.{Grant}
use Rattle.turn_client_laws.specs.Handled.{payloads_by}
use Rattle.turn_client_laws.specs.LawsGone.{IsStillThere, IsTakenBy, IsThereOrOver}
use Rattle.turn_client_laws.specs.LawsGranted.{IsActiveGrant, IsEndedNow, WasActive}
use Rattle.turn_client_laws.specs.LawsHandled.{ProcessesInputs, TakesInput}
use Rattle.turn_client_runs.specs.Inputs.{delivered_by}

-- what is active after the call was so before it, with the same expiry, or is an allocation that it deletes
abbrev pub ActivatesNothing : Call → State → Type 0
ActivatesNothing call s =
    (g : Grant) → IsActiveGrant g → Contains (state_after call s).grants g → WasActive s g ⊎ IsEndedNow call s g

-- `recv` and `poll_recv` change what their inputs change, one after the other, and apart from the bytes in
-- the streams nothing else, or the server closed a stream. No other call activates a grant. No call takes a grant away
-- but those that it names, by its kind, its arguments and its inputs, and a `poll` those that are over: the others stay
-- pending, active or reserved. The data of peers that a call returns is that of its inputs.
pub record ProcessesAll (call : Call) (s : State) : Type 0 where
  pub inputs : TakesInput call → ProcessesInputs call s
  pub others : (TakesInput call → ⊥) → ActivatesNothing call s
  pub spared : (g : Grant) → Contains s.grants g → IsStillThere (state_after call s) g ⊎ IsTakenBy call s g
  pub over : (now : ℕ) (g : Grant) → call ≡ Poll now → Contains s.grants g → IsThereOrOver now s (state_after call s) g
  pub returned : payloads_by call s ≡ delivered_by call s

-- so does each of these calls
abbrev pub CallsProcessInputs : State → List Call → Type 0
CallsProcessInputs first calls =
    (earlier : List Call) (call : Call) (later : List Call) → calls ≡ earlier ++ call ∷ later → ProcessesAll call (state_after_all first earlier)
