-- A worked request, so that the check computes when it is tried again.
use Rattle.std.specs.Prelude.{ℕ, List, [], ◌∷◌}
use Rattle.turn_agent.specs.Agent.{first_sent}
use Rattle.turn_agent.specs.declared.transaction.Transaction.{Transaction}
use Rattle.turn_client_api.specs.Effect.{new_allocation}
use Rattle.turn_client_api.specs.State.{State}
use Rattle.turn_client_laws.specs.LawsRows.{granted_at, relayed_v4}

-- request 7 was sent at time 0, or for the seventh time at 31.5 s
abbrev pub first_try : List ℕ → State → Transaction
first_try text s = first_sent 7 s.remote 0 text

abbrev pub last_try : List ℕ → State → Transaction
last_try text s = record (first_try text s) { resends = 6; last_send = 31_500_000_000 }

-- a client over UDP, with an allocation of ten minutes, that awaits the response
abbrev pub asked_once : List ℕ → State → State
asked_once text s = record (granted_at 0 (new_allocation 600 0 relayed_v4 ∷ []) s) { transactions = first_try text s ∷ [] }

abbrev pub asked_seven_times : List ℕ → State → State
asked_seven_times text s = record (granted_at 0 (new_allocation 600 0 relayed_v4 ∷ []) s) { transactions = last_try text s ∷ [] }
