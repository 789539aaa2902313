-- How often a request is tried before it is given up (RFC 8489, section 6.2.1).
use Rattle.std.specs.Prelude.{◌≡◌, ◌+◌, ◌-◌, ◌^◌, ◌<◌, ◌≤◌, ℕ, zero, suc, false, List, [], ◌∷◌, ◌++◌, None, Some, min, ⊤}
use Rattle.std.specs.List.{Contains}
use Rattle.turn_stun.specs.declared.transport.Transmit.{Transmit}
use Rattle.turn_agent.specs.Agent.{timed_out_transaction, without_transaction}
use Rattle.turn_agent.specs.Schedule.{resends_of, wait_at}
use Rattle.turn_agent.specs.declared.transaction.Transaction.{Transaction}
use Rattle.turn_client_api.specs.Config.{timers_of}
use Rattle.turn_client_api.specs.Due.{has_reply}
use Rattle.turn_client_api.specs.Poll.{next_offer, poll_step}
use Rattle.turn_client_api.specs.State.{State, agent_of}
use Rattle.turn_client_api.specs.Steps.{state_after_all}
use Rattle.turn_client_api.specs.Transmit.{next_transmit}
use Rattle.turn_client_api.specs.declared.call.Call.{Call}
use Rattle.turn_client_api.specs.declared.call.Call.TheVariants.{Poll, PollTransmit}

-- ---- a request, by the times of the configuration

-- it was retransmitted less often than configured, or as often
abbrev pub IsToRepeat : State → Transaction → Type 0
IsToRepeat s x = x.resends < resends_of (timers_of s.config) s.transport

abbrev pub IsLast : State → Transaction → Type 0
IsLast s x = resends_of (timers_of s.config) s.transport ≤ x.resends

-- the wait that follows its last copy is over; the greatest time is 2^63 - 1
abbrev pub HasWaited : ℕ → State → Transaction → Type 0
HasWaited now s x = min (x.last_send + wait_at (timers_of s.config) s.transport x.resends) (2 ^ 63 - 1) ≤ now

-- another copy
abbrev pub copy_of : State → Transaction → Transmit (List ℕ)
copy_of s x = record { payload = x.request; transport = s.transport; from = s.local; to = x.to }

-- ---- it is tried

-- `poll_transmit` gives another copy of an outstanding request under this ID, which has waited for that
pub record IsTriedAgain (id now : ℕ) (s : State) : Type 0 where
  pub request : Transaction
  pub outstanding : Contains s.transactions request
  pub same : request.id ≡ id
  pub repeats : IsToRepeat s request
  pub waited : HasWaited now s request
  pub given : next_transmit now s ≡ Some (copy_of s request)

-- these calls did so that often, one after the other
abbrev pub IsTried : ℕ → ℕ → State → List Call → Type 0
IsTried zero id first calls = ⊤
IsTried (suc n) id first calls =
    (earlier : List Call) × (now : ℕ) × (later : List Call) × (calls ≡ earlier ++ PollTransmit now ∷ later)
    × IsTriedAgain id now (state_after_all first earlier) × IsTried n id first earlier

-- ---- a run

-- a request times out only once it was retransmitted as often as configured, and has waited after that, too
abbrev pub GivesUpOnceTried : State → List Call → Type 0
GivesUpOnceTried first calls =
    (earlier : List Call) (now : ℕ) (later : List Call) (x : Transaction) → calls ≡ earlier ++ Poll now ∷ later
    → let s = state_after_all first earlier in
    timed_out_transaction (agent_of s) now ≡ Some x → IsLast s x × HasWaited now s x × IsTried x.resends x.id first earlier

-- while one has waited that is to be repeated, each `poll_transmit` gives another copy of such a one
abbrev pub RepeatsInTime : State → List Call → Type 0
RepeatsInTime first calls =
    (earlier : List Call) (now : ℕ) (later : List Call) (x : Transaction) → calls ≡ earlier ++ PollTransmit now ∷ later
    → let s = state_after_all first earlier in
    Contains s.transactions x → IsToRepeat s x → HasWaited now s x
    → (y : Transaction) × Contains s.transactions y × IsToRepeat s y × HasWaited now s y × (next_transmit now s ≡ Some (copy_of s y))

-- while one has waited that is not, each `poll` gives such a one up, once all events, replies and offers are taken
abbrev pub GivesUpInTime : State → List Call → Type 0
GivesUpInTime first calls =
    (earlier : List Call) (now : ℕ) (later : List Call) (x : Transaction) → calls ≡ earlier ++ Poll now ∷ later
    → let s = state_after_all first earlier in
    s.events ≡ [] → has_reply s ≡ false → next_offer s ≡ None → Contains s.transactions x → IsLast s x → HasWaited now s x
    → (y : Transaction) × Contains s.transactions y × IsLast s y × HasWaited now s y
    × ((poll_step now s).1.transactions ≡ without_transaction y.id s.transactions)

abbrev pub RequestsAreTried : State → List Call → Type 0
RequestsAreTried first calls = GivesUpOnceTried first calls × RepeatsInTime first calls × GivesUpInTime first calls
