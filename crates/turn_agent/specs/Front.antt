-- The transactions in front that are not due before a time.
use Rattle.std.specs.Prelude.{◌≡◌, ℕ, ◌-◌, ◌^◌, ◌<◌, ◌≤◌, nat_lt, if◌then◌else◌, false, List, length, take}
use Rattle.std.specs.List.{list_any}
use Rattle.turn_stun.specs.declared.transport.TransportType.{TransportType}
use Rattle.turn_agent.specs.Agent.{is_due}
use Rattle.turn_agent.specs.Schedule.{Timers}
use Rattle.turn_agent.specs.declared.front.Front.{Front}
use Rattle.turn_agent.specs.declared.transaction.Transaction.{Transaction}

-- none of so many is to be retransmitted before this time
pub record IsFront (timers : Timers) (transport : TransportType) (ts : List Transaction) (front : Front) : Type 0 where
  pub within : front.count ≤ length ts
  pub waits : (now : ℕ) → now < front.until → list_any (is_due timers transport now) (take front.count ts) ≡ false

-- no transaction
abbrev pub no_front : Front
no_front = record { count = 0; until = 2 ^ 63 - 1 }

-- those that are not due at this time
abbrev pub front_at : Front → ℕ → Front
front_at front now = if nat_lt now front.until then front else no_front
