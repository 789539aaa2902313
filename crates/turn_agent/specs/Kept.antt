-- What an agent keeps beside its transactions.
use Rattle.std.specs.Prelude.{ℕ, ◌<◌, Bool, List, length, Option}
use Rattle.turn_stun.specs.declared.transport.TransportType.{TransportType}
use Rattle.turn_agent.specs.Agent.{AreDistinct, AreIdsOf, IsSoonest}
use Rattle.turn_agent.specs.Front.{IsFront}
use Rattle.turn_agent.specs.Schedule.{Timers}
use Rattle.turn_agent.specs.declared.front.Front.{Front}
use Rattle.turn_agent.specs.declared.transaction.Transaction.{Transaction}

-- so many are scanned, and no set of their IDs is kept
abbrev pub few : ℕ
few = 8

-- the IDs differ and are those of the set if there are more than a few, those in front wait, and the time is the earliest one
pub record AreKept (timers : Timers) (transport : TransportType) (ts : List Transaction) (has : ℕ → Bool) (front : Front) (soonest : Option ℕ) : Type 0 where
  pub distinct : AreDistinct ts
  pub ids : few < length ts → AreIdsOf ts has
  pub passed : IsFront timers transport ts front
  pub earliest : IsSoonest timers transport ts soonest
