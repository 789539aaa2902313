-- How often a client is polled at one time: enough polls, and the loop waits, or the client has ended.
use Rattle.std.specs.Prelude.{◌⊎◌, ℕ, zero, suc, ◌^◌, ◌<◌, ◌≤◌, IfSome, List, [], Option, None, ⊤}
use Rattle.std.specs.declared.alloc.Global.{Global}
use Rattle.std.specs.declared.net.socket_addr.SocketAddr.{SocketAddr}
use Rattle.std.specs.declared.vec.Vec.{Vec}
use Rattle.turn_stun.specs.declared.transport.TransportType.{TransportType}
use Rattle.turn_stun.specs.declared.transport.Transmit.{Transmit}
use Rattle.turn_agent.specs.Schedule.{wait_at}
use Rattle.turn_client_api.specs.Config.{Config, timers_of}
use Rattle.turn_client_api.specs.State.{State, initial}
use Rattle.turn_client_api.specs.Steps.{state_after_all}
use Rattle.turn_client_api.specs.declared.call.Call.{Call}
use Rattle.turn_driver.specs.Driver.{drive_step}
use Rattle.turn_driver.specs.declared.task.Rest.{Rest}
use Rattle.turn_driver.specs.declared.task.Rest.TheVariants.{Until, Now, Ended}
use Rattle.turn_driver.specs.declared.task.Task.{Task}

-- the loop waits until a later time, or the client has ended: no work is left
abbrev pub IsAtRest : Rest → Type 0
IsAtRest (Until time) = ⊤
IsAtRest Now = ⊥
IsAtRest Ended = ⊤

-- For this client, time and packet there is a number of polls that leaves no work, and so does every greater number.
abbrev pub ComesToRest : Option (Transmit (Vec ℕ Global)) → ℕ → State → Type 0
ComesToRest came now s = (n : ℕ) × ((most : ℕ) (tasks : List Task) → n ≤ most → IsAtRest (drive_step most came now tasks s).rest)

-- after so many iterations at this time at most, each with so many polls and nothing passed in, no work is left
abbrev pub RestsWithin : ℕ → ℕ → ℕ → State → Type 0
RestsWithin zero most now s = ⊥
RestsWithin (suc n) most now s = let t = drive_step most None now [] s in IsAtRest t.rest ⊎ RestsWithin n most now t.client

-- whatever packet is passed in, and however few polls an iteration makes, if it makes one
pub record LeavesNoWork (s : State) (now : ℕ) : Type 0 where
  pub polls : (came : Option (Transmit (Vec ℕ Global))) → ComesToRest came now s
  pub iterations : (most : ℕ) → 0 < most → (n : ℕ) × RestsWithin n most now s

-- No request times out when it is sent, and none is retransmitted then; if the path is kept alive, then after some time.
pub record HasWaits (transport : TransportType) (config : Config) : Type 0 where
  pub waits : (place : ℕ) → 0 < wait_at (timers_of config) transport place
  pub keepalive : IfSome config.keepalive (λ time. 0 < time)

-- if the configuration has a pause between two requests, or no wait of 0
abbrev pub LoopsComeToRest : Type 0
LoopsComeToRest =
    (transport : TransportType) (local remote : SocketAddr) (config : Config) (seed : List ℕ) (calls : List Call) (now : ℕ)
    → (0 < config.request_cadence) ⊎ HasWaits transport config → now ≤ 2 ^ 62
    → LeavesNoWork (state_after_all (initial transport local remote config seed) calls) now
