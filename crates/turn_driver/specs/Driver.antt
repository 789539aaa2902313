-- One iteration of the caller's loop.
use Rattle.std.specs.Prelude.{◌≡◌, ◌⊎◌, ℕ, zero, suc, ◌+◌, ◌<◌, vec_capacity, vec_len, false, List, [], ◌∷◌, ◌++◌, map, Option, Some, None, option_to_list}
use Rattle.std.specs.declared.alloc.Global.{Global}
use Rattle.std.specs.declared.vec.Vec.{Vec}
use Rattle.turn_stun.specs.declared.transport.Transmit.{Transmit}
use Rattle.turn_client_api.specs.State.{State}
use Rattle.turn_client_api.specs.Answers.{RecvEnds, takes_no_memory}
use Rattle.turn_client_api.specs.Payloads.{Outcome}
use Rattle.turn_client_api.specs.Steps.{packet_step}
use Rattle.turn_driver.specs.Given.{Given, given_at_once, given_of, packet_in}
use Rattle.turn_driver.specs.Next.{Answer, Does, Rests, NextEnds, next_step}
use Rattle.turn_driver.specs.declared.task.Rest.{Rest}
use Rattle.turn_driver.specs.declared.task.Task.{Task}
use Rattle.turn_driver.specs.declared.task.Rest.TheVariants.{Now}

-- all that was returned, what follows, and the client
pub record DriveState : Type 0 where
  pub given : List Given
  pub rest : Rest
  pub client : State

-- a list of tasks and a client, with what follows
abbrev pub driven : List Task → Rest → State → DriveState
driven tasks rest s = record { given = map given_of tasks; rest = rest; client = s }

-- the same while work may be left
abbrev pub drive_state : List Task → State → DriveState
drive_state tasks s = driven tasks Now s

abbrev pub going : List Given → State → DriveState
going given s = record { given = given; rest = Now; client = s }

-- ---- the input

abbrev pub handed : Transmit (List ℕ) → List Given → Outcome × State → DriveState
handed packet given (outcome, s) = going (given ++ option_to_list (given_at_once packet outcome)) s

-- the loop begins with the input, if there is any
abbrev pub begun : Option (Transmit (List ℕ)) → ℕ → DriveState → DriveState
begun None now t = t
begun (Some packet) now t = handed packet t.given (packet_step packet now t.client)

-- ---- the polls

abbrev pub with_answer : List Given → Answer × State → DriveState
with_answer given (Does one, s) = going (given ++ one ∷ []) s
with_answer given (Rests rest, s) = record { given = given; rest = rest; client = s }

-- the client is polled once more if work may be left
abbrev pub once_more : ℕ → DriveState → DriveState
once_more now t = by t.rest
  where
    by : Rest → DriveState
    by Now = with_answer t.given (next_step now t.client)
    by _ = t

-- at most this many polls
unfoldable pub drive_steps : ℕ → ℕ → DriveState → DriveState
drive_steps zero now t = t
drive_steps (suc n) now t = once_more now (drive_steps n now t)

-- a whole iteration, from these tasks and this client
abbrev pub drive_step : ℕ → Option (Transmit (Vec ℕ Global)) → ℕ → List Task → State → DriveState
drive_step most came now tasks s = drive_steps most now (begun (packet_in came) now (drive_state tasks s))

-- ---- allocation failure

-- the list has no room for one more
abbrev pub IsFull : Vec Task Global → Type 0
IsFull tasks = vec_capacity tasks < vec_len tasks + 1

-- it failed when the packet was passed in
abbrev pub StopsAtHand : Option (Transmit (List ℕ)) → ℕ → State → State → Type 0
StopsAtHand None now s t = ⊥
StopsAtHand (Some packet) now s t =
    (t ≡ s) ⊎ ((takes_no_memory packet.transport packet.from packet.to packet.payload s ≡ false) × RecvEnds packet.to packet.payload now s t)

-- it failed for the list, or in the client, at one of the polls
abbrev pub StopsAt : ℕ → DriveState → DriveState → Type 0
StopsAt now t is = (t.rest ≡ Now) × (is.given ≡ t.given) × ((is.client ≡ t.client) ⊎ NextEnds now t.client is.client)

-- what was returned before is kept
abbrev pub Draws : ℕ → ℕ → DriveState → DriveState → Type 0
Draws most now was is = (n : ℕ) × (n < most) × StopsAt now (drive_steps n now was) is

abbrev pub Stops : ℕ → Option (Transmit (Vec ℕ Global)) → ℕ → DriveState → DriveState → Type 0
Stops most came now was is =
    ((is.given ≡ was.given) × StopsAtHand (packet_in came) now was.client is.client)
    ⊎ Draws most now (begun (packet_in came) now was) is
