-- A worked run of the loop: a new client and a server that grants what is requested, for 700 s.
use Rattle.std.specs.Prelude.{◌≡◌, ℕ, List, [], ◌∷◌, Option, Some, None, ⊤}
use Rattle.std.specs.declared.net.socket_addr.SocketAddr.{SocketAddr}
use Rattle.turn_stun.specs.declared.transport.TransportType.TheVariants.{Udp}
use Rattle.turn_stun.specs.declared.transport.Transmit.{Transmit}
use Rattle.turn_client_api.specs.Config.{Config}
use Rattle.turn_client_api.specs.State.{State, seconds}
use Rattle.turn_client_api.specs.Steps.{state_after}
use Rattle.turn_client_api.specs.declared.call.Call.TheVariants.{BindChannel}
use Rattle.turn_client_laws.specs.LawsRows.{peer}
use Rattle.turn_client_runs.specs.HandshakeRows.{allocation_packet, awaited, challenge_text, new_client}
use Rattle.turn_client_runs.specs.LastingRows.{first_request, refreshed_grants}
use Rattle.turn_client_runs.specs.Server.{from_server, success_for}
use Rattle.turn_driver.specs.Driver.{DriveState, begun, drive_steps, going}
use Rattle.turn_driver.specs.declared.task.Rest.TheVariants.{Until}

-- ---- the server

-- nothing, or its reply to the request that was made first: a challenge, an allocation, or the success for what it requests
pub data Reply : Type 0 where
  Nothing : Reply
  Challenge : Reply
  Allocation : Reply
  Success : Reply

abbrev pub reply_packet : Reply → State → Option (Transmit (List ℕ))
reply_packet Nothing s = None
reply_packet Challenge s = Some (from_server s (challenge_text (awaited s.transactions)))
reply_packet Allocation s = Some (allocation_packet s)
reply_packet Success s = let l = first_request s.listed in Some (from_server s (success_for s l.purpose l.id))

-- ---- the loop

-- an iteration at this time, to which this is passed in, and the deadline that it returns
pub record DriveCall : Type 0 where
  pub now : ℕ
  pub reply : Reply
  pub deadline : ℕ

-- it makes at most eight polls
abbrev pub after_drive : DriveCall → State → DriveState
after_drive made s = drive_steps 8 made.now (begun (reply_packet made.reply s) made.now (going [] s))

-- each iteration returns `Until` its deadline, and the next begins with the client that it left
abbrev pub IsDriven : State → List DriveCall → Type 0
IsDriven s [] = ⊤
IsDriven s (made ∷ later) = ((after_drive made s).rest ≡ Until made.deadline) × IsDriven (after_drive made s).client later

abbrev pub client_after_drives : State → List DriveCall → State
client_after_drives s [] = s
client_after_drives s (made ∷ later) = client_after_drives (after_drive made s).client later

-- ---- the run

-- each reply comes 100 ms after its request
abbrev pub drives_of_handshake : List DriveCall
drives_of_handshake =
    record { now = 0; reply = Nothing; deadline = 500_000_000 }
    ∷ record { now = 100_000_000; reply = Challenge; deadline = 600_000_000 }
    ∷ record { now = 200_000_000; reply = Allocation; deadline = 540_200_000_000 }
    ∷ []

-- The caller binds a channel at 1 s. From then on it wakes up at each deadline, or before it where a reply comes; last of all
-- at 700 s.
abbrev pub after_bind : State → State
after_bind s = state_after (BindChannel Udp peer 1_000_000_000) s

abbrev pub drives_until_700_s : List DriveCall
drives_until_700_s =
    record { now = 1_000_000_000; reply = Nothing; deadline = 1_500_000_000 }
    ∷ record { now = 1_100_000_000; reply = Success; deadline = 241_100_000_000 }
    ∷ record { now = 241_100_000_000; reply = Nothing; deadline = 241_600_000_000 }
    ∷ record { now = 241_200_000_000; reply = Success; deadline = 481_200_000_000 }
    ∷ record { now = 481_200_000_000; reply = Nothing; deadline = 481_700_000_000 }
    ∷ record { now = 481_300_000_000; reply = Success; deadline = 540_200_000_000 }
    ∷ record { now = 540_200_000_000; reply = Nothing; deadline = 540_700_000_000 }
    ∷ record { now = 540_300_000_000; reply = Success; deadline = 541_100_000_000 }
    ∷ record { now = 541_100_000_000; reply = Nothing; deadline = 541_600_000_000 }
    ∷ record { now = 541_200_000_000; reply = Success; deadline = 721_300_000_000 }
    ∷ record { now = seconds 700; reply = Nothing; deadline = 721_300_000_000 }
    ∷ []

-- No iteration is called before its time, and at the end the allocation, the permission and the channel have been refreshed.
pub record IsDrivenFor700Seconds (first : State) : Type 0 where
  pub handshake : IsDriven first drives_of_handshake
  pub later : IsDriven (after_bind (client_after_drives first drives_of_handshake)) drives_until_700_s
  pub refreshes : (client_after_drives (after_bind (client_after_drives first drives_of_handshake)) drives_until_700_s).grants ≡ refreshed_grants

-- whatever the client's addresses, credentials and IDs are
abbrev pub RelayIsDriven : Type 0
RelayIsDriven = (local remote : SocketAddr) (config : Config) (seed : List ℕ) → IsDrivenFor700Seconds (new_client local remote config seed)
