-- The loop as the calls that it makes: nothing that they return is lost.
use Rattle.std.specs.Prelude.{◌≡◌, ◌⊎◌, ℕ, List, [], ◌∷◌, ◌++◌, Option, Some, None, option_map, option_to_list}
use Rattle.std.specs.List.{AllByRecursion}
use Rattle.turn_stun.specs.declared.transport.Transmit.{Transmit}
use Rattle.turn_client_api.specs.State.{State}
use Rattle.turn_client_api.specs.Answers.{event_step}
use Rattle.turn_client_api.specs.Poll.{poll_step}
use Rattle.turn_client_api.specs.Steps.{packet_step, state_after, state_after_all}
use Rattle.turn_client_api.specs.Streams.{poll_recv_step}
use Rattle.turn_client_api.specs.Transmit.{transmit_step}
use Rattle.turn_client_api.specs.declared.call.Call.{Call}
use Rattle.turn_client_api.specs.declared.call.Call.TheVariants.{Recv, PollRecv, Poll, PollTransmit, PollEvent}
use Rattle.turn_client_api.specs.declared.poll.TurnPollRet.{TurnPollRet}
use Rattle.turn_client_api.specs.declared.poll.TurnPollRet.TheVariants as Poll
use Rattle.turn_driver.specs.Given.{Given, FromPeer, Happened, ToSend, ToOpen, ToClose, given_at_once}
use Rattle.turn_driver.specs.Driver.{DriveState}

-- ---- what the calls of a client return

-- the data connection that the caller is to open or to close
abbrev pub asked_for : TurnPollRet → List Given
asked_for (Poll.AllocateTcpSocket id socket peer) = ToOpen id socket peer ∷ []
asked_for (Poll.TcpClose local remote) = ToClose local remote ∷ []
asked_for _ = []

-- what a call of a client in this state returns
abbrev pub given_by : Call → State → List Given
given_by (Recv packet now) s = option_to_list (given_at_once packet (packet_step packet now s).0)
given_by (PollRecv now) s = option_to_list (option_map FromPeer (poll_recv_step now s).0)
given_by (Poll now) s = asked_for (poll_step now s).0
given_by PollEvent s = option_to_list (option_map Happened (event_step s).0)
given_by (PollTransmit now) s = option_to_list (option_map ToSend (transmit_step now s).0)
given_by _ s = []

-- what these calls return, in order
abbrev pub all_given : State → List Call → List Given
all_given s [] = []
all_given s (call ∷ calls) = given_by call s ++ all_given (state_after call s) calls

-- ---- the calls of the loop

-- the call polls the client at this time
abbrev pub IsAsk : ℕ → Call → Type 0
IsAsk now call = (call ≡ PollRecv now) ⊎ ((call ≡ Poll now) ⊎ ((call ≡ PollEvent) ⊎ (call ≡ PollTransmit now)))

-- the input is passed in first
abbrev pub hand_in_calls : Option (Transmit (List ℕ)) → ℕ → List Call
hand_in_calls None now = []
hand_in_calls (Some packet) now = Recv packet now ∷ []

-- the calls return this, and leave the client so
abbrev pub IsRun : List Call → DriveState → DriveState → Type 0
IsRun calls was is = (is.given ≡ was.given ++ all_given was.client calls) × (is.client ≡ state_after_all was.client calls)

-- The calls made are one that passes in the input, if any, and then polls. The list has everything that they
-- return, in order, and nothing else; the client is as they leave it.
abbrev pub IsWhole : Option (Transmit (List ℕ)) → ℕ → DriveState → DriveState → Type 0
IsWhole came now was is =
    (calls : List Call) × AllByRecursion (IsAsk now) calls × IsRun (hand_in_calls came now ++ calls) was is
