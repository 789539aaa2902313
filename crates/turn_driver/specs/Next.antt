-- The next task of a client.
use Rattle.std.specs.Prelude.{◌≡◌, ◌⊎◌, ℕ, ◌<◌, ◌≤◌, nat_lt, List, [], Option, Some, None, if◌then◌else◌, ⊤}
use Rattle.turn_stun.specs.declared.transport.Transmit.{Transmit}
use Rattle.turn_client_api.specs.State.{State}
use Rattle.turn_client_api.specs.Alarm.{IsIdleUntil}
use Rattle.turn_client_api.specs.Answers.{EndsAfterSteps, event_step}
use Rattle.turn_client_api.specs.Effect.{closed}
use Rattle.turn_client_api.specs.Payloads.{Payload}
use Rattle.turn_client_api.specs.Poll.{poll_step}
use Rattle.turn_client_api.specs.Streams.{poll_recv_step}
use Rattle.turn_client_api.specs.Transmit.{transmit_step}
use Rattle.turn_client_api.specs.declared.event.TurnEvent.{TurnEvent}
use Rattle.turn_client_api.specs.declared.poll.TurnPollRet.{TurnPollRet}
use Rattle.turn_client_api.specs.declared.poll.TurnPollRet.TheVariants as Poll
use Rattle.turn_driver.specs.Given.{Given, FromPeer, Happened, ToSend, ToOpen, ToClose, given_of}
use Rattle.turn_driver.specs.declared.task.Rest.{Rest}
use Rattle.turn_driver.specs.declared.task.Rest.TheVariants.{Until, Now, Ended}
use Rattle.turn_driver.specs.declared.next.Next.{Next}
use Rattle.turn_driver.specs.declared.next.Next.TheVariants as Code

pub data Answer : Type 0 where
  Does : Given → Answer
  Rests : Rest → Answer

-- the answer that a result of the code stands for
abbrev pub answer_of : Next → Answer
answer_of (Code.Do task) = Does (given_of task)
answer_of (Code.Rest rest) = Rests rest

-- ---- the calls, in order

-- the next packet, or this rest
abbrev pub to_send : Rest → Option (Transmit (List ℕ)) × State → Answer × State
to_send rest (Some packet, s) = (Does (ToSend packet), s)
to_send rest (None, s) = (Rests rest, s)

-- the next event, or else the next packet
abbrev pub to_report : ℕ → Rest → Option TurnEvent × State → Answer × State
to_report now rest (Some event, s) = (Does (Happened event), s)
to_report now rest (None, s) = to_send rest (transmit_step now s)

abbrev pub waiting : ℕ → Rest → State → Answer × State
waiting now rest s = to_report now rest (event_step s)

-- what `poll` returns: nothing is due before a wake-up time in the future
abbrev pub by_time : ℕ → TurnPollRet × State → Answer × State
by_time now (Poll.AllocateTcpSocket id socket peer, s) = (Does (ToOpen id socket peer), s)
by_time now (Poll.TcpClose local remote, s) = (Does (ToClose local remote), s)
by_time now (Poll.WaitUntil time, s) = if nat_lt now time then (Rests (Until time), s) else waiting now Now s
by_time now (Poll.Closed, s) = waiting now Ended s

abbrev pub poll_answer : ℕ → State → Answer × State
poll_answer now s = by_time now (poll_step now s)

-- payloads in the streams come first
abbrev pub by_streams : ℕ → Option Payload × State → Answer × State
by_streams now (Some payload, s) = (Does (FromPeer payload), s)
by_streams now (None, s) = poll_answer now s

-- the next task of the client, or what follows
abbrev pub next_step : ℕ → State → Answer × State
next_step now s = by_streams now (poll_recv_step now s)

-- ---- what a rest means

-- Until the wake-up time nothing is due: no packet, no event, no timeout of a request and no expiry of a grant.
-- A client that has ended has no event and no packet left.
abbrev pub IsRestful : Rest → ℕ → State → Type 0
IsRestful (Until time) now s = (now < time) × IsIdleUntil now time s
IsRestful Now now s = ⊤
IsRestful Ended now s = (s.events ≡ []) × (transmit_step now s ≡ (None, s))

abbrev pub AnswersRest : Answer → ℕ → State → Type 0
AnswersRest (Does given) now s = ⊤
AnswersRest (Rests rest) now s = IsRestful rest now s

-- ---- allocation failure

-- it failed for the packet
abbrev pub NoPacket : Option TurnEvent × State → State → Type 0
NoPacket (Some event, s) t = ⊥
NoPacket (None, s) t = t ≡ closed s

abbrev pub SendEnds : ℕ → State → State → Type 0
SendEnds now s t = NoPacket (event_step s) t

-- it failed for the packet, when `poll` had nothing else to return
abbrev pub NothingSent : ℕ → TurnPollRet × State → State → Type 0
NothingSent now (Poll.WaitUntil time, s) t = (time ≤ now) × SendEnds now s t
NothingSent now (Poll.Closed, s) t = SendEnds now s t
NothingSent now _ t = ⊥

abbrev pub PollEnds : ℕ → State → State → Type 0
PollEnds now s t = (t ≡ closed s) ⊎ NothingSent now (poll_step now s) t

abbrev pub NothingPolled : ℕ → Option Payload × State → State → Type 0
NothingPolled now (Some payload, s) t = ⊥
NothingPolled now (None, s) t = PollEnds now s t

-- it failed in `poll_recv`, or in a call of the client after that
abbrev pub NextEnds : ℕ → State → State → Type 0
NextEnds now s t = EndsAfterSteps now s t ⊎ NothingPolled now (poll_recv_step now s) t
