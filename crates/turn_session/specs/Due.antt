-- What is due next in a session: first a data connection to open or close, then a packet, then an event, and then a time.
use Rattle.std.specs.Prelude.{◌≡◌, ℕ, List, Option, Some, None}
use Rattle.turn_stun.specs.declared.transport.Transmit.{Transmit}
use Rattle.turn_client_api.specs.declared.poll.TurnPollRet.{TurnPollRet}
use Rattle.turn_client_api.specs.declared.poll.TurnPollRet.TheVariants.{WaitUntil, Closed}
use Rattle.turn_session_book.specs.declared.events.Event.{Event}
use Rattle.turn_session.specs.Polling.{Polls}
use Rattle.turn_session.specs.Reporting.{reported_step}
use Rattle.turn_session.specs.Sending.{EndsUnsent, transmit_step}
use Rattle.turn_session.specs.SessionState.{SessionState}
use Rattle.turn_session.specs.declared.due.Due.{Due}
use Rattle.turn_session.specs.declared.due.Due.TheVariants as Next

-- what is left by this answer of the client
abbrev pub rest_of : TurnPollRet → Due
rest_of (WaitUntil time) = Next.Wait time
rest_of Closed = Next.Over
rest_of answer = Next.Connection answer

abbrev pub event_or : TurnPollRet → SessionState → Due × SessionState
event_or answer s = by (reported_step s)
  where
    by : Option Event × SessionState → Due × SessionState
    by (Some event, t) = (Next.Event event, t)
    by (None, t) = (rest_of answer, t)

abbrev pub packet_or : ℕ → TurnPollRet → SessionState → Due × SessionState
packet_or now answer s = by (transmit_step now s)
  where
    by : Option (Transmit (List ℕ)) × SessionState → Due × SessionState
    by (Some packet, t) = (Next.Packet packet, t)
    by (None, t) = event_or answer t

abbrev pub due_after : ℕ → TurnPollRet → SessionState → Due × SessionState
due_after now (WaitUntil time) s = packet_or now (WaitUntil time) s
due_after now Closed s = packet_or now Closed s
due_after now answer s = (Next.Connection answer, s)

-- the session is polled first
abbrev pub IsNext : ℕ → SessionState → SessionState → Due → Type 0
IsNext now was s due =
    (t : SessionState) × (answer : TurnPollRet) × Polls now was t answer × ((due, s) ≡ due_after now answer t)

-- ---- without memory

-- only a packet wants it, and that is looked for if there is no data connection to open or close
abbrev pub DueFails : ℕ → TurnPollRet → SessionState → SessionState → Type 0
DueFails now (WaitUntil time) was s = EndsUnsent now was s
DueFails now Closed was s = EndsUnsent now was s
DueFails now _ was s = ⊥

abbrev pub NextFails : ℕ → SessionState → SessionState → Type 0
NextFails now was s = (t : SessionState) × (answer : TurnPollRet) × Polls now was t answer × DueFails now answer t s
