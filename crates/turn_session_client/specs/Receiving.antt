-- What the server sent, and a session after it.
use Rattle.std.specs.Prelude.{◌≡◌, ◌&&◌, ℕ, Bool, true, false, if◌then◌else◌, List, Option, Some, None}
use Rattle.std.specs.declared.net.socket_addr.SocketAddr.{SocketAddr}
use Rattle.turn_stun.specs.declared.transport.TransportType.{TransportType}
use Rattle.turn_client_api.specs.Payloads.{Outcome}
use Rattle.turn_client_api.specs.Payloads as Outcomes
use Rattle.turn_client_api.specs.Receive.{is_from_server, recv_step}
use Rattle.turn_client_api.specs.State.{State}
use Rattle.turn_client_api.specs.declared.event.TurnEvent.{TurnEvent}
use Rattle.turn_session_book.specs.BookState.{BookState}
use Rattle.turn_session_book.specs.Keys.{same_peer}
use Rattle.turn_session_book.specs.OpenRequests.{with_hint}
use Rattle.turn_session_book.specs.declared.causes.Why.TheVariants.{OutOfMemory}
use Rattle.turn_session_book.specs.declared.keys.Key.{Key}
use Rattle.turn_session_book.specs.declared.replies.ErrorReply.{ErrorReply}
use Rattle.turn_session_life.specs.Doubts as Doubting
use Rattle.turn_session_life.specs.Heard as Heard
use Rattle.turn_session_life.specs.Life.{after_end, after_heard}
use Rattle.turn_session_life.specs.Verdict as Verdict
use Rattle.turn_session_life.specs.declared.doubts.Doubts.{Doubts}
use Rattle.turn_session_life.specs.declared.life.Phase.{Phase}
use Rattle.turn_session_life.specs.declared.life.Phase.TheVariants.{Leaving, Over}
use Rattle.turn_session_life.specs.declared.responses.Response.{Response}
use Rattle.turn_session_life.specs.declared.verdict.Blame.{Blame}
use Rattle.turn_session_client.specs.Drain.{DrainsSome}
use Rattle.turn_session_client.specs.Ending.{is_open}
use Rattle.turn_session_client.specs.Reading.{IsReadingFrom, hint_in, ignored_in, is_foreign, mapped_after, reply_in, response_to}
use Rattle.turn_session_client.specs.NotedState.{NotedState, with_book, with_life}
use Rattle.turn_session_client.specs.declared.reading.Reading.{Reading}

abbrev pub is_taken : Outcome → Bool
is_taken Outcomes.Handled = true
is_taken _ = false

-- over the control connection, a response that has another method than its request
abbrev pub answers_nothing : SocketAddr → List ℕ → State → Bool
answers_nothing to bytes s = same_peer to s.local && is_foreign bytes s

-- after the end of a session nothing is for it, and before it leaves a response that answers nothing is not
abbrev pub outcome_in : Phase → Bool → Outcome → Outcome
outcome_in (Over why) is_nothing outcome = Outcomes.Ignored
outcome_in (Leaving leave) is_nothing outcome = outcome
outcome_in _ true outcome = Outcomes.Ignored
outcome_in _ false outcome = outcome

-- ---- a response

-- an unsigned error of the ALLOCATE is the verdict, unless there was one before
abbrev pub blamed : Option ErrorReply → Bool → ℕ → Option Blame → Option Blame
blamed None is_challenged now blame = blame
blamed (Some e) is_challenged now blame = Verdict.after_refusal (Heard.refusal e is_challenged) now blame

-- an open session doubts its allocation
abbrev pub doubted : Response → ℕ → NotedState → Doubts
doubted r now s = if is_open s.life.phase then Doubting.after_response r now s.doubts else s.doubts

abbrev pub noted_response : Response → ℕ → NotedState → NotedState
noted_response r now s =
    let heard = Heard.after_response r now s.heard in
    record s {
      heard = heard;
      life = after_heard s.life;
      doubts = doubted r now s;
      verdict = record { blame = blamed (hint_in r) heard.is_challenged now (Verdict.after_response s.verdict.blame) };
    }

-- an error that the client has ignored is noted with the request for this key, if it is open
abbrev pub hinted : Option Key → ErrorReply → BookState → BookState
hinted None e b = b
hinted (Some key) e b = record b { requests = with_hint key e b.requests }

-- of a channel and its permission with both
abbrev pub with_hints : Reading → Response → NotedState → NotedState
with_hints r response s = by (ignored_in response)
  where
    by : Option ErrorReply → NotedState
    by None = s
    by (Some e) = with_book (hinted r.second e (hinted r.key e s.notes.book)) s

abbrev pub with_mapped : Reading → Bool → NotedState → NotedState
with_mapped r taken s = record s { notes = record s.notes { mapped = mapped_after r taken s.notes.mapped } }

abbrev pub noted_reading : Option Reading → Bool → ℕ → NotedState → NotedState
noted_reading None taken now s = s
noted_reading (Some r) taken now s =
    let response = response_to r taken in noted_response response now (with_hints r response (with_mapped r taken s))

-- while an earlier event is to be noted, no error is: that event has the one before
abbrev pub reply_for : Option Reading → NotedState → Option ErrorReply
reply_for reading s = by s.taken
  where
    by : Option TurnEvent → Option ErrorReply
    by (Some event) = None
    by None = reply_in reading

-- what the client accepted is the error that was received last
abbrev pub with_reply : Bool → Option ErrorReply → NotedState → NotedState
with_reply taken reply s = if taken then record s { notes = record s.notes { reply = reply } } else s

abbrev pub received : Option Reading → Option ErrorReply → Bool → ℕ → NotedState → NotedState
received reading reply taken now s = noted_reading reading taken now (with_reply taken reply s)

-- ---- the call, before the events of the client are noted

abbrev pub heard_step : TransportType → SocketAddr → SocketAddr → List ℕ → Option Reading → ℕ → NotedState → NotedState
heard_step transport from to bytes reading now s =
    let step = recv_step transport from to bytes now s.client in
    received reading (reply_for reading s) (is_taken step.0) now (record s { client = step.1 })

-- a session that leaves notes nothing, and after its end nothing changes; nor does it by a response that answers nothing
abbrev pub Receives : TransportType → SocketAddr → SocketAddr → List ℕ → ℕ → NotedState → NotedState → Type 0
Receives transport from to bytes now was s = by was.life.phase (answers_nothing to bytes was.client)
  where
    by : Phase → Bool → Type 0
    by (Over why) _ = s ≡ was
    by (Leaving leave) _ = s ≡ record was { client = (recv_step transport from to bytes now was.client).1 }
    by _ true = s ≡ was
    by _ false = (reading : Option Reading) × IsReadingFrom (is_from_server transport from was.client) bytes was.client reading
        × DrainsSome now (heard_step transport from to bytes reading now was) s

-- ---- without memory

-- the client has ended in this state, and the session with it
abbrev pub ended_with : State → NotedState → NotedState
ended_with client s = with_life (after_end OutOfMemory s.life) (record s { client = client })
