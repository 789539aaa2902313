-- A client with what is noted of it.
use Rattle.std.specs.Prelude.{ℕ, Bool, true, false, Option, None}
use Rattle.turn_stun.specs.declared.transport.TransportType.{TransportType}
use Rattle.turn_stun.specs.declared.transport.TransportType.TheVariants.{Udp, Tcp}
use Rattle.turn_client_api.specs.State.{State}
use Rattle.turn_client_api.specs.declared.event.TurnEvent.{TurnEvent}
use Rattle.turn_session_book.specs.BookState.{BookState}
use Rattle.turn_session_life.specs.Doubts.{no_doubts}
use Rattle.turn_session_life.specs.Heard.{nothing_heard}
use Rattle.turn_session_life.specs.Life.{new_life}
use Rattle.turn_session_life.specs.declared.doubts.Doubts.{Doubts}
use Rattle.turn_session_life.specs.declared.heard.Heard.{Heard}
use Rattle.turn_session_life.specs.declared.life.Life.{Life}
use Rattle.turn_session_life.specs.declared.verdict.Verdict.{Verdict}
use Rattle.turn_session_client.specs.Notes.{new_notes}
use Rattle.turn_session_client.specs.declared.notes.Notes.{Notes}

pub record NotedState : Type 0 where
  pub client : State
  pub notes : Notes
  -- an event of the client that is noted next: memory was wanted for it
  pub taken : Option TurnEvent
  -- the ticket of the next request
  pub next_ticket : ℕ
  -- what the server has said of the allocation
  pub heard : Heard
  -- what refuses it while it is requested
  pub verdict : Verdict
  -- how far the session has come
  pub life : Life
  -- whether the server still knows the allocation
  pub doubts : Doubts
  -- how long leaving takes at most, in nanoseconds
  pub leave_wait : ℕ
  -- when the caller wrote the last bytes that it had for a data connection
  pub written : Option ℕ

abbrev pub is_stream : TransportType → Bool
is_stream Udp = false
is_stream Tcp = true

abbrev pub new_noted : Bool → ℕ → ℕ → State → NotedState
new_noted checks_allocation leave_wait now client = record {
  client = client;
  notes = new_notes;
  taken = None;
  next_ticket = 1;
  heard = nothing_heard now;
  verdict = record { blame = None };
  life = new_life (is_stream client.transport);
  doubts = no_doubts checks_allocation;
  leave_wait = leave_wait;
  written = None;
}

abbrev pub with_book : BookState → NotedState → NotedState
with_book book s = record s { notes = record s.notes { book = book } }

abbrev pub with_life : Life → NotedState → NotedState
with_life life s = record s { life = life }
