-- Worked runs, with times in nanoseconds: what a session notes when the server refuses a permission, or seems to.
use Rattle.std.specs.Prelude.{◌≡◌, true, false, List, [], ◌∷◌, Option, Some, None}
use Rattle.std.specs.declared.net.ip_addr.IpAddr.{IpAddr}
use Rattle.std.specs.declared.net.ip_addr.IpAddr.TheVariants.{V4}
use Rattle.turn_stun.specs.declared.transport.TransportType.TheVariants.{Udp}
use Rattle.turn_client_api.specs.State.{State}
use Rattle.turn_client_api.specs.declared.event.TurnEvent.{TurnEvent}
use Rattle.turn_client_api.specs.declared.event.TurnEvent.TheVariants.{PermissionCreated, PermissionCreateFailed}
use Rattle.turn_session_book.specs.Book.{new_book}
use Rattle.turn_session_book.specs.OpenRequests.{new_request}
use Rattle.turn_session_book.specs.declared.answers.Outcome.{Outcome}
use Rattle.turn_session_book.specs.declared.answers.Outcome.TheVariants.{Granted, Refused, TimedOut}
use Rattle.turn_session_book.specs.declared.events.Event.{Event}
use Rattle.turn_session_book.specs.declared.events.Event.TheVariants as Events
use Rattle.turn_session_book.specs.declared.keys.Key.{Key}
use Rattle.turn_session_book.specs.declared.keys.Key.TheVariants.{Permission}
use Rattle.turn_session_book.specs.declared.open_requests.Progress.TheVariants.{Queued}
use Rattle.turn_session_book.specs.declared.replies.ErrorReply.{ErrorReply}
use Rattle.turn_session_life.specs.declared.responses.Asked.TheVariants.{Other}
use Rattle.turn_session_client.specs.Drain.{drained}
use Rattle.turn_session_client.specs.Notes.{new_notes}
use Rattle.turn_session_client.specs.NotedState.{NotedState, new_noted}
use Rattle.turn_session_client.specs.Receiving.{received}
use Rattle.turn_session_client.specs.declared.reading.Reading.{Reading}
use Rattle.turn_session_client.specs.declared.reading.Text.TheVariants.{Error}

abbrev pub peer : IpAddr
peer = V4 (record { octets = 192 ∷ 0 ∷ 2 ∷ 77 ∷ [] })

abbrev pub key : Key
key = Permission peer

-- a permission was requested under the ticket 1, this error was received last, and the client has these events
abbrev pub requested_session : List TurnEvent → Option ErrorReply → State → NotedState
requested_session events reply client = record (new_noted false 2_000_000_000 0 client) {
  client = record client { events = events };
  notes = record new_notes { book = record new_book { requests = new_request 1 key Queued ∷ [] }; reply = reply };
  next_ticket = 2;
}

abbrev pub outcome : Outcome → Event
outcome said = Events.Outcome 1 key said

-- at 1 s
abbrev pub noted_session : List TurnEvent → ErrorReply → State → NotedState
noted_session events error client = drained 1_000_000_000 (requested_session events (Some error) client)

-- the request has its outcome once, by the error that was received, and the key rests for 5 s
pub record IsRefused (error : ErrorReply) (s : NotedState) : Type 0 where
  pub outcome : s.notes.book.events ≡ outcome (Refused error) ∷ []
  pub none_waits : s.notes.book.requests ≡ []
  pub rests : s.notes.book.rests ≡ record { key = key; wait = 5_000_000_000; until = 6_000_000_000; error = Some error } ∷ []

-- a grant that ends later, for which nobody waits, is lost
pub record IsLost (error : ErrorReply) (s : NotedState) : Type 0 where
  pub events : s.notes.book.events ≡ outcome Granted ∷ Events.Lost key (Refused error) ∷ []
  pub none_is_held : s.notes.book.held ≡ []
  pub none_rests : s.notes.book.rests ≡ []

-- ---- an error that nobody signed, and that the client has ignored

abbrev pub ignored : ErrorReply → Reading
ignored error = record { asked = Other; key = Some key; second = None; is_awaited = true; text = Error error }

-- the request times out then
abbrev pub ignoring_session : ErrorReply → State → NotedState
ignoring_session error client =
    drained 1_000_000_000 (received (Some (ignored error)) (Some error) false 0 (requested_session (PermissionCreateFailed Udp peer ∷ []) None client))

-- the outcome has the error, and says that the client did not accept it
pub record IsHint (error : ErrorReply) (s : NotedState) : Type 0 where
  pub outcome : s.notes.book.events ≡ outcome (TimedOut (Some (record error { is_taken = false }))) ∷ []
  pub none_waits : s.notes.book.requests ≡ []

pub record RefusalsAreReported : Type 0 where
  pub hint : (error : ErrorReply) (client : State) → IsHint error (ignoring_session error client)
  pub request : (error : ErrorReply) (client : State) → IsRefused error (noted_session (PermissionCreateFailed Udp peer ∷ []) error client)
  pub grant : (error : ErrorReply) (client : State)
      → IsLost error (noted_session (PermissionCreated Udp peer ∷ PermissionCreateFailed Udp peer ∷ []) error client)
