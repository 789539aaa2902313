-- What a session notes.
use Rattle.std.specs.Prelude.{List}
use Rattle.turn_session_book.specs.declared.events.Event.{Event}
use Rattle.turn_session_book.specs.declared.held.HeldGrant.{HeldGrant}
use Rattle.turn_session_book.specs.declared.open_requests.OpenRequest.{OpenRequest}
use Rattle.turn_session_book.specs.declared.rests.Rest.{Rest}

pub record BookState : Type 0 where
  -- the requests that have no outcome yet, in the order in which the caller made them
  pub requests : List OpenRequest
  -- what was granted, in the order in which it was
  pub held : List HeldGrant
  -- what was refused, the oldest first
  pub rests : List Rest
  -- the events that the caller has not polled, the oldest first
  pub events : List Event
