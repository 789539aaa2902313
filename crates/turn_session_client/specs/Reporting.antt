-- What a session reports to its caller: what was noted, and at its end the cause, an outcome for each request, and the end.
use Rattle.std.specs.Prelude.{Bool, true, false, drop, slice_get, Option, Some, None}
use Rattle.std.specs.Option.{option_map}
use Rattle.turn_session_book.specs.OpenRequests.{without_oldest}
use Rattle.turn_session_book.specs.declared.answers.Outcome.TheVariants.{Ended}
use Rattle.turn_session_book.specs.declared.causes.Why.{Why}
use Rattle.turn_session_book.specs.declared.events.Event.{Event}
use Rattle.turn_session_book.specs.declared.events.Event.TheVariants.{Heard, Ending, Outcome, Over}
use Rattle.turn_session_book.specs.declared.open_requests.OpenRequest.{OpenRequest}
use Rattle.turn_session_life.specs.Life.{cause_in, ending_report, is_due, over_report, reported}
use Rattle.turn_session_client.specs.NotedState.{NotedState, with_book, with_life}

-- an event that is reported, or else the next one
abbrev pub or_next : Option Event × NotedState → (NotedState → Option Event × NotedState) → Option Event × NotedState
or_next (Some event, s) next = (Some event, s)
or_next (None, s) next = next s

-- ---- each kind

abbrev pub heard_reported : NotedState → Option Event × NotedState
heard_reported s = (by (is_due s.life.heard), with_life (record s.life { heard = reported s.life.heard }) s)
  where
    by : Bool → Option Event
    by true = Some Heard
    by false = None

-- what was noted, the oldest first
abbrev pub noted_reported : NotedState → Option Event × NotedState
noted_reported s =
    (slice_get s.notes.book.events 0, with_book (record s.notes.book { events = drop 1 s.notes.book.events }) s)

abbrev pub ending_reported : NotedState → Option Event × NotedState
ending_reported s = let step = ending_report s.life in (option_map Ending step.0, with_life step.1 s)

-- the requests that have no outcome have this one, the oldest first
abbrev pub ended_event : Why → OpenRequest → Event
ended_event why r = Outcome r.ticket r.key (Ended why)

abbrev pub reported_outcome : Why → NotedState → Option Event × NotedState
reported_outcome why s = (
  option_map (ended_event why) (slice_get s.notes.book.requests 0),
  with_book (record s.notes.book { requests = without_oldest s.notes.book.requests }) s,
)

abbrev pub over_reported : NotedState → Option Event × NotedState
over_reported s = let step = over_report s.life in (option_map Over step.0, with_life step.1 s)

-- ---- in this order

abbrev pub reported_end : Why → NotedState → Option Event × NotedState
reported_end why s = or_next (ending_reported s) (λ t. or_next (reported_outcome why t) over_reported)

abbrev pub reported_if : NotedState → Option Event × NotedState
reported_if s = by (cause_in s.life.phase)
  where
    by : Option Why → Option Event × NotedState
    by None = (None, s)
    by (Some why) = reported_end why s

abbrev pub reported_step : NotedState → Option Event × NotedState
reported_step s = or_next (heard_reported s) (λ t. or_next (noted_reported t) reported_if)
