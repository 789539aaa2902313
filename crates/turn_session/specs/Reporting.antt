-- What a session reports to its caller: results of checks and moves, and then what is noted of its client.
use Rattle.std.specs.Prelude.{Option, Some, None, option_map}
use Rattle.turn_session_book.specs.declared.causes.Why.{Why}
use Rattle.turn_session_book.specs.declared.events.Event.{Event}
use Rattle.turn_session_book.specs.declared.events.Event.TheVariants as Events
use Rattle.turn_session_client.specs.Reporting as Client
use Rattle.turn_session_life.specs.Life.{cause_in}
use Rattle.turn_session_life.specs.Watch.{given_up, taken_move, taken_result}
use Rattle.turn_session_life.specs.declared.watch.Checked.{Checked}
use Rattle.turn_session.specs.SessionState.{SessionState, with_noted, with_watch}

-- an event that is reported, or else the next one
abbrev pub or_next : Option Event × SessionState → (SessionState → Option Event × SessionState) → Option Event × SessionState
or_next (Some event, s) next = (Some event, s)
or_next (None, s) next = next s

abbrev pub checked_event : Checked → Event
checked_event c = Events.Checked c.ticket c.is_answered c.mapped

abbrev pub result_reported : SessionState → Option Event × SessionState
result_reported s = let step = taken_result s.watch in (option_map checked_event step.0, with_watch step.1 s)

-- a check that is under way when the session leaves or has ended has no response
abbrev pub unsettled_check : SessionState → Option Checked × SessionState
unsettled_check s = by (cause_in s.noted.life.phase)
  where
    by : Option Why → Option Checked × SessionState
    by None = (None, s)
    by (Some why) = let step = given_up s.watch in (step.0, with_watch step.1 s)

abbrev pub unsettled_reported : SessionState → Option Event × SessionState
unsettled_reported s = let step = unsettled_check s in (option_map checked_event step.0, step.1)

abbrev pub move_reported : SessionState → Option Event × SessionState
move_reported s = let step = taken_move s.watch in (option_map Events.Moved step.0, with_watch step.1 s)

abbrev pub path_event : SessionState → Option Event × SessionState
path_event s = or_next (result_reported s) (λ t. or_next (unsettled_reported t) move_reported)

abbrev pub noted_reported : SessionState → Option Event × SessionState
noted_reported s = let step = Client.reported_step s.noted in (step.0, with_noted step.1 s)

abbrev pub reported_step : SessionState → Option Event × SessionState
reported_step s = or_next (path_event s) noted_reported
