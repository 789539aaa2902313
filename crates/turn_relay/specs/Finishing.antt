-- What is left to do in a relay that is over.
use Rattle.std.specs.Prelude.{ℕ, true, if◌then◌else◌, not, slice_get, Option, Some, None}
use Rattle.turn_session_book.specs.declared.keys.Key.{Key}
use Rattle.turn_relay_tries.specs.Wanted.{after_answer}
use Rattle.turn_relay_tries.specs.declared.causes.Cause.{Cause}
use Rattle.turn_relay_tries.specs.declared.wanted.WantedKey.{WantedKey}
use Rattle.turn_relay_lives.specs.Lives.{is_none_left}
use Rattle.turn_relay.specs.Ending.{again}
use Rattle.turn_relay.specs.RelayState.{RelayState}
use Rattle.turn_relay.specs.declared.due.RelayDue.{RelayDue}
use Rattle.turn_relay.specs.declared.due.RelayDue.TheVariants as Due
use Rattle.turn_relay.specs.declared.events.RelayEvent.TheVariants as Event

abbrev pub unanswered_due : Key → ℕ → Option ℕ → RelayDue
unanswered_due key now (Some ticket) = Due.Event (Event.Unanswered ticket key)
unanswered_due key now None = again now

-- a request without an outcome
abbrev pub unanswered_step : WantedKey → ℕ → RelayState → RelayDue × RelayState
unanswered_step row now r = (unanswered_due row.key now row.ticket, record r { wanted = after_answer row.key r.wanted })

-- `Over` is the last event, when each session has ended
abbrev pub over_step : Cause → Option ℕ → RelayState → RelayDue × RelayState
over_step cause lives r =
    if not (is_none_left r.lives) then (Due.Wait lives, r)
    else (if r.has_ended then (Due.Over, r)
    else (Due.Event (Event.Over cause), record r { has_ended = true }))

abbrev pub finish_step : Cause → Option ℕ → ℕ → RelayState → RelayDue × RelayState
finish_step cause lives now r = by (slice_get r.wanted.keys 0)
  where
    by : Option WantedKey → RelayDue × RelayState
    by (Some row) = unanswered_step row now r
    by None = over_step cause lives r
