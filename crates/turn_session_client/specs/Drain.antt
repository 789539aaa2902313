-- The events of the client are noted.
use Rattle.std.specs.Prelude.{◌≡◌, ◌⊎◌, ℕ, zero, suc, List, [], ◌∷◌, ◌++◌, drop, slice_get, option_to_list, Option, Some, None}
use Rattle.turn_client_api.specs.declared.event.TurnEvent.{TurnEvent}
use Rattle.turn_session_client.specs.Notes.{noted}
use Rattle.turn_session_client.specs.NotedState.{NotedState}
use Rattle.turn_session_client.specs.declared.notes.Notes.{Notes}

-- the events that are not noted yet, in order
abbrev pub unnoted : NotedState → List TurnEvent
unnoted s = option_to_list s.taken ++ s.client.events

abbrev pub all_noted : List TurnEvent → ℕ → Notes → Notes
all_noted [] now n = n
all_noted (event ∷ later) now n = all_noted later now (noted event now n)

-- all are noted, in order
abbrev pub drained : ℕ → NotedState → NotedState
drained now s = record s {
  client = record s.client { events = [] };
  notes = all_noted (unnoted s) now s.notes;
  taken = None;
}

-- the next of them, which stays with the session until it is noted
abbrev pub next_event : NotedState → Option TurnEvent × NotedState
next_event s = by s.taken
  where
    by : Option TurnEvent → Option TurnEvent × NotedState
    by (Some event) = (Some event, s)
    by None = (
      slice_get s.client.events 0,
      record s {
        client = record s.client { events = drop 1 s.client.events };
        taken = slice_get s.client.events 0;
      },
    )

-- ---- some of them

abbrev pub next_noted : ℕ → NotedState → NotedState
next_noted now s = let next = next_event s in by next.0 next.1
  where
    by : Option TurnEvent → NotedState → NotedState
    by None t = t
    by (Some event) t = record t { notes = noted event now t.notes; taken = None }

-- so many are noted
abbrev pub some_noted : ℕ → ℕ → NotedState → NotedState
some_noted zero now s = s
some_noted (suc n) now s = next_noted now (some_noted n now s)

-- some are noted, in order, and the next one may be taken: with memory for the notes that is all of them
pub record DrainsSome (now : ℕ) (was s : NotedState) : Type 0 where
  pub count : ℕ
  pub is : (s ≡ some_noted count now was) ⊎ (s ≡ (next_event (some_noted count now was)).1)
