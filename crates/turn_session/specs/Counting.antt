-- The requests of the client are counted, and their round trips measured.
use Rattle.std.specs.Prelude.{ℕ, List, Option, Some, None}
use Rattle.std.specs.Option.{option_map_or}
use Rattle.turn_client_api.specs.Queue.{id_in_header}
use Rattle.turn_client_api.specs.RequestViews.{viewed_request}
use Rattle.turn_client_api.specs.State.{State}
use Rattle.turn_session_counts.specs.Counts.{CountsState, answered, sent}
use Rattle.turn_session.specs.SessionState.{SessionState, with_counts}

-- a packet of a client in this state, if it is a request that awaits its response
abbrev pub counted : List ℕ → ℕ → State → CountsState → CountsState
counted bytes now client c = by (id_in_header bytes)
  where
    by : Option ℕ → CountsState
    by None = c
    by (Some id) = option_map_or (λ resends. sent id resends now c) (viewed_request id client).resends c

-- a response with this ID
abbrev pub with_answer : ℕ → ℕ → SessionState → SessionState
with_answer id now s = with_counts (answered id now s.counts) s
