-- The requests of a client that are sent and answered.
use Rattle.std.specs.Prelude.{ℕ, ◌-◌, ◌==◌, Bool, if◌then◌else◌, List, [], ◌∷◌, ◌++◌, drop, find, length, remove, Option, Some, None}
use Rattle.std.specs.List.{position}
use Rattle.std.specs.Option.{option_map}
use Rattle.turn_session_counts.specs.Counters.{measured, requested, retransmitted}
use Rattle.turn_session_counts.specs.declared.counters.Counters.{Counters}
use Rattle.turn_session_counts.specs.declared.counts.SentRequest.{SentRequest}

pub record CountsState : Type 0 where
  pub counters : Counters
  -- at most 64 requests that were sent once and are not answered, the oldest first
  pub unanswered : List SentRequest

abbrev pub no_requests : CountsState
no_requests = record { counters = record { requests = 0; retransmissions = 0; round_trip = None }; unanswered = [] }

-- ---- the requests whose sending times are known

-- beside a new one there are the last 63
abbrev pub last_63 : List SentRequest → List SentRequest
last_63 requests = if length requests == 64 then drop 1 requests else requests

abbrev pub remembered : ℕ → ℕ → CountsState → CountsState
remembered id now c = record c { unanswered = last_63 c.unanswered ++ record { id = id; at = now } ∷ [] }

abbrev pub has_id : ℕ → SentRequest → Bool
has_id id request = request.id == id

abbrev pub sent_at : ℕ → List SentRequest → Option ℕ
sent_at id requests = option_map (λ r. r.at) (find (has_id id) requests)

abbrev pub without : ℕ → List SentRequest → List SentRequest
without id requests = by (position (has_id id) requests)
  where
    by : Option ℕ → List SentRequest
    by None = requests
    by (Some place) = remove requests place

abbrev pub without_request : ℕ → CountsState → CountsState
without_request id c = record c { unanswered = without id c.unanswered }

-- ---- the calls

-- only a request that was sent once is measured (RFC 6298, section 3)
abbrev pub sent : ℕ → ℕ → ℕ → CountsState → CountsState
sent id resends now c =
    if resends == 0 then remembered id now (record c { counters = requested c.counters })
    else without_request id (record c { counters = retransmitted c.counters })

abbrev pub answered : ℕ → ℕ → CountsState → CountsState
answered id now c = by (sent_at id c.unanswered)
  where
    by : Option ℕ → CountsState
    by None = c
    by (Some at) = without_request id (record c { counters = measured (now - at) c.counters })
