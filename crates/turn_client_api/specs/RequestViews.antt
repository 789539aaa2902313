-- What a client knows of one of its requests, and how many of them wait to be sent.
use Rattle.std.specs.Prelude.{ℕ, List, Option, filter, length, slice_get}
use Rattle.turn_agent.specs.Agent.{resends_made}
use Rattle.turn_client_api.specs.State.{State, Purpose}
use Rattle.turn_client_api.specs.Grants.{purposes_of}
use Rattle.turn_client_api.specs.Queue.{is_to_send}
use Rattle.turn_client_api.specs.declared.request.RequestView.{RequestView}

-- a request with these purposes, of which there are at most two
abbrev pub view_with : List Purpose → Option ℕ → RequestView
view_with purposes resends = record { first = slice_get purposes 0; second = slice_get purposes 1; resends = resends }

-- the request with this ID
abbrev pub viewed_request : ℕ → State → RequestView
viewed_request id s = view_with (purposes_of id s) (resends_made id s.transactions)

-- how many requests wait to be sent for the first time
abbrev pub queued_request_count : State → ℕ
queued_request_count s = length (filter (is_to_send s) s.queue)
