-- What a client requests.
use Rattle.std.specs.Prelude.{ℕ, List, true}
use Rattle.turn_client_api.specs.Grants.{with_more_grants}
use Rattle.turn_client_api.specs.Requests.{request_started, fresh_id, queued, request_for, sent_from, waits_from}
use Rattle.turn_client_api.specs.State.{State}
use Rattle.turn_client_api.specs.declared.grant.Grant.{Grant}
use Rattle.turn_client_api.specs.declared.grant.Purpose.{Purpose}

-- a request for the purpose is queued, is listed for these purposes, and requests these grants
abbrev pub asks : Purpose → List Purpose → List Grant → ℕ → State → State
asks purpose purposes grants now s =
    let text = request_for s purpose (fresh_id s) in
    queued true (sent_from s purpose) text (request_started (fresh_id s) text purposes (waits_from now s) (with_more_grants grants s))
