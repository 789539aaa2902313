-- A client that is given up at once (RFC 8656, section 8.1): nobody waits for the server's answer.
use Rattle.std.specs.Prelude.{ℕ, if◌then◌else◌, List, [], Option, Some, None, Result, Ok, Err, ◌≡◌}
use Rattle.turn_stun.specs.declared.transport.Transmit.{Transmit}
use Rattle.turn_client_api.specs.State.{State, Closed}
use Rattle.turn_client_api.specs.Calls.{is_allocated, delete_text}
use Rattle.turn_client_api.specs.Requests.{id_used, to_server}
use Rattle.turn_client_api.specs.Transmit.{sent}

-- it has ended, holds no grant, awaits no response, and has nothing left to send
abbrev pub abandoned : State → State
abandoned s = record s { phase = Closed; grants = []; listed = []; transactions = []; queue = [] }

-- With allocations, the REFRESH that deletes them is sent at once: neither the pause nor what is queued
-- holds it back.
abbrev pub abandon_step : ℕ → State → Option (Transmit (List ℕ)) × State
abandon_step now s =
    if is_allocated s.phase
    then (Some (to_server s s.local (delete_text s)), sent now (abandoned (id_used s)))
    else (None, abandoned s)
