-- Worked ends, so that the check computes what `poll` answers.
use Rattle.std.specs.Prelude.{List, [], ◌∷◌, false}
use Rattle.turn_client_api.specs.Effect.{new_allocation}
use Rattle.turn_client_api.specs.Requests.{to_server}
use Rattle.turn_client_api.specs.State.{State}
use Rattle.turn_client_api.specs.declared.call.Call.{Call}
use Rattle.turn_client_api.specs.declared.call.Call.TheVariants.{PollEvent, ProtocolError}
use Rattle.turn_client_laws.specs.LawsRows.{granted_at, relayed_v4}

-- the control connection is lost
abbrev pub lost : List Call
lost = ProtocolError ∷ []

-- and the caller takes an event
abbrev pub lost_and_told : List Call
lost_and_told = ProtocolError ∷ PollEvent ∷ []

-- a client with an allocation of 600 s from 0 on
abbrev pub with_one : State → State
with_one s = granted_at 0 (new_allocation 600 0 relayed_v4 ∷ []) s

-- one whose allocations have expired, and which has a reply to send to the server, or a connection to close
abbrev pub with_reply : State → State
with_reply s = record (granted_at 0 [] s) { queue = record { packet = to_server s s.local []; is_request = false } ∷ [] }

abbrev pub with_close : State → State
with_close s = record (granted_at 0 [] s) { closes = relayed_v4 ∷ [] }
