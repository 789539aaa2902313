-- What a run processes.
use Rattle.std.specs.Prelude.{List, [], ◌∷◌, ◌++◌, option_to_list}
use Rattle.std.specs.List.{Contains}
use Rattle.turn_client_api.specs.State.{State}
use Rattle.turn_client_api.specs.Payloads.{Payload}
use Rattle.turn_client_laws.specs.Handled.{Input, handled, payloads_by}
use Rattle.turn_client_api.specs.Streams.{payload_in, poll_recv_step}
use Rattle.turn_client_api.specs.Steps.{packet_step, state_after}
use Rattle.turn_client_api.specs.declared.call.Call.{Call}
use Rattle.turn_client_api.specs.declared.call.Call.TheVariants.{Recv, PollRecv}

-- all datagrams and frames that the calls process, in order, each with the state just before
abbrev pub handled_in : State → List Call → List Input
handled_in s [] = []
handled_in s (call ∷ calls) = handled call s ++ handled_in (state_after call s) calls

-- all payloads that the calls return, in order
abbrev pub payloads_in : State → List Call → List Payload
payloads_in s [] = []
payloads_in s (call ∷ calls) = payloads_by call s ++ payloads_in (state_after call s) calls

-- the data of peers that a call returns
abbrev pub delivered_by : Call → State → List Payload
delivered_by (Recv packet now) s = option_to_list (payload_in (packet_step packet now s).0)
delivered_by (PollRecv now) s = option_to_list (poll_recv_step now s).0
delivered_by _ s = []

-- the data of peers that the calls return, in order
abbrev pub answered_in : State → List Call → List Payload
answered_in s [] = []
answered_in s (call ∷ calls) = delivered_by call s ++ answered_in (state_after call s) calls

-- one of these inputs did it
abbrev pub IsAmong : (Input → Type 0) → List Input → Type 0
IsAmong Did inputs = (one : Input) × Contains inputs one × Did one
