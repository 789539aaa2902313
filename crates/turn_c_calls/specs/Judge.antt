-- Which requests are made.
use Rattle.std.specs.Prelude.{ℕ, ◌+◌, nat_lt, Bool, true, false, ◌&&◌, if◌then◌else◌, Result, Ok, Err}
use Rattle.turn_stun.specs.declared.transport.TransportType.{TransportType}
use Rattle.turn_stun.specs.declared.transport.TransportType.TheVariants.{Udp, Tcp}
use Rattle.turn_client_api.specs.declared.call.Call.{Call}
use Rattle.turn_client_calls.specs.Checks.{needed}
use Rattle.turn_client_calls.specs.Plain.{IsPlainCall}
use Rattle.turn_client_calls.specs.Run.{IsCallable}
use Rattle.turn_c_calls.specs.Request.{kind_in, operation_with, time_of}
use Rattle.turn_c_calls.specs.declared.code.TheConstants.{BAD_CALL, BAD_TIME, BAD_PAYLOAD, OUT_OF_MEMORY, SMALL_BUFFER, UNREAD_BYTES}
use Rattle.turn_c_calls.specs.declared.fault.Fault.{Fault}
use Rattle.turn_c_calls.specs.declared.fault.Fault.TheVariants as Faults
use Rattle.turn_c_calls.specs.Operation.{Operation}
use Rattle.turn_c_calls.specs.Operation as Operations
use Rattle.turn_c_calls.specs.declared.request.Kind.{Kind}
use Rattle.turn_c_calls.specs.declared.request.Request.{Request}

-- ---- the judgement

abbrev pub is_udp : TransportType → Bool
is_udp Udp = true
is_udp Tcp = false

-- What an operation needs: of a client whose allocation is over `relays`, where bytes are left to be read or not, with data
-- and a buffer of these lengths. A packet adds at most 64 bytes to its data.
abbrev pub if_fits : TransportType → Bool → ℕ → ℕ → Operation → Result Operation Fault
if_fits relays is_left len buffer (Operations.SendTo transport to now) =
    if is_udp relays && nat_lt 65504 len then Err Faults.Payload
    else if nat_lt buffer (len + 64) then Err Faults.Buffer
    else Ok (Operations.SendTo transport to now)
if_fits relays is_left len buffer (Operations.Recv tuple now) = if is_left then Err Faults.Unread else Ok (Operations.Recv tuple now)
if_fits relays is_left len buffer (Operations.PollRecv now) = if is_left then Err Faults.Unread else Ok (Operations.PollRecv now)
if_fits relays is_left len buffer (Operations.PollTransmit now) =
    if is_left then Err Faults.Unread else Ok (Operations.PollTransmit now)
if_fits relays is_left len buffer operation = Ok operation

-- a request of this kind at this time
abbrev pub judged_as : TransportType → ℕ → Request → Bool → ℕ → ℕ → Kind → Result Operation Fault
judged_as relays now r is_left len buffer kind = needed (operation_with now r kind) Faults.Call (if_fits relays is_left len buffer)

-- What a request does, or why it is refused.
abbrev pub request_judged : TransportType → Request → Bool → ℕ → ℕ → Result Operation Fault
request_judged relays r is_left len buffer =
    needed (time_of r.time) Faults.Time (λ now. needed (kind_in r) Faults.Call (judged_as relays now r is_left len buffer))

abbrev pub fault_code : Fault → ℕ
fault_code Faults.Time = BAD_TIME
fault_code Faults.Call = BAD_CALL
fault_code Faults.Payload = BAD_PAYLOAD
fault_code Faults.Unread = UNREAD_BYTES
fault_code Faults.Buffer = SMALL_BUFFER
fault_code Faults.OutOfMemory = OUT_OF_MEMORY

-- a call whose reply has neither bytes nor a list, and which can be made on any client
abbrev pub IsPossible : Call → Type 0
IsPossible call = ((relays : TransportType) → IsCallable relays call) × IsPlainCall call
