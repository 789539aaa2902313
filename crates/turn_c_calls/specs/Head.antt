-- The head of a packet that carries data to a peer, without the data.
use Rattle.std.specs.Prelude.{◌≡◌, ℕ, ◌+◌, ◌-◌, ◌==◌, nat_lt, not, Bool, true, false, ◌&&◌, if◌then◌else◌, List, ◌++◌, length, take, drop, replicate, Result, Ok, Err}
use Rattle.std.specs.Int.{w16, to_be_bytes}
use Rattle.std.specs.declared.net.socket_addr.SocketAddr.{SocketAddr}
use Rattle.turn_stun.specs.Message.{padded_len}
use Rattle.turn_stun.specs.declared.transport.Transmit.{Transmit}
use Rattle.turn_stun.specs.declared.transport.TransportType.{TransportType}
use Rattle.turn_client_api.specs.Calls.{send_to_step}
use Rattle.turn_client_api.specs.State.{State}
use Rattle.turn_client_api.specs.declared.error.SendError.{SendError}
use Rattle.turn_client_calls.specs.Checks.{needed}
use Rattle.turn_client_calls.specs.Refusal.{send_refusal}
use Rattle.turn_c_calls.specs.Abandon.{AbandonSteps, asks_to_abandon}
use Rattle.turn_c_calls.specs.Answer.{packet_answer, refusal_answer}
use Rattle.turn_c_calls.specs.Held.{Held}
use Rattle.turn_c_calls.specs.Judge.{fault_code, is_udp}
use Rattle.turn_c_calls.specs.Request.{peer_of, time_of}
use Rattle.turn_c_calls.specs.Step.{IsRefused, Steps}
use Rattle.turn_c_calls.specs.declared.answer.Answer.{Answer}
use Rattle.turn_c_calls.specs.declared.code.TheConstants.{SEND_HEAD}
use Rattle.turn_c_calls.specs.declared.fault.Fault.{Fault}
use Rattle.turn_c_calls.specs.declared.fault.Fault.TheVariants as Faults
use Rattle.turn_c_calls.specs.declared.request.Request.{Request}

-- ---- the judgement

abbrev pub Peer : Type 0
Peer = TransportType × SocketAddr

-- What a head needs: data and a buffer of these lengths. A head has at most 48 bytes; the buffer is as large as for sending no data.
abbrev pub head_fits : TransportType → ℕ → ℕ → Peer → Result Peer Fault
head_fits relays len buffer peer =
    if is_udp relays && nat_lt 65504 len then Err Faults.Payload
    else if nat_lt buffer 64 then Err Faults.Buffer
    else Ok peer

-- the peer to which a head is requested, or why the request is refused
abbrev pub head_judged : TransportType → Request → ℕ → ℕ → Result Peer Fault
head_judged relays r len buffer = needed (time_of r.time) Faults.Time (λ now.
    if not (r.reserved == 0) then Err Faults.Call
    else needed (peer_of r) Faults.Call (head_fits relays len buffer))

-- ---- a head

-- The packet is this head, the data and zeros. The head is at the front of the buffer, and the answer says its length and
-- how many zeros there are.
pub record IsHeadOfPacket (packet : Transmit (List ℕ)) (bytes : List ℕ) (buffer after : List ℕ) (a b : Answer) : Type 0 where
  pub head : List ℕ
  pub spelled : packet.payload ≡ head ++ bytes ++ replicate b.start 0
  pub says : b ≡ record (packet_answer packet.transport packet.from packet.to a) { len = length head; start = b.start; left = 0 }
  pub buffer_is : after ≡ head ++ drop (length head) buffer

-- what sending this data says, without the data
abbrev pub HeadShows : Result (Transmit (List ℕ)) SendError → List ℕ → List ℕ → List ℕ → Answer → Answer → Type 0
HeadShows (Ok packet) bytes buffer after a b = IsHeadOfPacket packet bytes buffer after a b
HeadShows (Err error) bytes buffer after a b = (b ≡ refusal_answer (send_refusal error) a) × (after ≡ buffer)

-- The data was sent: the client is in the state after that call, and the answer says what it returns.
pub record IsHeadMade (transport : TransportType) (to : SocketAddr) (now : ℕ) (bytes : List ℕ) (s t : State) (buffer after : List ℕ) (a b : Answer) : Type 0 where
  pub client : t ≡ (send_to_step transport to bytes now s).1
  pub shows : HeadShows (send_to_step transport to bytes now s).0 bytes buffer after a b

-- so it was for all data of this length, since none of it was read
abbrev pub HeadMade : TransportType → SocketAddr → ℕ → ℕ → State → State → List ℕ → List ℕ → Answer → Answer → Type 0
HeadMade transport to now len s t buffer after a b =
    (bytes : List ℕ) → length bytes ≡ len → IsHeadMade transport to now bytes s t buffer after a b

-- what it does was done
abbrev pub HeadEnds : Result Peer Fault → ℕ → ℕ → State → State → List ℕ → List ℕ → Answer → Answer → Type 0
HeadEnds (Ok peer) now len s t buffer after a b = HeadMade peer.0 peer.1 now len s t buffer after a b
HeadEnds (Err refused) now len s t buffer after a b = ⊥

-- it was refused, and nothing has changed
abbrev pub HeadLacks : Result Peer Fault → Fault → State → State → List ℕ → List ℕ → Answer → Answer → Type 0
HeadLacks (Ok peer) fault s t buffer after a b = ⊥
HeadLacks (Err refused) fault s t buffer after a b = (fault ≡ refused) × (t ≡ s) × (after ≡ buffer) × (b ≡ a)

-- ---- a request for a head

-- what it does was done
abbrev pub HeadRequestEnds : Request → ℕ → State → State → List ℕ → List ℕ → Answer → Answer → Type 0
HeadRequestEnds r len s t buffer after a b =
    HeadEnds (head_judged s.config.allocation_transport r len (length buffer)) r.time len s t buffer after a b

-- why it was refused
abbrev pub HeadRequestLacks : Request → Fault → ℕ → State → State → List ℕ → List ℕ → Answer → Answer → Type 0
HeadRequestLacks r fault len s t buffer after a b =
    HeadLacks (head_judged s.config.allocation_transport r len (length buffer)) fault s t buffer after a b

-- ---- one step of a session

-- a head is made and what is to be read stays, or nothing but the kind of the answer has changed
abbrev pub HeadFinishes : Result Peer Fault → ℕ → ℕ → Held → Held → List ℕ → List ℕ → Answer → Answer → Type 0
HeadFinishes (Ok peer) now len was held buffer after a b =
    HeadMade peer.0 peer.1 now len was.client held.client buffer after a b × (held.unread ≡ was.unread)
HeadFinishes (Err fault) now len was held buffer after a b = IsRefused (fault_code fault) was held buffer after a b

-- a request for the head of a packet that carries so many bytes
abbrev pub HeadSteps : Request → ℕ → Held → Held → List ℕ → List ℕ → Answer → Answer → Type 0
HeadSteps r len was held buffer after a b =
    HeadFinishes (head_judged was.client.config.allocation_transport r len (length buffer)) r.time len was held buffer after a b

abbrev pub asks_for_head : Request → Bool
asks_for_head r = r.kind == SEND_HEAD

-- a request that gives the client up, or another one
abbrev pub AbandonStepsIf : Bool → Request → List ℕ → Held → Held → List ℕ → List ℕ → Answer → Answer → Type 0
AbandonStepsIf true r bytes = AbandonSteps r
AbandonStepsIf false r bytes = Steps r bytes

abbrev pub StepsIf : Bool → Request → List ℕ → ℕ → Held → Held → List ℕ → List ℕ → Answer → Answer → Type 0
StepsIf true r bytes len = HeadSteps r len
StepsIf false r bytes len = AbandonStepsIf (asks_to_abandon r) r bytes

-- Any request: with its data, or for a head with the length of the data alone.
abbrev pub Responds : Request → List ℕ → ℕ → Held → Held → List ℕ → List ℕ → Answer → Answer → Type 0
Responds r bytes len = StepsIf (asks_for_head r) r bytes len

-- ---- how a head is made of the packet for no data, which lacks only the data, the padding and what counts them

-- the number of two bytes at this place
abbrev pub number_set : ℕ → ℕ → List ℕ → List ℕ
number_set at number bytes = take at bytes ++ (to_be_bytes w16 number ++ drop (at + 2) bytes)

-- the header of a message counts what follows it
abbrev pub header_counted : ℕ → List ℕ → List ℕ
header_counted len packet =
    if nat_lt 4 (length packet) then number_set 2 (length packet - 20 + padded_len len) packet else packet

-- the last two bytes are the length of the data
abbrev pub head_of : ℕ → List ℕ → List ℕ
head_of len packet =
    if length packet == 0 then packet else number_set (length packet - 2) len (header_counted len packet)

abbrev pub padding_of : ℕ → List ℕ → ℕ
padding_of len packet = if length packet == 0 then 0 else padded_len len - len
