-- The same for the client and for the bytes to be read, each on its own.
use Rattle.std.specs.Prelude.{◌≡◌, ◌⊎◌, ℕ, nat_lt, Bool, List, length, slice_get, Option, Some, None, Result, Ok, Err}
use Rattle.std.specs.declared.net.ip_addr.IpAddr.{IpAddr}
use Rattle.std.specs.declared.net.socket_addr.SocketAddr.{SocketAddr}
use Rattle.std.specs.declared.ops.Range.{Range}
use Rattle.turn_stun.specs.declared.transport.TransportType.{TransportType}
use Rattle.turn_client_api.specs.Calls.{can_send_to, permissions_of}
use Rattle.turn_client_api.specs.Payloads.{Outcome}
use Rattle.turn_client_api.specs.Payloads as O
use Rattle.turn_client_api.specs.State.{State}
use Rattle.turn_client_api.specs.declared.call.Call.{Call}
use Rattle.turn_client_calls.specs.Run.{recv_reply}
use Rattle.turn_client_calls.specs.Wanted.{EndsForMemory}
use Rattle.turn_c_calls.specs.Answer.{answer_to, reply_bytes, data_answer, found_answer, permission_answer}
use Rattle.turn_c_calls.specs.Buffer.{PutsIfAny}
use Rattle.turn_c_calls.specs.Held.{held}
use Rattle.turn_c_calls.specs.Judge.{judged_as, request_judged}
use Rattle.turn_c_calls.specs.Operation.{Operation}
use Rattle.turn_c_calls.specs.Request.{call_in, index_in}
use Rattle.turn_c_calls.specs.Step.{Does, Fails, IsFailed, IsMade}
use Rattle.turn_c_calls.specs.declared.answer.Answer.{Answer}
use Rattle.turn_c_calls.specs.declared.fault.Fault.{Fault}
use Rattle.turn_c_calls.specs.declared.fault.Fault.TheVariants as Faults
use Rattle.turn_c_calls.specs.declared.code.TheConstants.{PEER_DATA_RANGE}
use Rattle.turn_c_calls.specs.declared.request.Kind.TheVariants as Kinds
use Rattle.turn_c_calls.specs.declared.request.Request.{Request}

-- ---- what became of the input

-- data of a peer is where the machine says
abbrev pub IsPointed : Outcome → List ℕ → List ℕ → List ℕ → List ℕ → Answer → Answer → Type 0
IsPointed (O.PeerData payload) was buffer after unread a b =
    (part : Range ℕ) × (payload.place ≡ Some part)
    × (b ≡ record (data_answer payload.transport payload.peer a) { kind = PEER_DATA_RANGE; start = part.start; len = length payload.bytes })
    × (after ≡ buffer) × (unread ≡ was)
IsPointed _ was buffer after unread a b = ⊥

-- the answer says what became of the input
abbrev pub Reports : Outcome → List ℕ → List ℕ → List ℕ → List ℕ → Answer → Answer → Type 0
Reports outcome was buffer after unread a b =
    PutsIfAny (reply_bytes (recv_reply outcome)) was (answer_to 0 (recv_reply outcome) a) buffer after unread b
    ⊎ IsPointed outcome was buffer after unread a b

-- ---- a call by the states of the client

-- the call was made
abbrev pub Makes : Call → State → State → List ℕ → List ℕ → List ℕ → List ℕ → Answer → Answer → Type 0
Makes call s t was unread buffer after a b = IsMade call 0 (held s was) (held t unread) buffer after a b

-- a memory allocation of it failed
abbrev pub Stops : Call → State → State → List ℕ → List ℕ → List ℕ → List ℕ → Type 0
Stops call s t was unread buffer after = IsFailed call (held s was) (held t unread) buffer after

-- the call was made, and neither the bytes to be read nor the buffer have changed, whatever they are
abbrev pub MakesPlain : Call → ℕ → State → State → Answer → Answer → Type 0
MakesPlain call index s t a b = (unread buffer : List ℕ) → IsMade call index (held s unread) (held t unread) buffer buffer a b

-- the call was made, and the bytes to be read have not changed, whatever they are
abbrev pub MakesAside : Call → State → State → List ℕ → List ℕ → Answer → Answer → Type 0
MakesAside call s t buffer after a b = (unread : List ℕ) → Makes call s t unread unread buffer after a b

abbrev pub DoesSo : Option Call → ℕ → State → State → List ℕ → List ℕ → List ℕ → List ℕ → Answer → Answer → Type 0
DoesSo call index s t was unread = Does call index (held s was) (held t unread)

abbrev pub FailsSo : Option Call → State → State → List ℕ → List ℕ → List ℕ → List ℕ → Type 0
FailsSo call s t was unread = Fails call (held s was) (held t unread)

-- ---- a request of one kind

-- why a request was not answered: it was refused and nothing has changed, or a memory allocation of its call failed
abbrev pub Lacks : Result Operation Fault → Fault → List ℕ → State → State → List ℕ → List ℕ → List ℕ → List ℕ → Answer → Answer → Type 0
Lacks (Err refused) fault bytes s t was unread buffer after a b =
    (fault ≡ refused) × (t ≡ s) × (unread ≡ was) × (after ≡ buffer) × (b ≡ a)
Lacks (Ok operation) fault bytes s t was unread buffer after a b =
    (fault ≡ Faults.OutOfMemory) × FailsSo (call_in operation bytes) s t was unread buffer after × (b ≡ a)

-- what it does was done
abbrev pub Ends : Result Operation Fault → List ℕ → State → State → List ℕ → List ℕ → List ℕ → List ℕ → Answer → Answer → Type 0
Ends (Err refused) bytes s t was unread buffer after a b = ⊥
Ends (Ok operation) bytes s t was unread buffer after a b =
    DoesSo (call_in operation bytes) (index_in operation) s t was unread buffer after a b

-- the same for a call that is made whatever the data, the bytes to be read and the buffer are, or for none
abbrev pub EndsPlain : Option Call → State → State → Answer → Answer → Type 0
EndsPlain (Some call) s t a b = MakesPlain call 0 s t a b
EndsPlain None s t a b = ⊥

abbrev pub LacksPlain : Option Call → Fault → State → State → Answer → Answer → Type 0
LacksPlain (Some call) fault s t a b = (fault ≡ Faults.OutOfMemory) × EndsForMemory call s t × (b ≡ a)
LacksPlain None fault s t a b = (fault ≡ Faults.Call) × (t ≡ s) × (b ≡ a)

-- the same where the client is only looked at, for these arguments or for none
abbrev pub EndsLook : {A : Type 0} → Option A → (A → Answer → Answer) → Answer → Answer → Type 0
EndsLook (Some x) said a b = b ≡ said x a
EndsLook None said a b = ⊥

abbrev pub LacksLook : {A : Type 0} → Option A → Fault → Answer → Answer → Type 0
LacksLook (Some x) fault a b = ⊥
LacksLook None fault a b = (fault ≡ Faults.Call) × (b ≡ a)

-- ---- a request

-- what it does was done
abbrev pub RequestEnds : Request → List ℕ → State → State → List ℕ → List ℕ → List ℕ → List ℕ → Answer → Answer → Type 0
RequestEnds r bytes s t was unread buffer after a b =
    Ends (request_judged s.config.allocation_transport r (nat_lt 0 (length was)) (length bytes) (length buffer)) bytes s t was unread buffer after a b

-- why it was not answered
abbrev pub RequestLacks : Request → Fault → List ℕ → State → State → List ℕ → List ℕ → List ℕ → List ℕ → Answer → Answer → Type 0
RequestLacks r fault bytes s t was unread buffer after a b =
    Lacks (request_judged s.config.allocation_transport r (nat_lt 0 (length was)) (length bytes) (length buffer)) fault bytes s t was unread buffer after a b

-- the same of a request that has to do with no bytes, whatever is passed in, is to be read and is in the buffer
abbrev pub BareEnds : Request → State → State → Answer → Answer → Type 0
BareEnds r s t a b = (bytes unread buffer : List ℕ) → RequestEnds r bytes s t unread unread buffer buffer a b

abbrev pub BareLacks : Request → Fault → State → State → Answer → Answer → Type 0
BareLacks r fault s t a b = (bytes unread buffer : List ℕ) → RequestLacks r fault bytes s t unread unread buffer buffer a b

-- what it does was done, and only the answer has changed, whatever the client relays over and the buffer is
abbrev pub RequestShows : Request → List ℕ → State → List ℕ → Answer → Answer → Type 0
RequestShows r bytes s was a b =
    (relays : TransportType) (buffer : List ℕ)
    → Ends (request_judged relays r (nat_lt 0 (length was)) (length bytes) (length buffer)) bytes s s was was buffer buffer a b

-- a request for sending data at this time, whatever is to be read
abbrev pub SendEnds : ℕ → Request → List ℕ → State → State → List ℕ → List ℕ → Answer → Answer → Type 0
SendEnds now r bytes s t buffer after a b =
    (unread : List ℕ) (is_left : Bool)
    → Ends (judged_as s.config.allocation_transport now r is_left (length bytes) (length buffer) Kinds.SendTo) bytes s t unread unread buffer after a b

abbrev pub SendLacks : ℕ → Request → Fault → List ℕ → State → State → List ℕ → List ℕ → Answer → Answer → Type 0
SendLacks now r fault bytes s t buffer after a b =
    (unread : List ℕ) (is_left : Bool)
    → Lacks (judged_as s.config.allocation_transport now r is_left (length bytes) (length buffer) Kinds.SendTo) fault bytes s t unread unread buffer after a b

-- ---- what a look answers

abbrev pub permissions_answer : ℕ → State → TransportType × SocketAddr → Answer → Answer
permissions_answer index s relayed a = permission_answer (slice_get (permissions_of relayed.0 relayed.1 s) index) a

abbrev pub have_permission_answer : State → TransportType × IpAddr → Answer → Answer
have_permission_answer s peer a = found_answer (can_send_to peer.0 peer.1 s) a
