-- What a session does with a request.
use Rattle.std.specs.Prelude.{◌≡◌, ◌⊎◌, ℕ, nat_lt, List, [], length, Option, Some, None, Result, Ok, Err}
use Rattle.turn_client_api.specs.declared.call.Call.{Call}
use Rattle.turn_client_api.specs.declared.call.Call.TheVariants as Calls
use Rattle.turn_client_calls.specs.Run.{step}
use Rattle.turn_client_calls.specs.Wanted.{EndsForMemory}
use Rattle.turn_client_calls.specs.declared.reply.Reply.{Reply}
use Rattle.turn_c_calls.specs.Answer.{answer_to, reply_bytes, of_kind}
use Rattle.turn_c_calls.specs.Held.{Held}
use Rattle.turn_c_calls.specs.Judge.{fault_code, request_judged}
use Rattle.turn_c_calls.specs.Request.{call_in, index_in}
use Rattle.turn_c_calls.specs.Buffer.{PointsIfAny, Puts, PutsIfAny}
use Rattle.turn_c_calls.specs.declared.answer.Answer.{Answer}
use Rattle.turn_c_calls.specs.declared.code.TheConstants.{BYTES, OUT_OF_MEMORY}
use Rattle.turn_c_calls.specs.declared.fault.Fault.{Fault}
use Rattle.turn_c_calls.specs.Operation.{Operation}
use Rattle.turn_c_calls.specs.declared.request.Request.{Request}

-- the bytes that are passed in with a call, of which its answer may name a range
abbrev pub passed_in : Call → List ℕ
passed_in (Calls.Recv packet now) = packet.payload
passed_in call = []

-- The answer says the reply: its kind and its fields, and where its bytes are: in the buffer and to be read, or in what was
-- passed in. Of a list it says the address at an index.
abbrev pub Shows : Reply → ℕ → List ℕ → List ℕ → List ℕ → List ℕ → List ℕ → Answer → Answer → Type 0
Shows reply index passed was buffer after unread a b =
    PutsIfAny (reply_bytes reply) was (answer_to index reply a) buffer after unread b
    ⊎ PointsIfAny (reply_bytes reply) passed was (answer_to index reply a) buffer after unread b

-- The call was made: the client is in the state after its step, and the answer says its reply.
pub record IsMade (call : Call) (index : ℕ) (was now : Held) (buffer after : List ℕ) (a b : Answer) : Type 0 where
  pub client : now.client ≡ (step was.client call).1
  pub shows : Shows (step was.client call).0 index (passed_in call) was.unread buffer after now.unread a b

-- A memory allocation of the call failed, which the call needs: the client is as the call leaves it then, and nothing else
-- has changed. A call that allocates no memory never fails so.
pub record IsFailed (call : Call) (was now : Held) (buffer after : List ℕ) : Type 0 where
  pub client : EndsForMemory call was.client now.client
  pub unread : now.unread ≡ was.unread
  pub buffer_is : after ≡ buffer

-- the next bytes were read
pub record IsRead (was now : Held) (buffer after : List ℕ) (a b : Answer) : Type 0 where
  pub client : now.client ≡ was.client
  pub puts : Puts was.unread [] (of_kind BYTES a) buffer after now.unread b

-- nothing but the kind of the answer has changed
pub record IsRefused (kind : ℕ) (was now : Held) (buffer after : List ℕ) (a b : Answer) : Type 0 where
  pub says : b ≡ of_kind kind a
  pub same : now ≡ was
  pub buffer_is : after ≡ buffer

-- the call is made, or if there is none, the next bytes are read
abbrev pub Does : Option Call → ℕ → Held → Held → List ℕ → List ℕ → Answer → Answer → Type 0
Does None index was now buffer after a b = IsRead was now buffer after a b
Does (Some call) index was now buffer after a b = IsMade call index was now buffer after a b

-- a memory allocation of the call failed
abbrev pub Fails : Option Call → Held → Held → List ℕ → List ℕ → Type 0
Fails None was now buffer after = ⊥
Fails (Some call) was now buffer after = IsFailed call was now buffer after

abbrev pub Answers : Option Call → ℕ → Held → Held → List ℕ → List ℕ → Answer → Answer → Type 0
Answers call index was now buffer after a b =
    Does call index was now buffer after a b ⊎ (Fails call was now buffer after × (b ≡ of_kind OUT_OF_MEMORY a))

-- what a request does, or why it is refused
abbrev pub Finishes : Result Operation Fault → List ℕ → Held → Held → List ℕ → List ℕ → Answer → Answer → Type 0
Finishes (Err fault) bytes was now buffer after a b = IsRefused (fault_code fault) was now buffer after a b
Finishes (Ok operation) bytes was now buffer after a b = Answers (call_in operation bytes) (index_in operation) was now buffer after a b

-- One step of a session: a request with its data, what the session held and holds now, the buffer before and after, and
-- the answer before and after.
abbrev pub Steps : Request → List ℕ → Held → Held → List ℕ → List ℕ → Answer → Answer → Type 0
Steps request bytes was now buffer after a b =
    Finishes (request_judged was.client.config.allocation_transport request (nat_lt 0 (length was.unread)) (length bytes) (length buffer))
    bytes was now buffer after a b

-- The same of a request that has to do with no bytes: whatever is passed in, and the buffer stays as it is.
abbrev pub BareSteps : Request → Held → Held → Answer → Answer → Type 0
BareSteps request was now a b = (bytes buffer : List ℕ) → Steps request bytes was now buffer buffer a b
