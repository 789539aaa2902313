-- A client that is given up at once, and the packet that deletes its allocations.
use Rattle.std.specs.Prelude.{◌≡◌, ◌⊎◌, ℕ, nat_lt, ◌==◌, not, Bool, if◌then◌else◌, List, length, Option, Some, None, Result, Ok, Err}
use Rattle.turn_stun.specs.declared.transport.Transmit.{Transmit}
use Rattle.turn_client_api.specs.Abandon.{abandon_step}
use Rattle.turn_client_api.specs.State.{State}
use Rattle.turn_client_api.specs.declared.state.Phase.TheVariants.{Allocated}
use Rattle.turn_client_calls.specs.Checks.{needed}
use Rattle.turn_c_calls.specs.Answer.{of_kind, packet_answer}
use Rattle.turn_c_calls.specs.Buffer.{Puts, PutsNone}
use Rattle.turn_c_calls.specs.Held.{Held}
use Rattle.turn_c_calls.specs.Judge.{fault_code}
use Rattle.turn_c_calls.specs.Request.{time_of}
use Rattle.turn_c_calls.specs.Step.{IsRefused}
use Rattle.turn_c_calls.specs.declared.answer.Answer.{Answer}
use Rattle.turn_c_calls.specs.declared.code.TheConstants.{ABANDON, NOTHING, OUT_OF_MEMORY}
use Rattle.turn_c_calls.specs.declared.fault.Fault.{Fault}
use Rattle.turn_c_calls.specs.declared.fault.Fault.TheVariants as Faults
use Rattle.turn_c_calls.specs.declared.request.Request.{Request}

-- ---- the judgement

-- the time at which a client is given up, or why the request is refused, where bytes are left to be read or not
abbrev pub abandon_judged : Request → Bool → Result ℕ Fault
abandon_judged r is_left = needed (time_of r.time) Faults.Time (λ now.
    if not (r.reserved == 0) then Err Faults.Call
    else if is_left then Err Faults.Unread
    else Ok now)

-- ---- what is answered

-- the packet as that of `poll_transmit` is returned, or that there is none
abbrev pub AbandonShows : Option (Transmit (List ℕ)) → List ℕ → List ℕ → List ℕ → List ℕ → Answer → Answer → Type 0
AbandonShows None was buffer after unread a b = PutsNone was (of_kind NOTHING a) buffer after unread b
AbandonShows (Some packet) was buffer after unread a b =
    Puts packet.payload was (packet_answer packet.transport packet.from packet.to a) buffer after unread b

-- The client was given up: it is in the state after that step, and the answer says what it returns.
pub record IsAbandoned (now : ℕ) (s t : State) (was unread buffer after : List ℕ) (a b : Answer) : Type 0 where
  pub client : t ≡ (abandon_step now s).1
  pub shows : AbandonShows (abandon_step now s).0 was buffer after unread a b

-- A memory allocation failed, which only a client with an allocation needs: nothing has changed.
pub record LacksMemory (fault : Fault) (s t : State) (was unread buffer after : List ℕ) (a b : Answer) : Type 0 where
  pub is : fault ≡ Faults.OutOfMemory
  pub needs : s.phase ≡ Allocated
  pub client : t ≡ s
  pub unread_is : unread ≡ was
  pub buffer_is : after ≡ buffer
  pub says : b ≡ a

-- it was done
abbrev pub AbandonEnds : Result ℕ Fault → State → State → List ℕ → List ℕ → List ℕ → List ℕ → Answer → Answer → Type 0
AbandonEnds (Ok now) s t was unread buffer after a b = IsAbandoned now s t was unread buffer after a b
AbandonEnds (Err refused) s t was unread buffer after a b = ⊥

-- it was refused, or lacked memory
abbrev pub AbandonLacks : Result ℕ Fault → Fault → State → State → List ℕ → List ℕ → List ℕ → List ℕ → Answer → Answer → Type 0
AbandonLacks (Ok now) fault s t was unread buffer after a b = LacksMemory fault s t was unread buffer after a b
AbandonLacks (Err refused) fault s t was unread buffer after a b =
    (fault ≡ refused) × (t ≡ s) × (unread ≡ was) × (after ≡ buffer) × (b ≡ a)

-- ---- a request

abbrev pub AbandonRequestEnds : Request → State → State → List ℕ → List ℕ → List ℕ → List ℕ → Answer → Answer → Type 0
AbandonRequestEnds r s t was = AbandonEnds (abandon_judged r (nat_lt 0 (length was))) s t was

abbrev pub AbandonRequestLacks : Request → Fault → State → State → List ℕ → List ℕ → List ℕ → List ℕ → Answer → Answer → Type 0
AbandonRequestLacks r fault s t was = AbandonLacks (abandon_judged r (nat_lt 0 (length was))) fault s t was

-- ---- one step of a session

-- The client is given up, or memory is lacking, which only one with an allocation needs, or the request is refused. But for the
-- first, nothing but the kind of the answer has changed.
abbrev pub AbandonFinishes : Result ℕ Fault → Held → Held → List ℕ → List ℕ → Answer → Answer → Type 0
AbandonFinishes (Ok now) was held buffer after a b =
    IsAbandoned now was.client held.client was.unread held.unread buffer after a b
    ⊎ ((was.client.phase ≡ Allocated) × IsRefused OUT_OF_MEMORY was held buffer after a b)
AbandonFinishes (Err fault) was held buffer after a b = IsRefused (fault_code fault) was held buffer after a b

abbrev pub AbandonSteps : Request → Held → Held → List ℕ → List ℕ → Answer → Answer → Type 0
AbandonSteps r was = AbandonFinishes (abandon_judged r (nat_lt 0 (length was.unread))) was

abbrev pub asks_to_abandon : Request → Bool
asks_to_abandon r = r.kind == ABANDON
