-- The effect of an input that is a whole message, and that an accepted success ends its request.
use Rattle.turn_client_laws.proofs.Common.{◌≡◌, ℕ, true, false, List, Option, Some, None, refl, is_none, lt-ltb, SocketAddr}
use Rattle.turn_client_laws.proofs.Machine.{fault_of, id_of, type_of, no_fault-IsFaultless, begins_message, bind_step, is_message, message_step, signed_step, transaction_ended, SignedSuccess}
use Rattle.turn_client_laws.proofs.Machine.{judgement_of, State, Phase, Authenticating, is_outstanding, is_outstanding-without, Control, Waiting, Stream}
use Rattle.turn_client_laws.proofs.Laws.{Input, processed, IsOverControl, IsOverWaiting}
use Rattle.turn_client_laws.proofs.NewIdMessageLemmas.{AsksNothing, granted-asks, reply-asks}

-- an accepted success ends its request, whatever it grants
signed-ends : (p : Phase) (message : List ℕ) (now : ℕ) (s : State) → AsksNothing (transaction_ended (id_of message) s) (signed_step true message now (record s { phase = p })).1
signed-ends Authenticating message now s = granted-asks message now (transaction_ended (id_of message) (record s { phase = Authenticating }))
signed-ends p message now s = reply-asks true message now (record s { phase = p })

pub success-ends : (message : List ℕ) (now : ℕ) (s : State) → judgement_of s message ≡ SignedSuccess → is_outstanding (id_of message) (message_step message now s).1.transactions ≡ false
success-ends message now s e = rw e (rw (signed-ends s.phase message now s) (is_outstanding-without (id_of message) s.transactions))

-- a whole message begins as one
whole-begins : (bytes : List ℕ) → is_message bytes ≡ true → begins_message bytes ≡ true
whole-begins bytes whole = lt-ltb (type_of bytes) 0x4000 (no_fault-IsFaultless bytes (none (fault_of bytes) whole)).typed
  where
    none : {X : Type 0} (o : Option X) → is_none o ≡ true → o ≡ None
    none None e = refl
    none (Some x) e = cc

-- over the control connection the message is processed
pub control-made : (one : Input) → IsOverControl one → is_message one.bytes ≡ true → processed one ≡ message_step one.bytes one.time one.before
control-made one over whole = by one.stream refl
  where
    by : (o : Option Stream) → one.stream ≡ o → processed one ≡ message_step one.bytes one.time one.before
    by None e = rw (e, whole) refl
    by (Some stream) e =
        let mode : stream.mode ≡ Control = rw e at over in
        rw (e, mode, whole-begins one.bytes whole, whole) refl

-- on a connection that waits it binds, or not
pub waiting-made : (local : SocketAddr) (one : Input) → IsOverWaiting local one → is_message one.bytes ≡ true → (processed one).1 ≡ bind_step local one.bytes one.time one.before
waiting-made local one over whole = by one.stream refl
  where
    by : (o : Option Stream) → one.stream ≡ o → (processed one).1 ≡ bind_step local one.bytes one.time one.before
    by None e = absurd (rw e at over)
    by (Some stream) e =
        let (mode, ends) : (stream.mode ≡ Waiting) × (stream.local ≡ local) = rw e at over in
        rw (e, mode, whole-begins one.bytes whole, whole, ends) refl
