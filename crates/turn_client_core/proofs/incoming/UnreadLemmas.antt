-- Messages that are ignored whatever attributes they contain.
use Rattle.turn_client_laws.proofs.Common.{◌≡◌, ◌∙◌, ◌==◌, ℕ, Bool, true, false, not, ◌&&◌, ◌||◌, List, length, Option, Some, None, is_some, is_none, ap, refl, subst, arith, and_parts, le-ltb, lt-leb}
use Rattle.turn_client_laws.proofs.Common.{ltb-false, ltb-true, not-false, not-true, or_parts, if◌then◌else◌, nat_lt, nat_le}
use Rattle.turn_client_laws.proofs.Machine.{Challenge, judged, validation_of, Validation, Validated, is_outstanding, IsMessage-no_fault, guard_none, IsMessage, attributes_of, cookie_of, fault_of}
use Rattle.turn_client_laws.proofs.Machine.{header_fault_of, id_of, is_stun_header, type_of, u16_at, MessageClass, Request, Indication, Success, Error, channel_fault_of, purposes_of, challenge_in}
use Rattle.turn_client_laws.proofs.Machine.{class_in, judgement_of, method_in, Ignored, channel_sent, data_indicated, datagram_step, is_channel_frame, is_message, message_step}
use Rattle.turn_client_laws.proofs.Machine.{connection_attempt_method, data_method, retried, State, auth_of, Phase, Allocated}
use Rattle.std.specs.Prelude.{◌<◌}
use Rattle.turn_stun.specs.declared.error.ParseError.{ParseError}
use Rattle.turn_client_api.specs.Judgement as J
use Rattle.turn_client_core.specs.Unread.{indicates_data, is_ignored_unread}
use Rattle.turn_client_core.proofs.incoming.MessageLemmas.{unheaded}
use Rattle.turn_client_core.proofs.ResultLemmas.{none-some_not}
use Rattle.turn_client_core.proofs.incoming.RetryLemmas.{unknown-is}
use Rattle.turn_client_core.specs.ProtocolRecv.{outcome_in}
use Rattle.turn_client_core.specs.declared.protocol_recv.TurnProtocolRecv.{TurnProtocolRecv}

module _ (s : State) (message : List ℕ) (now : ℕ) where
  -- ---- what is ignored, by its judgement

  unrelated-step : judgement_of s message ≡ J.Unrelated → message_step message now s ≡ (Ignored, s)
  unrelated-step e = rw e refl

  request-step : (method_in message == connection_attempt_method) ≡ false → judgement_of s message ≡ J.SignedRequest → message_step message now s ≡ (Ignored, s)
  request-step other e = rw (e, other) refl

  challenged-step : (challenge : Challenge) → s.challenges < s.config.max_stale_nonces → retried (purposes_of (id_of message) s) ≡ None → judgement_of s message ≡ J.Challenged challenge
      → message_step message now s ≡ (Ignored, s)
  challenged-step challenge few none e = rw e (unknown-is s message challenge now few none)

  -- ---- by the class, to a client with an allocation

  of-request : s.phase ≡ Allocated → class_in message ≡ Request → (method_in message == connection_attempt_method) ≡ false → message_step message now s ≡ (Ignored, s)
  of-request phase class other = by (validation_of (auth_of s) message) refl
    where
      by : (v : Validation) → validation_of (auth_of s) message ≡ v → message_step message now s ≡ (Ignored, s)
      by (Validated algorithm) e = request-step other (rw (phase, class, e, class) refl)
      by v e = unrelated-step (rw (phase, class, e) refl)

  of-indication : s.phase ≡ Allocated → class_in message ≡ Indication → (method_in message == data_method) ≡ false → (method_in message == connection_attempt_method) ≡ false
      → message_step message now s ≡ (Ignored, s)
  of-indication phase class other another = unrelated-step (rw (phase, class, other, another) refl)

  of-success : s.phase ≡ Allocated → class_in message ≡ Success → is_outstanding (id_of message) s.transactions ≡ false → message_step message now s ≡ (Ignored, s)
  of-success phase class ended = by (validation_of (auth_of s) message) refl
    where
      by : (v : Validation) → validation_of (auth_of s) message ≡ v → message_step message now s ≡ (Ignored, s)
      by (Validated algorithm) e = unrelated-step (rw (phase, class, e, class, ended) refl)
      by v e = unrelated-step (rw (phase, class, e) refl)

  of-error : s.phase ≡ Allocated → class_in message ≡ Error → is_outstanding (id_of message) s.transactions ≡ false → retried (purposes_of (id_of message) s) ≡ None
      → s.challenges < s.config.max_stale_nonces → message_step message now s ≡ (Ignored, s)
  of-error phase class ended none few = by (challenge_in s message) refl (judged (Some s.config.credentials) s.held message) refl
    where
      by : (o : Option Challenge) → challenge_in s message ≡ o → (v : Validation) → judged (Some s.config.credentials) s.held message ≡ v → message_step message now s ≡ (Ignored, s)
      by (Some challenge) g v f = challenged-step challenge few none (rw (phase, class, g) refl)
      by None g (Validated algorithm) f = unrelated-step (rw (phase, class, g, f, class, ended) refl)
      by None g v f = unrelated-step (rw (phase, class, g, f) refl)

  pub ignored-is : is_ignored_unread (class_in message) (method_in message) (id_of message) s ≡ true → message_step message now s ≡ (Ignored, s)
  ignored-is = by s.phase refl (class_in message) refl
    where
      by : (p : Phase) → s.phase ≡ p → (k : MessageClass) → class_in message ≡ k → is_ignored_unread k (method_in message) (id_of message) s ≡ true → message_step message now s ≡ (Ignored, s)
      by Allocated e Request f h =
          let ignored : not (method_in message == connection_attempt_method) ≡ true = rw e at h in
          of-request e f (not-true _ ignored)
      by Allocated e Indication f h =
          let ignored : not ((method_in message == data_method) || (method_in message == connection_attempt_method)) ≡ true = rw e at h in
          let (other, another) = or_parts _ _ (not-true _ ignored) in
          of-indication e f other another
      by Allocated e Success f h =
          let ignored : not (is_outstanding (id_of message) s.transactions) ≡ true = rw e at h in
          of-success e f (not-true _ ignored)
      by Allocated e Error f h =
          let ended : Bool = not (is_outstanding (id_of message) s.transactions) in
          let once : Bool = not (is_some (retried (purposes_of (id_of message) s))) in
          let few : Bool = nat_lt s.challenges s.config.max_stale_nonces in
          let ignored : (ended && once && few) ≡ true = rw e at h in
          let first = and_parts (ended && once) few ignored in
          let both = and_parts ended once first.0 in
          of-error e f (not-true (is_outstanding (id_of message) s.transactions) both.0)
          (none-some_not (retried (purposes_of (id_of message) s)) (not-true _ both.1)) (ltb-true s.challenges s.config.max_stale_nonces first.1)
      by p e k f h = let no : false ≡ true = rw e at h in cc

-- ---- datagrams with the header of a message

pub no-channel : (bytes : List ℕ) → header_fault_of bytes ≡ None → is_channel_frame bytes ≡ false
unfolding channel_fault_of
no-channel bytes h =
    let one = guard_none (nat_lt (length bytes) 20) _ _ h in
    let two = guard_none (not (is_stun_header bytes)) _ _ one.1 in
    let bits = and_parts (nat_lt (type_of bytes) 0x4000) _ (and_parts (nat_lt (type_of bytes) 0x4000 && (cookie_of bytes == 0x2112a442)) _ (not-false (is_stun_header bytes) two.0)).0 in
    let short : nat_lt (length bytes) 4 ≡ false = le-ltb _ _ (omega (arith, ltb-false (length bytes) 20 one.0)) in
    let least : nat_le 0x4000 (u16_at bytes 0) ≡ false = lt-leb _ _ (ltb-true _ _ bits.0) in
    rw (short, least) refl

pub ignored-datagram : (bytes : List ℕ) (now : ℕ) (s : State) → header_fault_of bytes ≡ None → is_ignored_unread (class_in bytes) (method_in bytes) (id_of bytes) s ≡ true
    → datagram_step bytes now s ≡ (Ignored, s)
ignored-datagram bytes now s headed ignored = by (is_message bytes) refl
  where
    by : (b : Bool) → is_message bytes ≡ b → datagram_step bytes now s ≡ (Ignored, s)
    by true e = rw e (ignored-is s bytes now ignored)
    by false e = rw (e, no-channel bytes headed) refl

-- the header says so
pub ignored-headed : (bytes : List ℕ) (now : ℕ) (s : State) (class : MessageClass) (method id : ℕ) → header_fault_of bytes ≡ None → class ≡ class_in bytes → method ≡ method_in bytes → id ≡ id_of bytes
    → is_ignored_unread class method id s ≡ true → datagram_step bytes now s ≡ (Ignored, s)
ignored-headed bytes now s class method id headed is named same ignored =
    ignored-datagram bytes now s headed (rw (is, named, same) at ignored)

pub ignored-message : (message : List ℕ) (now : ℕ) (s : State) (class : MessageClass) (method id : ℕ) → class ≡ class_in message → method ≡ method_in message → id ≡ id_of message
    → is_ignored_unread class method id s ≡ true → message_step message now s ≡ (Ignored, s)
ignored-message message now s class method id is named same ignored =
    ignored-is s message now (rw (is, named, same) at ignored)

-- what has the header of a message and is none
pub cut-datagram : (bytes : List ℕ) (now : ℕ) (s : State) (fault : ParseError) → header_fault_of bytes ≡ None → fault_of bytes ≡ Some fault → datagram_step bytes now s ≡ (Ignored, s)
cut-datagram bytes now s fault headed cut =
    let none : is_message bytes ≡ false = ap is_none cut in
    rw (none, no-channel bytes headed) refl

-- what has no header of one
pub frame-step : (bytes : List ℕ) (now : ℕ) (s : State) (fault : ParseError) → header_fault_of bytes ≡ Some fault
    → datagram_step bytes now s ≡ (if is_channel_frame bytes then channel_sent s bytes else Ignored, s)
frame-step bytes now s fault unread = by (is_channel_frame bytes) refl
  where
    by : (b : Bool) → is_channel_frame bytes ≡ b → datagram_step bytes now s ≡ (if is_channel_frame bytes then channel_sent s bytes else Ignored, s)
    by true e = rw (unheaded bytes fault unread, e) refl
    by false e = rw (unheaded bytes fault unread, e) refl

-- ---- Data indications

-- a DATA indication for a client with an allocation
data-judged : (s : State) (message : List ℕ) → indicates_data s.phase (class_in message) (method_in message) ≡ true → judgement_of s message ≡ J.DataIndication
data-judged s message = by s.phase refl (class_in message) refl
  where
    by : (p : Phase) → s.phase ≡ p → (k : MessageClass) → class_in message ≡ k → indicates_data p k (method_in message) ≡ true → judgement_of s message ≡ J.DataIndication
    by Allocated e Indication f h = rw (e, f, h) refl
    by p e k f h = cc

data-headed : (bytes : List ℕ) (now : ℕ) (s : State) → header_fault_of bytes ≡ None → judgement_of s bytes ≡ J.DataIndication
    → datagram_step bytes now s ≡ (if is_message bytes then data_indicated s bytes else Ignored, s)
data-headed bytes now s headed judged = by (is_message bytes) refl
  where
    by : (b : Bool) → is_message bytes ≡ b → datagram_step bytes now s ≡ (if is_message bytes then data_indicated s bytes else Ignored, s)
    by true e = rw (e, judged) refl
    by false e = rw (e, no-channel bytes headed) refl

pub data-datagram : (bytes : List ℕ) (now : ℕ) (s : State) (class : MessageClass) (method : ℕ) → header_fault_of bytes ≡ None → class ≡ class_in bytes → method ≡ method_in bytes
    → indicates_data s.phase class method ≡ true → datagram_step bytes now s ≡ (if is_message bytes then data_indicated s bytes else Ignored, s)
data-datagram bytes now s class method headed is named sent =
    data-headed bytes now s headed (data-judged s bytes (rw (is, named) at sent))

-- of bytes that are a message
pub data-message : (s : State) (bytes message : List ℕ) (outcome : TurnProtocolRecv) → bytes ≡ message → IsMessage message (type_of message) (id_of message) (attributes_of message)
    → outcome_in bytes outcome ≡ (if is_message bytes then data_indicated s bytes else Ignored) → outcome_in message outcome ≡ data_indicated s message
data-message s bytes message outcome same is h =
    let whole : is_message message ≡ true = ap is_none (IsMessage-no_fault message _ _ _ is) in
    let there : outcome_in message outcome ≡ (if is_message message then data_indicated s message else Ignored) =
    subst (λ b. outcome_in b outcome ≡ (if is_message b then data_indicated s b else Ignored)) same h in
    there ∙ (rw whole refl)
