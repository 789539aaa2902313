-- What is noise by its bytes changes nothing.
use Rattle.turn_client_laws.proofs.Common.{◌≡◌, ℕ, Bool, true, false, cond, not, List, Option, Some, None, refl, inl, inr, ap, sym, ◌∙◌, eqb, none-some}
use Rattle.turn_client_laws.proofs.Machine.{MessageClass, Error, Indication, Request, Success, State, Allocated, Outcome, Stream, Control, IsValidated, Validation, Validated}
use Rattle.turn_client_laws.proofs.Machine.{ResendRequest, Refused, validation_of, auth_of, challenge_in, class_in, method_in, connection_attempt_method, data_method, is_channel_frame, is_message}
use Rattle.turn_client_laws.proofs.Machine.{allocated_judgement, begins_message, Challenge, challenged_or, channel_sent, Ignored, Handled, Judgement, judgement_of, message_step, Unrelated}
use Rattle.turn_client_laws.proofs.Laws.{Input, IsOverControl, processed}
use Rattle.turn_client_runs.specs.Late.{IsNoise, IsStray, IsUnsigned}
use Rattle.turn_client_runs.proofs.MadeLemmas.{control-made}

module _ (message : List ℕ) (now : ℕ) (s : State) (p : s.phase ≡ Allocated) where
  abbrev IsIdle : Type 0
  IsIdle = (message_step message now s).1 ≡ s

  indicated : class_in message ≡ Indication → eqb (method_in message) connection_attempt_method ≡ false → IsIdle
  indicated e is = by (eqb (method_in message) data_method) refl
    where
      by : (b : Bool) → eqb (method_in message) data_method ≡ b → IsIdle
      by true f = rw (p, e, f) refl
      by false f = rw (p, e, f, is) refl

  requests : class_in message ≡ Request → eqb (method_in message) connection_attempt_method ≡ false → IsIdle
  requests e is = by (validation_of (auth_of s) message) refl
    where
      by : (v : Validation) → validation_of (auth_of s) message ≡ v → IsIdle
      by (Validated algorithm) f = rw (p, e, f, e, is) refl
      by (Refused integrity) f = rw (p, e, f) refl
      by (ResendRequest algorithm) f = rw (p, e, f) refl

  unsigned-no : {X : Type 0} (v : Validation) → validation_of (auth_of s) message ≡ v → IsValidated v → IsUnsigned message s → X
  unsigned-no v f is none = absurd (none (rw f is))

  succeeds : class_in message ≡ Success → IsStray message s → IsIdle
  succeeds e stray = by (validation_of (auth_of s) message) refl stray
    where
      by : (v : Validation) → validation_of (auth_of s) message ≡ v → IsStray message s → IsIdle
      by (Validated algorithm) f (inl out) = rw (p, e, f, e, out) refl
      by (Validated algorithm) f (inr none) = unsigned-no (Validated algorithm) f tt none
      by (Refused integrity) f stray = rw (p, e, f) refl
      by (ResendRequest algorithm) f stray = rw (p, e, f) refl

  -- with no challenge
  or-none : challenge_in s message ≡ None → (j : Judgement) → j ≡ Unrelated → challenged_or j (challenge_in s message) ≡ Unrelated
  or-none none j is = by (challenge_in s message) none
    where
      by : (o : Option Challenge) → o ≡ None → challenged_or j o ≡ Unrelated
      by None e = is
      by (Some d) e = absurd (none-some d (sym e))

  unrelated : class_in message ≡ Error → challenge_in s message ≡ None → IsStray message s → allocated_judgement s message ≡ Unrelated
  unrelated e none stray = by (validation_of (auth_of s) message) refl stray
    where
      by : (v : Validation) → validation_of (auth_of s) message ≡ v → IsStray message s → allocated_judgement s message ≡ Unrelated
      by (Validated algorithm) f (inl out) = rw (e, f) (or-none none _ (rw (e, out) refl))
      by (Validated algorithm) f (inr unsigned) = unsigned-no (Validated algorithm) f tt unsigned
      by (Refused integrity) f stray = rw (e, f) (or-none none Unrelated refl)
      by (ResendRequest algorithm) f stray = rw (e, f) (or-none none Unrelated refl)

  fails : class_in message ≡ Error → challenge_in s message ≡ None → IsStray message s → IsIdle
  fails e none stray = rw judged refl
    where
      judged : judgement_of s message ≡ Unrelated
      judged = rw p (unrelated e none stray)

  noise-idle : is_message message ≡ true → IsNoise message s → IsIdle
  noise-idle whole (inl none) = absurd (let no : false ≡ true = sym none ∙ whole in cc)
  noise-idle whole (inr h) = by (class_in message) refl
    where
      by : (c : MessageClass) → class_in message ≡ c → IsIdle
      by Indication e = indicated e (rw e at h)
      by Request e = requests e (rw e at h)
      by Success e = succeeds e (rw e at h)
      by Error e = let both : (challenge_in s message ≡ None) × IsStray message s = rw e at h in fails e both.0 both.1

-- no message: data of a peer in a channel, or nothing
other-idle : (one : Input) → IsOverControl one → is_message one.bytes ≡ false → (processed one).1 ≡ one.before
other-idle one over none = by one.stream refl
  where
    either : (b : Bool) (x y : Outcome) → (cond {A = Outcome × State} b (x, one.before) (y, one.before)).1 ≡ one.before
    either true x y = refl
    either false x y = refl

    by : (o : Option Stream) → one.stream ≡ o → (processed one).1 ≡ one.before
    by None e = rw (e, none) (either (is_channel_frame one.bytes) (channel_sent one.before one.bytes) Ignored)
    by (Some stream) e =
        let mode : stream.mode ≡ Control = rw e at over in
        rw (e, mode, none) (either (not (begins_message one.bytes)) (channel_sent one.before one.bytes) Handled)

pub noise-changes-nothing : (one : Input) → one.before.phase ≡ Allocated → IsOverControl one → IsNoise one.bytes one.before → (processed one).1 ≡ one.before
noise-changes-nothing one p over noise = by (is_message one.bytes) refl
  where
    by : (b : Bool) → is_message one.bytes ≡ b → (processed one).1 ≡ one.before
    by true e = ap (λ (z : Outcome × State). z.1) (control-made one over e) ∙ noise-idle one.bytes one.time one.before p e noise
    by false e = other-idle one over e
