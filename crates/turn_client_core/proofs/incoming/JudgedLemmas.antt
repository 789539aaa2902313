-- The effect of a message, by its judgement.
use Rattle.turn_client_laws.proofs.Common.{◌≡◌, ◌==◌, ℕ, Bool, true, false, List, Option, Some, None, cond, refl, subst}
use Rattle.turn_client_laws.proofs.Machine.{Challenge, validation_of, Validation, Validated, Refused, is_outstanding, id_of, MessageClass, Indication, Judgement, answers_allocate, answers_one}
use Rattle.turn_client_laws.proofs.Machine.{authenticating_judgement, by_class, challenge_in, challenged_or, class_in, judgement_of, method_in, is_data_indication, State, auth_of, Phase, New}
use Rattle.turn_client_laws.proofs.Machine.{Requesting, Authenticating, Allocated, Closed, allocate_denied, allocate_granted, transaction_ended, Handled, response_step, signed_step, data_method}
use Rattle.turn_client_laws.proofs.Machine.{fresh_id}
use Rattle.turn_client_api.specs.Judgement as J
use Rattle.turn_client_core.specs.Attempts.{CanSign}
use Rattle.turn_client_core.specs.Replies.{is_authenticating}

-- ---- what else holds for a signed message

challenged_or-plain : (j : Judgement) (o : Option Challenge) (k : Judgement) → ((challenge : Challenge) → J.Challenged challenge ≡ k → ⊥) → challenged_or j o ≡ k → j ≡ k
challenged_or-plain j None k plain e = e
challenged_or-plain j (Some challenge) k plain e = absurd (plain challenge e)

cond-first : (b : Bool) (j l k : Judgement) → (l ≡ k → ⊥) → cond b j l ≡ k → (b ≡ true) × (j ≡ k)
cond-first true j l k other e = (refl, e)
cond-first false j l k other e = absurd (other e)

-- without a held challenge nothing is signed
pub request-signs : (s : State) (message : List ℕ) → judgement_of s message ≡ J.SignedRequest → CanSign s.phase
request-signs s message = by s.phase refl
  where
    by : (p : Phase) → s.phase ≡ p → judgement_of s message ≡ J.SignedRequest → CanSign s.phase
    by Requesting e = rw e (λ h. let no : J.Fatal ≡ J.SignedRequest = challenged_or-plain J.Fatal (challenge_in s message) J.SignedRequest (λ c e. cc)
        (cond-first (answers_one s message) _ J.Unrelated J.SignedRequest (λ e. cc) h).1 in cc)
    by Authenticating e = rw e (λ h. tt)
    by Allocated e = rw e (λ h. tt)
    by p e = rw e (λ h. cc)

-- a signed error response to an ALLOCATE answers an outstanding one
authenticating-outstanding : (s : State) (message : List ℕ) → authenticating_judgement s message ≡ J.SignedError → is_outstanding (id_of message) s.transactions ≡ true
authenticating-outstanding s message = by (validation_of (auth_of s) message) refl
  where
    once : (j : Judgement) → cond (answers_allocate s message) (challenged_or j (challenge_in s message)) J.Unrelated ≡ J.SignedError → j ≡ J.SignedError
    once j h =
        challenged_or-plain j (challenge_in s message) J.SignedError (λ c e. cc)
        (cond-first (answers_allocate s message) (challenged_or j (challenge_in s message)) J.Unrelated J.SignedError (λ e. cc) h).1

    by : (v : Validation) → validation_of (auth_of s) message ≡ v → authenticating_judgement s message ≡ J.SignedError → is_outstanding (id_of message) s.transactions ≡ true
    by (Validated algorithm) e = rw e (λ h. (cond-first (is_outstanding (id_of message) s.transactions) (by_class (class_in message)) J.LateResponse J.SignedError (λ e. cc) (once _ h)).0)
    by (Refused true) e = rw e (λ h. let no : J.Fatal ≡ J.SignedError = once J.Fatal h in cc)
    by v e = rw e (λ h. let no : J.Unrelated ≡ J.SignedError = once J.Unrelated h in cc)

pub error-answers : (s : State) (message : List ℕ) → judgement_of s message ≡ J.SignedError → s.phase ≡ Authenticating → is_outstanding (id_of message) s.transactions ≡ true
error-answers s message h e = authenticating-outstanding s message (rw e at h)

-- ---- signed replies, by the phase of the client

pub authenticating-is : (phase : Phase) → is_authenticating phase ≡ true → phase ≡ Authenticating
authenticating-is Authenticating h = refl
authenticating-is phase h = cc

pub granted-step : (message : List ℕ) (now : ℕ) (s : State) → is_authenticating s.phase ≡ true
    → signed_step true message now s ≡ (Handled, allocate_granted message now (transaction_ended (id_of message) s))
granted-step message now s h = rw (authenticating-is s.phase h) refl

pub denied-step : (message : List ℕ) (now : ℕ) (s : State) → is_authenticating s.phase ≡ true
    → signed_step false message now s ≡ (Handled, allocate_denied (fresh_id s) message now (transaction_ended (id_of message) s))
denied-step message now s h = rw (authenticating-is s.phase h) refl

pub other-step : (is_granted : Bool) (message : List ℕ) (now : ℕ) (s : State) → is_authenticating s.phase ≡ false → signed_step is_granted message now s ≡ response_step is_granted message now s
other-step is_granted message now s = by s.phase refl
  where
    by : (p : Phase) → s.phase ≡ p → is_authenticating s.phase ≡ false → signed_step is_granted message now s ≡ response_step is_granted message now s
    by Authenticating e = rw e (λ h. cc)
    by p e = rw e (λ h. refl)

-- ---- Data indications

indication-is : (message : List ℕ) → is_data_indication message ≡ true → (class_in message ≡ Indication) × ((method_in message == data_method) ≡ true)
indication-is message = by (class_in message) refl
  where
    by : (class : MessageClass) → class_in message ≡ class → is_data_indication message ≡ true → (class_in message ≡ Indication) × ((method_in message == data_method) ≡ true)
    by Indication e = rw e (λ h. (refl, h))
    by k e = rw e (λ h. cc)

-- nothing is required of a client
abbrev pub IsIdle : Judgement → Type 0
IsIdle J.Unrelated = Unit {0}
IsIdle J.DataIndication = Unit {0}
IsIdle _ = ⊥

data-idle : (s : State) (message : List ℕ) → is_data_indication message ≡ true → IsIdle (judgement_of s message)
data-idle s message h = let (class, method) = indication-is message h in by class method s.phase refl
  where
    by : class_in message ≡ Indication → (method_in message == data_method) ≡ true → (p : Phase) → s.phase ≡ p → IsIdle (judgement_of s message)
    by class method New e = rw e tt
    by class method Closed e = rw e tt
    by class method Allocated e = rw (e, class, method) tt
    by class method p e = rw (e, class) tt

-- a Data indication is nothing else
pub data-judged : (s : State) (message : List ℕ) → is_data_indication message ≡ true → (j : Judgement) → judgement_of s message ≡ j → IsIdle j
data-judged s message h j e = subst IsIdle e (data-idle s message h)
