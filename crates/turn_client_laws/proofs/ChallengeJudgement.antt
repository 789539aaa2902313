-- What the judgement of a message says of it.
use Rattle.turn_client_laws.proofs.Common.{◌≡◌, ℕ, Bool, true, false, cond, ◌&&◌, not, eqb, List, Option, Some, None, refl, sym, ◌∙◌, ⊤, list_any, and_parts, SocketAddr}
use Rattle.turn_client_laws.proofs.Machine.{id_of, MessageClass, Request, Indication, Success, Error, Challenge, IsValidated, validation_of, Validation, Validated, ResendRequest, Refused}
use Rattle.turn_client_laws.proofs.Machine.{is_outstanding, is_response, State, auth_of, Phase, Requesting, Authenticating, Allocated, purposes_of, connection_attempt_method, data_method, Judgement}
use Rattle.turn_client_laws.proofs.Machine.{Unrelated, Challenged, Fatal, LateResponse, DataIndication, ConnectionAttempt, SignedRequest, SignedSuccess, SignedError, allocated_judgement}
use Rattle.turn_client_laws.proofs.Machine.{answers_allocate, answers_one, authenticating_judgement, bind_judgement, by_class, challenge_in, challenged_or, class_in, is_bind_of, judgement_of}
use Rattle.turn_client_laws.proofs.Machine.{method_in}
use Rattle.turn_client_laws.proofs.CaseLemmas.{by_test}

-- the message is a reply of this class that is signed as the client requires, to an outstanding request
pub record IsSignedReply (class : MessageClass) (message : List ℕ) (s : State) : Type 0 where
  pub class_is : class_in message ≡ class
  pub signed : IsValidated (validation_of (auth_of s) message)
  pub outstanding : is_outstanding (id_of message) s.transactions ≡ true

-- A signed reply answers a request of this kind; what holds of each judgement, where it may be made.
record HoldsOfJudged (Answers : Type 0) (P : Judgement → Type 0) (message : List ℕ) (s : State) : Type 0 where
  unrelated : P Unrelated
  challenged : (d : Challenge) → challenge_in s message ≡ Some d → P (Challenged d)
  fatal : P Fatal
  late : P LateResponse
  data_reported : class_in message ≡ Indication → P DataIndication
  attempt : class_in message ≡ Indication → P ConnectionAttempt
  request : class_in message ≡ Request → P SignedRequest
  success : Answers → IsSignedReply Success message s → P SignedSuccess
  error : Answers → IsSignedReply Error message s → P SignedError

module _ (Answers : Type 0) (P : Judgement → Type 0) (message : List ℕ) (s : State) (k : HoldsOfJudged Answers P message s) where
  or_challenged : (j : Judgement) → P j → P (challenged_or j (challenge_in s message))
  or_challenged j p = by (challenge_in s message) refl
    where
      by : (o : Option Challenge) → challenge_in s message ≡ o → P (challenged_or j o)
      by None e = p
      by (Some d) e = k.challenged d e

  -- signed: if it is a response, one is outstanding
  of_class : (v : Validation) → validation_of (auth_of s) message ≡ v → IsValidated v → Answers → (is_response (class_in message) ≡ true → is_outstanding (id_of message) s.transactions ≡ true)
      → P (by_class (class_in message))
  of_class v e valid answers outstanding = by (class_in message) refl
    where
      reply : (class : MessageClass) → class_in message ≡ class → is_response class ≡ true → IsSignedReply class message s
      reply class f is = record { class_is = f; signed = rw e valid; outstanding = outstanding (rw f is) }

      by : (class : MessageClass) → class_in message ≡ class → P (by_class class)
      by Request f = k.request f
      by Indication f = k.unrelated
      by Success f = k.success answers (reply Success f refl)
      by Error f = k.error answers (reply Error f refl)

  authenticating : (answers_allocate s message ≡ true → Answers) → P (authenticating_judgement s message)
  authenticating answers = by (validation_of (auth_of s) message) refl
    where
      by : (v : Validation) → validation_of (auth_of s) message ≡ v → P (authenticating_judgement s message)
      by (Validated algorithm) e =
          rw e
          (by_test P (answers_allocate s message) _ Unrelated
          (λ a. or_challenged _ (by_test P (is_outstanding (id_of message) s.transactions) _ LateResponse (λ o. of_class (Validated algorithm) e tt (answers a) (λ r. o)) (λ n. k.late)))
          (λ n. k.unrelated))
      by (Refused integrity) e =
          rw e (by_test P (answers_allocate s message) _ Unrelated (λ a. or_challenged _ (by_test P integrity Fatal Unrelated (λ i. k.fatal) (λ n. k.unrelated))) (λ n. k.unrelated))
      by (ResendRequest algorithm) e = rw e (by_test P (answers_allocate s message) _ Unrelated (λ a. or_challenged Unrelated k.unrelated) (λ n. k.unrelated))

  allocated : Answers → P (allocated_judgement s message)
  allocated answers = by (class_in message) refl (validation_of (auth_of s) message) refl
    where
      awaited : (c b : Bool) → (c && not b) ≡ false → c ≡ true → b ≡ true
      awaited true true e f = refl
      awaited c b e f = cc

      signed : (v : Validation) → validation_of (auth_of s) message ≡ v → IsValidated v
          → P (cond (is_response (class_in message) && not (is_outstanding (id_of message) s.transactions)) Unrelated (by_class (class_in message)))
      signed v f valid =
          by_test P (is_response (class_in message) && not (is_outstanding (id_of message) s.transactions)) Unrelated _ (λ n. k.unrelated)
          (λ o. of_class v f valid answers (awaited _ _ o))

      by : (class : MessageClass) → class_in message ≡ class → (v : Validation) → validation_of (auth_of s) message ≡ v → P (allocated_judgement s message)
      by Indication e v f =
          rw e
          (by_test P (eqb (method_in message) data_method) DataIndication _ (λ is. k.data_reported e)
          (λ n. by_test P (eqb (method_in message) connection_attempt_method) ConnectionAttempt Unrelated (λ is. k.attempt e) (λ no. k.unrelated)))
      by Error e (Validated algorithm) f = rw (e, f) (or_challenged _ (signed (Validated algorithm) f tt))
      by Error e v f = rw (e, f) (or_challenged Unrelated k.unrelated)
      by class e (Validated algorithm) f = rw (e, f) (signed (Validated algorithm) f tt)
      by class e v f = rw (e, f) k.unrelated

  judged : (s.phase ≡ Authenticating → answers_allocate s message ≡ true → Answers) → (s.phase ≡ Allocated → Answers) → P (judgement_of s message)
  judged to_allocate answers = by s.phase refl
    where
      by : (p : Phase) → s.phase ≡ p → P (judgement_of s message)
      by Requesting e = rw e (by_test P (answers_one s message) _ Unrelated (λ a. or_challenged Fatal k.fatal) (λ n. k.unrelated))
      by Authenticating e = rw e (authenticating (to_allocate e))
      by Allocated e = rw e (allocated (answers e))
      by p e = rw e k.unrelated

  bind-judged : (local : SocketAddr) → ((is_response (class_in message) && list_any (is_bind_of local) (purposes_of (id_of message) s)) ≡ true → Answers) → P (bind_judgement s local message)
  bind-judged local answers = by (validation_of (auth_of s) message) refl
    where
      by : (v : Validation) → validation_of (auth_of s) message ≡ v → P (bind_judgement s local message)
      by (Validated algorithm) e =
          rw e
          (by_test P (is_response (class_in message) && list_any (is_bind_of local) (purposes_of (id_of message) s)) _ Fatal
          (λ a. or_challenged _ (by_test P (is_outstanding (id_of message) s.transactions) _ Fatal (λ o. of_class (Validated algorithm) e tt (answers a) (λ r. o)) (λ n. k.fatal)))
          (λ n. k.fatal))
      by v e =
          rw e
          (by_test P (is_response (class_in message) && list_any (is_bind_of local) (purposes_of (id_of message) s)) _ Fatal (λ a. or_challenged Fatal k.fatal) (λ n. k.fatal))

-- ---- what a judgement says

abbrev pub Says : Type 0 → List ℕ → State → Judgement → Type 0
Says Answers message s (Challenged d) = challenge_in s message ≡ Some d
Says Answers message s DataIndication = class_in message ≡ Indication
Says Answers message s ConnectionAttempt = class_in message ≡ Indication
Says Answers message s SignedRequest = class_in message ≡ Request
Says Answers message s SignedSuccess = Answers × IsSignedReply Success message s
Says Answers message s SignedError = Answers × IsSignedReply Error message s
Says Answers message s _ = ⊤

says : (Answers : Type 0) (message : List ℕ) (s : State) → HoldsOfJudged Answers (Says Answers message s) message s
says Answers message s = record {
  unrelated = tt;
  challenged = λ d e. e;
  fatal = tt;
  late = tt;
  data_reported = λ e. e;
  attempt = λ e. e;
  request = λ e. e;
  success = λ answers is. (answers, is);
  error = λ answers is. (answers, is);
}

-- before anything is allocated, a signed reply answers a request for an allocation
abbrev pub AnswersAllocate : List ℕ → State → Type 0
AnswersAllocate message s = s.phase ≡ Authenticating → answers_allocate s message ≡ true

pub judgement-says : (s : State) (message : List ℕ) → Says (AnswersAllocate message s) message s (judgement_of s message)
judgement-says s message =
    judged (AnswersAllocate message s) (Says (AnswersAllocate message s) message s) message s (says (AnswersAllocate message s) message s) (λ e is f. is)
    (λ e f. let no : Authenticating ≡ Allocated = sym f ∙ e in cc)

-- and one on a connection that waits, the request to bind it
abbrev pub AnswersBind : SocketAddr → List ℕ → State → Type 0
AnswersBind local message s = list_any (is_bind_of local) (purposes_of (id_of message) s) ≡ true

pub bind-says : (s : State) (local : SocketAddr) (message : List ℕ) → Says (AnswersBind local message s) message s (bind_judgement s local message)
bind-says s local message =
    bind-judged (AnswersBind local message s) (Says (AnswersBind local message s) message s) message s (says (AnswersBind local message s) message s) local
    (λ both. (and_parts (is_response (class_in message)) (list_any (is_bind_of local) (purposes_of (id_of message) s)) both).1)

pub Challenged-is : (s : State) (message : List ℕ) (c : Challenge) → judgement_of s message ≡ Challenged c → challenge_in s message ≡ Some c
Challenged-is s message c e = rw e at (judgement-says s message)

pub bind-is : (s : State) (local : SocketAddr) (message : List ℕ) (c : Challenge) → bind_judgement s local message ≡ Challenged c → challenge_in s message ≡ Some c
bind-is s local message c e = rw e at (bind-says s local message)
