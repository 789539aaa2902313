-- What is held after a run was set by the first challenge that was answered.
use Rattle.turn_client_laws.proofs.Common.{◌≡◌, ◌⊎◌, ◌∙◌, ltb, ℕ, Bool, true, false, cond, List, Option, Some, None, refl, sym, subst, ap, inl, inr, IsSome, is_some, ⊤, SocketAddr, same_Some}
use Rattle.turn_client_laws.proofs.Machine.{id_of, TransportType, Challenge, Config, State, initial, purposes_of, Judgement, Unrelated, Challenged, Fatal, answers_one, challenge_in, challenged_or}
use Rattle.turn_client_laws.proofs.Machine.{judgement_of, closed, transaction_ended, fail_all, retried, state_after_retry, bind_step, connection_at, Outcome, Handled, Ignored, is_message}
use Rattle.turn_client_laws.proofs.Machine.{message_step, connection_gone, state_after, sent, Call, Delete, AllocatedTcpSocket, Recv, PollRecv, Purpose, Phase, Requesting, Authenticating, Allocated}
use Rattle.turn_client_laws.proofs.Machine.{Closed}
use Rattle.turn_client_laws.proofs.Laws.{Input, IsDoneBy, IsOverControl, TakesInput, KeepsEdits, on_test, phase-edits, delete-walk, quiet-walk, tcp_socket-walk, IsBrought, leaves-bring}
use Rattle.turn_client_runs.specs.Held.{HeldFromChallenge, IsFirstAnswer}
use Rattle.turn_client_runs.proofs.MadeLemmas.{control-made}
use Rattle.turn_client_runs.proofs.RealmLemmas.{inputs-after}
use Rattle.turn_client_runs.proofs.InputsOfRuns.{run-brings}

-- ---- if something is held, or the client is past its first request

abbrev IsLate : State → Type 0
IsLate s = IsSome s.held ⊎ (s.phase ≡ Authenticating) ⊎ (s.phase ≡ Allocated)

-- in any other phase something is held
late-held : (s : State) → IsLate s → (s.phase ≡ Authenticating → ⊥) → (s.phase ≡ Allocated → ⊥) → IsSome s.held
late-held s (inl some) other further = some
late-held s (inr (inl e)) other further = absurd (other e)
late-held s (inr (inr e)) other further = absurd (further e)

-- not so for a client that has ended with nothing held
ended-early : (u : State) → u.held ≡ None → IsLate (closed (fail_all u)) → ⊥
ended-early u none h = let no : IsSome u.held = late-held (closed (fail_all u)) h (λ e. cc) (λ e. cc) in let never : false ≡ true = rw none at no in cc

-- ---- a message

-- of the judgements, those of a client that waits for its first challenge
IsAwaiting : Judgement → Type 0
IsAwaiting Unrelated = ⊤
IsAwaiting (Challenged d) = ⊤
IsAwaiting Fatal = ⊤
IsAwaiting _ = ⊥

requesting-is : (b : Bool) (o : Option Challenge) (j : Judgement) → cond b (challenged_or Fatal o) Unrelated ≡ j → IsAwaiting j
unfolding IsAwaiting
requesting-is true (Some d) j e = subst IsAwaiting e tt
requesting-is b o j e = subst IsAwaiting e tt

-- the message is the first challenge that is answered
abbrev Answers : List ℕ → ℕ → State → Type 0
Answers message now s =
    (d : Challenge) × (s.held ≡ None) × (judgement_of s message ≡ Challenged d) × ((message_step message now s).1.held ≡ Some d)

module _ (message : List ℕ) (now : ℕ) (s : State) where
  abbrev Came : Type 0
  Came = IsLate s ⊎ Answers message now s

  -- the message does nothing
  nothing : (o : Outcome) → message_step message now s ≡ (o, s) → IsLate (message_step message now s).1 → Came
  nothing o e h = inl (subst (λ (p : Outcome × State). IsLate p.1) e h)

  -- it ends the client
  ends : (u : State) → u.held ≡ None → message_step message now s ≡ (Handled, closed (fail_all u)) → IsLate (message_step message now s).1 → Came
  ends u none e h = absurd (ended-early u none (subst (λ (p : Outcome × State). IsLate p.1) e h))

  challenge-late : (d : Challenge) → s.held ≡ None → judgement_of s message ≡ Challenged d → IsLate (message_step message now s).1 → Came
  challenge-late d none judged = by (ltb s.challenges s.config.max_stale_nonces) refl (retried (purposes_of (id_of message) s)) refl
    where
      by : (b : Bool) → ltb s.challenges s.config.max_stale_nonces ≡ b → (o : Option Purpose) → retried (purposes_of (id_of message) s) ≡ o → IsLate (message_step message now s).1 → Came
      by false f o g = ends s none (rw (judged, f) refl)
      by true f None g = nothing Ignored (rw (judged, f, g) refl)
      by true f (Some purpose) g = λ h.
          let e : message_step message now s ≡ (Handled, state_after_retry s (id_of message) purpose d now) = rw (judged, f, g) refl in
          inr (d, none, judged, ap (λ (p : Outcome × State). p.1.held) e)

  requesting-late : s.phase ≡ Requesting → s.held ≡ None → IsLate (message_step message now s).1 → Came
  unfolding IsAwaiting
  requesting-late phase none = by (judgement_of s message) refl (requesting-is (answers_one s message) (challenge_in s message) (judgement_of s message) (rw phase refl))
    where
      by : (j : Judgement) → judgement_of s message ≡ j → IsAwaiting (judgement_of s message) → IsLate (message_step message now s).1 → Came
      by Unrelated e is = nothing Ignored (rw e refl)
      by (Challenged d) e is = challenge-late d none e
      by Fatal e is = ends (transaction_ended (id_of message) s) none (rw (e, phase) refl)
      by j e is = absurd (subst IsAwaiting e is)

  message-late : IsLate (message_step message now s).1 → Came
  message-late = by s.held refl s.phase refl
    where
      unheard : judgement_of s message ≡ Unrelated → IsLate (message_step message now s).1 → Came
      unheard e = nothing Ignored (rw e refl)

      by : (o : Option Challenge) → s.held ≡ o → (p : Phase) → s.phase ≡ p → IsLate (message_step message now s).1 → Came
      by (Some d) held p phase h = inl (inl (rw held refl))
      by None held Requesting phase h = requesting-late phase held h
      by None held Authenticating phase h = inl (inr (inl phase))
      by None held Allocated phase h = inl (inr (inr phase))
      by None held p phase h = unheard (rw phase refl) h

-- ---- an input

bind-late : (local : SocketAddr) (message : List ℕ) (now : ℕ) (s : State) → IsLate (bind_step local message now s) → IsLate s
bind-late local message now s = by s.phase refl
  where
    same : bind_step local message now s ≡ s → IsLate (bind_step local message now s) → IsLate s
    same e h = subst IsLate e h

    by : (p : Phase) → s.phase ≡ p → IsLate (bind_step local message now s) → IsLate s
    by Authenticating phase h = inr (inl phase)
    by Allocated phase h = inr (inr phase)
    by p phase h = same (rw phase refl) h

gone-late : (local : SocketAddr) (s : State) → IsLate (connection_gone local s) → IsLate s
gone-late local s = on_test (λ t. IsLate t → IsLate s) (is_some (connection_at local s)) _ s (λ h. h) (λ h. h)

closed-late : (s : State) → IsLate (closed s) → IsLate s
closed-late s h = inl (late-held (closed s) h (λ e. cc) (λ e. cc))

abbrev IsFirst : Input → Type 0
IsFirst one = (d : Challenge) × IsFirstAnswer d one

bringing : IsBrought IsLate IsFirst
bringing = record {
  differs = λ s t differs h. subst IsLate differs.others h;
  message = control;
  binds = λ one stream of waits whole h. inl (bind-late stream.local one.bytes one.time one.before h);
  gone = gone-late;
  ended = closed-late;
}
  where
    control : (one : Input) → IsOverControl one → is_message one.bytes ≡ true → IsLate (message_step one.bytes one.time one.before).1 → IsLate one.before ⊎ IsFirst one
    control one over whole h = elim (message-late one.bytes one.time one.before h) [
      | inl late ↦ inl late
      | inr (d, none, judged, held) ↦
          let after = ap (λ (p : Outcome × State). p.1.held) (control-made one over whole) ∙ held in
          inr (d, record { over = over; whole = whole; none = none; judged = judged; held = after })
    ]

-- ---- a call

Back : State → State → Type 0
Back s t = IsLate t → IsLate s

begins-late : (t : State) (s : State) → t.held ≡ s.held → t.phase ≡ Requesting → IsLate t → IsLate s
begins-late t s same phase h = inl (subst (λ (o : Option Challenge). IsSome o) same (late-held t h (λ e. cc (sym phase ∙ e)) (λ e. cc (sym phase ∙ e))))

ends-late : (s : State) → IsLate (record s { phase = Closed }) → IsLate s
ends-late s h = inl (late-held (record s { phase = Closed }) h (λ e. cc) (λ e. cc))

Back-KeepsEdits : KeepsEdits Back
unfolding Back
Back-KeepsEdits = phase-edits Back (record {
  rest = λ s t h. h;
  trans = λ s t u first second h. first (second h);
  sends = λ now s h. h;
  begins = λ now s new h. begins-late (sent now (record s { phase = Requesting })) s refl refl h;
  ends = λ s h. ends-late s h;
})

others : (call : Call) (s : State) → (TakesInput call → ⊥) → IsLate (state_after call s) → IsLate s ⊎ ⊥
unfolding Back
others call s other h = inl (by call other h)
  where
    by : (call : Call) → (TakesInput call → ⊥) → Back s (state_after call s)
    by (Recv packet now) other = absurd (other tt)
    by (PollRecv now) other = absurd (other tt)
    by (Delete now) other = delete-walk Back Back-KeepsEdits (λ now s h. h) now s
    by (AllocatedTcpSocket id tuple peer local now) other = tcp_socket-walk Back Back-KeepsEdits (λ s streams h. h) id tuple peer local now s
    by call other = quiet-walk Back Back-KeepsEdits call s tt

each : (call : Call) (s : State) → IsLate (state_after call s) → IsLate s ⊎ IsDoneBy IsFirst call s
each call s h = elim (leaves-bring IsLate IsFirst bringing (λ call s. ⊥) others call s (state_after call s) (inl refl) h) [
  | inl late ↦ inl late
  | inr (inl none) ↦ absurd none
  | inr (inr did) ↦ inr did
]

-- ---- a run

initial-early : (transport : TransportType) (local remote : SocketAddr) (config : Config) (seed : List ℕ) → IsLate (initial transport local remote config seed) → ⊥
initial-early transport local remote config seed h =
    let no : false ≡ true = late-held (initial transport local remote config seed) h (λ e. cc) (λ e. cc) in cc

pub held-from : (transport : TransportType) (local remote : SocketAddr) (config : Config) (seed : List ℕ) (calls : List Call) → HeldFromChallenge (initial transport local remote config seed) calls
held-from transport local remote config seed calls c e =
    let first = initial transport local remote config seed in
    elim (run-brings IsLate IsFirst each first calls (inl (rw e refl))) [
      | inl late ↦ absurd (initial-early transport local remote config seed late)
      | inr (one, among, (d, is)) ↦
          let (x, f, realm, algorithm) = inputs-after first calls one among d is.held in
          let same : c ≡ x = same_Some c x (sym e ∙ f) in
          let alike : (c.realm ≡ d.realm) × (c.algorithm ≡ d.algorithm) = rw same (realm, algorithm) in
          (one, among, (d, is, alike.0, alike.1))
    ]
