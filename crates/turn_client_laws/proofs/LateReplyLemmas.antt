-- A response to no outstanding request changes no grant, and binds no connection.
use Rattle.turn_client_laws.proofs.Common.{◌≡◌, ℕ, true, false, List, [], ◌∷◌, Some, None, inl, inr, refl, sym, ◌∙◌, ap, find, Contains, none-some, SocketAddr, cases_Bool}
use Rattle.turn_client_laws.proofs.Machine.{id_of, Request, Indication, Challenge, is_outstanding, is_response, same_address, State, later_by, DataConnection, Grant, Connection, purposes_of}
use Rattle.turn_client_laws.proofs.Machine.{Judgement, Challenged, Fatal, bind_judgement, class_in, is_bind_of, judgement_of, ConnectionAttempt, SignedRequest, SignedSuccess, SignedError, bind_time}
use Rattle.turn_client_laws.proofs.Machine.{bind_again, bind_answered, bind_step, with_deadline, message_step, Has, has-filter}
use Rattle.turn_client_laws.proofs.ChallengeJudgement.{AnswersAllocate, AnswersBind, Says, bind-says, judgement-says}
use Rattle.turn_client_laws.proofs.StandLemmas.{contains-has, has-contains}
use Rattle.turn_client_laws.proofs.CaseLemmas.{bind-by, by_found}
use Rattle.turn_client_laws.proofs.GrantOriginMessageLemmas.{challenge-grants, wrong-grants}

-- no request with the ID of the message is outstanding
abbrev IsUnasked : List ℕ → State → Type 0
IsUnasked message s = is_outstanding (id_of message) s.transactions ≡ false

-- ---- it changes no grant

pub stray-grants : (message : List ℕ) (now : ℕ) (s : State) → is_response (class_in message) ≡ true → IsUnasked message s → (message_step message now s).1.grants ≡ s.grants
stray-grants message now s answers none = by (judgement_of s message) refl (judgement-says s message)
  where
    by : (j : Judgement) → judgement_of s message ≡ j → Says (AnswersAllocate message s) message s (judgement_of s message) → (message_step message now s).1.grants ≡ s.grants
    by (Challenged d) e is = rw e (challenge-grants message d now s)
    by Fatal e is = rw e (wrong-grants s.phase message s)
    by ConnectionAttempt e is = let no : is_response Indication ≡ true = sym (ap is_response (rw e at is)) ∙ answers in cc
    by SignedRequest e is = let no : is_response Request ≡ true = sym (ap is_response (rw e at is)) ∙ answers in cc
    by SignedSuccess e is = let no : true ≡ false = sym (rw e at is).1.outstanding ∙ none in cc
    by SignedError e is = let no : true ≡ false = sym (rw e at is).1.outstanding ∙ none in cc
    by j e is = rw e refl

-- ---- it binds no connection

-- a connection that is bound is unchanged if another one waits anew
deadline-has : (local : SocketAddr) (time : ℕ) (c : DataConnection) (gs : List Grant) (s : State) → c.deadline ≡ None
    → Has (Connection c) (with_deadline local (Some time) (record s { grants = gs })).grants → Has (Connection c) gs
deadline-has local time c [] s none h = absurd h
deadline-has local time c (Connection d ∷ gs) s none h = elim (cases_Bool (same_address d.local local)) [
  | inl e ↦ elim (rw e at h) [ inl anew ↦ absurd (waits anew) | inr there ↦ inr (deadline-has local time c gs s none there) ]
  | inr e ↦ elim (rw e at h) [ inl is ↦ inl is | inr there ↦ inr (deadline-has local time c gs s none there) ]
]
  where
    waits : Connection c ≡ Connection (record d { deadline = Some time }) → ⊥
    waits e = let same : c ≡ record d { deadline = Some time } = cc in none-some time (sym none ∙ ap (λ (x : DataConnection). x.deadline) same)
deadline-has local time c (_ ∷ gs) s none (inr h) = inr (deadline-has local time c gs s none h)
deadline-has local time c (_ ∷ gs) s none (inl e) = inl e

-- a connection that is bound afterwards existed before
abbrev BindsNothing : DataConnection → State → State → Type 0
BindsNothing c s t = Has (Connection c) t.grants → Has (Connection c) s.grants

again-stray : (c d : DataConnection) (message : List ℕ) (challenge : Challenge) (now : ℕ) (s : State) → c.deadline ≡ None → BindsNothing c s (bind_again d (id_of message) challenge now s)
again-stray c d message challenge now s none =
    by_found (BindsNothing c s) _ (find (is_bind_of d.local) (purposes_of (id_of message) s)) s (λ purpose e. deadline-has d.local (later_by bind_time now) c s.grants s none) (λ h. h)

answered-stray : (c d : DataConnection) (message : List ℕ) (now : ℕ) (s : State) → IsUnasked message s → c.deadline ≡ None → BindsNothing c s (bind_answered d message now s)
answered-stray c d message now s unasked none = by (bind_judgement s d.local message) refl (bind-says s d.local message)
  where
    by : (j : Judgement) → bind_judgement s d.local message ≡ j → Says (AnswersBind d.local message s) message s (bind_judgement s d.local message)
        → BindsNothing c s (bind_answered d message now s)
    by (Challenged challenge) e is = rw e (again-stray c d message challenge now s none)
    by SignedSuccess e is = let no : true ≡ false = sym (rw e at is).1.outstanding ∙ unasked in cc
    by SignedError e is = let no : true ≡ false = sym (rw e at is).1.outstanding ∙ unasked in cc
    by j e is = rw e (λ h. (has-filter _ (Connection c) s.grants h).0)

pub stray-binds : (local : SocketAddr) (message : List ℕ) (now : ℕ) (s : State) (c : DataConnection) → IsUnasked message s → Contains (bind_step local message now s).grants (Connection c)
    → c.deadline ≡ None → Contains s.grants (Connection c)
stray-binds local message now s c unasked there none =
    has-contains (Connection c) s.grants
    (bind-by (BindsNothing c s) local message now s (λ h. h) (λ d allocated found method. answered-stray c d message now s unasked none) (contains-has (Connection c) _ there))
