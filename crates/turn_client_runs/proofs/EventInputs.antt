-- Which events an input adds.
use Rattle.turn_client_laws.proofs.Common.{◌≡◌, ◌⊎◌, ◌∙◌, ◌≤◌, ℕ, Bool, true, false, cond, eqb, ltb, List, [], ◌∷◌, ◌++◌, map, Some, None, refl, subst, sym, ap, inl, inr, find, is_some, Contains}
use Rattle.turn_client_laws.proofs.Common.{option_map_or, and_parts, ltb-false, SocketAddr}
use Rattle.turn_client_laws.proofs.Machine.{id_of, Error, Success, is_response, Challenge, IsValidated, validation_of, State, auth_of, TurnEvent, AllocationCreateFailed, PermissionCreateFailed}
use Rattle.turn_client_laws.proofs.Machine.{ChannelCreateFailed, TcpConnected, TcpConnectFailed, Grant, Connection, DataConnection, Purpose, ForAllocation, ForPermission, ForChannel, ForConnect}
use Rattle.turn_client_laws.proofs.Machine.{ForBind, Waiting, Phase, New, Allocated, Stream, attempt_indicated, attempt_requested, bind_again, bind_answered, bind_step, connection_at, closed}
use Rattle.turn_client_laws.proofs.Machine.{fail_all, purposes_of, Judgement, Challenged, Fatal, ConnectionAttempt, SignedRequest, SignedSuccess, SignedError, bind_judgement, class_in, is_bind_of}
use Rattle.turn_client_laws.proofs.Machine.{judgement_of, method_in, Outcome, Handled, Ignored, challenge_step, is_message, message_step, signed_step, wrong_step, connection_gone}
use Rattle.turn_client_laws.proofs.Machine.{connection_attempt_method, connection_bind_method, retried, state_after_retry, Has, has-append}
use Rattle.turn_client_laws.proofs.Laws.{Input, processed, IsBindInput, HasChannelTo, IsGivenFor, IsGrantedBy, IsOverControl, IsAccepted, IsAwaited, IsNotAwaited, accepted-gone, binds-input}
use Rattle.turn_client_laws.proofs.Laws.{found-local, bind-by, by_found, by_accepted, by_test, indicated-by, requested-by, AnswersAllocate, IsSignedReply, Says, judgement-says, connection-there}
use Rattle.turn_client_laws.proofs.Laws.{Binds, has-mapped, SignedSuccess-is, asked_for, for-allocation, has-contains, IsBrought}
use Rattle.turn_client_runs.specs.Events.{FailsIn, IsNoRefresh, IsRefusedIn, LacksFamily, IsStillAsked, Reports, relayed_over}
use Rattle.turn_client_runs.specs.Granted.{IsOverIts}
use Rattle.turn_client_runs.proofs.AppendLemmas.{has-last}
use Rattle.turn_client_runs.proofs.EventReplies.{Lacks, RefusesFor, Replied, StillAsks, signed-says}
use Rattle.turn_client_runs.proofs.GrantInputs.{IsAccepting, IsGivenAt, accepting, bind-accepting}
use Rattle.turn_client_runs.proofs.MadeLemmas.{control-made}

-- ---- what an input does

-- it granted what the event reports
pub record Creating (e : TurnEvent) (one : Input) : Type 0 where
  pub g : Grant
  pub reports : Reports e (relayed_over one) g
  pub purpose : Purpose
  pub accepting : IsAccepting purpose one
  pub over : IsOverIts g one
  pub given : IsGivenAt one purpose g
  pub new : IsNoRefresh purpose

-- what it refused: a channel to the peer that it has
abbrev pub IsRefusedAt : Input → Purpose → TurnEvent → Type 0
IsRefusedAt one (ForChannel number peer) (ChannelCreateFailed transport to) = (class_in one.bytes ≡ Error) × (transport ≡ relayed_over one) × HasChannelTo number to one.before
IsRefusedAt one p e = IsRefusedIn one p e

pub record Refusing (e : TurnEvent) (one : Input) : Type 0 where
  pub over : IsOverControl one
  pub purpose : Purpose
  pub whole : is_message one.bytes ≡ true
  pub signed : IsValidated (validation_of (auth_of one.before) one.bytes)
  pub listed : Contains (purposes_of (id_of one.bytes) one.before) purpose
  pub outstanding : IsAwaited one.bytes one.before
  pub ended : IsNotAwaited one.bytes (processed one).1
  pub refused : IsRefusedAt one purpose e

abbrev pub Causing : TurnEvent → Input → Type 0
Causing e one = Creating e one ⊎ Refusing e one ⊎ FailsIn e one

-- ---- over the control connection

-- a connection is not granted there
no-connection : (p : Purpose) (message : List ℕ) (now : ℕ) (s : State) (c : DataConnection) → IsGivenFor p message now s (Connection c) → ⊥
no-connection ForAllocation message now s c given = given
no-connection p message now s c given = given

wrong-events : (p : Phase) (message : List ℕ) (s : State) → (wrong_step message (record s { phase = p })).1.events ≡ s.events ++ map AllocationCreateFailed s.families
wrong-events New message s = refl
wrong-events p message s = refl

module _ (one : Input) (over : IsOverControl one) (whole : is_message one.bytes ≡ true) where
  abbrev s : State
  s = one.before

  abbrev message : List ℕ
  message = one.bytes

  created : (e : TurnEvent) (g : Grant) (p : Purpose) → judgement_of s message ≡ SignedSuccess → Contains (asked_for message s) p → Reports e (relayed_over one) g → IsNoRefresh p
      → IsGivenFor p message one.time s g → Creating e one
  created e g p judged listed reports new given = by g reports given (accepting one over whole judged g granted)
    where
      is : IsSignedReply Success message s
      is = (SignedSuccess-is s message judged).0

      granted : IsGrantedBy message one.time s g
      granted = record { success = is.class_is; signed = is.signed; outstanding = is.outstanding; purpose = p; listed = listed; given = given }

      by : (h : Grant) → Reports e (relayed_over one) h → IsGivenFor p message one.time s h → IsAccepting p one → Creating e one
      by (Connection c) reports given accepts = absurd (no-connection p message one.time s c given)
      by h reports given accepts = record { g = h; reports = reports; purpose = p; accepting = accepts; over = over; given = given; new = new }

  refused-at : (g : Bool) → (g ≡ false → class_in message ≡ Error) → (p : Purpose) (e : TurnEvent) → RefusesFor g message one.time s p e → IsRefusedAt one p e
  refused-at g error ForAllocation (AllocationCreateFailed family) (still, lacks) = (asked still, lacking lacks)
    where
      asked : StillAsks g message one.time s family → IsStillAsked family one
      asked (inl there) = inl (has-contains family s.families there)
      asked (inr is) = inr is

      lacking : Lacks g message one.time s family → LacksFamily family one
      lacking (inl refuses) = inl (error refuses)
      lacking (inr refuses) = inr refuses
  refused-at g error (ForPermission ip) (PermissionCreateFailed transport other) (refuses, same, is) = (error refuses, same, is)
  refused-at g error (ForChannel number peer) (ChannelCreateFailed transport to) (refuses, same, has) = (error refuses, same, has)
  refused-at g error (ForConnect peer) (TcpConnectFailed to) (same, inl refuses) = (same, inl (error refuses))
  refused-at g error (ForConnect peer) (TcpConnectFailed to) (same, inr none) = (same, inr none)
  refused-at g error p e refused = absurd refused

  -- a signed reply
  replied : (g : Bool) (j : Judgement) → judgement_of s message ≡ j → IsAccepted j → (g ≡ true → j ≡ SignedSuccess) → (g ≡ false → class_in message ≡ Error)
      → IsValidated (validation_of (auth_of s) message) → IsAwaited message s → (e : TurnEvent) → Replied g message one.time s e → Causing e one
  replied g j judged accepted success error signed outstanding e (p, there, inl (is, new, (h, reports, given))) =
      inl (created e h p (judged ∙ success is) (has-contains p (asked_for message s) there) reports new given)
  replied g j judged accepted success error signed outstanding e (p, there, inr refused) = inr (inl (record {
    over = over;
    purpose = p;
    whole = whole;
    signed = signed;
    listed = has-contains p (asked_for message s) there;
    outstanding = outstanding;
    ended = rw (control-made one over whole) (accepted-gone message one.time s (subst IsAccepted (sym judged) accepted));
    refused = refused-at g error p e refused;
  }))

  abbrev Adding : State → Type 0
  Adding t = (e : TurnEvent) → Has e t.events → Has e s.events ⊎ Causing e one

  adding-none : (t : State) → t.events ≡ s.events → Adding t
  adding-none t same e there = inl (subst (Has e) same there)

  -- each family that is still requested fails
  adding-failed : (judgement_of s message ≡ Fatal) ⊎ ((d : Challenge) × (judgement_of s message ≡ Challenged d) × (s.config.max_stale_nonces ≤ s.challenges)) → (t : State)
      → t.events ≡ s.events ++ map AllocationCreateFailed s.families → Adding t
  adding-failed why t is e there = elim (has-append e s.events (map AllocationCreateFailed s.families) (subst (Has e) is there)) [
    | inl old ↦ inl old
    | inr failed ↦
        let (family, wanted, named) = has-mapped AllocationCreateFailed e s.families failed in
        inr (inr (inr (subst (λ (x : TurnEvent). FailsIn x one) (sym named) (record { over = over; whole = whole; asked = has-contains family s.families wanted; ends = why }))))
  ]

  challenge-adds : (d : Challenge) → judgement_of s message ≡ Challenged d → Adding (challenge_step message d one.time s).1
  challenge-adds d judged =
      by_test (λ (x : Outcome × State). Adding x.1) (ltb s.challenges s.config.max_stale_nonces) _ (Handled, closed (fail_all s))
      (λ few. by_found (λ (x : Outcome × State). Adding x.1) again (retried (purposes_of (id_of message) s)) (Ignored, s) (λ purpose e. adding-none (again purpose).1 refl) (adding-none s refl))
      (λ many. adding-failed (inr (d, judged, ltb-false s.challenges s.config.max_stale_nonces many)) (closed (fail_all s)) refl)
    where
      again : Purpose → Outcome × State
      again purpose = (Handled, state_after_retry s (id_of message) purpose d one.time)

  pub message-adds : Adding (message_step message one.time s).1
  message-adds = by (judgement_of s message) refl (judgement-says s message)
    where
      same : State → Type 0
      same t = t.events ≡ s.events

      signed : (g : Bool) (j : Judgement) → judgement_of s message ≡ j → IsAccepted j → (g ≡ true → j ≡ SignedSuccess) → (g ≡ false → class_in message ≡ Error)
          → AnswersAllocate message s → IsValidated (validation_of (auth_of s) message) → IsAwaited message s → Adding (signed_step g message one.time s).1
      signed g j judged accepted success error answers valid outstanding e there =
          elim (signed-says g message one.time s (λ allocates. for-allocation (asked_for message s) (and_parts (is_response (class_in message)) _ (answers allocates)).1) e there) [
            | inl old ↦ inl old
            | inr reported ↦ inr (replied g j judged accepted success error valid outstanding e reported)
          ]

      by : (j : Judgement) → judgement_of s message ≡ j → Says (AnswersAllocate message s) message s (judgement_of s message) → Adding (message_step message one.time s).1
      by (Challenged d) f says = rw f (challenge-adds d f)
      by Fatal f says = rw f (adding-failed (inl f) (wrong_step message s).1 (wrong-events s.phase message s))
      by ConnectionAttempt f says =
          let t = (option_map_or {T = State} {U = Outcome × State} (λ t. (Handled, t)) (attempt_indicated message s) (Ignored, s)).1 in
          rw f (adding-none t (by_accepted same (attempt_indicated message s) s (indicated-by same message s (λ id peer accepts. refl)) refl))
      by SignedRequest f says =
          let t = (cond {A = Outcome × State} (eqb (method_in message) connection_attempt_method) (Handled, attempt_requested message s) (Ignored, s)).1 in
          rw f (adding-none t (by_test (λ (x : Outcome × State). same x.1) (eqb (method_in message) connection_attempt_method) (Handled, attempt_requested message s) (Ignored, s)
          (λ is. requested-by same message s (λ queue. refl) (λ id peer room free. refl)) (λ other. refl)))
      by SignedSuccess f says =
          let (answers, is) : AnswersAllocate message s × IsSignedReply Success message s = rw f at says in
          rw f (signed true SignedSuccess f tt (λ e. refl) (λ e. cc) answers is.signed is.outstanding)
      by SignedError f says =
          let (answers, is) : AnswersAllocate message s × IsSignedReply Error message s = rw f at says in
          rw f (signed false SignedError f tt (λ e. cc) (λ e. is.class_is) answers is.signed is.outstanding)
      by j f says = rw f (adding-none s refl)

-- ---- over a connection that waits to be bound

module _ (local : SocketAddr) (message : List ℕ) (now : ℕ) (s : State) where
  -- the message neither binds the connection nor challenges its request
  pub record Unbinds (e : TurnEvent) : Type 0 where
    pub c : DataConnection
    pub found : connection_at local s ≡ Some c
    pub method : method_in message ≡ connection_bind_method
    pub named : e ≡ TcpConnectFailed c.peer
    pub unbound : bind_judgement s c.local message ≡ SignedSuccess → ⊥
    pub unchallenged : (challenge : Challenge) → bind_judgement s c.local message ≡ Challenged challenge → ⊥

  abbrev pub BindReports : State → TurnEvent → Type 0
  BindReports t e = ((b : Binds local message s t) × (s.phase ≡ Allocated) × (e ≡ TcpConnected b.c.peer)) ⊎ Unbinds e

  abbrev pub BindAdds : State → Type 0
  BindAdds t = (e : TurnEvent) → Has e t.events → Has e s.events ⊎ BindReports t e

  none-binds : (t : State) → t.events ≡ s.events → BindAdds t
  none-binds t same e there = inl (subst (Has e) same there)

  one-binds : (x : TurnEvent) (t : State) → t.events ≡ s.events ++ x ∷ [] → ((e : TurnEvent) → e ≡ x → BindReports t e) → BindAdds t
  one-binds x t is reported e there = elim (has-last e s.events x (subst (Has e) is there)) [
    | inl old ↦ inl old
    | inr same ↦ inr (reported e same)
  ]

  answered-binds : (c : DataConnection) → s.phase ≡ Allocated → connection_at local s ≡ Some c → method_in message ≡ connection_bind_method → BindAdds (bind_answered c message now s)
  answered-binds c phase found method = by (bind_judgement s c.local message) refl
    where
      refused : (j : Judgement) → bind_judgement s c.local message ≡ j → (j ≡ SignedSuccess → ⊥) → ((d : Challenge) → j ≡ Challenged d → ⊥) → (e : TurnEvent) → e ≡ TcpConnectFailed c.peer
          → Unbinds e
      refused j f unbound unchallenged e named = record {
        c = c;
        found = found;
        method = method;
        named = named;
        unbound = λ is. unbound (sym f ∙ is);
        unchallenged = λ d is. unchallenged d (sym f ∙ is);
      }

      by : (j : Judgement) → bind_judgement s c.local message ≡ j → BindAdds (bind_answered c message now s)
      by (Challenged d) f =
          let same : (bind_again c (id_of message) d now s).events ≡ s.events =
          by_found (λ (t : State). t.events ≡ s.events) _ (find (is_bind_of c.local) (purposes_of (id_of message) s)) s (λ purpose e. refl) refl in
          rw f (none-binds (bind_again c (id_of message) d now s) same)
      by SignedSuccess f =
          let b : Binds local message s (bind_answered c message now s) = record { c = c; found = found; method = method; judged = f; grants = rw f refl; streams = rw f refl } in
          one-binds (TcpConnected c.peer) (bind_answered c message now s) (rw f refl) (λ e same. inl (b, phase, same))
      by j f = one-binds (TcpConnectFailed c.peer) (bind_answered c message now s) (rw f refl) (λ e same. inr (refused j f (λ is. cc) (λ d is. cc) e same))

  pub bind-reports : BindAdds (bind_step local message now s)
  bind-reports = bind-by BindAdds local message now s (none-binds s refl) answered-binds

module _ (one : Input) (stream : Stream) (of : one.stream ≡ Some stream) (waits : stream.mode ≡ Waiting) (whole : is_message one.bytes ≡ true) where
  abbrev t : State
  t = bind_step stream.local one.bytes one.time one.before

  bound-causes : (e : TurnEvent) (b : Binds stream.local one.bytes one.before t) → one.before.phase ≡ Allocated → e ≡ TcpConnected b.c.peer → Creating e one
  bound-causes e b phase named = subst (λ (x : TurnEvent). Creating x one) (sym named) (record {
    g = Connection (record b.c { deadline = None });
    reports = refl;
    purpose = ForBind stream.local bind_input.asked bind_input.number;
    accepting = bind-accepting one stream of waits whole b phase bind_input;
    over = rw of (waits, sym here);
    given = (here, (b.c, connection-there stream.local b.c one.before b.found, here, refl), refl);
    new = tt;
  })
    where
      here : b.c.local ≡ stream.local
      here = found-local stream.local b.c _ b.found

      bind_input : IsBindInput stream.local b.c.peer one
      bind_input = binds-input one stream t of waits whole b

  pub waiting-adds : (e : TurnEvent) → Has e t.events → Has e one.before.events ⊎ Causing e one
  waiting-adds e there = elim (bind-reports stream.local one.bytes one.time one.before e there) [
    | inl old ↦ inl old
    | inr (inl (b, phase, named)) ↦ inr (inl (bound-causes e b phase named))
    | inr (inr u) ↦ inr (inr (inr (subst (λ (x : TurnEvent). FailsIn x one) (sym u.named) (record {
      local = stream.local;
      over = rw of (waits, refl);
      whole = whole;
      method = u.method;
      connection = u.c;
      found = u.found;
      to = refl;
      unbound = u.unbound;
      unchallenged = u.unchallenged;
    }))))
  ]

-- ---- all inputs

pub event-brought : (e : TurnEvent) → IsBrought (λ s. Has e s.events) (Causing e)
event-brought e = record {
  differs = λ s t differs there. subst (Has e) (ap (λ (x : State). x.events) differs.others) there;
  message = λ one over whole. message-adds one over whole e;
  binds = λ one stream of waits whole. waiting-adds one stream of waits whole e;
  gone = λ local s there. subst (Has e) (gone-events local s) there;
  ended = λ s there. there;
}
  where
    gone-events : (local : SocketAddr) (s : State) → (connection_gone local s).events ≡ s.events
    gone-events local s = by_test (λ (t : State). t.events ≡ s.events) (is_some (connection_at local s)) _ s (λ e. refl) (λ e. refl)
