-- An input tells of what may be reported, once.
use Rattle.turn_client_laws.proofs.Common.{◌≡◌, ◌∙◌, ℕ, ◌+◌, ◌≤◌, ◌<◌, Bool, true, false, cond, not, ◌&&◌, eqb, ltb, List, [], ◌∷◌, ◌++◌, filter, filter_map, length, map, Option, Some, None, refl}
use Rattle.turn_client_laws.proofs.Common.{sym, subst, arith, inl, inr, IfSome, find, is_some, socket_ip, option_map_or, and_parts, cases_Bool, eqb-true, lt-ltb, length-append, SocketAddr}
use Rattle.turn_client_laws.proofs.Machine.{id_of, Tcp, Challenge, same_address, State, TurnEvent, TcpConnected, TcpConnectFailed, DataConnection, DataOffer, Grant, Connection, Offer, Origin}
use Rattle.turn_client_laws.proofs.Machine.{ServerIndication, ServerRequest, Purpose, Phase, New, Queued, accepts_attempt, attempt_indicated, attempt_requested, bind_answered, bind_step, bound}
use Rattle.turn_client_laws.proofs.Machine.{connection_at, deadline_set, is_connected, not_bound, with_deadline, closed, fail_all, transaction_ended, with_offer, as_connection, find_allocation_to}
use Rattle.turn_client_laws.proofs.Machine.{is_connection_from, purposes_of, unlisted, without_grants, Judgement, Challenged, ConnectionAttempt, Fatal, SignedError, SignedRequest, SignedSuccess}
use Rattle.turn_client_laws.proofs.Machine.{bind_judgement, connection_id_in, is_bind_of, judgement_of, method_in, peer_in, Handled, Ignored, Outcome, challenge_step, message_step, wrong_step}
use Rattle.turn_client_laws.proofs.Machine.{connection_gone, connection_attempt_method, fresh_id, requested, bind_time, retried, state_after_retry, with_held, later_by, same_address-self}
use Rattle.turn_client_laws.proofs.Machine.{same_address-true, Has, cases_Option}
use Rattle.turn_client_laws.proofs.Laws.{Input, processed, DiffersInStreams, InputsLead, found-local, bind-by, by_found, by_accepted, by_test, connection-there, AllHaveGrant, input-by}
use Rattle.turn_client_runs.specs.Reported.{attempts_in, is_like, is_to_come}
use Rattle.turn_client_runs.proofs.LastingCounts.{passes, passes-all, passes-append, passes-more}
use Rattle.turn_client_runs.proofs.LoneConnects.{HasLoneConnects}
use Rattle.turn_client_runs.proofs.OfferMessages.{Reports, judgement-reports}
use Rattle.turn_client_runs.proofs.ReportedCounts.{passes-over}
use Rattle.turn_client_runs.proofs.ReportedLemmas.{Spends, connected-like, connection-comes, is_of_connection, load, offer-comes, spends-removed, spends-same, spends-reported}
use Rattle.turn_client_runs.proofs.ReportedAllocates.{IsSettled, fail-spends}
use Rattle.turn_client_runs.proofs.ReportedReplies.{signed-spends}
use Rattle.turn_client_runs.proofs.UnboundStreams.{ComesUnbound, IsUnbound}

-- ---- attempts of the server

-- the input tells of an attempt that is accepted, by its message and by the states before and after
abbrev is_attempt : SocketAddr → List ℕ → State → State → Bool
is_attempt peer message s t =
    eqb (method_in message) connection_attempt_method && option_map_or (λ from. same_address from peer) (peer_in message) false
    && ltb (length s.grants) (length t.grants)

abbrev attempts : TurnEvent → List ℕ → State → State → ℕ
attempts (TcpConnected peer) message s t = cond (is_attempt peer message s t) 1 0
attempts (TcpConnectFailed peer) message s t = cond (is_attempt peer message s t) 1 0
attempts e message s t = 0

-- of several inputs
attempts-cons : (e : TurnEvent) (one : Input) (later : List Input) → attempts_in e (one ∷ later) ≡ attempts e one.bytes one.before (processed one).1 + attempts_in e later
attempts-cons (TcpConnected peer) one later =
    elim (cases_Bool (is_attempt peer one.bytes one.before (processed one).1)) [ inl f ↦ rw f (omega arith) | inr f ↦ rw f (omega arith) ]
attempts-cons (TcpConnectFailed peer) one later =
    elim (cases_Bool (is_attempt peer one.bytes one.before (processed one).1)) [ inl f ↦ rw f (omega arith) | inr f ↦ rw f (omega arith) ]
attempts-cons e one later = refl

-- a reply is queued, or the peer that the message names is offered
requested-names : (P : State → Type 0) (message : List ℕ) (s : State) → ((queue : List Queued) → P (record s { queue = queue }))
    → ((id : ℕ) (peer : SocketAddr) → peer_in message ≡ Some peer → P (with_offer id peer (ServerRequest (id_of message)) s)) → P (attempt_requested message s)
requested-names P message s replies offers = elim (cases_Option (connection_id_in message)) [
  | inl e ↦ rw e (replies _)
  | inr (id, e) ↦ elim (cases_Option (peer_in message)) [
    | inl f ↦ rw (e, f) (replies _)
    | inr (peer, f) ↦ elim (cases_Bool (is_some (find_allocation_to Tcp (socket_ip peer) s))) [
      | inl room ↦ elim (cases_Bool (is_connected peer s)) [ inl is ↦ rw (e, f, room, is) (replies _) | inr free ↦ rw (e, f, room, free) (offers id peer f) ]
      | inr none ↦ rw (e, f, none) (replies _)
    ]
  ]
]

indicated-names : (P : State → Type 0) (message : List ℕ) (s : State) → ((id : ℕ) (peer : SocketAddr) → peer_in message ≡ Some peer → P (with_offer id peer ServerIndication s))
    → IfSome (attempt_indicated message s) P
indicated-names P message s offers = elim (cases_Option (connection_id_in message)) [
  | inl e ↦ rw e tt
  | inr (id, e) ↦ elim (cases_Option (peer_in message)) [
    | inl f ↦ rw (e, f) tt
    | inr (peer, f) ↦ elim (cases_Bool (accepts_attempt peer s)) [ inl is ↦ rw (e, f, is) (offers id peer f) | inr not ↦ rw (e, f, not) tt ]
  ]
]

-- ---- deadlines

-- the event may come of a connection that got a deadline, if it had one
deadline-back : (e : TurnEvent) (local : SocketAddr) (deadline : Option ℕ) (g : Grant)
    → ((c : DataConnection) → g ≡ Connection c → c.local ≡ local → is_some c.deadline ≡ true)
    → is_to_come e (deadline_set local deadline g) ≡ true → is_to_come e g ≡ true
deadline-back e local deadline (Connection c) had comes = elim (cases_Bool (same_address c.local local)) [
  | inl f ↦
      let set : is_to_come e (Connection (record c { deadline = deadline })) ≡ true = rw f at comes in
      let of : (is_some deadline && is_of_connection e c.peer) ≡ true = sym (connection-comes e (record c { deadline = deadline })) ∙ set in
      connection-comes e c ∙ rw (had c refl (same_address-true c.local local f)) (and_parts (is_some deadline) (is_of_connection e c.peer) of).1
  | inr f ↦ rw f at comes
]
deadline-back e local deadline g had comes = comes

-- what holds in the state in which an input is processed
pub record Suits (one : Input) : Type 0 where
  pub settled : IsSettled one.before
  pub lone : HasLoneConnects one.before
  pub asked : AllHaveGrant one.before
  pub unbound : ComesUnbound one

module _ (e : TurnEvent) where
  same : (s : State) → Spends e s s
  same s = spends-same e s s refl refl refl

  -- ---- over the control connection

  wrong-spends : (p : Phase) (message : List ℕ) (s : State) → Spends e s (wrong_step message (record s { phase = p })).1
  wrong-spends New message s = fail-spends e s (wrong_step message (record s { phase = New })).1 refl refl refl
  wrong-spends p message s = fail-spends e s (wrong_step message (record s { phase = p })).1 refl refl refl

  challenge-spends : (message : List ℕ) (d : Challenge) (now : ℕ) (s : State) → Spends e s (challenge_step message d now s).1
  challenge-spends message d now s =
      by_test (λ (x : Outcome × State). Spends e s x.1) (ltb s.challenges s.config.max_stale_nonces) _ (Handled, closed (fail_all s))
      (λ few. by_found (λ (x : Outcome × State). Spends e s x.1) again (retried (purposes_of (id_of message) s)) (Ignored, s)
      (λ purpose f. spends-same e s (again purpose).1 refl refl refl) (same s))
      (λ many. fail-spends e s (closed (fail_all s)) refl refl refl)
    where
      again : Purpose → Outcome × State
      again purpose = (Handled, state_after_retry s (id_of message) purpose d now)

  -- what an input may cause: events of an attempt that it tells of
  abbrev Brings : List ℕ → State → State → Type 0
  Brings message s t = load e t ≤ load e s + attempts e message s t

  brings : (message : List ℕ) (s t : State) → Spends e s t → Brings message s t
  brings message s t spends = omega (arith, spends)

  offer-fits : (message : List ℕ) (peer : SocketAddr) (offer : DataOffer) (s t : State) → method_in message ≡ connection_attempt_method → peer_in message ≡ Some peer → offer.peer ≡ peer
      → length s.grants < length t.grants → cond (is_to_come e (Offer offer)) 1 0 ≤ attempts e message s t
  offer-fits message peer offer s t method names to more = rw (offer-comes e offer, to) (by e)
    where
      reports : (to : SocketAddr) → is_attempt to message s t ≡ same_address peer to
      reports to = rw (method, names, lt-ltb (length s.grants) (length t.grants) more)
          (elim (cases_Bool (same_address peer to)) [ inl f ↦ rw f refl | inr f ↦ rw f refl ])

      by : (x : TurnEvent) → cond (is_of_connection x peer) 1 0 ≤ attempts x message s t
      by (TcpConnected to) = rw (reports to) (omega arith)
      by (TcpConnectFailed to) = rw (reports to) (omega arith)
      by x = omega arith

  offered : (message : List ℕ) (s : State) → method_in message ≡ connection_attempt_method → (id : ℕ) (peer : SocketAddr) (origin : Origin) → peer_in message ≡ Some peer
      → Brings message s (with_offer id peer origin s)
  offered message s method id peer origin names =
      let offer : DataOffer = record { connection_id = id; peer = peer; is_reported = false; origin = origin } in
      let more : length s.grants < length (s.grants ++ Offer offer ∷ []) = omega (arith, length-append s.grants (Offer offer ∷ [])) in
      omega (
        arith,
        passes-append (is_to_come e) s.grants (Offer offer ∷ []),
        offer-fits message peer offer s (with_offer id peer origin s) method names refl more,
      )

  pub message-brings : (message : List ℕ) (now : ℕ) (s : State) → IsSettled s → HasLoneConnects s → AllHaveGrant s → Brings message s (message_step message now s).1
  message-brings message now s settled lone asked = by (judgement_of s message) refl (judgement-reports s message)
    where
      none : Brings message s s
      none = brings message s s (same s)

      by : (j : Judgement) → judgement_of s message ≡ j → Reports s message (judgement_of s message) → Brings message s (message_step message now s).1
      by (Challenged d) f reports = brings message s (message_step message now s).1 (rw f (challenge-spends message d now s))
      by Fatal f reports = brings message s (message_step message now s).1 (rw f (wrong-spends s.phase message s))
      by ConnectionAttempt f reports =
          let method : method_in message ≡ connection_attempt_method = rw f at reports in
          rw f (by_accepted (Brings message s) (attempt_indicated message s) s
          (indicated-names (Brings message s) message s (λ id peer names. offered message s method id peer ServerIndication names)) none)
      by SignedRequest f reports =
          rw f (by_test (λ (x : Outcome × State). Brings message s x.1) (eqb (method_in message) connection_attempt_method) (Handled, attempt_requested message s) (Ignored, s)
          (λ is. requested-names (Brings message s) message s (λ queue. brings message s (record s { queue = queue }) (spends-same e s (record s { queue = queue }) refl refl refl))
          (λ id peer names. offered message s (eqb-true (method_in message) connection_attempt_method is) id peer (ServerRequest (id_of message)) names)) (λ other. none))
      by SignedSuccess f reports = brings message s (message_step message now s).1 (rw f (signed-spends e true message now s settled lone asked))
      by SignedError f reports = brings message s (message_step message now s).1 (rw f (signed-spends e false message now s settled lone asked))
      by j f reports = rw f none

  -- ---- over a connection that waits to be bound

  module _ (c : DataConnection) (s : State) (there : Has (Connection c) s.grants) (waits : (d : DataConnection) → Has (Connection d) s.grants → d.local ≡ c.local → is_some d.deadline ≡ true) where
    comes : is_to_come e (Connection c) ≡ is_of_connection e c.peer
    comes = connection-comes e c ∙ rw (waits c there refl) refl

    back : (deadline : Option ℕ) (g : Grant) → Has g s.grants → is_to_come e (deadline_set c.local deadline g) ≡ true → is_to_come e g ≡ true
    back deadline g here = deadline-back e c.local deadline g (λ d is at. waits d (subst (λ (h : Grant). Has h s.grants) is here) at)

    -- it waits for longer
    longer : (deadline : Option ℕ) (t : State) → t.events ≡ s.events → t.grants ≡ map (deadline_set c.local deadline) s.grants → t.families ≡ s.families → Spends e s t
    longer deadline t events grants families = rw (events, grants, families) (omega (
      arith,
      passes-over (is_to_come e) (deadline_set c.local deadline) s.grants,
      passes-all (λ g. is_to_come e (deadline_set c.local deadline g)) (is_to_come e) s.grants (back deadline),
    ))

    ended : is_to_come e (deadline_set c.local None (Connection c)) ≡ false
    ended = rw (same_address-self c.local) (connection-comes e (record c { deadline = None }))

    left : passes (λ g. is_to_come e (deadline_set c.local None g)) s.grants + cond (is_of_connection e c.peer) 1 0 ≤ passes (is_to_come e) s.grants
    left = elim (cases_Bool (is_of_connection e c.peer)) [
      | inl f ↦ rw f (passes-more (λ g. is_to_come e (deadline_set c.local None g)) (is_to_come e) (Connection c) s.grants (back None) there ended (comes ∙ f))
      | inr f ↦ rw f (omega (arith, passes-all (λ g. is_to_come e (deadline_set c.local None g)) (is_to_come e) s.grants (back None)))
    ]

    -- it is bound
    bound-spends : (t : State) → t.events ≡ s.events ++ TcpConnected c.peer ∷ [] → t.grants ≡ map (deadline_set c.local None) s.grants → t.families ≡ s.families → Spends e s t
    bound-spends t events grants families =
        let fits : cond (is_like e (TcpConnected c.peer)) 1 0 ≤ cond (is_of_connection e c.peer) 1 0 = rw (connected-like e c.peer) (omega arith) in
        rw (events, grants, families) (omega (
          arith,
          fits,
          left,
          passes-over (is_to_come e) (deadline_set c.local None) s.grants,
          passes-append (is_like e) s.events (TcpConnected c.peer ∷ []),
        ))

    -- or fails
    unbound-spends : (t : State) → t.events ≡ s.events ++ TcpConnectFailed c.peer ∷ [] → t.grants ≡ filter (λ g. not (is_connection_from c.local g)) s.grants → t.families ≡ s.families
        → Spends e s t
    unbound-spends =
        let fits : cond (is_like e (TcpConnectFailed c.peer)) 1 0 ≤ cond (is_to_come e (Connection c)) 1 0 = rw comes (omega arith) in
        spends-reported e (is_connection_from c.local) (TcpConnectFailed c.peer) (Connection c) s there (same_address-self c.local) fits

    answered-spends : (message : List ℕ) (now : ℕ) → Spends e s (bind_answered c message now s)
    answered-spends message now = by (bind_judgement s c.local message) refl
      where
        until : Option ℕ
        until = Some (later_by bind_time now)

        again : Challenge → Purpose → State
        again d purpose = with_deadline c.local until (requested (fresh_id s) purpose now (unlisted (is_connection_from c.local) (with_held d s)))

        by : (j : Judgement) → bind_judgement s c.local message ≡ j → Spends e s (bind_answered c message now s)
        by (Challenged d) f =
            rw f (by_found (Spends e s) (again d) (find (is_bind_of c.local) (purposes_of (id_of message) s)) s (λ purpose g. longer until (again d purpose) refl refl refl) (same s))
        by SignedSuccess f = rw f (bound-spends (bound c (transaction_ended (id_of message) s)) refl refl refl)
        by SignedError f = rw f (unbound-spends (not_bound c (transaction_ended (id_of message) s)) refl refl refl)
        by j f = rw f (unbound-spends (not_bound c s) refl refl refl)

  pub bind-spends : (local : SocketAddr) (message : List ℕ) (now : ℕ) (s : State) → IsUnbound local s → Spends e s (bind_step local message now s)
  bind-spends local message now s unbound = bind-by (Spends e s) local message now s (same s) (λ c phase found method. by c found)
    where
      by : (c : DataConnection) → connection_at local s ≡ Some c → Spends e s (bind_answered c message now s)
      by c found = answered-spends c s (connection-there local c s found) waits message now
        where
          waits : (d : DataConnection) → Has (Connection d) s.grants → d.local ≡ c.local → is_some d.deadline ≡ true
          waits d there at = elim (cases_Option d.deadline) [
            | inl none ↦ absurd (unbound d there (at ∙ found-local local c (filter_map as_connection s.grants) found) none)
            | inr (time, f) ↦ rw f refl
          ]

  pub gone-spends : (local : SocketAddr) (s : State) → Spends e s (connection_gone local s)
  gone-spends local s = by_test (Spends e s) (is_some (connection_at local s)) _ s (λ is. spends-removed e (is_connection_from local) s gone refl refl refl) (λ none. same s)
    where
      gone : State
      gone = record (without_grants (is_connection_from local) s) { closes = local ∷ s.closes }

  -- ---- all inputs of a call

  input-brings : (one : Input) → Suits one → Brings one.bytes one.before (processed one).1
  input-brings one suits =
      let s = one.before in
      input-by (Brings one.bytes s) one (brings one.bytes s s (same s)) (λ over whole. message-brings one.bytes one.time s suits.settled suits.lone suits.asked)
      (λ stream of waits whole. brings one.bytes s (bind_step stream.local one.bytes one.time s) (bind-spends stream.local one.bytes one.time s (suits.unbound stream of waits)))

  differs-spends : (s t : State) → DiffersInStreams s t → Spends e s t
  differs-spends s t differs = subst (Spends e s) (sym differs.others) (spends-same e s (record s { streams = t.streams }) refl refl refl)

  pub lead-brings : (inputs : List Input) (s t : State) → ((one : Input) → Has one inputs → Suits one) → InputsLead inputs s t → load e t ≤ load e s + attempts_in e inputs
  lead-brings [] s t suits lead = omega (arith, differs-spends s t lead)
  lead-brings (one ∷ later) s t suits (first, lead) = omega (
    arith,
    differs-spends s one.before first,
    input-brings one (suits one (inl refl)),
    lead-brings later (processed one).1 t (λ x there. suits x (inr there)) lead,
    attempts-cons e one later,
  )
