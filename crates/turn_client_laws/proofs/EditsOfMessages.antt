-- The edits of which messages are made.
use Rattle.turn_client_laws.proofs.Common.{◌≡◌, ◌≤◌, ◌∙◌, ◌+◌, ℕ, Bool, true, false, not, cond, ◌&&◌, ◌||◌, eqb, ltb, leb, List, [], ◌∷◌, filter, filter_map, length, Option, Some, None, inl, inr}
use Rattle.turn_client_laws.proofs.Common.{refl, sym, subst, ap, ◌++◌, is_some, find, IfSome, ⊤, list_any, option_map_or, socket_ip, and_parts, eq-eqb, leb-true, ltb-true, cases_Bool, or_parts}
use Rattle.turn_client_laws.proofs.Common.{or_right, same_Some, SocketAddr}
use Rattle.turn_client_laws.proofs.Machine.{id_of, Tcp, IPV4, IPV6, Challenge, is_outstanding, same_address, State, later_by, Phase, New, Requesting, Authenticating, Allocated, Closed, Grant}
use Rattle.turn_client_laws.proofs.Machine.{Connection, DataConnection, ServerIndication, ServerRequest, Purpose, ForAllocation, Listing, Bound, find_allocation_to, as_connection, is_connection_from}
use Rattle.turn_client_laws.proofs.Machine.{is_for, is_listed, is_of_request, has_active_permission, purposes_of, unlisted, wait, request_started, connection_attempt_method, fresh_id, request_for, waits_from}
use Rattle.turn_client_laws.proofs.Machine.{requested, Judgement, Unrelated, Challenged, Fatal, ConnectionAttempt, SignedRequest, SignedSuccess, SignedError, answers_one, challenge_in, challenged_or}
use Rattle.turn_client_laws.proofs.Machine.{judgement_of, bind_judgement, is_bind_of, lifetime_in, method_in, allocate_denied, allocate_granted, allocated, closed, transaction_ended, fail_all}
use Rattle.turn_client_laws.proofs.Machine.{family_not_supported, has_code, in_phase, phase_with, relayed_in, taken_addresses, with_offer, bind_time, first_or, is_allocate_or_connect, is_channel_bind}
use Rattle.turn_client_laws.proofs.Machine.{is_create_permission, is_refresh, phase_after, retried, state_after_retry, with_held, attempt_indicated, attempt_requested, bind_again, bind_answered}
use Rattle.turn_client_laws.proofs.Machine.{bind_step, bound, connection_at, is_connected, is_connecting, accepts_attempt, is_indicated, max_indicated, not_bound, with_deadline, with_mode, Outcome}
use Rattle.turn_client_laws.proofs.Machine.{Handled, Ignored, answered_purposes, challenge_step, is_answered, message_step, response_step, signed_step, wrong_step, AllocationCreateFailed, Has}
use Rattle.turn_client_laws.proofs.Machine.{has-filter, has-filter_map, has-found, cases_Option}
use Rattle.turn_client_laws.specs.LawsReplies.{IsAccepted, IsReplyAccepted}
use Rattle.turn_client_laws.specs.LawsOrder.{IsBegun, IsUngranted}
use Rattle.turn_client_laws.proofs.InAllocationLemmas.{allocation-room, has-any, not-both}
use Rattle.turn_client_laws.proofs.NewIdLemmas.{fresh-free}
use Rattle.turn_client_laws.proofs.GrantOriginLemmas.{has-mapped}
use Rattle.turn_client_laws.proofs.ChallengeJudgement.{Challenged-is, bind-is}
use Rattle.turn_client_laws.proofs.StandLemmas.{has-contains}
use Rattle.turn_client_laws.proofs.RunKeepLemmas.{IsKept}
use Rattle.turn_client_laws.proofs.Edits.{KeepsAllEdits, IgnoresAll, KeepsAccepted}
use Rattle.turn_client_laws.proofs.EditsOfReplies.{asked-walk, deadline-walk, effects-walk, fail-walk, gone-walk, removed, requested-walk, spelled-else, unlisted-walk, without-allocates}
use Rattle.turn_client_laws.proofs.CaseLemmas.{requested-by, indicated-by, by_accepted, bind-by, by_test}

-- ---- what may be requested again

-- the purposes of a request are listed
pub purposes-listed : (id : ℕ) (s : State) (p : Purpose) → Has p (purposes_of id s) → (l : Listing) × Has l s.listed × (l.purpose ≡ p)
purposes-listed id s p there =
    let (l, kept, e) = has-mapped (λ (l : Listing). l.purpose) p (filter (λ (l : Listing). eqb l.id id) s.listed) there in
    (l, (has-filter (λ (l : Listing). eqb l.id id) l s.listed kept).0, sym e)

-- the request that binds a connection is no ALLOCATE
bind-other : (c : DataConnection) (p : Purpose) → is_bind_of c.local p ≡ true → p ≡ ForAllocation → ⊥
bind-other c p e f = let no : is_bind_of c.local ForAllocation ≡ true = subst (λ (q : Purpose). is_bind_of c.local q ≡ true) f e in cc

-- the connection at this local address exists
pub connection-there : (local : SocketAddr) (c : DataConnection) (s : State) → connection_at local s ≡ Some c → Has (Connection c) s.grants
connection-there local c s e =
    let (g, there, reads) = has-filter_map as_connection c s.grants (has-found (λ (d : DataConnection). same_address d.local local) c (filter_map as_connection s.grants) e).0 in
    of g reads there
  where
    of : (g : Grant) → as_connection g ≡ Some c → Has g s.grants → Has (Connection c) s.grants
    of (Connection d) reads there = rw (sym (same_Some d c reads)) there
    of g reads there = cc

-- ---- the new request alone stays listed

-- no request is listed under the next ID
pub fresh-other : (s : State) (l : Listing) → Has l s.listed → eqb l.id (fresh_id s) ≡ false
fresh-other s l there =
    let free = or_parts (is_outstanding (fresh_id s) s.transactions) (is_listed (fresh_id s) s) (fresh-free s) in
    let none = or_parts (list_any (λ (x : Listing). eqb x.id (fresh_id s)) s.listed) (list_any (is_of_request (fresh_id s)) s.grants) free.1 in
    elim (cases_Bool (eqb l.id (fresh_id s))) [
      | inl e ↦ absurd (not-both (list_any (λ (x : Listing). eqb x.id (fresh_id s)) s.listed) (has-any (λ (x : Listing). eqb x.id (fresh_id s)) l s.listed there e) (rw none.0 refl))
      | inr e ↦ e
    ]

relisted : (gone : Listing → Bool) (fresh : ℕ) (ls : List Listing) (new : Listing) → ((l : Listing) → Has l ls → eqb l.id fresh ≡ false) → new.id ≡ fresh
    → filter (λ l. not (gone l) || eqb l.id fresh) (ls ++ new ∷ []) ≡ filter (λ l. not (gone l)) ls ++ new ∷ []
relisted gone fresh [] new other e = rw (or_right (not (gone new)) (eqb new.id fresh) (eq-eqb new.id fresh e)) refl
relisted gone fresh (l ∷ ls) new other e =
    let rest = relisted gone fresh ls new (λ x there. other x (inr there)) e in
    elim (cases_Bool (gone l)) [ inl f ↦ rw (f, other l (inl refl)) rest | inr f ↦ rw f (ap (λ (xs : List Listing). l ∷ xs) rest) ]

-- ---- the purpose for which a request is made again

first-either : (P : Purpose → Type 0) (a b : Option Purpose) → ((p : Purpose) → a ≡ Some p → P p) → ((p : Purpose) → b ≡ Some p → P p) → (p : Purpose) → first_or a b ≡ Some p → P p
first-either P None b of_a of_b p e = of_b p e
first-either P (Some q) b of_a of_b p e = of_a p e

pub found-has : (which : Purpose → Bool) (all : List Purpose) (p : Purpose) → find which all ≡ Some p → Has p all
found-has which all p e = (has-found which p all e).0

pub retried-has : (all : List Purpose) (p : Purpose) → retried all ≡ Some p → Has p all
retried-has all p e =
    first-either (λ q. Has q all) (find is_refresh all) _ (found-has is_refresh all)
    (first-either (λ q. Has q all) (find is_channel_bind all) _ (found-has is_channel_bind all)
    (first-either (λ q. Has q all) (find is_create_permission all) (find is_allocate_or_connect all) (found-has is_create_permission all) (found-has is_allocate_or_connect all)))
    p e

-- ---- what is judged to be signed

abbrev IsSigned : Judgement → Type 0
IsSigned j = IsAccepted j

requesting-unsigned : (b : Bool) (o : Option Challenge) (j : Judgement) → cond b (challenged_or Fatal o) Unrelated ≡ j → IsSigned j → ⊥
requesting-unsigned true (Some d) j e h = subst IsSigned (sym e) h
requesting-unsigned b o j e h = subst IsSigned (sym e) h

new-unsigned : (j : Judgement) → Unrelated ≡ j → IsSigned j → ⊥
new-unsigned j e h = subst IsSigned (sym e) h

-- ---- a client that accepts messages has begun

begun-after : (p : Phase) → IsBegun p → IsBegun (phase_after p)
begun-after New begun = begun
begun-after Closed begun = begun
begun-after p begun = tt

-- the message is for the client
abbrev IsDelivered : Judgement → Type 0
IsDelivered Unrelated = ⊥
IsDelivered _ = ⊤

judged-begun : (s : State) (message : List ℕ) (j : Judgement) → judgement_of s message ≡ j → IsDelivered j → IsBegun s.phase
judged-begun s message j e heard = by s.phase refl
  where
    unheard : judgement_of s message ≡ Unrelated → ⊥
    unheard f = subst IsDelivered (sym e ∙ f) heard

    by : (p : Phase) → s.phase ≡ p → IsBegun p
    by New f = unheard (rw f refl)
    by Closed f = unheard (rw f refl)
    by p f = tt

-- a client that allocates is granted something, or ends
pub granted-with : (addresses : List SocketAddr) → IsUngranted (phase_with addresses) → ⊥
granted-with [] u = u
granted-with (a ∷ others) u = u

-- ---- a walk over messages

module _ (HasAccepted : Type 0) (R : State → State → Type 0) (k : KeepsAccepted HasAccepted R) where
  then : (s t u : State) → R s t → R t u → R s u
  then s t u = k.edits.trans s t u

  retry-walk : (s : State) (message : List ℕ) (id : ℕ) (purpose : Purpose) (d : Challenge) (now : ℕ) → IsBegun s.phase
      → challenge_in s message ≡ Some d → ltb s.challenges s.config.max_stale_nonces ≡ true
      → Has purpose (purposes_of id s) → R s (state_after_retry s id purpose d now)
  retry-walk s message id purpose d now begun e few answers =
      let a = with_held d s in
      let b = transaction_ended id a in
      let c = record b { phase = phase_after s.phase; challenges = s.challenges + 1 } in
      let text = request_for c purpose (fresh_id s) in
      let end = state_after_retry s id purpose d now in
      let f = request_started (fresh_id s) text (purposes_of id s) (waits_from now s) c in
      then s a end (k.holds message d s e)
      (then a b end (k.edits.finishes id a)
      (then b c end (k.counts b refl (ltb-true s.challenges s.config.max_stale_nonces few))
      (then c f end (k.edits.asks (fresh_id s) text (purposes_of id s) (waits_from now s) c (begun-after s.phase begun) (λ p there. inr (inr (purposes-listed id s p there)))
      (inr (inr (purposes-listed id s, (purpose, answers, refl))))) (k.edits.queues end.queue f (begun-after s.phase begun)))))

  challenge-walk : (message : List ℕ) (d : Challenge) (now : ℕ) (s : State) → IsBegun s.phase → challenge_in s message ≡ Some d → R s (challenge_step message d now s).1
  challenge-walk message d now s begun e = elim (cases_Bool (ltb s.challenges s.config.max_stale_nonces)) [
    | inl f ↦ elim (cases_Option (retried (purposes_of (id_of message) s))) [
      | inl g ↦ rw (f, g) (k.edits.same s)
      | inr (purpose, g) ↦ rw (f, g) (retry-walk s message (id_of message) purpose d now begun e f (retried-has (purposes_of (id_of message) s) purpose g))
    ]
    | inr f ↦ rw f (fail-walk R k.edits s)
  ]

  wrong-walk : (p : Phase) (message : List ℕ) (s : State) → R (record s { phase = p }) (wrong_step message (record s { phase = p })).1
  wrong-walk Requesting message s =
      let u = record s { phase = Requesting } in
      then u (transaction_ended (id_of message) u) _ (k.edits.finishes (id_of message) u) (fail-walk R k.edits (transaction_ended (id_of message) u))
  wrong-walk p message s = fail-walk R k.edits (record s { phase = p })

  -- ---- signed replies

  reply-walk : (is_granted : Bool) (message : List ℕ) (now : ℕ) (s : State) → ((p : Purpose) → Has p (answered_purposes message s) → HasAccepted) → (IsUngranted s.phase → ⊥)
      → R s (response_step is_granted message now s).1
  reply-walk is_granted message now s accepted granted =
      effects-walk HasAccepted R k s (id_of message) granted is_granted message now (method_in message) (answered_purposes message s) (transaction_ended (id_of message) s)
      (k.edits.finishes (id_of message) s)
      (λ connect a there. there) accepted (λ p there. has-filter (is_answered (method_in message)) p (purposes_of (id_of message) s) there)

  granted-walk : (message : List ℕ) (now : ℕ) (s : State) → s.phase ≡ Authenticating → R s (allocate_granted message now s)
  granted-walk message now s e = by (lifetime_in message)
    where
      addresses : List SocketAddr
      addresses = taken_addresses s.families (relayed_in message)

      by : (o : Option ℕ) → R s (option_map_or (λ lifetime. allocated lifetime addresses now s) o (closed (fail_all s)))
      by None = fail-walk R k.edits s
      by (Some lifetime) =
          let end = allocated lifetime addresses now s in
          let a = record s { listed = end.listed } in
          let b = record a { phase = phase_with addresses; grants = end.grants } in
          let c = record b { families = [] } in
          then s a _ (k.edits.unlists _ s)
          (then a b _ (k.allocates message lifetime now a e (without-allocates s))
          (then b c _ (k.edits.families [] b (inl (granted-with addresses))) (k.edits.aside c end)))

  denied-walk : (fresh : ℕ) (message : List ℕ) (now : ℕ) (s : State) → s.phase ≡ Authenticating → R s (allocate_denied fresh message now s)
  denied-walk fresh message now s e = by (has_code family_not_supported message && leb 2 (length s.families)) refl
    where
      begun : IsBegun s.phase
      begun = rw e tt

      ungranted : IsUngranted s.phase
      ungranted = rw e tt

      a : State
      a = in_phase s.phase s

      b : State
      b = record a { families = IPV6 ∷ [] }

      c : State
      c = wait (AllocationCreateFailed IPV4 ∷ []) b

      again : 2 ≤ length s.families → R s (requested fresh ForAllocation now c)
      again two =
          then s a _ (k.edits.unlists _ s)
          (then a b _ (k.edits.families (IPV6 ∷ []) a (inr (refl, two, without-allocates s)))
          (then b c _ (k.edits.aside b c) (requested-walk R k.edits fresh ForAllocation now c begun (inl refl)
          (inr (inl (ungranted, (λ p one. elim one [ inl is ↦ is | inr none ↦ absurd none ]), inr refl))))))

      by : (b : Bool) → (has_code family_not_supported message && leb 2 (length s.families)) ≡ b → R s (allocate_denied fresh message now s)
      by true f = rw f (again (leb-true 2 (length s.families) (and_parts (has_code family_not_supported message) (leb 2 (length s.families)) f).1))
      by false f = rw f (fail-walk R k.edits s)

  signed-walk : (p : Phase) (is_granted : Bool) (message : List ℕ) (now : ℕ) (s : State) (j : Judgement) → judgement_of (record s { phase = p }) message ≡ j → IsSigned j
      → ((q : Purpose) → Has q (answered_purposes message (record s { phase = p })) → HasAccepted) → R (record s { phase = p }) (signed_step is_granted message now (record s { phase = p })).1
  signed-walk Authenticating true message now s j e h accepted =
      let u = record s { phase = Authenticating } in
      then u (transaction_ended (id_of message) u) _ (k.edits.finishes (id_of message) u) (granted-walk message now (transaction_ended (id_of message) u) refl)
  signed-walk Authenticating false message now s j e h accepted =
      let u = record s { phase = Authenticating } in
      then u (transaction_ended (id_of message) u) _ (k.edits.finishes (id_of message) u) (denied-walk (fresh_id u) message now (transaction_ended (id_of message) u) refl)
  signed-walk New g message now s j e h accepted = absurd (new-unsigned j e h)
  signed-walk Requesting g message now s j e h accepted = absurd (requesting-unsigned (answers_one (record s { phase = Requesting }) message)
      (challenge_in (record s { phase = Requesting }) message) j e h)
  signed-walk p g message now s j e h accepted = reply-walk g message now (record s { phase = p }) accepted (λ u. u)

  -- ---- the server requests a connection

  attempt-walk : (message : List ℕ) (s : State) → IsBegun s.phase → R s (attempt_requested message s)
  attempt-walk message s begun =
      requested-by (R s) message s (λ queue. k.edits.queues queue s begun)
      (λ id peer room free. k.offers id peer (ServerRequest (id_of message)) s (allocation-room Tcp (socket_ip peer) s room) (λ f. cc))

  accepted-walk : (id : ℕ) (peer : SocketAddr) (s : State) → accepts_attempt peer s ≡ true → R s (with_offer id peer ServerIndication s)
  accepted-walk id peer s e =
      let few = and_parts _ (ltb (length (filter is_indicated s.grants)) max_indicated) e in
      let free = and_parts _ (not (is_connected peer s || is_connecting peer s)) few.0 in
      let let_in = and_parts (is_some (find_allocation_to Tcp (socket_ip peer) s)) (has_active_permission (socket_ip peer) s) free.0 in
      k.offers id peer ServerIndication s (allocation-room Tcp (socket_ip peer) s let_in.0) (λ f. ltb-true (length (filter is_indicated s.grants)) max_indicated few.1)

  indicated-walk : (message : List ℕ) (s : State) → IfSome (attempt_indicated message s) (R s)
  indicated-walk message s = indicated-by (R s) message s (λ id peer accepts. accepted-walk id peer s accepts)

  -- ---- messages

  pub message-walk : (message : List ℕ) (now : ℕ) (s : State) → (IsReplyAccepted message now s → HasAccepted) → R s (message_step message now s).1
  message-walk message now s allowed = by (judgement_of s message) refl
    where
      accepted : (j : Judgement) → judgement_of s message ≡ j → IsSigned j → (p : Purpose) → Has p (answered_purposes message s) → HasAccepted
      accepted j e is p there = allowed (subst IsSigned (sym e) is, (p, has-contains p (answered_purposes message s) there))

      if_asked : IsBegun s.phase → R s (cond {A = Outcome × State} (eqb (method_in message) connection_attempt_method) (Handled, attempt_requested message s) (Ignored, s)).1
      if_asked begun =
          by_test (λ (p : Outcome × State). R s p.1) (eqb (method_in message) connection_attempt_method) _ _ (λ is. attempt-walk message s begun) (λ no. k.edits.same s)

      by : (j : Judgement) → judgement_of s message ≡ j → R s (message_step message now s).1
      by (Challenged d) e = rw e (challenge-walk message d now s (judged-begun s message (Challenged d) e tt) (Challenged-is s message d e))
      by Fatal e = rw e (wrong-walk s.phase message s)
      by ConnectionAttempt e = rw e (by_accepted (R s) (attempt_indicated message s) s (indicated-walk message s) (k.edits.same s))
      by SignedRequest e = rw e (if_asked (judged-begun s message SignedRequest e tt))
      by SignedSuccess e = rw e (signed-walk s.phase true message now s SignedSuccess e tt (accepted SignedSuccess e tt))
      by SignedError e = rw e (signed-walk s.phase false message now s SignedError e tt (accepted SignedError e tt))
      by j e = rw e (k.edits.same s)

  -- ---- connections that wait to be bound

  -- the other requests for the connection are no longer listed
  others-unlisted : (c : DataConnection) (s : State) (purpose : Purpose) (now : ℕ)
      → let more = request_started (fresh_id s) (request_for s purpose (fresh_id s)) (purpose ∷ []) now s in
      R more (record more { listed = (unlisted (is_connection_from c.local) s).listed ++ record { id = fresh_id s; purpose = purpose } ∷ [] })
  others-unlisted c s purpose now =
      let more = request_started (fresh_id s) (request_for s purpose (fresh_id s)) (purpose ∷ []) now s in
      let gone = λ (l : Listing). list_any (λ g. is_connection_from c.local g && is_for l.purpose g) s.grants in
      subst (λ (ls : List Listing). R more (record more { listed = ls })) (relisted gone (fresh_id s) s.listed (record { id = fresh_id s; purpose = purpose }) (fresh-other s) refl)
      (k.edits.unlists (λ l. not (gone l) || eqb l.id (fresh_id s)) more)

  again-walk : (c : DataConnection) (message : List ℕ) (d : Challenge) (now : ℕ) (s : State) → s.phase ≡ Allocated → Has (Connection c) s.grants → challenge_in s message ≡ Some d
      → R s (bind_again c (id_of message) d now s)
  again-walk c message d now s allocated there e = by (find (is_bind_of c.local) (purposes_of (id_of message) s)) refl
    where
      begun : IsBegun s.phase
      begun = rw allocated tt

      by : (o : Option Purpose) → find (is_bind_of c.local) (purposes_of (id_of message) s) ≡ o → R s (bind_again c (id_of message) d now s)
      by None f = rw f (k.edits.same s)
      by (Some purpose) f =
          let a = with_held d s in
          let fresh = fresh_id s in
          let text = request_for a purpose fresh in
          let more = request_started fresh text (purpose ∷ []) (waits_from now s) a in
          let t = requested fresh purpose now (unlisted (is_connection_from c.local) a) in
          let alone = record more { listed = t.listed } in
          let (listed, is) = has-found (is_bind_of c.local) purpose (purposes_of (id_of message) s) f in
          let askable = inr (inr (purposes-listed (id_of message) s purpose listed)) in
          rw f
          (then s a _ (k.holds message d s e)
          (then a more _ (asked-walk R k.edits fresh text purpose (waits_from now s) a begun askable (spelled-else fresh text purpose a allocated (bind-other c purpose is)))
          (then more alone _ (others-unlisted c a purpose (waits_from now s)) (then alone t _ (k.edits.queues t.queue alone begun)
          (deadline-walk HasAccepted R k c.local (Some (later_by bind_time now)) t)))))

  bound-walk : IgnoresAll R → (c : DataConnection) (s : State) → R s (bound c s)
  bound-walk streams c s =
      let a = unlisted (is_connection_from c.local) s in
      let b = with_deadline c.local None a in
      let d = with_mode c.local (Bound c.peer) b in
      then s a _ (unlisted-walk R k.edits (is_connection_from c.local) s) (then a b _ (deadline-walk HasAccepted R k c.local None a) (then b d _ (streams b d.streams) (k.edits.aside d (bound c s))))

  not_bound-walk : (c : DataConnection) (s : State) → R s (not_bound c s)
  not_bound-walk c s = removed R k.edits (is_connection_from c.local) (λ a. refl) s (not_bound c s)

  answered-walk : IgnoresAll R → (c : DataConnection) (message : List ℕ) (now : ℕ) (s : State) → s.phase ≡ Allocated → Has (Connection c) s.grants → R s (bind_answered c message now s)
  answered-walk streams c message now s allocated there = by (bind_judgement s c.local message) refl
    where
      less : State
      less = transaction_ended (id_of message) s

      by : (j : Judgement) → bind_judgement s c.local message ≡ j → R s (bind_answered c message now s)
      by (Challenged d) e = rw e (again-walk c message d now s allocated there (bind-is s c.local message d e))
      by SignedSuccess e = rw e (then s less _ (k.edits.finishes (id_of message) s) (bound-walk streams c less))
      by SignedError e = rw e (then s less _ (k.edits.finishes (id_of message) s) (not_bound-walk c less))
      by j e = rw e (not_bound-walk c s)

  -- a message of a connection
  pub bind-walk : IgnoresAll R → (local : SocketAddr) (message : List ℕ) (now : ℕ) (s : State) → R s (bind_step local message now s)
  bind-walk streams local message now s =
      bind-by (R s) local message now s (k.edits.same s) (λ c allocated found method. answered-walk streams c message now s allocated (connection-there local c s found))

-- ---- messages in sequence

pub edits-IsKept : (R : State → State → Type 0) → KeepsAllEdits R → IgnoresAll R → IsKept R
edits-IsKept R k streams = record {
  same = k.edits.same;
  trans = k.edits.trans;
  streams = streams;
  message = λ message now s. message-walk ⊤ R k message now s (λ h. tt);
  binds = bind-walk ⊤ R k streams;
  gone = gone-walk R k.edits;
}
