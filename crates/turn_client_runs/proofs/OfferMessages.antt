-- Which offers a message makes.
use Rattle.turn_client_laws.proofs.Common.{◌≡◌, ◌⊎◌, ℕ, Bool, true, false, not, cond, eqb, leb, ◌&&◌, ◌||◌, List, [], ◌∷◌, ◌++◌, map, filter, fold, length, Option, Some, None, refl, subst, sym, inl}
use Rattle.turn_client_laws.proofs.Common.{inr, ⊤, find, is_some, option_map_or, socket_ip, IpAddr, SocketAddr, cases_Bool, eqb-true}
use Rattle.turn_client_laws.proofs.Machine.{id_of, Tcp, MessageClass, Request, Indication, Success, Error, AddressFamily, Challenge, IsValidated, validation_of, Validation, Validated, ResendRequest}
use Rattle.turn_client_laws.proofs.Machine.{Refused, is_outstanding, is_response, same_address, State, auth_of, DataConnection, DataOffer, Grant, Allocation, Permission, Channel, Offer, Connection}
use Rattle.turn_client_laws.proofs.Machine.{Origin, OwnConnect, ServerRequest, ServerIndication, Progress, Pending, Active, Purpose, ForRefresh, ForPermission, ForChannel, ForConnect, Relay, Phase}
use Rattle.turn_client_laws.proofs.Machine.{Requesting, Authenticating, Allocated, accepts_attempt, attempt_indicated, attempt_requested, bind_again, bind_answered, bind_step, deadline_set}
use Rattle.turn_client_laws.proofs.Machine.{is_connected, not_bound, allocate_denied, allocate_granted, allocation_mismatch, channel_answered, closed, connect_answered, effect, fail_all}
use Rattle.turn_client_laws.proofs.Machine.{family_not_supported, has_code, is_asked_permission, lasting, lasting_if, listed_permissions_answered, min_lifetime, new_allocation, permission_answered}
use Rattle.turn_client_laws.proofs.Machine.{permission_answered_for, prolonged, refreshed, taken_addresses, relayed_in, transaction_ended, with_offer, changed_allocation, channel_at}
use Rattle.turn_client_laws.proofs.Machine.{find_allocation_to, first_in, is_channel_of, is_connect_to, is_connection_from, is_permission_of, permission_state, purposes_of, Judgement, Unrelated}
use Rattle.turn_client_laws.proofs.Machine.{Challenged, Fatal, LateResponse, DataIndication, ConnectionAttempt, SignedRequest, SignedSuccess, SignedError, allocated_judgement, answers_allocate}
use Rattle.turn_client_laws.proofs.Machine.{answers_one, authenticating_judgement, bind_judgement, by_class, challenge_in, challenged_or, class_in, connection_id_in, is_bind_of, judgement_of}
use Rattle.turn_client_laws.proofs.Machine.{lifetime_in, method_in, peer_in, Outcome, Handled, Ignored, answered_purposes, message_step, response_step, signed_step, wrong_step, challenge_step}
use Rattle.turn_client_laws.proofs.Machine.{connection_attempt_method, data_method, fresh_id, Has, has-append, has-filter}
use Rattle.turn_client_laws.proofs.Laws.{bind-by, by_found, by_test, has-mapped, challenge-grants, wrong-grants}
use Rattle.turn_client_runs.proofs.AppendLemmas.{has-last}

-- ---- what else a judgement says

module _ (s : State) (message : List ℕ) where
  -- a ConnectionAttempt is one by its method, and a request is signed
  abbrev pub Reports : Judgement → Type 0
  Reports ConnectionAttempt = method_in message ≡ connection_attempt_method
  Reports SignedRequest = IsValidated (validation_of (auth_of s) message)
  Reports _ = ⊤

  or-reports : (j : Judgement) → Reports j → (o : Option Challenge) → Reports (challenged_or j o)
  or-reports j h None = h
  or-reports j h (Some d) = tt

  class-reports : (v : Validation) → validation_of (auth_of s) message ≡ v → IsValidated v → (class : MessageClass) → Reports (by_class class)
  class-reports v e valid Request = rw e valid
  class-reports v e valid Indication = tt
  class-reports v e valid Success = tt
  class-reports v e valid Error = tt

  authenticating-reports : Reports (authenticating_judgement s message)
  authenticating-reports = by (validation_of (auth_of s) message) refl
    where
      by : (v : Validation) → validation_of (auth_of s) message ≡ v → Reports (authenticating_judgement s message)
      by (Validated algorithm) e =
          rw e
          (by_test Reports (answers_allocate s message) _ Unrelated
          (λ a. or-reports _
          (by_test Reports (is_outstanding (id_of message) s.transactions) _ LateResponse (λ o. class-reports (Validated algorithm) e tt (class_in message)) (λ n. tt)) (challenge_in s message))
          (λ n. tt))
      by (Refused integrity) e =
          rw e (by_test Reports (answers_allocate s message) _ Unrelated (λ a. or-reports _ (by_test Reports integrity Fatal Unrelated (λ i. tt) (λ n. tt)) (challenge_in s message)) (λ n. tt))
      by (ResendRequest algorithm) e = rw e (by_test Reports (answers_allocate s message) _ Unrelated (λ a. or-reports Unrelated tt (challenge_in s message)) (λ n. tt))

  allocated-reports : Reports (allocated_judgement s message)
  allocated-reports = by (class_in message) refl (validation_of (auth_of s) message) refl
    where
      signed : (v : Validation) → validation_of (auth_of s) message ≡ v → IsValidated v
          → Reports (cond (is_response (class_in message) && not (is_outstanding (id_of message) s.transactions)) Unrelated (by_class (class_in message)))
      signed v f valid =
          by_test Reports (is_response (class_in message) && not (is_outstanding (id_of message) s.transactions)) Unrelated _ (λ n. tt) (λ o. class-reports v f valid (class_in message))

      by : (class : MessageClass) → class_in message ≡ class → (v : Validation) → validation_of (auth_of s) message ≡ v → Reports (allocated_judgement s message)
      by Indication e v f =
          rw e
          (by_test Reports (eqb (method_in message) data_method) DataIndication _ (λ is. tt)
          (λ n. by_test Reports (eqb (method_in message) connection_attempt_method) ConnectionAttempt Unrelated (λ is. eqb-true (method_in message) connection_attempt_method is) (λ no. tt)))
      by Error e (Validated algorithm) f = rw (e, f) (or-reports _ (signed (Validated algorithm) f tt) (challenge_in s message))
      by Error e v f = rw (e, f) (or-reports Unrelated tt (challenge_in s message))
      by class e (Validated algorithm) f = rw (e, f) (signed (Validated algorithm) f tt)
      by class e v f = rw (e, f) tt

  pub judgement-reports : Reports (judgement_of s message)
  judgement-reports = by s.phase refl
    where
      by : (p : Phase) → s.phase ≡ p → Reports (judgement_of s message)
      by Requesting e = rw e (by_test Reports (answers_one s message) _ Unrelated (λ a. or-reports Fatal tt (challenge_in s message)) (λ n. tt))
      by Authenticating e = rw e authenticating-reports
      by Allocated e = rw e allocated-reports
      by p e = rw e tt

-- ---- an offer that is there after an edit was there before it

module _ (o : DataOffer) where
  abbrev pub HasIt : State → Type 0
  HasIt s = Has (Offer o) s.grants

  abbrev Back : State → State → Type 0
  Back s t = HasIt t → HasIt s

  filtered : (p : Grant → Bool) (gs : List Grant) → Has (Offer o) (filter p gs) → Has (Offer o) gs
  filtered p gs there = (has-filter p (Offer o) gs there).0

  pub added : (gs : List Grant) (g : Grant) → (Offer o ≡ g → ⊥) → Has (Offer o) (gs ++ g ∷ []) → Has (Offer o) gs
  added gs g other there = elim (has-last (Offer o) gs g there) [
    | inl old ↦ old
    | inr is ↦ absurd (other is)
  ]

  mapped : (f : Grant → Grant) → ((g : Grant) → f g ≡ Offer o → g ≡ Offer o) → (gs : List Grant) → Has (Offer o) (map f gs) → Has (Offer o) gs
  mapped f same gs there = let (g, here, e) = has-mapped f (Offer o) gs there in subst (λ (x : Grant). Has x gs) (same g (sym e)) here

  pub allocation-alike : (which : Relay → Bool) (change : Relay → Relay) (g : Grant) → changed_allocation which change g ≡ Offer o → g ≡ Offer o
  allocation-alike which change (Allocation a) e = elim (cases_Bool (which a)) [
    | inl f ↦ let no : Allocation (change a) ≡ Offer o = rw f at e in cc
    | inr f ↦ let no : Allocation a ≡ Offer o = rw f at e in cc
  ]
  allocation-alike which change g e = e

  lasting-alike : (expiry : ℕ) (g : Grant) → lasting expiry g ≡ Offer o → g ≡ Offer o
  lasting-alike expiry (Permission ip (Active was)) e = cc
  lasting-alike expiry (Channel number peer (Active was)) e = cc
  lasting-alike expiry g e = e

  renewed-alike : (which : Grant → Bool) (expiry : ℕ) (g : Grant) → lasting_if which expiry g ≡ Offer o → g ≡ Offer o
  renewed-alike which expiry g e = elim (cases_Bool (which g)) [ inl f ↦ lasting-alike expiry g (rw f at e) | inr f ↦ rw f at e ]

  deadline-alike : (local : SocketAddr) (deadline : Option ℕ) (g : Grant) → deadline_set local deadline g ≡ Offer o → g ≡ Offer o
  deadline-alike local deadline (Connection c) e = elim (cases_Bool (same_address c.local local)) [
    | inl f ↦ let no : Connection (record c { deadline = deadline }) ≡ Offer o = rw f at e in cc
    | inr f ↦ let no : Connection c ≡ Offer o = rw f at e in cc
  ]
  deadline-alike local deadline g e = e

  fold-back : {X : Type 0} (f : State → X → State) → ((t : State) (x : X) → Back t (f t x)) → (xs : List X) (s : State) → Back s (fold f s xs)
  fold-back f each [] s there = there
  fold-back f each (x ∷ xs) s there = each s x (fold-back f each xs (f s x) there)

  -- ---- a signed reply

  permission-back : (ip : IpAddr) (is_granted : Bool) (now : ℕ) (s : State) → Back s (permission_answered ip is_granted now s)
  permission-back ip is_granted now s = by (permission_state ip s) refl is_granted
    where
      kept : Grant → Bool
      kept g = not (is_permission_of ip g)

      by : (p : Option Progress) → permission_state ip s ≡ p → (g : Bool) → Back s (permission_answered ip g now s)
      by (Some (Pending is_kept)) e true = rw e (λ there. filtered kept s.grants (added (filter kept s.grants) _ (λ f. cc) there))
      by (Some (Pending is_kept)) e false = rw e (λ there. filtered kept s.grants there)
      by (Some (Active lease)) e true = rw e (λ there. mapped _ (renewed-alike (is_permission_of ip) _) s.grants there)
      by (Some (Active lease)) e false = rw e (λ there. filtered kept s.grants there)
      by p e g = rw e (λ there. there)

  each-back : (is_granted : Bool) (now : ℕ) (t : State) (p : Purpose) → Back t (permission_answered_for is_granted now t p)
  each-back is_granted now t (ForPermission ip) = permission-back ip is_granted now t
  each-back is_granted now t p = λ there. there

  channel-back : (number id : ℕ) (is_granted : Bool) (now : ℕ) (s : State) → Back s (channel_answered number id is_granted now s)
  channel-back number id is_granted now s = by (first_in (channel_at number) s) refl is_granted
    where
      kept : Grant → Bool
      kept g = not (is_channel_of number g)

      by : (p : Option (SocketAddr × Progress)) → first_in (channel_at number) s ≡ p → (g : Bool) → Back s (channel_answered number id g now s)
      by (Some (peer, Pending is_kept)) e true =
          let t = listed_permissions_answered id true now s in
          rw e (λ there. fold-back (permission_answered_for true now) (each-back true now) (purposes_of id s) s (filtered kept t.grants (added (filter kept t.grants) _ (λ f. cc) there)))
      by (Some (peer, Pending is_kept)) e false =
          let asked = λ (g : Grant). not (is_asked_permission (purposes_of id s) g) in
          rw e (λ there. filtered kept s.grants (filtered _ (filter kept s.grants) there))
      by (Some (peer, Active lease)) e true = rw e (λ there. mapped _ (renewed-alike (is_channel_of number) _) s.grants there)
      by (Some (peer, Active lease)) e false = rw e (λ there. filtered kept s.grants (added (filter kept s.grants) _ (λ f. cc) there))
      by p e g = rw e (λ there. there)

  prolonged-back : (family : AddressFamily) (lifetime now : ℕ) (s : State) → Back s (prolonged family lifetime now s)
  prolonged-back family lifetime now s =
      by_test (Back s) (leb min_lifetime lifetime) _ s (λ e there. mapped _ (allocation-alike _ _) s.grants there) (λ e there. there)

  refreshed-back : (family : AddressFamily) (lifetime : ℕ) (is_granted : Bool) (message : List ℕ) (now : ℕ) (s : State) → Back s (refreshed family lifetime is_granted message now s)
  refreshed-back family lifetime is_granted message now s =
      by_test (Back s) (eqb lifetime 0) _ _
      (λ e. by_test (Back s) (is_granted || has_code allocation_mismatch message) _ s (λ f there. filtered (λ g. not true) s.grants there) (λ f there. there))
      (λ e. by_test (Back s) is_granted _ s (λ f. by_found (Back s) _ (lifetime_in message) s (λ granted g. prolonged-back family granted now s) (λ there. there)) (λ f there. there))

  module _ (is_granted : Bool) (message : List ℕ) (now : ℕ) where
    -- the success to a CONNECT makes the offer
    abbrev IsSuccessFor : Purpose → Type 0
    IsSuccessFor p = (o.origin ≡ OwnConnect) × (is_granted ≡ true) × (p ≡ ForConnect o.peer) × (connection_id_in message ≡ Some o.connection_id)

    one-offer : (id : ℕ) (peer : SocketAddr) → is_granted ≡ true → connection_id_in message ≡ Some id
        → Offer o ≡ Offer (record { connection_id = id; peer = peer; is_reported = false; origin = OwnConnect }) → IsSuccessFor (ForConnect peer)
    one-offer id peer g e is =
        let same : o ≡ record { connection_id = id; peer = peer; is_reported = false; origin = OwnConnect } = cc in
        rw same (refl, g, refl, e)

    connect-back : (peer : SocketAddr) (s : State) → HasIt (connect_answered peer (cond is_granted (connection_id_in message) None) s) → HasIt s ⊎ IsSuccessFor (ForConnect peer)
    connect-back peer s = by is_granted refl (connection_id_in message) refl
      where
        kept : Grant → Bool
        kept g = not (is_connect_to peer g)

        by : (g : Bool) → is_granted ≡ g → (i : Option ℕ) → connection_id_in message ≡ i → HasIt (connect_answered peer (cond g i None) s) → HasIt s ⊎ IsSuccessFor (ForConnect peer)
        by true g (Some id) e there = elim (has-last (Offer o) (filter kept s.grants) _ there) [
          | inl old ↦ inl (filtered kept s.grants old)
          | inr is ↦ inr (one-offer id peer g e is)
        ]
        by true g None e there = inl (filtered kept s.grants there)
        by false g i e there = inl (filtered kept s.grants there)

    effect-back : (id : ℕ) (s : State) (p : Purpose) → HasIt (effect id is_granted message now s p) → HasIt s ⊎ IsSuccessFor p
    effect-back id s (ForRefresh family lifetime) there = inl (refreshed-back family lifetime is_granted message now s there)
    effect-back id s (ForPermission ip) there = inl (permission-back ip is_granted now s there)
    effect-back id s (ForChannel number peer) there = inl (channel-back number id is_granted now s there)
    effect-back id s (ForConnect peer) there = connect-back peer s there
    effect-back id s p there = inl there

    effects-back : (id : ℕ) (purposes : List Purpose) (s : State) → HasIt (fold (effect id is_granted message now) s purposes) → HasIt s ⊎ ((p : Purpose) × Has p purposes × IsSuccessFor p)
    effects-back id [] s there = inl there
    effects-back id (p ∷ purposes) s there = elim (effects-back id purposes (effect id is_granted message now s p) there) [
      | inl here ↦ elim (effect-back id s p here) [ inl old ↦ inl old | inr is ↦ inr (p, inl refl, is) ]
      | inr (q, among, is) ↦ inr (q, inr among, is)
    ]

    -- for something that the request was made for
    abbrev IsSuccessIn : State → Type 0
    IsSuccessIn s = (p : Purpose) × Has p (answered_purposes message s) × IsSuccessFor p

    response-back : (s : State) → HasIt (response_step is_granted message now s).1 → HasIt s ⊎ IsSuccessIn s
    response-back s there = effects-back (id_of message) (answered_purposes message s) (transaction_ended (id_of message) s) there

  allocate-back : (message : List ℕ) (now : ℕ) (s : State) → Back s (allocate_granted message now s)
  allocate-back message now s = by (lifetime_in message) refl
    where
      by : (l : Option ℕ) → lifetime_in message ≡ l → Back s (allocate_granted message now s)
      by None e = rw e (λ there. there)
      by (Some lifetime) e = rw e (λ there. elim (has-append (Offer o) s.grants (map (new_allocation lifetime now) (taken_addresses s.families (relayed_in message))) there) [
        | inl old ↦ old
        | inr new ↦ let (a, among, is) = has-mapped (new_allocation lifetime now) (Offer o) (taken_addresses s.families (relayed_in message)) new in cc
      ])

  denied-back : (fresh : ℕ) (message : List ℕ) (now : ℕ) (s : State) → Back s (allocate_denied fresh message now s)
  denied-back fresh message now s = by_test (Back s) (has_code family_not_supported message && leb 2 (length s.families)) _ (closed (fail_all s)) (λ e there. there) (λ e there. there)

  signed-back : (p : Phase) (is_granted : Bool) (message : List ℕ) (now : ℕ) (s : State) → HasIt (signed_step is_granted message now (record s { phase = p })).1 → HasIt s
      ⊎ IsSuccessIn is_granted message now (record s { phase = p })
  signed-back Authenticating true message now s there = inl (allocate-back message now (transaction_ended (id_of message) (record s { phase = Authenticating })) there)
  signed-back Authenticating false message now s there =
      let t = record s { phase = Authenticating } in
      inl (denied-back (fresh_id t) message now (transaction_ended (id_of message) t) there)
  signed-back p is_granted message now s there = response-back is_granted message now (record s { phase = p }) there

  -- ---- a whole message

  module _ (message : List ℕ) (s : State) where
    -- the message names the connection and the peer of the offer
    abbrev IsNamed : Type 0
    IsNamed = (connection_id_in message ≡ Some o.connection_id) × (peer_in message ≡ Some o.peer)

    -- why the message makes the offer
    abbrev pub IsMadeFor : Judgement → Type 0
    IsMadeFor j =
        ((j ≡ SignedSuccess) × (o.origin ≡ OwnConnect) × Has (ForConnect o.peer) (answered_purposes message s) × (connection_id_in message ≡ Some o.connection_id))
        ⊎ ((j ≡ SignedRequest) × (o.origin ≡ ServerRequest (id_of message)) × IsNamed × (method_in message ≡ connection_attempt_method))
        ⊎ ((j ≡ ConnectionAttempt) × (o.origin ≡ ServerIndication) × IsNamed × (accepts_attempt o.peer s ≡ true))

    -- an offer by an attempt
    abbrev IsNamedBy : ℕ → SocketAddr → Type 0
    IsNamedBy id peer = (Some id ≡ Some o.connection_id) × (Some peer ≡ Some o.peer)

    attempt-back : (id : ℕ) (peer : SocketAddr) (origin : Origin) → HasIt (with_offer id peer origin s) → HasIt s ⊎ ((o.origin ≡ origin) × IsNamedBy id peer × (o.peer ≡ peer))
    attempt-back id peer origin there = elim (has-last (Offer o) s.grants _ there) [
      | inl old ↦ inl old
      | inr is ↦
          let same : o ≡ record { connection_id = id; peer = peer; is_reported = false; origin = origin } = cc in
          inr (rw same (refl, (refl, refl), refl))
    ]

    requested-back : HasIt (attempt_requested message s) → HasIt s ⊎ ((o.origin ≡ ServerRequest (id_of message)) × IsNamed)
    requested-back = by (connection_id_in message) refl (peer_in message) refl
      where
        Goal : ℕ → SocketAddr → State → Type 0
        Goal id peer t = HasIt t → HasIt s ⊎ ((o.origin ≡ ServerRequest (id_of message)) × IsNamedBy id peer)

        offers : (id : ℕ) (peer : SocketAddr) → Goal id peer (with_offer id peer (ServerRequest (id_of message)) s)
        offers id peer there = elim (attempt-back id peer (ServerRequest (id_of message)) there) [ inl old ↦ inl old | inr (from, named, same) ↦ inr (from, named) ]

        by : (i : Option ℕ) → connection_id_in message ≡ i → (p : Option SocketAddr) → peer_in message ≡ p
            → HasIt (attempt_requested message s) → HasIt s ⊎ ((o.origin ≡ ServerRequest (id_of message)) × IsNamed)
        by (Some id) e (Some peer) f =
            rw (e, f)
            (by_test (Goal id peer) (not (is_some (find_allocation_to Tcp (socket_ip peer) s))) _ _ (λ g there. inl there)
            (λ g. by_test (Goal id peer) (is_connected peer s) _ _ (λ h there. inl there) (λ h. offers id peer)))
        by (Some id) e None f = rw (e, f) (λ there. inl there)
        by None e p f = rw e (λ there. inl there)

    indicated-back : HasIt (option_map_or {T = State} {U = Outcome × State} (λ t. (Handled, t)) (attempt_indicated message s) (Ignored, s)).1
        → HasIt s ⊎ ((o.origin ≡ ServerIndication) × IsNamed × (accepts_attempt o.peer s ≡ true))
    indicated-back = by (connection_id_in message) refl (peer_in message) refl
      where
        accepted : Option State → State
        accepted t = (option_map_or {T = State} {U = Outcome × State} (λ u. (Handled, u)) t (Ignored, s)).1

        Goal : ℕ → SocketAddr → Option State → Type 0
        Goal id peer t = HasIt (accepted t) → HasIt s ⊎ ((o.origin ≡ ServerIndication) × IsNamedBy id peer × (accepts_attempt o.peer s ≡ true))

        offers : (id : ℕ) (peer : SocketAddr) → accepts_attempt peer s ≡ true → Goal id peer (Some (with_offer id peer ServerIndication s))
        offers id peer accepts there = elim (attempt-back id peer ServerIndication there) [
          | inl old ↦ inl old
          | inr (from, named, same) ↦ inr (from, named, subst (λ (x : SocketAddr). accepts_attempt x s ≡ true) (sym same) accepts)
        ]

        by : (i : Option ℕ) → connection_id_in message ≡ i → (p : Option SocketAddr) → peer_in message ≡ p
            → HasIt (accepted (attempt_indicated message s)) → HasIt s ⊎ ((o.origin ≡ ServerIndication) × IsNamed × (accepts_attempt o.peer s ≡ true))
        by (Some id) e (Some peer) f = rw (e, f) (by_test (Goal id peer) (accepts_attempt peer s) _ None (offers id peer) (λ refuses there. inl there))
        by (Some id) e None f = rw (e, f) (λ there. inl there)
        by None e p f = rw e (λ there. inl there)

    pub message-offers : (now : ℕ) → HasIt (message_step message now s).1 → HasIt s ⊎ IsMadeFor (judgement_of s message)
    message-offers now = by (judgement_of s message) refl
      where
        Makes : Judgement → Type 0
        Makes j = HasIt (message_step message now s).1 → HasIt s ⊎ IsMadeFor j

        same : (t : State) → t.grants ≡ s.grants → HasIt t → HasIt s
        same t e there = subst (Has (Offer o)) e there

        replied : (is_granted : Bool) → HasIt s ⊎ IsSuccessIn is_granted message now s → HasIt s
            ⊎ ((is_granted ≡ true) × (o.origin ≡ OwnConnect) × Has (ForConnect o.peer) (answered_purposes message s) × (connection_id_in message ≡ Some o.connection_id))
        replied is_granted (inl old) = inl old
        replied is_granted (inr (p, among, (own, granted, for, named))) =
            inr (granted, own, subst (λ (q : Purpose). Has q (answered_purposes message s)) for among, named)

        by : (j : Judgement) → judgement_of s message ≡ j → Makes j
        by (Challenged d) e = rw e (λ there. inl (same (challenge_step message d now s).1 (challenge-grants message d now s) there))
        by Fatal e = rw e (λ there. inl (same (wrong_step message s).1 (wrong-grants s.phase message s) there))
        by ConnectionAttempt e = rw e (λ there. elim (indicated-back there) [ inl old ↦ inl old | inr (from, named, accepts) ↦ inr (inr (inr (refl, from, named, accepts))) ])
        by SignedRequest e = rw e (by_test (λ (x : Outcome × State). HasIt x.1 → HasIt s ⊎ IsMadeFor SignedRequest) (eqb (method_in message) connection_attempt_method)
            (Handled, attempt_requested message s) (Ignored, s)
            (λ is there. elim (requested-back there) [ inl old ↦ inl old | inr (from, named) ↦ inr (inr (inl (refl, from, named, eqb-true (method_in message) connection_attempt_method is))) ])
            (λ no there. inl there))
        by SignedSuccess e = rw e (λ there. elim (replied true (signed-back s.phase true message now s there)) [
          | inl old ↦ inl old
          | inr (granted, own, among, named) ↦ inr (inl (refl, own, among, named))
        ])
        by SignedError e = rw e (λ there. elim (replied false (signed-back s.phase false message now s there)) [
          | inl old ↦ inl old
          | inr (granted, own, among, named) ↦ cc
        ])
        by j e = rw e (λ there. inl there)

  -- ---- a message of a connection that waits

  again-back : (c : DataConnection) (id : ℕ) (d : Challenge) (now : ℕ) (s : State) → Back s (bind_again c id d now s)
  again-back c id d now s =
      by_found (Back s) _ (find (is_bind_of c.local) (purposes_of id s)) s (λ purpose e there. mapped _ (deadline-alike c.local _) s.grants there) (λ there. there)

  answered-back : (c : DataConnection) (message : List ℕ) (now : ℕ) (s : State) → Back s (bind_answered c message now s)
  answered-back c message now s = by (bind_judgement s c.local message) refl
    where
      gone : Back s (not_bound c s)
      gone there = filtered (λ g. not (is_connection_from c.local g)) s.grants there

      by : (j : Judgement) → bind_judgement s c.local message ≡ j → Back s (bind_answered c message now s)
      by (Challenged d) e = rw e (again-back c (id_of message) d now s)
      by SignedSuccess e = rw e (λ there. mapped _ (deadline-alike c.local None) s.grants there)
      by SignedError e = rw e (λ there. filtered (λ g. not (is_connection_from c.local g)) s.grants there)
      by j e = rw e gone

  pub bind-back : (local : SocketAddr) (message : List ℕ) (now : ℕ) (s : State) → Back s (bind_step local message now s)
  bind-back local message now s = bind-by (Back s) local message now s (λ there. there) (λ c allocated found method. answered-back c message now s)
