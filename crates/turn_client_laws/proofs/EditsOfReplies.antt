-- The edits of which the effects of a reply are made.
use Rattle.turn_client_laws.proofs.Common.{◌≡◌, ℕ, Bool, true, false, not, cond, ◌&&◌, ◌||◌, eqb, leb, List, [], ◌∷◌, map, filter_map, fold, Option, Some, None, inl, inr, refl, sym, subst, ap, ◌∙◌}
use Rattle.turn_client_laws.proofs.Common.{arith, is_some, option_map_or, eqb-true, cond_some, IpAddr, SocketAddr}
use Rattle.turn_client_laws.proofs.Machine.{AddressFamily, same_address, State, later_by, seconds, Allocated, Grant, Allocation, Channel, Offer, Connection, Relay, Progress, Pending, Active, Purpose}
use Rattle.turn_client_laws.proofs.Machine.{ForAllocation, ForRefresh, ForPermission, ForChannel, ForConnect, Listing, as_allocation, changed_allocation, channel_at, first_in, is_channel_of}
use Rattle.turn_client_laws.proofs.Machine.{is_connect_to, is_connection_from, is_for_allocation, is_of, is_of_family, is_permission_of, permission_state, purposes_of, unlisted, with_allocations}
use Rattle.turn_client_laws.proofs.Machine.{without_grants, with_expired, connection_id_in, lifetime_in, connection_at, deadline_set, with_deadline, active_channel_answered}
use Rattle.turn_client_laws.proofs.Machine.{active_permission_answered, all_gone, allocation_mismatch, challenges_reset, channel_answered, channel_lifetime, closed, connect_answered, effect, fail_all}
use Rattle.turn_client_laws.proofs.Machine.{has_code, is_asked_permission, lasting, lasting_if, min_lifetime, listed_permissions_answered, pending_channel_answered, pending_permission_answered}
use Rattle.turn_client_laws.proofs.Machine.{permission_answered, permission_answered_for, permission_lifetime, prolonged, refreshed, renewed, reserved, connection_gone, request_started}
use Rattle.turn_client_laws.proofs.Machine.{channel_bind_method, connect_method, create_permission_method, refresh_method, request_for, requested, waits_from, is_answered, as_reported, first_reported}
use Rattle.turn_client_laws.proofs.Machine.{unreported_in, Has, filter-has, has-filter, has-filter_map, has-left, map-has, first-has, marked, with_marks, granted_until, marked_if}
use Rattle.turn_client_laws.specs.LawsOrder.{IsBegun, IsUngranted}
use Rattle.turn_client_laws.proofs.Edits.{IsAskable, IsSpelled, KeepsEdits, SparesAllocations, listing, outline, AllocationsStay, KeepsAccepted, aged}
use Rattle.turn_client_laws.proofs.CaseLemmas.{by_test, by_found}

-- ---- grants that change and keep their outlines

pub alike-map : (h f : Grant → Grant) → ((g : Grant) → h (f g) ≡ h g) → (gs : List Grant) → map h (map f gs) ≡ map h gs
alike-map h f same [] = refl
alike-map h f same (g ∷ gs) = rw (same g, alike-map h f same gs) refl

pub changed-outline : (which : Relay → Bool) (change : Relay → Relay) → ((a : Relay) → (change a).relayed ≡ a.relayed) → (g : Grant) → outline (changed_allocation which change g) ≡ outline g
changed-outline which change same (Allocation a) = by_test (λ (g : Grant). outline g ≡ outline (Allocation a)) (which a) (Allocation (change a)) (Allocation a) (λ e. rw (same a) refl) (λ e. refl)
changed-outline which change same g = refl

lasting-outline : (expiry : ℕ) (g : Grant) → outline (lasting expiry g) ≡ outline g
lasting-outline expiry g = grind arith

deadline-outline : (local : SocketAddr) (deadline : Option ℕ) (g : Grant) → outline (deadline_set local deadline g) ≡ outline g
deadline-outline local deadline (Connection c) = by_test (λ (g : Grant). outline g ≡ outline (Connection c)) (same_address c.local local) _ _ (λ e. refl) (λ e. refl)
deadline-outline local deadline g = refl

reported-aged : (g : Grant) → aged (as_reported g) ≡ aged g
reported-aged (Offer offer) = refl
reported-aged g = refl

pub reported-alike : (family : AddressFamily) (gs : List Grant) → map aged (first_reported family gs) ≡ map aged gs
reported-alike family [] = refl
reported-alike family (g ∷ gs) =
    by_test (λ (hs : List Grant). map aged hs ≡ map aged (g ∷ gs)) (is_some (unreported_in family g)) _ _ (λ e. rw (reported-aged g) refl) (λ e. rw (reported-alike family gs) refl)

expired-aged : (family : AddressFamily) (g : Grant) → aged (changed_allocation (λ a. is_of_family family a.relayed) (λ a. record a { is_expired = true }) g) ≡ aged g
expired-aged family (Allocation a) = by_test (λ (g : Grant). aged g ≡ aged (Allocation a)) (is_of_family family a.relayed) _ _ (λ e. refl) (λ e. refl)
expired-aged family g = refl

-- an allocation that is used no more
pub expired-alike : (family : AddressFamily) (s : State) → map aged (with_expired family s).grants ≡ map aged s.grants
expired-alike family s = alike-map aged (changed_allocation (λ a. is_of_family family a.relayed) (λ a. record a { is_expired = true })) (expired-aged family) s.grants

marked-aged : (is_kept : Bool) (g : Grant) → aged (marked is_kept g) ≡ aged g
marked-aged is_kept g = grind arith

-- what is kept from now on, or not
pub marked-alike : (which : Grant → Bool) (is_kept : Bool) (s : State) → map aged (with_marks which is_kept s).grants ≡ map aged s.grants
marked-alike which is_kept s = alike-map aged (marked_if which is_kept)
    (λ g. by_test (λ (h : Grant). aged h ≡ aged g) (which g) _ _ (λ e. marked-aged is_kept g) (λ e. refl)) s.grants

-- ---- kinds of grants that are no allocations

pub and-false : (b : Bool) → (b && false) ≡ false
and-false true = refl
and-false false = refl

pub spares-kind : (family : AddressFamily) (which : Grant → Bool) → SparesAllocations which → SparesAllocations (λ g. is_of family g && which g)
spares-kind family which spares a = rw (spares a) (and-false (is_of family (Allocation a)))

-- ---- what a look-up finds

-- the channel of this number
pub channel-there : (number : ℕ) (peer : SocketAddr) (progress : Progress) (s : State) → first_in (channel_at number) s ≡ Some (peer, progress) → Has (Channel number peer progress) s.grants
channel-there number peer progress s e =
    let (g, there, reads) = has-filter_map (channel_at number) (peer, progress) s.grants (first-has (peer, progress) (filter_map (channel_at number) s.grants) e) in
    of g reads there
  where
    of : (g : Grant) → channel_at number g ≡ Some (peer, progress) → Has g s.grants → Has (Channel number peer progress) s.grants
    of (Channel other to p) reads there =
        let (same, both) = cond_some (eqb other number) (to, p) (peer, progress) reads in
        let first : to ≡ peer = ap (λ (x : SocketAddr × Progress). x.0) both in
        let second : p ≡ progress = ap (λ (x : SocketAddr × Progress). x.1) both in
        rw (sym (eqb-true other number same), sym first, sym second) there
    of g reads there = cc

-- ---- permissions that are answered leave channels unchanged

module _ (number : ℕ) (peer : SocketAddr) (progress : Progress) where
  abbrev Stays : State → State → Type 0
  Stays s t = Has (Channel number peer progress) s.grants → Has (Channel number peer progress) t.grants

  without-stays : (ip : IpAddr) (s : State) → Stays s (without_grants (is_permission_of ip) s)
  without-stays ip s there = filter-has (λ g. not (is_permission_of ip g)) (Channel number peer progress) s.grants there refl

  answered-stays : (ip : IpAddr) (is_granted : Bool) (now : ℕ) (s : State) → Stays s (permission_answered ip is_granted now s)
  answered-stays ip is_granted now s = by (permission_state ip s) refl is_granted
    where
      by : (o : Option Progress) → permission_state ip s ≡ o → (g : Bool) → Stays s (permission_answered ip g now s)
      by (Some (Pending is_kept)) e true = rw e (λ there. has-left (Channel number peer progress) (without_grants (is_permission_of ip) s).grants _ (without-stays ip s there))
      by (Some (Pending is_kept)) e false = rw e (without-stays ip s)
      by (Some (Active expiry)) e true = rw e (λ there. map-has (lasting_if (is_permission_of ip) (later_by permission_lifetime now)) (Channel number peer progress) s.grants there)
      by (Some (Active expiry)) e false = rw e (without-stays ip s)
      by o e g = rw e (λ there. there)

  each-stays : (is_granted : Bool) (now : ℕ) (t : State) (p : Purpose) → Stays t (permission_answered_for is_granted now t p)
  each-stays is_granted now t (ForPermission ip) = answered-stays ip is_granted now t
  each-stays is_granted now t p = λ there. there

  all-stay : (is_granted : Bool) (now : ℕ) (purposes : List Purpose) (s : State) → Stays s (fold (permission_answered_for is_granted now) s purposes)
  all-stay is_granted now [] s = λ there. there
  all-stay is_granted now (p ∷ purposes) s = λ there. all-stay is_granted now purposes (permission_answered_for is_granted now s p) (each-stays is_granted now s p there)

-- ---- which requests are listed

-- no ALLOCATE remains
pub without-allocates : (s : State) (id : ℕ) → Has (listing id ForAllocation) (closed s).listed → ⊥
without-allocates s id there = let kept = (has-filter (λ (l : Listing). not (is_for_allocation l.purpose)) (listing id ForAllocation) s.listed there).1 in cc

-- a request that is no ALLOCATE
pub spelled-else : (id : ℕ) (text : List ℕ) (purpose : Purpose) (s : State) → s.phase ≡ Allocated → (purpose ≡ ForAllocation → ⊥) → IsSpelled id text (purpose ∷ []) s
spelled-else id text purpose s there other = inl (there, λ p one f. elim one [ inl e ↦ other (sym e ∙ f) | inr none ↦ absurd none ])

-- ---- the tools of a walk

module _ (R : State → State → Type 0) (k : KeepsEdits R) where
  pub one-of : (b : Bool) (s t u : State) → R s t → R s u → R s (cond b t u)
  one-of true s t u p q = p
  one-of false s t u p q = q

  -- a pair by a test
  pub either : {A : Type 0} (b : Bool) (s : State) (x y : A × State) → (b ≡ true → R s x.1) → (b ≡ false → R s y.1) → R s (cond b x y).1
  either true s x y p q = p refl
  either false s x y p q = q refl

  -- a pair by the result of a look-up
  pub found : {A X : Type 0} (f : X → A × State) (o : Option X) (s : State) (y : A × State) → ((x : X) → o ≡ Some x → R s (f x).1) → R s y.1 → R s (option_map_or f o y).1
  found f None s y p q = q
  found f (Some x) s y p q = p x refl

  pub each : {X : Type 0} (f : State → X → State) → ((t : State) (x : X) → R t (f t x)) → (xs : List X) (s : State) → R s (fold f s xs)
  each f step [] s = k.same s
  each f step (x ∷ xs) s = k.trans s (f s x) (fold f (f s x) xs) (step s x) (each f step xs (f s x))

  pub unlisted-walk : (which : Grant → Bool) (s : State) → R s (unlisted which s)
  unlisted-walk which s = k.unlists _ s

  -- grants are removed, and something else happens
  pub removed : (which : Grant → Bool) → SparesAllocations which → (s t : State) → R s (record (without_grants which s) { ids = t.ids; events = t.events; closes = t.closes })
  removed which spares s t = k.trans s (without_grants which s) _ (k.removes which s spares) (k.aside (without_grants which s) t)

  pub reserved-walk : (number : ℕ) (peer : SocketAddr) (was : Progress) (expiry : ℕ) (s : State) → Has (Channel number peer was) s.grants → R s (reserved number peer expiry s)
  reserved-walk number peer was expiry s there = k.reserves number peer was _ s there

  pub asked-walk : (id : ℕ) (text : List ℕ) (purpose : Purpose) (now : ℕ) (s : State) → IsBegun s.phase → IsAskable s purpose → IsSpelled id text (purpose ∷ []) s
      → R s (request_started id text (purpose ∷ []) now s)
  asked-walk id text purpose now s begun askable spelled =
      k.asks id text (purpose ∷ []) now s begun (λ p one. elim one [ inl e ↦ subst (IsAskable s) (sym e) askable | inr none ↦ absurd none ]) spelled

  -- a request is made and queued
  pub requested-walk : (id : ℕ) (purpose : Purpose) (now : ℕ) (s : State) → IsBegun s.phase → IsAskable s purpose → IsSpelled id (request_for s purpose id) (purpose ∷ []) s
      → R s (requested id purpose now s)
  requested-walk id purpose now s begun askable spelled =
      let t = request_started id (request_for s purpose id) (purpose ∷ []) (waits_from now s) s in
      let end = requested id purpose now s in
      k.trans s t end (asked-walk id (request_for s purpose id) purpose (waits_from now s) s begun askable spelled) (k.queues end.queue t begun)

  -- the client ends
  pub closed-walk : (s : State) → R s (closed s)
  closed-walk s =
      let t = record s { listed = (closed s).listed } in
      k.trans s t (closed s) (k.unlists _ s) (k.ends t (without-allocates s))

  -- the families that are still requested fail, and the client ends
  pub fail-walk : (s : State) → R s (closed (fail_all s))
  fail-walk s =
      let t = closed s in
      let u = record t { families = [] } in
      let end = closed (fail_all s) in
      k.trans s t end (closed-walk s) (k.trans t u end (k.families [] t (inl (λ none. none))) (k.aside u end))

  pub gone-walk : (local : SocketAddr) (s : State) → R s (connection_gone local s)
  gone-walk local s =
      let t = record s { closes = local ∷ s.closes } in
      one-of (is_some (connection_at local s)) s _ _ (removed (is_connection_from local) (λ a. refl) s t) (k.same s)

-- ---- a reply to CONNECT removes no allocation

connect-stays : (peer : SocketAddr) (o : Option ℕ) (s : State) → AllocationsStay s (connect_answered peer o s)
connect-stays peer (Some id) s a there = has-left (Allocation a) (without_grants (is_connect_to peer) s).grants _ (filter-has (λ g. not (is_connect_to peer g)) (Allocation a) s.grants there refl)
connect-stays peer None s a there = filter-has (λ g. not (is_connect_to peer g)) (Allocation a) s.grants there refl

effect-stays : (id : ℕ) (is_granted : Bool) (message : List ℕ) (now method : ℕ) (s : State) (p : Purpose) → eqb connect_method method ≡ true → is_answered method p ≡ true
    → AllocationsStay s (effect id is_granted message now s p)
effect-stays id is_granted message now method s (ForConnect peer) connect answers = connect-stays peer (cond is_granted (connection_id_in message) None) s
effect-stays id is_granted message now method s (ForRefresh family lifetime) connect answers = absurd (omega (arith, eqb-true connect_method method connect, eqb-true refresh_method method answers))
effect-stays id is_granted message now method s (ForPermission ip) connect answers = absurd (omega (arith, eqb-true connect_method method connect, eqb-true create_permission_method method answers))
effect-stays id is_granted message now method s (ForChannel number peer) connect answers = absurd (omega (arith, eqb-true connect_method method connect, eqb-true channel_bind_method method answers))
effect-stays id is_granted message now method s p connect answers = λ a there. there

-- ---- effects

module _ (HasAccepted : Type 0) (R : State → State → Type 0) (k : KeepsAccepted HasAccepted R) where
  pub allocations-change : (which : Relay → Bool) (change : Relay → Relay) → ((a : Relay) → (change a).relayed ≡ a.relayed) → (s : State) → R s (with_allocations which change s)
  allocations-change which change same s = k.reshapes (with_allocations which change s).grants s (alike-map outline (changed_allocation which change) (changed-outline which change same) s.grants)

  renewed-walk : (which : Grant → Bool) (expiry : ℕ) (s : State) → R s (renewed which expiry s)
  renewed-walk which expiry s = k.reshapes (renewed which expiry s).grants s (alike-map outline (lasting_if which expiry)
      (λ g. by_test (λ (h : Grant). outline h ≡ outline g) (which g) _ _ (λ e. lasting-outline expiry g) (λ e. refl)) s.grants)

  pub deadline-walk : (local : SocketAddr) (deadline : Option ℕ) (s : State) → R s (with_deadline local deadline s)
  deadline-walk local deadline s = k.reshapes (with_deadline local deadline s).grants s (alike-map outline (deadline_set local deadline) (deadline-outline local deadline) s.grants)

  permission-walk : (ip : IpAddr) (is_granted : Bool) (now : ℕ) (s : State) → R s (permission_answered ip is_granted now s)
  permission-walk ip is_granted now s = by (permission_state ip s) refl is_granted
    where
      gone : (t : State) → R s (record (without_grants (is_permission_of ip) s) { ids = t.ids; events = t.events; closes = t.closes })
      gone t = removed R k.edits (is_permission_of ip) (λ a. refl) s t

      by : (o : Option Progress) → permission_state ip s ≡ o → (g : Bool) → R s (permission_answered ip g now s)
      by (Some (Pending is_kept)) e true = rw e (k.edits.trans s _ _ (k.permits ip is_kept (record { expiry = later_by permission_lifetime now; is_kept = is_kept }) s e)
          (k.edits.aside _ (pending_permission_answered ip is_kept true now s)))
      by (Some (Pending is_kept)) e false = rw e (gone (pending_permission_answered ip is_kept false now s))
      by (Some (Active expiry)) e true = rw e (k.edits.trans s (unlisted (is_permission_of ip) s) _ (unlisted-walk R k.edits (is_permission_of ip) s)
          (renewed-walk (is_permission_of ip) _ (unlisted (is_permission_of ip) s)))
      by (Some (Active expiry)) e false = rw e (gone (active_permission_answered ip false now s))
      by o e g = rw e (k.edits.same s)

  permission_state-walk : (is_granted : Bool) (now : ℕ) (t : State) (p : Purpose) → R t (permission_answered_for is_granted now t p)
  permission_state-walk is_granted now t (ForPermission ip) = permission-walk ip is_granted now t
  permission_state-walk is_granted now t p = k.edits.same t

  pending_channel-walk : (number : ℕ) (peer : SocketAddr) (is_kept : Bool) (id : ℕ) (is_granted : Bool) (now : ℕ) (s : State) → Has (Channel number peer (Pending is_kept)) s.grants
      → R s (pending_channel_answered number peer is_kept id is_granted now s)
  pending_channel-walk number peer is_kept id true now s there =
      let t = listed_permissions_answered id true now s in
      let later = all-stay number peer (Pending is_kept) true now (purposes_of id s) s there in
      let bound = k.rebinds number peer (Pending is_kept) (granted_until (later_by channel_lifetime now) is_kept) t later in
      k.edits.trans s t _ (each R k.edits (permission_answered_for true now) (permission_state-walk true now) (purposes_of id s) s)
      (k.edits.trans t _ _ bound (k.edits.aside _ (pending_channel_answered number peer is_kept id true now s)))
  pending_channel-walk number peer is_kept id false now s there =
      let end = pending_channel_answered number peer is_kept id false now s in
      let t = without_grants (is_channel_of number) s in
      k.edits.trans s t end (k.edits.removes (is_channel_of number) s (λ a. refl))
      (removed R k.edits (is_asked_permission (purposes_of id s)) (λ a. refl) t end)

  channel-walk : (number id : ℕ) (is_granted : Bool) (now : ℕ) (s : State) → R s (channel_answered number id is_granted now s)
  channel-walk number id is_granted now s = by (first_in (channel_at number) s) refl is_granted
    where
      by : (o : Option (SocketAddr × Progress)) → first_in (channel_at number) s ≡ o → (g : Bool) → R s (channel_answered number id g now s)
      by (Some (peer, Pending is_kept)) e g = rw e (pending_channel-walk number peer is_kept id g now s (channel-there number peer (Pending is_kept) s e))
      by (Some (peer, Active expiry)) e true = rw e (k.edits.trans s (unlisted (is_channel_of number) s) _ (unlisted-walk R k.edits (is_channel_of number) s)
          (renewed-walk (is_channel_of number) _ (unlisted (is_channel_of number) s)))
      by (Some (peer, Active expiry)) e false =
          let t = reserved number peer expiry.expiry s in
          rw e (k.edits.trans s t _ (reserved-walk R k.edits number peer (Active expiry) expiry.expiry s (channel-there number peer (Active expiry) s e))
          (k.edits.aside t (active_channel_answered number peer expiry.expiry false now s)))
      by o e g = rw e (k.edits.same s)

  prolonged-walk : HasAccepted → (family : AddressFamily) (lifetime now : ℕ) (s : State) → R s (prolonged family lifetime now s)
  prolonged-walk accepted family lifetime now s = one-of R k.edits (leb min_lifetime lifetime) s _ s longer (k.edits.same s)
    where
      t : State
      t = unlisted (λ g. is_some (as_allocation g) && is_of family g) s

      u : State
      u = with_allocations (λ a. is_of_family family a.relayed) (λ a. record a { expiry = later_by (seconds lifetime) now }) t

      longer : R s (challenges_reset u)
      longer = k.edits.trans s t _ (unlisted-walk R k.edits _ s) (k.edits.trans t u _ (allocations-change _ _ (λ a. refl) t) (k.resets accepted u))

  all_gone-walk : HasAccepted → (s : State) → R s (challenges_reset (all_gone s))
  all_gone-walk accepted s =
      let t = without_grants (λ g. true) s in
      k.edits.trans s t _ (k.empties s) (k.edits.trans t (all_gone s) _ (closed-walk R k.edits t) (k.resets accepted (all_gone s)))

  refreshed-walk : HasAccepted → (family : AddressFamily) (lifetime : ℕ) (is_granted : Bool) (message : List ℕ) (now : ℕ) (s : State) → R s (refreshed family lifetime is_granted message now s)
  refreshed-walk accepted family lifetime is_granted message now s =
      one-of R k.edits (eqb lifetime 0) s _ _
      (one-of R k.edits (is_granted || has_code allocation_mismatch message) s _ _ (all_gone-walk accepted s) (k.edits.same s))
      (one-of R k.edits is_granted s _ _
      (by_found (R s) _ (lifetime_in message) s (λ granted e. prolonged-walk accepted family granted now s) (k.edits.same s)) (k.edits.same s))

  -- the reply was received when the client was in the first state
  module _ (first : State) (id : ℕ) (granted : IsUngranted first.phase → ⊥) where
    -- a reply to CONNECT removes no allocation
    abbrev Stay : ℕ → State → Type 0
    Stay method s = eqb connect_method method ≡ true → AllocationsStay first s

    -- the request with this ID was made for it, and the reply of this method answers it
    abbrev IsAnswered : ℕ → Purpose → Type 0
    IsAnswered method p = Has p (purposes_of id first) × (is_answered method p ≡ true)

    connect-walk : (peer : SocketAddr) (o : Option ℕ) (s : State) → R first s → AllocationsStay first s → Has (ForConnect peer) (purposes_of id first) → R first (connect_answered peer o s)
    connect-walk peer (Some connection_id) s since stay listed = k.connects id connection_id peer first s since stay granted listed
    connect-walk peer None s since stay listed = k.edits.trans first s _ since (removed R k.edits (is_connect_to peer) (λ a. refl) s (connect_answered peer None s))

    reset : HasAccepted → (s t : State) → R first s → R s t → R first (challenges_reset t)
    reset accepted s t since step = k.edits.trans first t _ (k.edits.trans first s t since step) (k.resets accepted t)

    effect-walk : HasAccepted → (is_granted : Bool) (message : List ℕ) (now method : ℕ) (s : State) (p : Purpose) → R first s → Stay method s → IsAnswered method p
        → R first (effect id is_granted message now s p)
    effect-walk accepted is_granted message now method s (ForRefresh family lifetime) since stay answers =
        k.edits.trans first s _ since (refreshed-walk accepted family lifetime is_granted message now s)
    effect-walk accepted is_granted message now method s (ForPermission ip) since stay answers = reset accepted s _ since (permission-walk ip is_granted now s)
    effect-walk accepted is_granted message now method s (ForChannel number peer) since stay answers = reset accepted s _ since (channel-walk number id is_granted now s)
    effect-walk accepted is_granted message now method s (ForConnect peer) since stay answers =
        let o = cond is_granted (connection_id_in message) None in
        k.edits.trans first (connect_answered peer o s) _ (connect-walk peer o s since (stay answers.1) answers.0) (k.resets accepted (connect_answered peer o s))
    effect-walk accepted is_granted message now method s p since stay answers = since

    pub effects-walk : (is_granted : Bool) (message : List ℕ) (now method : ℕ) (purposes : List Purpose) (s : State) → R first s → Stay method s
        → ((p : Purpose) → Has p purposes → HasAccepted) → ((p : Purpose) → Has p purposes → IsAnswered method p) → R first (fold (effect id is_granted message now) s purposes)
    effects-walk is_granted message now method [] s since stay accepted answers = since
    effects-walk is_granted message now method (p ∷ purposes) s since stay accepted answers =
        let t = effect id is_granted message now s p in
        effects-walk is_granted message now method purposes t (effect-walk (accepted p (inl refl)) is_granted message now method s p since stay (answers p (inl refl)))
        (λ connect a there. effect-stays id is_granted message now method s p connect (answers p (inl refl)).1 a (stay connect a there)) (λ q there. accepted q (inr there))
        (λ q there. answers q (inr there))
