-- A reply of the server tells of what may be reported, once.
use Rattle.turn_client_laws.proofs.Common.{◌≡◌, ◌∙◌, ℕ, ◌≤◌, Bool, true, false, cond, not, ◌&&◌, ◌||◌, eqb, leb, List, [], ◌∷◌, map, filter, filter_map, fold, Option, Some, None, refl, sym, subst}
use Rattle.turn_client_laws.proofs.Common.{arith, inl, inr, is_some, list_any, and_parts, cases_Bool, eq-eqb, false_from_ne_true, IpAddr, SocketAddr}
use Rattle.turn_client_laws.proofs.Machine.{TransportType, AddressFamily, State, later_by, seconds, TurnEvent, PermissionCreated, PermissionCreateFailed, ChannelCreated, ChannelCreateFailed}
use Rattle.turn_client_laws.proofs.Machine.{TcpConnectFailed, Grant, Allocation, Permission, Channel, Connect, Offer, Connection, DataOffer, OwnConnect, Relay, Progress, Pending, Active, Reserved}
use Rattle.turn_client_laws.proofs.Machine.{Purpose, ForRefresh, ForPermission, ForChannel, ForConnect, channel_at, changed_allocation, first_in, is_channel_of, is_connect_to, is_of, is_of_family}
use Rattle.turn_client_laws.proofs.Machine.{is_permission_of, is_pending_permission, permission_progress, permission_state, as_allocation, purposes_of, same_ip, unlisted, wait, with_allocations}
use Rattle.turn_client_laws.proofs.Machine.{without_grants, active_channel_answered, active_permission_answered, all_gone, allocate_denied, allocate_granted, allocation_mismatch, challenges_reset}
use Rattle.turn_client_laws.proofs.Machine.{channel_answered, channel_lifetime, connect_answered, delete_answered, effect, granted_until, has_code, is_asked_permission, lasting, lasting_if}
use Rattle.turn_client_laws.proofs.Machine.{transaction_ended, listed_permissions_answered, min_lifetime, pending_channel_answered, pending_permission_answered, permission_answered}
use Rattle.turn_client_laws.proofs.Machine.{permission_answered_for, permission_lifetime, permission_refused_too, prolonged, refreshed, reserved_time, connection_id_in, lifetime_in, method_in, Phase}
use Rattle.turn_client_laws.proofs.Machine.{Authenticating, Handled, Outcome, is_answered, response_step, signed_step, fresh_id, id_of, same_address-self, same_address-true, same_ip-true, Has}
use Rattle.turn_client_laws.proofs.Machine.{filter-has, first-has, has-filter, has-filter_map, has-left, map-has}
use Rattle.turn_client_laws.proofs.Laws.{is_asked_by, by_found, by_test, listing, channel-there, same_ip-same, any-has, has-any, AllHaveGrant, HasGrant, purpose-with}
use Rattle.turn_client_runs.specs.Reported.{is_like, is_to_come}
use Rattle.turn_client_runs.proofs.LoneConnects.{HasLoneConnects}
use Rattle.turn_client_runs.proofs.ReportedAllocates.{IsSettled, allocation-comes, denied-spends, granted-spends}
use Rattle.turn_client_runs.proofs.ReportedLemmas.{IsLosable, Spends, channel-created, channel-failed, channel-reserved, connect-comes, offer-comes, permission-created, permission-failed}
use Rattle.turn_client_runs.proofs.ReportedLemmas.{spends-exchanged, spends-failed-later, spends-fold, spends-mapped, spends-removed, spends-replaced, spends-same, spends-reported}
use Rattle.turn_client_runs.proofs.ReportedLemmas.{spends-reported-first, spends-trans}

-- ---- what is found

permission-there : (ip : IpAddr) (progress : Progress) (s : State) → permission_state ip s ≡ Some progress → Has (Permission ip progress) s.grants
permission-there ip progress s e =
    let (g, there, reads) = has-filter_map (permission_progress ip) progress s.grants (first-has progress (filter_map (permission_progress ip) s.grants) e) in
    of g reads there
  where
    by : (other : IpAddr) (p : Progress) (b : Bool) → same_ip other ip ≡ b → cond b (Some p) None ≡ Some progress → (other ≡ ip) × (p ≡ progress)
    by other p true is reads = (same_ip-true other ip is, cc)
    by other p false is reads = cc

    of : (g : Grant) → permission_progress ip g ≡ Some progress → Has g s.grants → Has (Permission ip progress) s.grants
    of (Permission other p) reads there =
        let (same, is) = by other p (same_ip other ip) refl reads in
        rw (sym same, sym is) there
    of g reads there = cc

-- ---- what does not change what may come

lasting-comes : (e : TurnEvent) (expiry : ℕ) (g : Grant) → is_to_come e (lasting expiry g) ≡ is_to_come e g
lasting-comes e expiry g = grind arith

renewed-comes : (e : TurnEvent) (which : Grant → Bool) (expiry : ℕ) (g : Grant) → is_to_come e (lasting_if which expiry g) ≡ is_to_come e g
renewed-comes e which expiry g = by_test (λ (h : Grant). is_to_come e h ≡ is_to_come e g) (which g) (lasting expiry g) g (λ is. lasting-comes e expiry g) (λ other. refl)

pub changed-comes : (e : TurnEvent) (which : Relay → Bool) (change : Relay → Relay) (g : Grant) → is_to_come e (changed_allocation which change g) ≡ is_to_come e g
changed-comes e which change (Allocation a) =
    by_test (λ (h : Grant). is_to_come e h ≡ is_to_come e (Allocation a)) (which a) (Allocation (change a)) (Allocation a)
    (λ is. allocation-comes e (change a) ∙ sym (allocation-comes e a)) (λ other. refl)
changed-comes e which change g = refl

-- ---- permissions

module _ (e : TurnEvent) where
  permission-spends : (ip : IpAddr) (is_granted : Bool) (now : ℕ) (s : State) → Spends e s (permission_answered ip is_granted now s)
  permission-spends ip is_granted now s = by (permission_state ip s) refl is_granted
    where
      over : TransportType
      over = s.config.allocation_transport

      its : same_ip ip ip ≡ true
      its = same_ip-same ip

      by : (o : Option Progress) → permission_state ip s ≡ o → (g : Bool) → Spends e s (permission_answered ip g now s)
      by (Some (Pending was)) f true =
          rw f
          (spends-replaced e (is_permission_of ip) (PermissionCreated over ip) (Permission ip (Pending was)) s (permission-there ip (Pending was) s f) its
          (Permission ip (granted_until (later_by permission_lifetime now) was)) (permission-created e over ip was was (later_by permission_lifetime now))
          (pending_permission_answered ip was true now s) refl refl refl)
      by (Some (Pending was)) f false =
          rw f
          (spends-reported e (is_permission_of ip) (PermissionCreateFailed over ip) (Permission ip (Pending was)) s (permission-there ip (Pending was) s f) its
          (permission-failed e over ip (Pending was)) (pending_permission_answered ip was false now s) refl refl refl)
      by (Some (Active lease)) f true =
          rw f
          (spends-mapped e (lasting_if (is_permission_of ip) (later_by permission_lifetime now)) (renewed-comes e (is_permission_of ip) (later_by permission_lifetime now)) s
          (active_permission_answered ip true now s) refl refl refl)
      by (Some (Active lease)) f false =
          rw f
          (spends-reported-first e (is_permission_of ip) (PermissionCreateFailed over ip) (Permission ip (Active lease)) s (permission-there ip (Active lease) s f) its
          (permission-failed e over ip (Active lease)) (active_permission_answered ip false now s) refl refl refl)
      by o f g = rw f (spends-same e s s refl refl refl)

  permission-for-spends : (is_granted : Bool) (now : ℕ) (s : State) (p : Purpose) → Spends e s (permission_answered_for is_granted now s p)
  permission-for-spends is_granted now s (ForPermission ip) = permission-spends ip is_granted now s
  permission-for-spends is_granted now s p = spends-same e s s refl refl refl

  permissions-spend : (is_granted : Bool) (now : ℕ) (purposes : List Purpose) (s : State) → Spends e s (fold (permission_answered_for is_granted now) s purposes)
  permissions-spend is_granted now purposes s = spends-fold e (permission_answered_for is_granted now) purposes (λ t p there. permission-for-spends is_granted now t p) s

-- ---- CONNECTs

abbrev is_for_connect : Purpose → Bool
is_for_connect (ForConnect peer) = true
is_for_connect p = false

-- one that is listed is there
connect-there : (peer : SocketAddr) (s : State) → HasGrant s.grants (ForConnect peer) → Has (Connect peer) s.grants
connect-there peer s (inl e) = cc
connect-there peer s (inr some) = of (any-has (is_asked_by (ForConnect peer)) s.grants some)
  where
    of : (g : Grant) × Has g s.grants × (is_asked_by (ForConnect peer) g ≡ true) → Has (Connect peer) s.grants
    of (Connect other, there, is) = subst (λ (a : SocketAddr). Has (Connect a) s.grants) (same_address-true other peer is) there
    of (g, there, is) = cc

-- ---- permissions that are answered leave channels as they are

module _ (g : Grant) (other : (ip : IpAddr) → is_permission_of ip g ≡ false) where
  Stays : State → State → Type 0
  Stays s t = Has g s.grants → Has g t.grants

  without-stays : (ip : IpAddr) (s : State) → Has g s.grants → Has g (without_grants (is_permission_of ip) s).grants
  without-stays ip s there = filter-has (λ h. not (is_permission_of ip h)) g s.grants there (rw (other ip) refl)

  renewed-stays : (ip : IpAddr) (expiry : ℕ) (s : State) → Has g s.grants → Has g (map (lasting_if (is_permission_of ip) expiry) s.grants)
  renewed-stays ip expiry s there =
      let same : lasting_if (is_permission_of ip) expiry g ≡ g = rw (other ip) refl in
      subst (λ (h : Grant). Has h (map (lasting_if (is_permission_of ip) expiry) s.grants)) same (map-has (lasting_if (is_permission_of ip) expiry) g s.grants there)

  answered-stays : (ip : IpAddr) (is_granted : Bool) (now : ℕ) (s : State) → Has g s.grants → Has g (permission_answered ip is_granted now s).grants
  answered-stays ip is_granted now s = by (permission_state ip s) refl is_granted
    where
      by : (o : Option Progress) → permission_state ip s ≡ o → (b : Bool) → Has g s.grants → Has g (permission_answered ip b now s).grants
      by (Some (Pending is_kept)) e true = rw e (λ there. has-left g (without_grants (is_permission_of ip) s).grants _ (without-stays ip s there))
      by (Some (Pending is_kept)) e false = rw e (without-stays ip s)
      by (Some (Active expiry)) e true = rw e (renewed-stays ip (later_by permission_lifetime now) s)
      by (Some (Active expiry)) e false = rw e (without-stays ip s)
      by o e b = rw e (λ there. there)

  all-stay : (is_granted : Bool) (now : ℕ) (purposes : List Purpose) (s : State) → Has g s.grants → Has g (fold (permission_answered_for is_granted now) s purposes).grants
  all-stay is_granted now [] s there = there
  all-stay is_granted now (ForPermission ip ∷ purposes) s there = all-stay is_granted now purposes (permission_answered ip is_granted now s) (answered-stays ip is_granted now s there)
  all-stay is_granted now (p ∷ purposes) s there = all-stay is_granted now purposes s there

-- ---- channels

asked-permission : (purposes : List Purpose) (g : Grant) → is_asked_permission purposes g ≡ true → IsLosable g
asked-permission purposes g is = by g (and_parts (is_pending_permission g) _ is).0
  where
    by : (g : Grant) → is_pending_permission g ≡ true → IsLosable g
    by (Channel number peer (Reserved until)) is = cc
    by (Connection c) is = cc
    by g is = tt

its-number : (number : ℕ) → eqb number number ≡ true
its-number number = eq-eqb number number refl

module _ (e : TurnEvent) where
  pub channel-spends : (number id : ℕ) (is_granted : Bool) (now : ℕ) (s : State) → Spends e s (channel_answered number id is_granted now s)
  channel-spends number id is_granted now s = by (first_in (channel_at number) s) refl is_granted
    where
      over : TransportType
      over = s.config.allocation_transport

      by : (o : Option (SocketAddr × Progress)) → first_in (channel_at number) s ≡ o → (g : Bool) → Spends e s (channel_answered number id g now s)
      by (Some (peer, Pending was)) f true =
          let t = listed_permissions_answered id true now s in
          let end = pending_channel_answered number peer was id true now s in
          let there = all-stay (Channel number peer (Pending was)) (λ ip. refl) true now (purposes_of id s) s (channel-there number peer (Pending was) s f) in
          rw f
          (spends-trans e s t end (permissions-spend e true now (purposes_of id s) s)
          (spends-replaced e (is_channel_of number) (ChannelCreated over peer) (Channel number peer (Pending was)) t there (its-number number)
          (Channel number peer (granted_until (later_by channel_lifetime now) was)) (channel-created e over number peer was was (later_by channel_lifetime now))
          end refl refl refl))
      by (Some (peer, Pending was)) f false =
          let t = wait (ChannelCreateFailed over peer ∷ []) (without_grants (is_channel_of number) s) in
          rw f
          (spends-trans e s t (permission_refused_too (purposes_of id s) t)
          (spends-reported e (is_channel_of number) (ChannelCreateFailed over peer) (Channel number peer (Pending was)) s (channel-there number peer (Pending was) s f) (its-number number)
          (channel-failed e over number peer (Pending was) tt) t refl refl refl)
          (spends-failed-later e (is_asked_permission (purposes_of id s)) (asked-permission (purposes_of id s)) t))
      by (Some (peer, Active lease)) f true =
          rw f
          (spends-mapped e (lasting_if (is_channel_of number) (later_by channel_lifetime now)) (renewed-comes e (is_channel_of number) (later_by channel_lifetime now)) s
          (active_channel_answered number peer lease.expiry true now s) refl refl refl)
      by (Some (peer, Active lease)) f false =
          rw f
          (spends-replaced e (is_channel_of number) (ChannelCreateFailed over peer) (Channel number peer (Active lease)) s (channel-there number peer (Active lease) s f) (its-number number)
          (Channel number peer (Reserved (later_by reserved_time lease.expiry))) (channel-reserved e over number peer lease (later_by reserved_time lease.expiry))
          (active_channel_answered number peer lease.expiry false now s) refl refl refl)
      by o f g = rw f (spends-same e s s refl refl refl)

  -- ---- connections

  -- the CONNECT is there: an offer takes its place, or it fails
  connect-spends : (peer : SocketAddr) (o : Option ℕ) (s : State) → Has (Connect peer) s.grants → Spends e s (connect_answered peer o s)
  connect-spends peer (Some id) s there =
      let offer : DataOffer = record { connection_id = id; peer = peer; is_reported = false; origin = OwnConnect } in
      let fits : cond (is_to_come e (Offer offer)) 1 0 ≤ cond (is_to_come e (Connect peer)) 1 0 = rw (offer-comes e offer, connect-comes e peer) (omega arith) in
      spends-exchanged e (is_connect_to peer) (TcpConnectFailed peer) (Connect peer) s there (same_address-self peer) (Offer offer) fits (connect_answered peer (Some id) s) refl refl refl
  connect-spends peer None s there =
      let fits : cond (is_like e (TcpConnectFailed peer)) 1 0 ≤ cond (is_to_come e (Connect peer)) 1 0 = rw (connect-comes e peer) (omega arith) in
      spends-reported e (is_connect_to peer) (TcpConnectFailed peer) (Connect peer) s there (same_address-self peer) fits (connect_answered peer None s) refl refl refl

  -- ---- refreshes, of which nothing is reported

  refreshed-spends : (family : AddressFamily) (lifetime : ℕ) (is_granted : Bool) (message : List ℕ) (now : ℕ) (s : State) → Spends e s (refreshed family lifetime is_granted message now s)
  refreshed-spends family lifetime is_granted message now s =
      by_test (Spends e s) (eqb lifetime 0) (delete_answered is_granted message s) _
      (λ f. by_test (Spends e s) (is_granted || has_code allocation_mismatch message) (challenges_reset (all_gone s)) s
      (λ g. spends-removed e (λ h. true) s (challenges_reset (all_gone s)) refl refl refl) (λ g. same))
      (λ f. by_test (Spends e s) is_granted _ s
      (λ g. by_found (Spends e s) (λ granted. prolonged family granted now s) (lifetime_in message) s
      (λ n reported. by_test (Spends e s) (leb min_lifetime n) (longer n) s
      (λ long. spends-mapped e (changed_allocation which (later n)) (changed-comes e which (later n)) s (longer n) refl refl refl) (λ short. same))
      same) (λ g. same))
    where
      same : Spends e s s
      same = spends-same e s s refl refl refl

      which : Relay → Bool
      which a = is_of_family family a.relayed

      later : ℕ → Relay → Relay
      later n a = record a { expiry = later_by (seconds n) now }

      longer : ℕ → State
      longer n = challenges_reset (with_allocations which (later n) (unlisted (λ g. is_some (as_allocation g) && is_of family g) s))

  -- ---- all that the request was made for

  effect-spends : (id : ℕ) (is_granted : Bool) (message : List ℕ) (now : ℕ) (s : State) (p : Purpose) → is_for_connect p ≡ false → Spends e s (effect id is_granted message now s p)
  effect-spends id is_granted message now s (ForRefresh family lifetime) other = refreshed-spends family lifetime is_granted message now s
  effect-spends id is_granted message now s (ForPermission ip) other = permission-spends e ip is_granted now s
  effect-spends id is_granted message now s (ForChannel number peer) other = channel-spends number id is_granted now s
  effect-spends id is_granted message now s (ForConnect peer) other = cc
  effect-spends id is_granted message now s p other = spends-same e s s refl refl refl

  module _ (is_granted : Bool) (message : List ℕ) (now : ℕ) (s : State) where
    t : State
    t = transaction_ended (id_of message) s

    Answers : List Purpose → Type 0
    Answers purposes = Spends e s (fold (effect (id_of message) is_granted message now) t (filter (is_answered (method_in message)) purposes))

    -- a CONNECT, which is all that the request was made for
    one-spends : (peer : SocketAddr) → Has (Connect peer) s.grants → Answers (ForConnect peer ∷ [])
    unfolding Answers t
    one-spends peer there =
        by_test (λ (ps : List Purpose). Spends e s (fold (effect (id_of message) is_granted message now) t ps)) (is_answered (method_in message) (ForConnect peer)) (ForConnect peer ∷ []) []
        (λ f. connect-spends peer (cond is_granted (connection_id_in message) None) t there) (λ f. spends-same e s t refl refl refl)

    others-spend : (purposes : List Purpose) → list_any is_for_connect purposes ≡ false → Answers purposes
    unfolding Answers t
    others-spend purposes none =
        spends-fold e (effect (id_of message) is_granted message now) (filter (is_answered (method_in message)) purposes)
        (λ u p there. effect-spends (id_of message) is_granted message now u p (no-connect p (has-filter (is_answered (method_in message)) p purposes there).0)) t
      where
        no-connect : (p : Purpose) → Has p purposes → is_for_connect p ≡ false
        no-connect p among = false_from_ne_true (is_for_connect p) (λ is. let no : true ≡ false = sym (has-any is_for_connect p purposes among is) ∙ none in cc)

    pub response-spends : HasLoneConnects s → AllHaveGrant s → Spends e s (response_step is_granted message now s).1
    unfolding Answers t
    response-spends lone asked = elim (cases_Bool (list_any is_for_connect (purposes_of (id_of message) s))) [
      | inl some ↦ of (any-has is_for_connect (purposes_of (id_of message) s) some)
      | inr none ↦ others-spend (purposes_of (id_of message) s) none
    ]
      where
        of : (p : Purpose) × Has p (purposes_of (id_of message) s) × (is_for_connect p ≡ true) → Answers (purposes_of (id_of message) s)
        of (ForConnect peer, among, is) =
            let listed = purpose-with (id_of message) (ForConnect peer) s among in
            subst Answers (sym (lone (id_of message) peer listed)) (one-spends peer (connect-there peer s (asked (listing (id_of message) (ForConnect peer)) listed)))
        of (p, among, is) = cc

-- ---- a signed reply

module _ (e : TurnEvent) where
  pub signed-spends : (is_granted : Bool) (message : List ℕ) (now : ℕ) (s : State) → IsSettled s → HasLoneConnects s → AllHaveGrant s → Spends e s (signed_step is_granted message now s).1
  signed-spends is_granted message now s settled lone asked = by s.phase refl is_granted
    where
      t : State
      t = transaction_ended (id_of message) s

      by : (p : Phase) → s.phase ≡ p → (g : Bool) → Spends e s (signed_step g message now s).1
      by Authenticating f true =
          let is : signed_step true message now s ≡ (Handled, allocate_granted message now t) = rw f refl in
          subst (λ (x : Outcome × State). Spends e s x.1) (sym is) (granted-spends e message now t)
      by Authenticating f false =
          let is : signed_step false message now s ≡ (Handled, allocate_denied (fresh_id s) message now t) = rw f refl in
          subst (λ (x : Outcome × State). Spends e s x.1) (sym is) (denied-spends e (fresh_id s) message now t (settled f))
      by p f g =
          let is : signed_step g message now s ≡ response_step g message now s = rw f refl in
          subst (λ (x : Outcome × State). Spends e s x.1) (sym is) (response-spends e g message now s lone asked)
