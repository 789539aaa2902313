-- Which events a signed reply adds.
use Rattle.turn_client_laws.proofs.Common.{◌≡◌, ◌⊎◌, ◌∙◌, ℕ, Bool, true, false, not, cond, ◌&&◌, ◌||◌, eqb, leb, List, [], ◌∷◌, ◌++◌, map, filter, fold, length, Option, Some, None, refl, subst, sym}
use Rattle.turn_client_laws.proofs.Common.{ap, inl, inr, list_any, and_parts, not-true, IpAddr, SocketAddr, is_some}
use Rattle.turn_client_laws.proofs.Machine.{id_of, TransportType, AddressFamily, IPV4, IPV6, State, later_by, seconds, TurnEvent, AllocationCreated, AllocationCreateFailed, PermissionCreated}
use Rattle.turn_client_laws.proofs.Machine.{PermissionCreateFailed, ChannelCreated, ChannelCreateFailed, TcpConnectFailed, Grant, Permission, Channel, Progress, Pending, Active, Purpose}
use Rattle.turn_client_laws.proofs.Machine.{ForAllocation, ForRefresh, ForPermission, ForChannel, ForConnect, Phase, Authenticating, channel_at, failure_of, failures_among, first_in, is_channel_of}
use Rattle.turn_client_laws.proofs.Machine.{is_for, is_for_any, is_of_family, permission_state, as_allocation, is_of, purposes_of, same_ip, unlisted, wait, with_allocations, without_grants}
use Rattle.turn_client_laws.proofs.Machine.{connection_id_in, lifetime_in, method_in, fresh_id, requested, active_channel_answered, active_permission_answered, in_phase, pending_permission_answered}
use Rattle.turn_client_laws.proofs.Machine.{granted_until, allocate_denied, allocate_granted, allocated, all_gone, challenges_reset, channel_answered, channel_lifetime, closed, connect_answered}
use Rattle.turn_client_laws.proofs.Machine.{delete_answered, effect, fail_all, family_not_supported, has_code, allocation_mismatch, is_asked_permission, listed_permissions_answered, min_lifetime}
use Rattle.turn_client_laws.proofs.Machine.{missing_families, new_allocation, pending_channel_answered, permission_answered, permission_answered_for, permission_lifetime, permission_refused_too}
use Rattle.turn_client_laws.proofs.Machine.{prolonged, refreshed, relayed_in, taken_addresses, transaction_ended, Outcome, Handled, answered_purposes, is_answered, response_step, signed_step, Has}
use Rattle.turn_client_laws.proofs.Machine.{has-filter, has-filter_map}
use Rattle.turn_client_laws.proofs.Laws.{HasChannelTo, IsGivenFor, by_found, by_test, IsWithin, has-mapped, purposes-within, effect-takes, same_ip-same, asked_for, taken-family, taken-relayed}
use Rattle.turn_client_laws.proofs.Laws.{channel-there, any-has, has-contains}
use Rattle.turn_client_runs.specs.Events.{IsNoRefresh, Reports}
use Rattle.turn_client_runs.proofs.EventLemmas.{Adds, AddsReported, adds-after, adds-before, adds-none, adds-trans, reported-one, reports-fold, reports-same, reports-trans}

-- ---- what the reply reports

module _ (is_granted : Bool) (message : List ℕ) (now : ℕ) (before : State) where
  abbrev pub over : TransportType
  over = before.config.allocation_transport

  -- a success granted it for this purpose
  abbrev pub CreatesFor : Purpose → TurnEvent → Type 0
  CreatesFor p e = (is_granted ≡ true) × IsNoRefresh p × ((g : Grant) × Reports e over g × IsGivenFor p message now before g)

  -- a family is still requested, or the server has no address of it
  abbrev pub StillAsks : AddressFamily → Type 0
  StillAsks family = Has family before.families ⊎ ((family ≡ IPV4) × (has_code family_not_supported message ≡ true))

  abbrev pub Lacks : AddressFamily → Type 0
  Lacks family =
      (is_granted ≡ false) ⊎ (lifetime_in message ≡ None) ⊎ (list_any (is_of_family family) (taken_addresses before.families (relayed_in message)) ≡ false)

  -- the reply refused it for this purpose
  abbrev pub RefusesFor : Purpose → TurnEvent → Type 0
  RefusesFor ForAllocation (AllocationCreateFailed family) = StillAsks family × Lacks family
  RefusesFor (ForPermission ip) (PermissionCreateFailed transport other) = (is_granted ≡ false) × (transport ≡ over) × (same_ip other ip ≡ true)
  RefusesFor (ForChannel number peer) (ChannelCreateFailed transport to) = (is_granted ≡ false) × (transport ≡ over) × HasChannelTo number to before
  RefusesFor (ForConnect peer) (TcpConnectFailed to) = (to ≡ peer) × ((is_granted ≡ false) ⊎ (connection_id_in message ≡ None))
  RefusesFor _ _ = ⊥

  -- for one of the purposes of the request
  abbrev pub Replied : TurnEvent → Type 0
  Replied e = (p : Purpose) × Has p (asked_for message before) × (CreatesFor p e ⊎ RefusesFor p e)

  abbrev pub IsConfigured : State → Type 0
  IsConfigured s = s.config ≡ before.config

  abbrev Say : State → State → Type 0
  Say s t = AddsReported IsConfigured Replied s t

  -- nothing is reported
  quiet : (s t : State) → t.config ≡ s.config → t.events ≡ s.events → Say s t
  quiet s t same none c = (same ∙ c, adds-none IsConfigured Replied s t none)

  -- one event after the others, or before them
  later : (x : TurnEvent) (s t : State) → t.config ≡ s.config → t.events ≡ s.events ++ x ∷ [] → (IsConfigured s → Replied x) → Say s t
  later x s t same is reported c = (same ∙ c, adds-after IsConfigured Replied s t (x ∷ []) is (reported-one IsConfigured Replied x (reported c)))

  sooner : (x : TurnEvent) (s t : State) → t.config ≡ s.config → t.events ≡ x ∷ s.events → (IsConfigured s → Replied x) → Say s t
  sooner x s t same is reported c = (same ∙ c, adds-before IsConfigured Replied s t (x ∷ []) is (reported-one IsConfigured Replied x (reported c)))

  relays : (s : State) → IsConfigured s → s.config.allocation_transport ≡ over
  relays s c = ap (λ x. x.allocation_transport) c

  -- ---- permissions

  permission-says : (ip : IpAddr) (g : Bool) → is_granted ≡ g → Has (ForPermission ip) (asked_for message before) → (s : State) → Say s (permission_answered ip g now s)
  permission-says ip g f asked s = by (permission_state ip s) refl g f
    where
      made : (g : Bool) → is_granted ≡ g → (s : State) → IsConfigured s → g ≡ true → Replied (PermissionCreated s.config.allocation_transport ip)
      made g f s c e = (ForPermission ip, asked, inl (f ∙ e, tt, (Permission ip (granted_until (later_by permission_lifetime now) true), (relays s c, refl), (same_ip-same ip, refl))))

      lost : (g : Bool) → is_granted ≡ g → (s : State) → IsConfigured s → g ≡ false → Replied (PermissionCreateFailed s.config.allocation_transport ip)
      lost g f s c e = (ForPermission ip, asked, inr (f ∙ e, relays s c, same_ip-same ip))

      by : (o : Option Progress) → permission_state ip s ≡ o → (g : Bool) → is_granted ≡ g → Say s (permission_answered ip g now s)
      by (Some (Pending is_kept)) e true f =
          rw e (later (PermissionCreated s.config.allocation_transport ip) s (pending_permission_answered ip is_kept true now s) refl refl (λ c. made true f s c refl))
      by (Some (Pending is_kept)) e false f =
          rw e (later (PermissionCreateFailed s.config.allocation_transport ip) s (pending_permission_answered ip is_kept false now s) refl refl (λ c. lost false f s c refl))
      by (Some (Active expiry)) e true f = rw e (quiet s (active_permission_answered ip true now s) refl refl)
      by (Some (Active expiry)) e false f = rw e (sooner (PermissionCreateFailed s.config.allocation_transport ip) s (active_permission_answered ip false now s) refl refl (λ c. lost false f s c refl))
      by o e g f = rw e (reports-same IsConfigured Replied s)

  permissions-say : (g : Bool) → is_granted ≡ g → (purposes : List Purpose) → ((p : Purpose) → Has p purposes → Has p (asked_for message before)) → (s : State)
      → Say s (fold (permission_answered_for g now) s purposes)
  permissions-say g f purposes asked = reports-fold IsConfigured Replied (permission_answered_for g now) purposes (λ t p there. one p t (asked p there))
    where
      one : (p : Purpose) (t : State) → Has p (asked_for message before) → Say t (permission_answered_for g now t p)
      one (ForPermission ip) t there = permission-says ip g f there t
      one p t there = reports-same IsConfigured Replied t

  -- ---- channels

  -- what the request was made for is so still
  abbrev AllAsked : State → Type 0
  AllAsked s = (p : Purpose) → Has p (purposes_of (id_of message) s) → Has p (asked_for message before)

  for-permission : (purposes : List Purpose) (ip : IpAddr) (is_kept : Bool) → is_for_any purposes (Permission ip (Pending is_kept)) ≡ true
      → (other : IpAddr) × Has (ForPermission other) purposes × (same_ip ip other ≡ true)
  for-permission purposes ip is_kept e =
      let (p, there, is) = any-has (λ p. is_for p (Permission ip (Pending is_kept))) purposes e in by p there is
    where
      by : (p : Purpose) → Has p purposes → is_for p (Permission ip (Pending is_kept)) ≡ true → (other : IpAddr) × Has (ForPermission other) purposes × (same_ip ip other ≡ true)
      by (ForPermission other) there is = (other, there, is)
      by p there is = cc

  refused-too : is_granted ≡ false → (purposes : List Purpose) → ((p : Purpose) → Has p purposes → Has p (asked_for message before)) → (s : State) → Say s (permission_refused_too purposes s)
  refused-too f purposes asked s c = (c, adds-after IsConfigured Replied s (permission_refused_too purposes s) (failures_among (is_asked_permission purposes) s) refl each)
    where
      of : (g : Grant) (e : TurnEvent) → is_asked_permission purposes g ≡ true → failure_of s.config.allocation_transport g ≡ Some e → Replied e
      of (Permission ip (Pending is_kept)) e is reported =
          let (other, there, same) = for-permission purposes ip is_kept is in
          let named : PermissionCreateFailed s.config.allocation_transport ip ≡ e = cc in
          subst Replied named (ForPermission other, asked (ForPermission other) there, inr (f, relays s c, same))
      of g e is reported = cc

      each : (e : TurnEvent) → Has e (failures_among (is_asked_permission purposes) s) → Replied e
      each e there =
          let (g, kept, reported) = has-filter_map (failure_of s.config.allocation_transport) e (filter (is_asked_permission purposes) s.grants) there in
          of g e (has-filter (is_asked_permission purposes) g s.grants kept).1 reported

  channel-says : (number : ℕ) (asked : SocketAddr) (g : Bool) → is_granted ≡ g → Has (ForChannel number asked) (asked_for message before) → (s : State) → IsWithin before s
      → Say s (channel_answered number (id_of message) g now s)
  channel-says number asked g f there s within = by (first_in (channel_at number) s) refl g f
    where
      all : AllAsked s
      all = purposes-within (id_of message) before s within.0

      known : (peer : SocketAddr) (progress : Progress) → Has (Channel number peer progress) s.grants → HasChannelTo number peer before
      known peer progress here = let (was, old) = within.1 number peer (progress, here) in (was, has-contains (Channel number peer was) before.grants old)

      lost : is_granted ≡ false → (peer : SocketAddr) → HasChannelTo number peer before → IsConfigured s → Replied (ChannelCreateFailed s.config.allocation_transport peer)
      lost f peer has c = (ForChannel number asked, there, inr (f, relays s c, has))

      by : (o : Option (SocketAddr × Progress)) → first_in (channel_at number) s ≡ o → (g : Bool) → is_granted ≡ g → Say s (channel_answered number (id_of message) g now s)
      by (Some (peer, Pending is_kept)) e true f =
          let t = listed_permissions_answered (id_of message) true now s in
          let end = pending_channel_answered number peer is_kept (id_of message) true now s in
          let has = known peer (Pending is_kept) (channel-there number peer (Pending is_kept) s e) in
          rw e
          (λ first. reports-trans IsConfigured Replied s t end (permissions-say true f (purposes_of (id_of message) s) all s)
          (λ c. later (ChannelCreated s.config.allocation_transport peer) t end refl refl
          (λ d. (ForChannel number asked, there, inl (f, tt, (Channel number peer (granted_until (later_by channel_lifetime now) is_kept), (relays s first, refl), (refl, refl, has))))) c) first)
      by (Some (peer, Pending is_kept)) e false f =
          let t = without_grants (is_channel_of number) s in
          let u = record t { events = s.events ++ ChannelCreateFailed s.config.allocation_transport peer ∷ [] } in
          let has = known peer (Pending is_kept) (channel-there number peer (Pending is_kept) s e) in
          rw e
          (reports-trans IsConfigured Replied s u (permission_refused_too (purposes_of (id_of message) s) u)
          (later (ChannelCreateFailed s.config.allocation_transport peer) s u refl refl (lost f peer has)) (refused-too f (purposes_of (id_of message) s) all u))
      by (Some (peer, Active expiry)) e true f = rw e (quiet s (active_channel_answered number peer expiry.expiry true now s) refl refl)
      by (Some (peer, Active expiry)) e false f =
          let end = active_channel_answered number peer expiry.expiry false now s in
          let has = known peer (Active expiry) (channel-there number peer (Active expiry) s e) in
          rw e (later (ChannelCreateFailed s.config.allocation_transport peer) s end refl refl (lost f peer has))
      by o e g f = rw e (reports-same IsConfigured Replied s)

  -- ---- connections

  connect-says : (peer : SocketAddr) → Has (ForConnect peer) (asked_for message before) → (o : Option ℕ) → (o ≡ None → (is_granted ≡ false) ⊎ (connection_id_in message ≡ None)) → (s : State)
      → Say s (connect_answered peer o s)
  connect-says peer there (Some id) why s = quiet s (connect_answered peer (Some id) s) refl refl
  connect-says peer there None why s = later (TcpConnectFailed peer) s (connect_answered peer None s) refl refl (λ c. (ForConnect peer, there, inr (refl, why refl)))

  none-given : (g : Bool) (o : Option ℕ) → cond g o None ≡ None → (g ≡ false) ⊎ (o ≡ None)
  none-given true o e = inr e
  none-given false o e = inl refl

  -- ---- refreshes, which report nothing

  refreshed-says : (family : AddressFamily) (lifetime : ℕ) (s : State) → Say s (refreshed family lifetime is_granted message now s)
  refreshed-says family lifetime s =
      by_test (Say s) (eqb lifetime 0) (delete_answered is_granted message s) _
      (λ e. by_test (Say s) (is_granted || has_code allocation_mismatch message) (challenges_reset (all_gone s)) s (λ f. quiet s (challenges_reset (all_gone s)) refl refl) (λ f. quiet s s refl refl))
      (λ e. by_test (Say s) is_granted _ s
      (λ f. by_found (Say s) (λ granted. prolonged family granted now s) (lifetime_in message) s
      (λ n reported. by_test (Say s) (leb min_lifetime n) (longer n) s (λ long. quiet s (longer n) refl refl) (λ short. quiet s s refl refl)) (quiet s s refl refl)) (λ f. quiet s s refl refl))
    where
      longer : ℕ → State
      longer n =
          challenges_reset (with_allocations (λ a. is_of_family family a.relayed) (λ a. record a { expiry = later_by (seconds n) now })
          (unlisted (λ g. is_some (as_allocation g) && is_of family g) s))

  -- ---- all that the request was made for

  effect-says : (p : Purpose) → Has p (asked_for message before) → (s : State) → IsWithin before s → Say s (effect (id_of message) is_granted message now s p)
  effect-says (ForRefresh family lifetime) there s within = refreshed-says family lifetime s
  effect-says (ForPermission ip) there s within = permission-says ip is_granted refl there s
  effect-says (ForChannel number peer) there s within = channel-says number peer is_granted refl there s within
  effect-says (ForConnect peer) there s within =
      connect-says peer there (cond is_granted (connection_id_in message) None) (none-given is_granted (connection_id_in message)) s
  effect-says p there s within = reports-same IsConfigured Replied s

  effects-say : (some : List Purpose) → ((p : Purpose) → Has p some → Has p (asked_for message before)) → (s : State) → IsWithin before s
      → Say s (fold (effect (id_of message) is_granted message now) s some)
  effects-say [] each s within = reports-same IsConfigured Replied s
  effects-say (p ∷ some) each s within =
      let t = effect (id_of message) is_granted message now s p in
      let taken = effect-takes (asked_for message before) message now before (id_of message) is_granted s p within.1 (λ g. each p (inl refl))
      (λ g q still. purposes-within (id_of message) before s within.0 q still) in
      reports-trans IsConfigured Replied s t (fold (effect (id_of message) is_granted message now) t some) (effect-says p (each p (inl refl)) s within)
      (effects-say some (λ q there. each q (inr there)) t
      (λ l there. within.0 l (taken.0.0 l there), λ number peer h. within.1 number peer (taken.0.1 number peer h)))

  pub response-says : Adds IsConfigured Replied before (response_step is_granted message now before).1
  response-says =
      (effects-say (answered_purposes message before) (λ p there. (has-filter (is_answered (method_in message)) p (asked_for message before) there).0) (transaction_ended (id_of message) before)
      (λ l there. there, λ number peer h. h) refl).1

  -- ---- an ALLOCATE

  module _ (asked : Has ForAllocation (asked_for message before)) where
    -- each family that is still requested fails
    all-fail : (s : State) → s.families ≡ before.families → ((family : AddressFamily) → Lacks family) → Say s (closed (fail_all s))
    all-fail s same lacks c = (c, adds-after IsConfigured Replied s (closed (fail_all s)) (map AllocationCreateFailed s.families) refl each)
      where
        each : (e : TurnEvent) → Has e (map AllocationCreateFailed s.families) → Replied e
        each e there =
            let (family, has, is) = has-mapped AllocationCreateFailed e s.families there in
            subst Replied (sym is) (ForAllocation, asked, inr (inl (subst (Has family) same has), lacks family))

    granted-says : is_granted ≡ true → (s : State) → s.families ≡ before.families → Say s (allocate_granted message now s)
    granted-says f s same = by (lifetime_in message) refl
      where
        addresses : List SocketAddr
        addresses = taken_addresses s.families (relayed_in message)

        middle : State
        middle = record s { events = s.events ++ map (AllocationCreated s.config.allocation_transport) addresses }

        made : (lifetime : ℕ) → lifetime_in message ≡ Some lifetime → IsConfigured s → (e : TurnEvent) → Has e (map (AllocationCreated s.config.allocation_transport) addresses) → Replied e
        made lifetime is c e there =
            let (a, has, named) = has-mapped (AllocationCreated s.config.allocation_transport) e addresses there in
            let reported = has-contains a (relayed_in message) (taken-relayed s.families (relayed_in message) a has) in
            let wanted = subst (λ (fs : List AddressFamily). list_any (λ family. is_of_family family a) fs ≡ true) same (taken-family s.families (relayed_in message) a has) in
            subst Replied (sym named) (ForAllocation, asked, inl (f, tt, (new_allocation lifetime now a, (relays s c, refl), (lifetime, is, refl, reported, wanted))))

        lost : (e : TurnEvent) → Has e (map AllocationCreateFailed (missing_families addresses s)) → Replied e
        lost e there =
            let (family, has, named) = has-mapped AllocationCreateFailed e (missing_families addresses s) there in
            let (wanted, none) = has-filter (λ family. not (list_any (is_of_family family) addresses)) family s.families has in
            let lacks =
            subst (λ (fs : List AddressFamily). list_any (is_of_family family) (taken_addresses fs (relayed_in message)) ≡ false) same
            (not-true (list_any (is_of_family family) addresses) none) in
            subst Replied (sym named) (ForAllocation, asked, inr (inl (subst (Has family) same wanted), inr (inr lacks)))

        by : (o : Option ℕ) → lifetime_in message ≡ o → Say s (allocate_granted message now s)
        by None e = rw e (all-fail s same (λ family. inr (inl e)))
        by (Some lifetime) e =
            let end = allocated lifetime addresses now s in
            rw e
            (λ c. (
              c,
              adds-trans IsConfigured Replied s middle end (adds-after IsConfigured Replied s middle (map (AllocationCreated s.config.allocation_transport) addresses) refl (made lifetime e c))
                  (adds-after IsConfigured Replied middle end (map AllocationCreateFailed (missing_families addresses s)) refl lost),
            ))

    denied-says : is_granted ≡ false → (fresh : ℕ) (s : State) → s.families ≡ before.families → Say s (allocate_denied fresh message now s)
    denied-says f fresh s same =
        by_test (Say s) (has_code family_not_supported message && leb 2 (length s.families)) again (closed (fail_all s))
        (λ e. later (AllocationCreateFailed IPV4) s again refl refl
        (λ c. (ForAllocation, asked, inr (inr (refl, (and_parts (has_code family_not_supported message) (leb 2 (length s.families)) e).0), inl f))))
        (λ e. all-fail s same (λ family. inl f))
      where
        again : State
        again = requested fresh ForAllocation now (wait (AllocationCreateFailed IPV4 ∷ []) (record (in_phase s.phase s) { families = IPV6 ∷ [] }))

  -- ---- any signed reply

  pub signed-says : (before.phase ≡ Authenticating → Has ForAllocation (asked_for message before)) → Adds IsConfigured Replied before (signed_step is_granted message now before).1
  signed-says allocates = by before.phase refl is_granted refl
    where
      t : State
      t = transaction_ended (id_of message) before

      by : (p : Phase) → before.phase ≡ p → (g : Bool) → is_granted ≡ g → Adds IsConfigured Replied before (signed_step g message now before).1
      by Authenticating e true f =
          let is : signed_step true message now before ≡ (Handled, allocate_granted message now t) = rw e refl in
          subst (λ (x : Outcome × State). Adds IsConfigured Replied before x.1) (sym is) (granted-says (allocates e) f t refl refl).1
      by Authenticating e false f =
          let is : signed_step false message now before ≡ (Handled, allocate_denied (fresh_id before) message now t) = rw e refl in
          subst (λ (x : Outcome × State). Adds IsConfigured Replied before x.1) (sym is) (denied-says (allocates e) f (fresh_id before) t refl refl).1
      by p e g f =
          let is : signed_step g message now before ≡ response_step g message now before = rw e refl in
          subst (λ (x : Outcome × State). Adds IsConfigured Replied before x.1) (sym is) (subst (λ (b : Bool). Adds IsConfigured Replied before (response_step b message now before).1) f response-says)
