-- The edits that time makes, and those of what is sent.
use Rattle.turn_client_laws.proofs.Common.{◌≡◌, ℕ, Bool, true, false, cond, eqb, leb, ltb, ◌&&◌, ◌||◌, List, [], ◌∷◌, filter, Option, Some, None, refl, inl, inr, sym, subst, ◌∙◌, drop, find, fold, reverse, take}
use Rattle.turn_client_laws.proofs.Common.{flat_map, nat_le, slice_get, list_any, option_map_or, and_from, and_left, and_right, eq-eqb, cond_some, none-some, SocketAddr}
use Rattle.turn_client_laws.proofs.Machine.{AddressFamily, due, timed_out_transaction, resent, waits_begun, same_address, Transaction, State, agent_of, Phase, New, Requesting, Authenticating, Allocated, Grant}
use Rattle.turn_client_laws.proofs.Machine.{Allocation, Permission, Channel, Relay, Progress, Active, Purpose, ForAllocation, ForRefresh, ForPermission, ForChannel, Queued, allocations, family_of}
use Rattle.turn_client_laws.proofs.Machine.{is_connect, is_for_any, is_of, is_pending_channel, is_pending_permission, request_started, asked_lifetime, first_allocate, fresh_id, id_used, request_for}
use Rattle.turn_client_laws.proofs.Machine.{closed, transaction_ended, reserved, has_event, has_reply, is_paused, keepalive_times, answer_step, channel_expired, connections_unbound}
use Rattle.turn_client_laws.proofs.Machine.{timed_out_purposes, timed_out_step, allocation_expires, failed_by_timeout, is_timed_out_offer, is_expired_channel, is_expired_permission}
use Rattle.turn_client_laws.proofs.Machine.{is_listed_for_allocation, is_over, is_unbound, expired_at, expired_allocation, expired_in, next_offer, offer_step, offers_timed_out, permissions_expired}
use Rattle.turn_client_laws.proofs.Machine.{poll_step, silent_step, timed_step, ended_count, idle_step, is_due_in, keepalive_step, next_queued, queue_step, settled, without_request, refresh_purpose, refreshes_in, refreshes_of_rank, sent, transmit_step}
use Rattle.turn_client_laws.proofs.Machine.{same_address-self, Has, has-filter, has-filter_map, has-flat_map, has-found, first-has, has-unreversed, expired_in-does}
use Rattle.turn_client_api.specs.Transmit as T
use Rattle.turn_client_laws.specs.LawsStates.{is_asked_by}
use Rattle.turn_client_laws.proofs.InAllocationLemmas.{has-any, same_family-self}
use Rattle.turn_client_laws.proofs.GrantOriginEffectLemmas.{same_ip-same}
use Rattle.turn_client_laws.proofs.Edits.{IsAskable, KeepsEdits, SparesAllocations}
use Rattle.turn_client_laws.proofs.EditsOfReplies.{closed-walk, each, either, found, one-of, removed, asked-walk, reserved-walk, spares-kind, spelled-else, unlisted-walk, reported-alike}
use Rattle.turn_client_laws.proofs.CaseLemmas.{by_test, answer-by}
use Rattle.turn_agent.specs.Agent.{without_transaction}
use Rattle.turn_client_laws.proofs.QueuedLemmas.{queued-there, settled-queued}

-- ---- what is refreshed exists

-- the request is for this grant
pub for-there : (p : Purpose) (g : Grant) (s : State) → Has g s.grants → is_asked_by p g ≡ true → IsAskable s p
for-there p g s there is = inr (inl (has-any (is_asked_by p) g s.grants there is))

-- a channel by its number and its peer
pub channel-asked : (number : ℕ) (peer : SocketAddr) (progress : Progress) → is_asked_by (ForChannel number peer) (Channel number peer progress) ≡ true
channel-asked number peer progress = and_from (eqb number number) (same_address peer peer) (eq-eqb number number refl) (same_address-self peer)

-- a request is for the grant that it refreshes
refresh-for : (now : ℕ) (p : Purpose) (g : Grant) → refresh_purpose now g ≡ Some p → is_asked_by p g ≡ true
refresh-for now p (Allocation a) e = subst (λ (x : Purpose). is_asked_by x (Allocation a) ≡ true) (cond_some (leb now a.expiry) (ForRefresh (family_of a.relayed) asked_lifetime) p e).1
    (same_family-self (family_of a.relayed) (family_of a.relayed) refl)
refresh-for now p (Permission ip (Active expiry)) e = subst (λ (x : Purpose). is_asked_by x (Permission ip (Active expiry)) ≡ true) (cond_some (ltb now expiry.expiry) (ForPermission ip) p e).1
    (same_ip-same ip)
refresh-for now p (Channel number peer (Active expiry)) e = subst (λ (x : Purpose). is_asked_by x (Channel number peer (Active expiry)) ≡ true)
    (cond_some (ltb now expiry.expiry) (ForChannel number peer) p e).1 (channel-asked number peer (Active expiry))
refresh-for now p g e = absurd (none-some p e)

has-if : {X : Type 0} (b : Bool) (x : X) (xs : List X) → Has x (cond b xs []) → Has x xs
has-if true x xs there = there
has-if false x xs none = absurd none

refreshes-there : (now : ℕ) (s : State) (p : Purpose) → Has p (flat_map (refreshes_in now s) (allocations s)) → list_any (is_asked_by p) s.grants ≡ true
refreshes-there now s p there =
    let came = has-flat_map (refreshes_in now s) p (allocations s) there in
    of_one came.from came.gives
  where
    of_one : (a : Relay) → Has p (refreshes_in now s a) → list_any (is_asked_by p) s.grants ≡ true
    of_one a request_started =
        let came = has-flat_map of_rank p (0 ∷ 1 ∷ 2 ∷ []) (has-if (leb now a.expiry) p (flat_map of_rank (0 ∷ 1 ∷ 2 ∷ [])) request_started) in
        let (g, here, asks) = has-filter_map (refresh_purpose now) p (filter (is_due_in came.from (family_of a.relayed) now s) s.grants) came.gives in
        has-any (is_asked_by p) g s.grants (has-filter (is_due_in came.from (family_of a.relayed) now s) g s.grants here).0 (refresh-for now p g asks)
      where
        of_rank : ℕ → List Purpose
        of_rank = refreshes_of_rank now s (family_of a.relayed)

-- no grant is requested by an ALLOCATE
none-allocates : (gs : List Grant) → list_any (is_asked_by ForAllocation) gs ≡ false
none-allocates [] = refl
none-allocates (g ∷ gs) = none-allocates gs

-- a refresh is no ALLOCATE
refresh-other : (now : ℕ) (s : State) (p : Purpose) → Has p (flat_map (refreshes_in now s) (allocations s)) → p ≡ ForAllocation → ⊥
refresh-other now s p there e =
    let some : list_any (is_asked_by ForAllocation) s.grants ≡ true = subst (λ (q : Purpose). list_any (is_asked_by q) s.grants ≡ true) e (refreshes-there now s p there) in
    let no : true ≡ false = sym some ∙ none-allocates s.grants in
    cc

-- ---- queued packets

pub has-dropped : (queue : List Queued) (q : Queued) → Has q (drop 1 queue) → Has q queue
has-dropped [] q there = there
has-dropped (first ∷ queue) q there = inr there

has-unreplied : (q : Queued) (queue : List Queued) → Has q (T.without_first_reply queue) → Has q queue
has-unreplied q [] there = there
has-unreplied q (first ∷ queue) there =
    by_test (λ (l : List Queued). Has q l → Has q (first ∷ queue)) first.is_request (first ∷ T.without_first_reply queue) queue
    (λ is h. elim h [ inl e ↦ inl e | inr later ↦ inr (has-unreplied q queue later) ]) (λ no h. inr h) there

-- ---- as time passes

no-given : (given : Option ℕ) → SparesAllocations (is_timed_out_offer given)
no-given None a = refl
no-given (Some id) a = refl

module _ (R : State → State → Type 0) (k : KeepsEdits R) where
  then : (s t u : State) → R s t → R t u → R s u
  then s t u = k.trans s t u

  vain-walk : (family : AddressFamily) (purposes : List Purpose) (which : Grant → Bool) (s : State) → SparesAllocations which → R s (failed_by_timeout family purposes which s)
  vain-walk family purposes which s spares =
      let end = failed_by_timeout family purposes which s in
      removed R k (λ g. is_of family g && which g && is_for_any purposes g) (λ a. and_left (is_of family (Allocation a) && which (Allocation a)) _
      (and_right (is_of family (Allocation a)) (which (Allocation a)) (spares a))) s end

  channel_expired-walk : (o : Option Grant) (s : State) → ((g : Grant) → o ≡ Some g → Has g s.grants) → R s (channel_expired o s)
  channel_expired-walk (Some (Channel number peer (Active expiry))) s there =
      let t = reserved number peer expiry.expiry s in
      let end = channel_expired (Some (Channel number peer (Active expiry))) s in
      then s t end (reserved-walk R k number peer (Active expiry) expiry.expiry s (there (Channel number peer (Active expiry)) refl)) (k.aside t end)
  channel_expired-walk o s there = k.same s

  expired_in-walk : (family : AddressFamily) (given : Option ℕ) (purposes : List Purpose) (now : ℕ) (s : State) → R s (expired_in family given purposes now s)
  expired_in-walk family given purposes now =
      let has_expired = λ (x : Grant). is_of family x && is_expired_channel now x in
      expired_in-does R family given purposes now (record {
        trans = k.trans;
        channels = λ t. vain-walk family purposes is_pending_channel t (λ r. refl);
        permissions = λ t. vain-walk family purposes is_pending_permission t (λ r. refl);
        last_channel = λ t.
            channel_expired-walk (find has_expired (reverse t.grants)) t (λ x found. has-unreversed x t.grants (has-found has_expired x (reverse t.grants) found).0);
        expired_permissions = λ t. removed R k _ (spares-kind family (is_expired_permission now) (λ r. refl)) t (permissions_expired family now t);
        connects = λ t. vain-walk family purposes is_connect t (λ r. refl);
        connections = λ t. removed R k _ (spares-kind family (is_unbound purposes now) (λ r. refl)) t (connections_unbound family purposes now t);
        offers = λ t. removed R k _ (spares-kind family (is_timed_out_offer given) (no-given given)) t (offers_timed_out family given t);
        refreshes = unlisted-walk R k _;
        frees = λ t. k.removes _ t (spares-kind family (is_over now) (λ r. refl));
      })

  expired_at-walk : (given : Option ℕ) (now : ℕ) (s : State) → R s (expired_at given now s)
  expired_at-walk given now s = each R k (expired_allocation given purposes now) by (allocations s) s
    where
      purposes : List Purpose
      purposes = timed_out_purposes given s

      by : (t : State) (a : Relay) → R t (expired_allocation given purposes now t a)
      by t a = one-of R k (allocation_expires purposes now t a) t _ _ (k.removes_family (family_of a.relayed) t) (expired_in-walk (family_of a.relayed) given purposes now t)

  answer-walk : (given : Option ℕ) (now : ℕ) (s : State) → R s (answer_step given now s).1
  answer-walk given now s = answer-by (R s) given now s (λ closes. k.aside s (record s { closes = closes }))

  silent-walk : (s : State) → R s (silent_step s).1
  silent-walk s =
      let t = closed s in
      let u = record t { families = [] } in
      let end = (silent_step s).1 in
      then s t end (closed-walk R k s) (then t u end (k.families [] t (inl (λ none. none))) (k.aside u end))

  timed_in_phase : (p : Phase) (given : Option ℕ) (now : ℕ) (s : State) → R (record s { phase = p }) (timed_step p given now (record s { phase = p })).1
  timed_in_phase Requesting (Some id) now s = silent-walk (record s { phase = Requesting })
  timed_in_phase Requesting None now s = answer-walk None now (record s { phase = Requesting })
  timed_in_phase Authenticating (Some id) now s =
      let u = record s { phase = Authenticating } in
      let t = cond (is_listed_for_allocation id u) (closed u) u in
      then u t (answer_step (Some id) now t).1 (one-of R k (is_listed_for_allocation id u) u (closed u) u (closed-walk R k u) (k.same u)) (answer-walk (Some id) now t)
  timed_in_phase Authenticating None now s = answer-walk None now (record s { phase = Authenticating })
  timed_in_phase Allocated given now s =
      let u = record s { phase = Allocated } in
      then u (expired_at given now u) (answer_step given now (expired_at given now u)).1 (expired_at-walk given now u) (answer-walk given now (expired_at given now u))
  timed_in_phase p given now s = k.same (record s { phase = p })

  given_up-walk : (now : ℕ) (s : State) → R s (timed_out_step now s).1
  given_up-walk now s =
      found R k (λ (t : Transaction). timed_step s.phase (Some t.id) now (transaction_ended t.id s)) (timed_out_transaction (agent_of s) now) s (timed_step s.phase None now s)
      (λ t e. then s (transaction_ended t.id s) _ (k.finishes t.id s) (timed_in_phase s.phase (Some t.id) now (transaction_ended t.id s))) (timed_in_phase s.phase None now s)

  pub poll-walk : (now : ℕ) (s : State) → R s (poll_step now s).1
  poll-walk now s =
      either R k (has_event s || has_reply s) s _ _ (λ e. k.same s)
      (λ e. found R k (λ offer. offer_step offer s) (next_offer s) s (timed_out_step now s)
      (λ offer is. k.ages (offer_step offer s).1.grants s (reported-alike (family_of offer.peer) s.grants)) (given_up-walk now s))

  -- ---- what is sent

  keepalive-walk : (now : ℕ) (s : State) → s.phase ≡ Allocated → R s (keepalive_step now s).1
  keepalive-walk now s phase =
      either R k (list_any (λ time. nat_le time now) (keepalive_times s)) s _ _
      (λ e. then s (id_used s) (sent now (id_used s)) (k.aside s (id_used s)) (k.sends now (id_used s) (λ new. absurd (let no : Allocated ≡ New = sym phase ∙ new in cc)))) (λ e. k.same s)

  idle-walk : (p : Phase) (now : ℕ) (s : State) → R (record s { phase = p }) (idle_step p now (record s { phase = p })).1
  idle-walk New now s =
      let u = record s { phase = New } in
      let t = record s { phase = Requesting; last_send = Some now } in
      then u t _ (k.begins now u refl) (asked-walk R k (fresh_id u) (first_allocate u (fresh_id u)) ForAllocation now t tt (inl refl)
      (inr (inl (tt, (λ p one. elim one [ inl e ↦ e | inr none ↦ absurd none ]), inl refl))))
  idle-walk Allocated now s =
      let u = record s { phase = Allocated } in
      let wanted = flat_map (refreshes_in now u) (allocations u) in
      found R k _ (slice_get wanted 0) u (keepalive_step now u)
      (λ p e. let text = request_for u p (fresh_id u) in
      let t = request_started (fresh_id u) text (p ∷ []) now u in
      then u t (sent now t) (asked-walk R k (fresh_id u) text p now u tt (inr (inl (refreshes-there now u p (first-has p wanted e))))
      (spelled-else (fresh_id u) text p u refl (refresh-other now u p (first-has p wanted e)))) (k.sends now t (λ new. cc))) (keepalive-walk now u refl)
  idle-walk p now s = k.same (record s { phase = p })

  -- if requests wait from their first copies on
  begun-walk : (now : ℕ) (q : Queued) (s : State) → R s (record s { transactions = T.begun_by now q s })
  begun-walk now q s = by (s.config.timed_from_send && q.is_request) (T.id_in_header q.packet.payload)
    where
      by : (b : Bool) (o : Option ℕ) → R s (record s { transactions = cond b (option_map_or (λ id. waits_begun id now s.transactions) o s.transactions) s.transactions })
      by true (Some id) = k.starts id now s
      by true None = k.same s
      by false o = k.same s

  -- the requests of these packets end
  abbrev ended_all : List Queued → State → State
  ended_all queue s = record s { transactions = fold without_request s.transactions queue }

  ended-walk : (queue : List Queued) (s : State) → R s (ended_all queue s)
  ended-walk [] s = k.same s
  ended-walk (q ∷ queue) s = by (T.id_in_header q.packet.payload) (λ t. ended-walk queue t)
    where
      by : (o : Option ℕ) → ((t : State) → R t (ended_all queue t))
          → R s (ended_all queue (record s { transactions = option_map_or (λ id. without_transaction id s.transactions) o s.transactions }))
      by None later = later s
      by (Some id) later = then s (transaction_ended id s) _ (k.finishes id s) (later (transaction_ended id s))

  queue-walk : (now : ℕ) (s : State) → R s (queue_step now s).1
  queue-walk now s = found R k _ (next_queued now s) s (idle_step s.phase now s)
      (λ q e. let t = sent now s in
      let u = ended_all (take (ended_count s) s.queue) t in
      let v = record u { queue = drop 1 (settled s).queue } in
      then s t (record v { transactions = T.begun_by now q v }) (k.sends now s (λ new none. absurd (rw none at (queued-there now s q e).0)))
      (then t u _ (ended-walk (take (ended_count s) s.queue) t)
      (then u v _ (k.dequeues (drop 1 (settled s).queue) u (λ x there. settled-queued s x (has-dropped (settled s).queue x there))) (begun-walk now q v))))
      (idle-walk s.phase now s)

  pub transmit-walk : (now : ℕ) (s : State) → R s (transmit_step now s).1
  transmit-walk now s =
      found R k _ (due (agent_of s) now) s _ by
      (either R k (is_paused now s) s (T.reply_step s) (queue_step now s) (λ e. k.dequeues (T.without_first_reply s.queue) s (λ q. has-unreplied q s.queue)) (λ e. queue-walk now s))
    where
      by : (t : Transaction) → due (agent_of s) now ≡ Some t → R s (sent now (record s { transactions = resent t.id now s.transactions }))
      by t e =
          let u = sent now s in
          then s u (record u { transactions = resent t.id now s.transactions }) (k.sends now s (λ new queue none. absurd (rw none at (has-found _ t s.transactions e).0))) (k.resends t.id now u)
