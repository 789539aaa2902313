-- When a client with nothing pending is idle, and when it has something to send.
use Rattle.turn_client_laws.proofs.Common.{drop, ◌≡◌, ◌≢◌, ℕ, suc, ◌+◌, ◌*◌, ◌-◌, ◌^◌, ◌<◌, ◌≤◌, min, max, Bool, true, false, not, ltb, leb, List, [], ◌∷◌, ◌++◌, length, map, filter, flat_map}
use Rattle.turn_client_laws.proofs.Common.{filter_map, fold, Option, Some, None, ◌⊎◌, inl, inr, refl, sym, subst, ◌∙◌, arith, if◌then◌else◌, is_some, IsSome, IfSome, ⊤, slice_get, option_to_list}
use Rattle.turn_client_laws.proofs.Common.{list_any, option_map_or, le-min, none-some, same_Some, not-true, false_from_ne_true, lt-ltb, le-leb, ltb-true, ltb-false, and_right, lt-leb, or_parts}
use Rattle.turn_client_laws.proofs.Common.{cases_Bool, and_parts, cond, ◌&&◌}
use Rattle.turn_client_laws.proofs.Machine.{front_sent, is_allocated, refreshes_first, Requesting, Authenticating, Closed}
use Rattle.turn_client_laws.proofs.Machine.{timed_out_transaction, due, is_due, is_timed_out, transaction_timeout, Transaction, Transmit, TransportType, Timers, AddressFamily, IPV4, IPV6, same_family}
use Rattle.turn_client_laws.proofs.Machine.{State, agent_of, later_by, max_time, Purpose, ForRefresh, ForPermission, ForChannel, Phase, New, Allocated, Grant, Allocation, Permission, Channel}
use Rattle.turn_client_laws.proofs.Machine.{Connection, Relay, Active, Queued, allocations, as_allocation, find_allocation, family_of, family_of_grant, family_of_ip, is_of, asked_lifetime}
use Rattle.turn_client_laws.proofs.Machine.{binding_indication, fresh_id, id_used, request_for, to_server, due_times, end_of, final_expiry, final_times, is_refreshable, has_allocation_in_use, has_ended, has_reply, has_request_to_send, next_queued, settled}
use Rattle.turn_client_laws.proofs.Machine.{keepalive_times, is_paused, latest_wakeup, least_due, max_wait, pause_end, refresh_of, refresh_time, next_offer, idle_step, is_due_in, is_ranked, is_refresh_due, keepalive_step}
use Rattle.turn_client_laws.proofs.Machine.{next_refresh, next_transmit, queue_step, refresh_purpose, refresh_step, refreshes_in, refreshes_of_rank, reply_in, reply_step, sent, sent_at_once}
use Rattle.turn_client_laws.proofs.Machine.{transmit_step, without_first_reply, IsIdleUntil, Lasts, Has, has-append, has-left, has-right, map-has, flat_map-has, has-flat_map, has-found, filter-has}
use Rattle.turn_client_laws.proofs.Machine.{filter_map-has, has-filter_map, find-none, filter-none, least-le, all-has, cases_Option}
use Rattle.std.proofs.lemmas.Bool.Decides.{nat_tests}
use Rattle.turn_client_laws.proofs.MoveLemmas.{none-found}
use Rattle.turn_client_laws.proofs.QueuedLemmas.{first_left, left-none, left-unreplied, none-left, none-to_send}
use Rattle.turn_client_laws.proofs.GrantOriginLemmas.{has-mapped}

-- the grant has not expired by now, if its expiry is one to wait for
abbrev pub Alive : ℕ → Grant → Type 0
Alive now (Allocation a) = a.is_expired ≡ false → now < a.expiry
Alive now (Permission ip (Active lease)) = now < lease.expiry
Alive now (Channel number peer (Active lease)) = now < lease.expiry
Alive now (Connection c) = IfSome c.deadline (λ deadline. now < deadline)
Alive now _ = ⊤

-- nothing is pending, and what was past has expired
pub record IsReady (now : ℕ) (t : State) : Type 0 where
  pub no_event : t.events ≡ []
  pub no_reply : has_reply t ≡ false
  pub no_offer : next_offer t ≡ None
  pub no_close : t.closes ≡ []
  pub not_new : t.phase ≢ New
  pub none_over : timed_out_transaction (agent_of t) now ≡ None
  pub alive : (g : Grant) → Has g t.grants → Alive now g
  pub grants_later : (t.phase ≡ Allocated) ⊎ (t.grants ≡ [])

-- ---- due times

-- what is due is not before the least
least-member : (now m : ℕ) (t : State) → Has m (due_times now t) → least_due now t ≤ m
least-member now m t h = least-le max_time m (due_times now t) h

abbrev queued_part : State → List ℕ
queued_part t = if has_request_to_send t then pause_end t ∷ [] else []

abbrev transactions_part : State → List ℕ
transactions_part t = map (transaction_timeout (agent_of t).timers t.transport) t.transactions

abbrev grant_part : ℕ → State → Grant → List ℕ
grant_part now t g = end_of now g ++ refresh_of t g

least-queued : (now : ℕ) (t : State) → has_request_to_send t ≡ true → least_due now t ≤ pause_end t
least-queued now t queued =
    let others = flat_map (grant_part now t) t.grants in
    least-member now (pause_end t) t (inr (has-left (pause_end t) (queued_part t ++ transactions_part t ++ others) (keepalive_times t)
    (has-left (pause_end t) (queued_part t ++ transactions_part t) others (has-left (pause_end t) (queued_part t) (transactions_part t) (rw queued (inl refl))))))

least-transaction : (now : ℕ) (t : State) (x : Transaction) → Has x t.transactions → least_due now t ≤ transaction_timeout (agent_of t).timers t.transport x
least-transaction now t x h =
    let next = transaction_timeout (agent_of t).timers t.transport in
    let others = flat_map (grant_part now t) t.grants in
    least-member now (next x) t (inr (has-left (next x) (queued_part t ++ transactions_part t ++ others) (keepalive_times t)
    (has-left (next x) (queued_part t ++ transactions_part t) others (has-right (next x) (queued_part t) (transactions_part t) (map-has next x t.transactions h)))))

least-grant : (now m : ℕ) (t : State) (g : Grant) → Has g t.grants → Has m (end_of now g ++ refresh_of t g) → least_due now t ≤ m
least-grant now m t g h inside =
    let others = flat_map (grant_part now t) t.grants in
    least-member now m t (inr (has-left m (queued_part t ++ transactions_part t ++ others) (keepalive_times t)
    (has-right m (queued_part t ++ transactions_part t) others (flat_map-has (grant_part now t) g m t.grants h inside))))

least-keepalive : (now m : ℕ) (t : State) → Has m (keepalive_times t) → least_due now t ≤ m
least-keepalive now m t h =
    least-member now m t (inr (has-right m (queued_part t ++ transactions_part t ++ flat_map (grant_part now t) t.grants) (keepalive_times t) h))

-- ---- before the least of them

not_due : (now m : ℕ) (t : State) → m < least_due now t → due (agent_of t) m ≡ None
not_due now m t before =
    find-none _ t.transactions (λ x h. and_right _ _ (lt-leb _ m (omega (arith, before, least-transaction now t x h))))

not_over : (now m : ℕ) (t : State) → m < least_due now t → timed_out_transaction (agent_of t) m ≡ None
not_over now m t before =
    find-none _ t.transactions (λ x h. and_right _ _ (lt-leb _ m (omega (arith, before, least-transaction now t x h))))

-- with no reply in the queue none is sent
no_replies : (qs : List Queued) → list_any (λ q. not q.is_request) qs ≡ false → filter_map reply_in qs ≡ []
no_replies [] none = refl
no_replies (q ∷ qs) none =
    elim (cases_Bool q.is_request) [ inl is ↦ rw is (no_replies qs (rw is at none)) | inr is ↦ let h : true ≡ false = rw is at none in cc ]

-- what is before the later of two times, and not before the first, is before the second
early : (m time least pause : ℕ) → m < least → least ≤ max pause time → pause ≤ m → leb time m ≡ false
early m time least pause before later over = grind (arith, nat_tests)

-- no refresh is due before the pause has ended and its own time has come
not_refreshed : (now m : ℕ) (t : State) → m < least_due now t → is_paused m t ≡ false → (g : Grant) → Has g t.grants → is_refresh_due m t g ≡ false
unfolding is_refresh_due
not_refreshed now m t before idle g h = by (refresh_time t g) refl
  where
    by : (r : Option ℕ) → refresh_time t g ≡ r → is_refresh_due m t g ≡ false
    by None none = rw none refl
    by (Some time) some =
        let later : least_due now t ≤ max (pause_end t) time = least-grant now (max (pause_end t) time) t g h (has-right _ (end_of now g) _ (rw some (inl refl))) in
        rw some (early m time (least_due now t) (pause_end t) before later (ltb-false m (pause_end t) idle))

-- ---- an idle client

no_refreshes : (now m : ℕ) (t : State) → m < least_due now t → is_paused m t ≡ false → (a : Relay) → refreshes_in m t a ≡ []
no_refreshes now m t before idle a = elim (cases_Bool (leb m a.expiry)) [ inl e ↦ rw (e, none 0, none 1, none 2) refl | inr e ↦ rw e refl ]
  where
    none : (rank : ℕ) → filter (is_due_in rank (family_of a.relayed) m t) t.grants ≡ []
    none rank = filter-none _ t.grants (λ g h. and_right _ _ (not_refreshed now m t before idle g h))

flat_map-none : {X Y : Type 0} (f : X → List Y) (xs : List X) → ((x : X) → f x ≡ []) → flat_map f xs ≡ []
flat_map-none f [] none = refl
flat_map-none f (x ∷ xs) none = rw (none x) (flat_map-none f xs none)

-- no time has come that is later
none-reached : (m : ℕ) (ms : List ℕ) → ((k : ℕ) → Has k ms → m < k) → list_any (λ time. leb time m) ms ≡ false
none-reached m [] later = refl
none-reached m (k ∷ ms) later = rw (lt-leb k m (later k (inl refl)), none-reached m ms (λ j h. later j (inr h))) refl

-- a time that has come is found
some-reached : (m k : ℕ) (ms : List ℕ) → list_any (λ time. leb time m) ms ≡ false → Has k ms → m < k
some-reached m k [] none h = absurd h
some-reached m k (j ∷ ms) none (inl e) = grind (arith, nat_tests)
some-reached m k (j ∷ ms) none (inr h) = some-reached m k ms (or_parts (leb j m) (list_any (λ time. leb time m) ms) none).1 h

idle_silent : (now m : ℕ) (t : State) → m < least_due now t → is_paused m t ≡ false → (p : Phase) → p ≢ New → idle_step p m t ≡ (None, t)
idle_silent now m t before idle New old = absurd (old refl)
idle_silent now m t before idle Allocated old =
    rw (flat_map-none (refreshes_in m t) (allocations t) (no_refreshes now m t before idle), none-reached m (keepalive_times t) (λ k h. omega (arith, before, least-keepalive now k t h))) refl
idle_silent now m t before idle p old = refl

-- what is sent if nothing is to be retransmitted
pub not_due-transmit : (m : ℕ) (t : State) → due (agent_of t) m ≡ None → transmit_step m t ≡ (if is_paused m t then reply_step t else queue_step m t)
not_due-transmit m t none = rw (none, transmit_step) refl

pub no_reply-kept : (qs : List Queued) → list_any (λ q. not q.is_request) qs ≡ false → without_first_reply qs ≡ qs
no_reply-kept [] none = refl
no_reply-kept (q ∷ qs) none = grind (arith, no_reply-kept qs)

pub no_reply-left : (qs : List Queued) → list_any (λ q. not q.is_request) qs ≡ false → list_any (λ q. not q.is_request) (drop 1 qs) ≡ false
no_reply-left [] none = none
no_reply-left (q ∷ qs) none = (Rattle.std.proofs.lemmas.Bool.or_parts (not q.is_request) (list_any (λ q. not q.is_request) qs) none).1

reply-none : (t : State) → has_reply t ≡ false → reply_step t ≡ (None, t)
reply-none t none = rw (no_replies t.queue none, no_reply-kept t.queue none) refl

queue-none : (m : ℕ) (t : State) → next_queued m t ≡ None → queue_step m t ≡ idle_step t.phase m t
queue-none m t e = rw e refl

sends_nothing : (now m : ℕ) (t : State) → IsReady now t → m < least_due now t → transmit_step m t ≡ (None, t)
sends_nothing now m t ready before = rw (not_due-transmit m t (not_due now m t before)) (by (is_paused m t) refl)
  where
    by : (b : Bool) → is_paused m t ≡ b → (if is_paused m t then reply_step t else queue_step m t) ≡ (None, t)
    by true e = rw e (reply-none t ready.no_reply)
    by false e =
        let no_request = false_from_ne_true (has_request_to_send t) (λ queued. absurd (omega (arith, before, least-queued now t queued, ltb-false m (pause_end t) e))) in
        rw (e, queue-none m t (none-left m t (none-to_send t t.queue ready.no_reply no_request))) (idle_silent now m t before e t.phase ready.not_new)

lasts : (now m : ℕ) (t : State) → IsReady now t → m ≤ least_due now t → (g : Grant) → Has g t.grants → Lasts m g
lasts now m t ready until g h = by g h (ready.alive g h)
  where
    due_end : (g : Grant) → Has g t.grants → (expiry : ℕ) → Has expiry (end_of now g) → m ≤ expiry
    due_end g h expiry inside = omega (arith, until, least-grant now expiry t g h (has-left expiry (end_of now g) (refresh_of t g) inside))

    by : (g : Grant) → Has g t.grants → Alive now g → Lasts m g
    by (Allocation a) h alive = λ used. due_end (Allocation a) h a.expiry (rw (lt-ltb now a.expiry (alive used)) (inl refl))
    by (Permission ip (Active expiry)) h alive = due_end (Permission ip (Active expiry)) h expiry.expiry (inl refl)
    by (Channel number peer (Active expiry)) h alive = due_end (Channel number peer (Active expiry)) h expiry.expiry (inl refl)
    by (Connection c) h alive =
        elim (cases_Option c.deadline) [ inl e ↦ rw e tt | inr (deadline, e) ↦ rw e (due_end (Connection c) h deadline (rw e (inl refl))) ]
    by g h alive = tt

-- a client that is ready is idle before the earliest of the times at which something is due
pub ready-silent : (now m : ℕ) (t : State) → IsReady now t → m ≤ least_due now t → IsIdleUntil now m t
ready-silent now m t ready until = record {
  sends_nothing = λ k from before. sends_nothing now k t ready (omega (arith, before, until));
  ends_nothing = λ k from before. not_over now k t (omega (arith, before, until));
  no_event = ready.no_event;
  no_offer = ready.no_offer;
  no_close = ready.no_close;
  grants_last = all-has (Lasts m) t.grants (lasts now m t ready until);
}

-- ---- something to send

-- every time at which something is due is later than now
later-least : (now start : ℕ) (ms : List ℕ) → now < start → ((m : ℕ) → Has m ms → now < m) → now < fold min start ms
later-least now start [] first later = first
later-least now start (m ∷ ms) first later =
    later-least now (min start m) ms (omega (arith, le-min {k = suc now} {a = start} {b = m} (omega (arith, first)) (omega (arith, later m (inl refl))))) (λ k h. later k (inr h))

has-queued : (now m : ℕ) (t : State) → (has_request_to_send t ≡ true → now < pause_end t) → Has m (queued_part t) → now < m
has-queued now m t queued h = grind arith

waits_on : (timers : Timers) (transport : TransportType) (now : ℕ) (t : Transaction) → is_due timers transport now t ≡ false → is_timed_out timers transport now t ≡ false
    → now < transaction_timeout timers transport t
waits_on timers transport now t not_due not_over = grind (arith, nat_tests)

-- up to when an allocation stays that is marked as expired
final-later : (now m : ℕ) (relays : List Relay) → Has m (final_times now relays) → now < m
final-later now m relays h =
    let came = has-flat_map (λ (a : Relay). cond (a.is_expired && ltb now (final_expiry a)) (final_expiry a ∷ []) []) m relays h in
    by came.from (came.from.is_expired && ltb now (final_expiry came.from)) refl came.gives
  where
    by : (a : Relay) (b : Bool) → (a.is_expired && ltb now (final_expiry a)) ≡ b → Has m (cond b (final_expiry a ∷ []) []) → now < m
    by a true e (inl is) = rw is (ltb-true now (final_expiry a) (and_parts a.is_expired (ltb now (final_expiry a)) e).1)
    by a true e (inr none) = absurd none
    by a false e none = absurd none

latest-later : (now : ℕ) (t : State) → now ≤ 2 ^ 62 → now < latest_wakeup now t
latest-later now t range = later-least now (later_by max_wait now) (cond t.config.timed_from_send (final_times now (allocations t)) []) longest (by t.config.timed_from_send)
  where
    longest : now < later_by max_wait now
    longest = omega (arith, range, le-min {k = suc now} {a = now + 9999 * 1_000_000_000} {b = 2 ^ 63 - 1} (omega arith) (omega (arith, range)))

    by : (b : Bool) (m : ℕ) → Has m (cond b (final_times now (allocations t)) []) → now < m
    by true m h = final-later now m (allocations t) h
    by false m none = absurd none

-- every time at which something is due is later, if those of the queue and the grants are
all-later : (now : ℕ) (t : State) → IsReady now t → now ≤ 2 ^ 62 → (has_request_to_send t ≡ true → now < pause_end t) → due (agent_of t) now ≡ None
    → ((g : Grant) → Has g t.grants → (m : ℕ) → Has m (grant_part now t g) → now < m) → ((m : ℕ) → Has m (keepalive_times t) → now < m) → now < least_due now t
all-later now t ready range queued none_due each alive = later-least now max_time (due_times now t) (omega (arith, range)) by
  where
    by : (m : ℕ) → Has m (due_times now t) → now < m
    by m (inl e) = rw e (latest-later now t range)
    by m (inr h) = whole (has-append m (queued_part t ++ transactions_part t ++ flat_map (grant_part now t) t.grants) (keepalive_times t) h)
      where
        sends : Has m (queued_part t) ⊎ Has m (transactions_part t) → now < m
        sends (inl q) = has-queued now m t queued q
        sends (inr x) =
            let (y, there, e) = has-mapped (transaction_timeout (agent_of t).timers t.transport) m t.transactions x in
            let not_over = none-found _ y t.transactions ready.none_over there in
            rw e (waits_on (agent_of t).timers t.transport now y (none-found _ y t.transactions none_due there) not_over)

        grants : Has m (queued_part t ++ transactions_part t) ⊎ Has m (flat_map (grant_part now t) t.grants) → now < m
        grants (inl s) = sends (has-append m (queued_part t) (transactions_part t) s)
        grants (inr g) = let came = has-flat_map (grant_part now t) m t.grants g in each came.from came.there m came.gives

        whole : Has m (queued_part t ++ transactions_part t ++ flat_map (grant_part now t) t.grants) ⊎ Has m (keepalive_times t) → now < m
        whole (inl p) = grants (has-append m (queued_part t ++ transactions_part t) (flat_map (grant_part now t) t.grants) p)
        whole (inr k) = alive m k

refresh-sends : (now : ℕ) (t : State) (ps : List Purpose) → flat_map (refreshes_in now t) (allocations t) ≡ ps → (p : Purpose) → Has p ps → IsSome (next_refresh now t)
refresh-sends now t [] e p h = absurd h
refresh-sends now t (q ∷ qs) e p h = rw e refl

-- with something to refresh, a packet is sent
pub next-sends : (now : ℕ) (t : State) → IsSome (next_refresh now t) → IsSome (refresh_step now t).0
next-sends now t some = elim (cases_Option (next_refresh now t)) [
  | inl e ↦ let no : false ≡ true = rw e at some in cc
  | inr (purpose, e) ↦ rw e refl
]

same_family-swap : (a b : AddressFamily) → same_family a b ≡ true → same_family b a ≡ true
same_family-swap a b e = grind arith

same_family-self : (a : AddressFamily) → same_family a a ≡ true
same_family-self IPV4 = refl
same_family-self IPV6 = refl

-- a grant in use whose allocation is active, and which may be refreshed, is refreshed when its time has
-- come, or another one before it
pub refreshed-once : (now : ℕ) (t : State) (g : Grant) (a : Relay) (rank : ℕ) (p : Purpose) → Has g t.grants → Has a (allocations t) → now ≤ a.expiry → is_of (family_of a.relayed) g ≡ true
    → Has rank (0 ∷ 1 ∷ 2 ∷ []) → is_ranked rank g ≡ true → is_refresh_due now t g ≡ true → refresh_purpose now g ≡ Some p → IsSome (next_refresh now t)
refreshed-once now t g a rank p h inside goes_on here ranked is due gives =
    let test = is_due_in rank (family_of a.relayed) now t in
    let of_rank = refreshes_of_rank now t (family_of a.relayed) in
    let passes : is_due_in rank (family_of a.relayed) now t g ≡ true = rw (is, here, due) refl in
    let in_rank : Has p (of_rank rank) = filter_map-has (refresh_purpose now) g p (filter test t.grants) (filter-has test g t.grants h passes) gives in
    let in_allocation : Has p (refreshes_in now t a) = rw (le-leb now a.expiry goes_on) (flat_map-has of_rank rank p (0 ∷ 1 ∷ 2 ∷ []) ranked in_rank) in
    refresh-sends now t _ refl p (flat_map-has (refreshes_in now t) a p (allocations t) inside in_allocation)

untimed : (now : ℕ) (t : State) (g : Grant) → refresh_time t g ≡ None → is_refresh_due now t g ≡ true → ⊥
unfolding is_refresh_due
untimed now t g none due = let no : false ≡ true = rw none at due in cc

used-due : (now : ℕ) (t : State) (g : Grant) → is_refresh_due now t g ≡ true → is_refreshable g t ≡ true
unfolding is_refresh_due refresh_time
used-due now t g due = grind arith

-- in `Allocated`, with nothing queued and the pause over, a refresh whose time has come is sent
refresh-busy : (now : ℕ) (t : State) → IsReady now t → (g : Grant) → Has g t.grants → is_refresh_due now t g ≡ true → IsSome (refresh_step now t).0
unfolding refresh_time
refresh-busy now t ready g h due = next-sends now t (by g h due)
  where
    Sends : Type 0
    Sends = IsSome (next_refresh now t)

    -- of a permission or channel, its allocation is in use and has not expired
    within : (g : Grant) → Has g t.grants → is_refresh_due now t g ≡ true → (rank : ℕ) → Has rank (0 ∷ 1 ∷ 2 ∷ []) → is_ranked rank g ≡ true → (p : Purpose) → refresh_purpose now g ≡ Some p
        → (o : Option Relay) → find_allocation (family_of_grant g) t ≡ o → option_map_or (λ a. not a.is_expired) o false ≡ true → Sends
    within g h due rank ranked is p gives None e used = let no : false ≡ true = used in cc
    within g h due rank ranked is p gives (Some a) e used =
        let found = has-found (λ a. same_family (family_of a.relayed) (family_of_grant g)) a (allocations t) e in
        let there = has-filter_map as_allocation a t.grants found.0 in
        let alive : now < a.expiry = lives a there (not-true _ used) in
        refreshed-once now t g a rank p h found.0 (omega (arith, alive)) (same_family-swap _ _ found.1) ranked is due gives
      where
        lives : (a : Relay) → ((x : Grant) × Has x t.grants × (as_allocation x ≡ Some a)) → a.is_expired ≡ false → now < a.expiry
        lives a (Allocation b, inside, same) used =
            let equal : b ≡ a = same_Some b a same in
            rw equal at (ready.alive (Allocation b) inside) used
        lives a (_, inside, same) used = absurd (none-some _ same)

    by : (g : Grant) → Has g t.grants → is_refresh_due now t g ≡ true → Sends
    by (Allocation a) h due =
        let alive : now < a.expiry = ready.alive (Allocation a) h (not-true a.is_expired (used-due now t (Allocation a) due)) in
        refreshed-once now t (Allocation a) a 0 (ForRefresh (family_of a.relayed) asked_lifetime) h (filter_map-has as_allocation (Allocation a) a t.grants h refl) (omega (arith, alive))
        (same_family-self (family_of a.relayed)) (inl refl) refl due (rw (le-leb now a.expiry (omega (arith, alive))) refl)
    by (Permission ip (Active expiry)) h due =
        within (Permission ip (Active expiry)) h due 2 (inr (inr (inl refl))) refl (ForPermission ip) (rw (lt-ltb now expiry.expiry (ready.alive (Permission ip (Active expiry)) h)) refl)
        (find_allocation (family_of_ip ip) t) refl (and_parts expiry.is_kept _ (used-due now t (Permission ip (Active expiry)) due)).1
    by (Channel number peer (Active expiry)) h due =
        within (Channel number peer (Active expiry)) h due 1 (inr (inl refl)) refl (ForChannel number peer) (rw (lt-ltb now expiry.expiry (ready.alive (Channel number peer (Active expiry)) h)) refl)
        (find_allocation (family_of peer) t) refl (and_parts expiry.is_kept _ (used-due now t (Channel number peer (Active expiry)) due)).1
    by g h due = absurd (untimed now t g refl due)

-- the expiry of a grant that is active
end-later : (now m : ℕ) (g : Grant) → Alive now g → Has m (end_of now g) → now < m
end-later now m g alive h = grind (arith, nat_tests)

-- the time to refresh it, after the pause
refresh-later : (now m : ℕ) (t : State) (g : Grant) → (is_refresh_due now t g ≡ true → now < pause_end t) → Has m (refresh_of t g) → now < m
unfolding is_refresh_due
refresh-later now m t g pause h = grind (arith, nat_tests)

-- what is due of a grant that is active is later than now, except a refresh whose time has come
grant-later : (now m : ℕ) (t : State) (g : Grant) → Alive now g → (is_refresh_due now t g ≡ true → now < pause_end t) → Has m (grant_part now t g) → now < m
grant-later now m t g alive pause h =
    elim (has-append m (end_of now g) (refresh_of t g) h) [ inl end ↦ end-later now m g alive end | inr again ↦ refresh-later now m t g pause again ]

-- ---- a client that is ready and has something due has something to send

-- a refresh that goes first is sent
first-sends : (now : ℕ) (t : State) → refreshes_first now t ≡ true → IsSome (idle_step t.phase now t).0
first-sends now t e =
    let (may, some) = and_parts (t.config.timed_from_send && is_allocated t.phase) (is_some (next_refresh now t)) e in
    by t.phase (and_parts t.config.timed_from_send (is_allocated t.phase) may).1 (next-sends now t some)
  where
    by : (p : Phase) → is_allocated p ≡ true → IsSome (refresh_step now t).0 → IsSome (idle_step p now t).0
    by Allocated is sends = sends
    by New is sends = cc
    by Requesting is sends = cc
    by Authenticating is sends = cc
    by Closed is sends = cc

pub front-sends : (now : ℕ) (t : State) (q : Queued) → first_left t t.queue ≡ Some q → IsSome (queue_step now t).0
front-sends now t q e = by (refreshes_first now t) refl
  where
    by : (b : Bool) → refreshes_first now t ≡ b
        → IsSome (option_map_or (λ (x : Queued). (Some x.packet, front_sent now x (settled t))) (cond b None (first_left t t.queue)) (idle_step t.phase now t)).0
    by true e = first-sends now t e
    by false f = rw e refl

-- nothing keeps the path alive within the pause
paused-kept : (now m : ℕ) (t : State) → now < pause_end t → Has m (keepalive_times t) → now < m
paused-kept now m t pause h = by t.config.keepalive (has_allocation_in_use t) h
  where
    by : (o : Option ℕ) (b : Bool) → Has m (if b then map (λ keepalive. max (pause_end t) (option_map_or (later_by keepalive) t.last_send 0)) (option_to_list o) else []) → now < m
    by o false h = absurd h
    by None true h = absurd h
    by (Some keepalive) true (inl e) = rw e (omega (arith, pause))
    by (Some keepalive) true (inr none) = absurd none

-- if nothing is sent, the time to keep the path alive has not come
none-kept : (now m : ℕ) (t : State) → is_some (refresh_step now t).0 ≡ false → Has m (keepalive_times t) → now < m
none-kept now m t none h = by (next_refresh now t) none
  where
    kept : (b : Bool) → list_any (λ time. leb time now) (keepalive_times t) ≡ b
        → is_some (if◌then◌else◌ {A = Option (Transmit (List ℕ)) × State} b (Some (to_server t t.local (binding_indication (fresh_id t))), sent now (id_used t)) (None, t)).0 ≡ false → now < m
    kept true e some = cc
    kept false e some = some-reached now m (keepalive_times t) e h

    by : (o : Option Purpose) → is_some (option_map_or (λ purpose. sent_at_once (request_for t purpose (fresh_id t)) purpose now t) o (keepalive_step now t)).0 ≡ false → now < m
    by (Some p) some = cc
    by None some = kept (list_any (λ time. leb time now) (keepalive_times t)) refl some

-- while no request is to be sent and the pause has ended, what is due is a refresh, or keeps the path alive
refresh-or-later : (now : ℕ) (t : State) → IsReady now t → now ≤ 2 ^ 62 → due (agent_of t) now ≡ None → is_paused now t ≡ false → has_request_to_send t ≡ false → least_due now t ≤ now
    → IsSome (idle_step t.phase now t).0
refresh-or-later now t ready range none_due idle e reached = by ready.grants_later
  where
    nothing_queued : has_request_to_send t ≡ true → now < pause_end t
    nothing_queued queued = let no : false ≡ true = sym e ∙ queued in cc

    by : (t.phase ≡ Allocated) ⊎ (t.grants ≡ []) → IsSome (idle_step t.phase now t).0
    by (inr no_grants) =
        absurd (omega (arith, reached, all-later now t ready range nothing_queued none_due (λ g h. absurd (rw no_grants at h)) (λ m h. absurd (rw no_grants at h))))
    by (inl live) = subst (λ p. IsSome (idle_step p now t).0) (sym live) (found (is_some (refresh_step now t).0) refl)
      where
        no_refresh : is_some (refresh_step now t).0 ≡ false → (g : Grant) → Has g t.grants → is_refresh_due now t g ≡ true → now < pause_end t
        no_refresh none g h due = let no : false ≡ true = sym none ∙ refresh-busy now t ready g h due in cc

        found : (b : Bool) → is_some (refresh_step now t).0 ≡ b → IsSome (refresh_step now t).0
        found true f = f
        found false f =
            let later = all-later now t ready range nothing_queued none_due (λ g h m. grant-later now m t g (ready.alive g h) (no_refresh f g h)) (λ m h. none-kept now m t f h) in
            absurd (omega (arith, reached, later))

-- the client has something to send, if it has so while nothing is to be retransmitted
busy-if : (now : ℕ) (t : State) → (due (agent_of t) now ≡ None → IsSome (if is_paused now t then reply_step t else queue_step now t).0)
    → IsSome (next_transmit now t)
busy-if now t sends = by (due (agent_of t) now) refl
  where
    by : (o : Option Transaction) → due (agent_of t) now ≡ o → IsSome (next_transmit now t)
    by (Some x) e = rw (next_transmit, transmit_step, e) refl
    by None e = rw (next_transmit, not_due-transmit now t e) (sends e)

-- if a client that is ready returns a time not later than now, it has something to send
pub ready-busy : (now : ℕ) (t : State) → IsReady now t → now ≤ 2 ^ 62 → least_due now t ≤ now → IsSome (next_transmit now t)
ready-busy now t ready range reached = busy-if now t (λ none. chosen none (is_paused now t) refl)
  where
    chosen : due (agent_of t) now ≡ None → (b : Bool) → is_paused now t ≡ b → IsSome (if is_paused now t then reply_step t else queue_step now t).0
    chosen none true idle =
        let pause = ltb-true now (pause_end t) idle in
        let later = all-later now t ready range (λ q. pause) none (λ g h m. grant-later now m t g (ready.alive g h) (λ d. pause)) (λ m h. paused-kept now m t pause h) in
        absurd (omega (arith, reached, later))
    chosen none false idle = rw idle (sends (first_left t t.queue) refl)
      where
        sends : (o : Option Queued) → first_left t t.queue ≡ o → IsSome (queue_step now t).0
        sends None e = rw (queue-none now t (none-left now t e)) (refresh-or-later now t ready range none idle (left-none t t.queue e) reached)
        sends (Some q) e = front-sends now t q e

-- a queued reply can be sent
pub reply-busy : (now : ℕ) (t : State) → has_reply t ≡ true → IsSome (next_transmit now t)
reply-busy now t waits = busy-if now t (λ none. chosen (is_paused now t) refl)
  where
    replies : (qs : List Queued) → list_any (λ q. not q.is_request) qs ≡ true → IsSome (slice_get (filter_map reply_in qs) 0)
    replies [] e = let wrong : false ≡ true = e in cc
    replies (q ∷ qs) e = elim (cases_Bool q.is_request) [ inl is ↦ rw is (replies qs (rw is at e)) | inr is ↦ rw is refl ]

    front : (o : Option Queued) → first_left t t.queue ≡ o → IsSome (queue_step now t).0
    front None e = let impossible : false ≡ true = sym (left-unreplied t t.queue e) ∙ waits in cc
    front (Some q) e = front-sends now t q e

    chosen : (b : Bool) → is_paused now t ≡ b → IsSome (if is_paused now t then reply_step t else queue_step now t).0
    chosen true paused = rw paused (replies t.queue waits)
    chosen false idle = rw idle (front (first_left t t.queue) refl)

-- a new client has something to send
pub new-busy : (now : ℕ) (t : State) → t.phase ≡ New → t.last_send ≡ None → IsSome (next_transmit now t)
new-busy now t new unsent = busy-if now t (λ none. rw idle (front (first_left t t.queue) refl))
  where
    idle : is_paused now t ≡ false
    idle = rw unsent (false_from_ne_true (ltb now 0) (λ e. absurd (omega (arith, ltb-true now 0 e))))

    front : (o : Option Queued) → first_left t t.queue ≡ o → IsSome (queue_step now t).0
    front None e = rw (queue-none now t (none-left now t e)) (subst (λ p. IsSome (idle_step p now t).0) (sym new) refl)
    front (Some q) e = front-sends now t q e
