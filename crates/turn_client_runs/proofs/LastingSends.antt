-- What a client sends while no grant is lost.
use Rattle.turn_client_laws.proofs.Common.{◌≡◌, ℕ, ◌+◌, ◌-◌, ◌^◌, ◌<◌, ◌≤◌, min, true, false, not, leb, [], Option, Some, None, refl, inl, inr, ◌∙◌, arith, IsSome, is_some, option_map_or, and_right}
use Rattle.turn_client_laws.proofs.Common.{le-leb, lt-ltb, lt-leb, le-ltb}
use Rattle.turn_client_laws.proofs.Machine.{AddressFamily, due, timed_out_transaction, transaction_timeout, Timers, wait_at, Transaction, TransportType, same_family, timers_of, State, agent_of}
use Rattle.turn_client_laws.proofs.Machine.{Allocated, Grant, Allocation, Permission, Channel, Relay, Active, ForRefresh, ForPermission, ForChannel, allocations, family_of, family_of_grant}
use Rattle.turn_client_laws.proofs.Machine.{find_allocation, has_request, is_of, asked_lifetime, is_paused, is_refreshable, pause_end, refresh_time, is_refresh_due, next_refresh, queue_step}
use Rattle.turn_client_laws.proofs.Machine.{refresh_step, transmit_step, Has, find-none, has-found, allocation-there}
use Rattle.turn_client_laws.proofs.Laws.{first_left, none-left, Room, of-room, not_due-transmit, refreshed-once}
use Rattle.turn_client_runs.specs.Lasting.{expiry_of}
use Rattle.turn_client_runs.proofs.LastingStands.{IsActive, IsGranted, due_of, kind-due}

-- ---- no retransmission

-- the first wait has not ended, if the reply may yet come
pub waits : (timers : Timers) (transport : TransportType) (delay time : ℕ) (x : Transaction) → delay < wait_at timers transport 0 → time ≤ 2 ^ 62 → x.resends ≡ 0 → time ≤ x.last_send + delay
    → leb (transaction_timeout timers transport x) time ≡ false
waits timers transport delay time x prompt range e answered =
    rw e (lt-leb (min (x.last_send + wait_at timers transport 0) (2 ^ 63 - 1)) time (omega (arith, prompt, range, answered)))

-- no request has waited for longer than the delay
abbrev pub AllAnswered : ℕ → ℕ → State → Type 0
AllAnswered delay time s = (x : Transaction) → Has x s.transactions → time ≤ x.last_send + delay

module _ (delay time : ℕ) (s : State) (prompt : delay < wait_at (timers_of s.config) s.transport 0) (range : time ≤ 2 ^ 62) (young : (x : Transaction) → Has x s.transactions → x.resends ≡ 0)
    (answered : AllAnswered delay time s) where
  pub none-due : due (agent_of s) time ≡ None
  none-due = find-none _ s.transactions (λ x h. and_right _ _ (waits (timers_of s.config) s.transport delay time x prompt range (young x h) (answered x h)))

  pub none-over : timed_out_transaction (agent_of s) time ≡ None
  none-over = find-none _ s.transactions (λ x h. and_right _ _ (waits (timers_of s.config) s.transport delay time x prompt range (young x h) (answered x h)))

-- ---- refreshes

pub queue-idle : (time : ℕ) (s : State) → first_left s s.queue ≡ None → s.phase ≡ Allocated → queue_step time s ≡ refresh_step time s
queue-idle time s e p = rw (none-left time s e, p) refl

pub transmit-refreshes : (time : ℕ) (s : State) → s.phase ≡ Allocated → first_left s s.queue ≡ None → due (agent_of s) time ≡ None → pause_end s ≤ time → transmit_step time s ≡ refresh_step time s
transmit-refreshes time s p e none over =
    let idle : is_paused time s ≡ false = le-ltb time (pause_end s) over in
    not_due-transmit time s none ∙ rw idle (queue-idle time s e p)

-- ---- a refresh is due

-- no allocation was deleted
abbrev pub AllInUse : State → Type 0
AllInUse s = (a : Relay) → Has (Allocation a) s.grants → a.is_expired ≡ false

pub may-refresh : (s : State) (g : Grant) → AllInUse s → IsGranted g → Room s.grants (family_of_grant g) → is_refreshable g s ≡ true
may-refresh s g all granted room = by g granted room
  where
    in_use : (family : AddressFamily) (o : Option Relay) → find_allocation family s ≡ o → is_some o ≡ true → option_map_or (λ a. not a.is_expired) o false ≡ true
    in_use family None e h = cc
    in_use family (Some a) e h =
        let found = has-found (λ (r : Relay). same_family (family_of r.relayed) family) a (allocations s) e in
        let granted : a.is_expired ≡ false = all a (allocation-there a s.grants found.0) in
        rw granted refl

    within : (family : AddressFamily) → Room s.grants family → option_map_or (λ a. not a.is_expired) (find_allocation family s) false ≡ true
    within family room = in_use family (find_allocation family s) refl (of-room family s room)

    by : (g : Grant) → IsGranted g → Room s.grants (family_of_grant g) → is_refreshable g s ≡ true
    by (Allocation a) granted room = rw granted refl
    by (Permission ip (Active expiry)) granted room = rw granted (within (family_of_grant (Permission ip (Active expiry))) room)
    by (Channel number peer (Active expiry)) granted room = rw granted (within (family_of_grant (Channel number peer (Active expiry))) room)
    by g granted room = absurd granted

pub is-due : (time : ℕ) (s : State) (g : Grant) → IsActive g → is_refreshable g s ≡ true → has_request g s ≡ false → due_of s g ≤ time → is_refresh_due time s g ≡ true
unfolding is_refresh_due refresh_time
is-due time s g granted may unasked now = rw (kind-due s.config.refresh_ahead g granted, may, unasked) (le-leb (due_of s g) time now)

-- the allocation of a grant that is due has not expired, so something is sent
pub due-sends : (time : ℕ) (s : State) (g : Grant) → Has g s.grants → IsActive g → is_refresh_due time s g ≡ true → time < expiry_of g
    → (a : Relay) → Has a (allocations s) → is_of (family_of a.relayed) g ≡ true → time ≤ a.expiry → IsSome (next_refresh time s)
due-sends time s g h granted due early a inside of goes_on = by g h granted due early of
  where
    by : (g : Grant) → Has g s.grants → IsActive g → is_refresh_due time s g ≡ true → time < expiry_of g → is_of (family_of a.relayed) g ≡ true → IsSome (next_refresh time s)
    by (Allocation b) h granted due early of =
        refreshed-once time s (Allocation b) a 0 (ForRefresh (family_of b.relayed) asked_lifetime) h inside goes_on of (inl refl) refl due (rw (le-leb time b.expiry (omega (arith, early))) refl)
    by (Permission ip (Active expiry)) h granted due early of =
        refreshed-once time s (Permission ip (Active expiry)) a 2 (ForPermission ip) h inside goes_on of (inr (inr (inl refl))) refl due (rw (lt-ltb time expiry.expiry early) refl)
    by (Channel number peer (Active expiry)) h granted due early of =
        refreshed-once time s (Channel number peer (Active expiry)) a 1 (ForChannel number peer) h inside goes_on of (inr (inl refl)) refl due (rw (lt-ltb time expiry.expiry early) refl)
    by g h granted due early of = absurd granted
