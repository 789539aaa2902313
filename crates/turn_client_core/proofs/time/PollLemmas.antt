-- What `poll` does, step by step.
use Rattle.turn_client_laws.proofs.Common.{◌≡◌, ◌∙◌, ℕ, true, false, List, [], ◌∷◌, ◌++◌, Option, Some, None, map, drop, fold, length, min, refl, suc, sym, ap, arith, find, flat_map, if◌then◌else◌}
use Rattle.turn_client_laws.proofs.Common.{is_none, is_some, slice_get, fold-append, SocketAddr}
use Rattle.turn_client_laws.proofs.Machine.{is_timed_out, transaction_timeout, Transaction, is_allocated, timers_of, has_event, has_request_to_send, has_reply, keepalive_times, latest_wakeup, least_due}
use Rattle.turn_client_laws.proofs.Machine.{next_wakeup, pause_end, allocations, answer_by, answer_step, next_offer, offer_step, poll_step, timed_out_step, timed_step, State, max_time}
use Rattle.turn_client_laws.proofs.Machine.{DataOffer, Relay, Phase, Allocated, Authenticating, Requesting, TurnPollRet}
use Rattle.std.specs.Prelude.{◌&&◌, ◌||◌}
use Rattle.turn_client_api.specs.declared.poll.TurnPollRet.TheVariants as Do
use Rattle.turn_client_grants.specs.Due.{times_of}
use Rattle.turn_client_core.specs.Outgoing.{Outgoing}
use Rattle.turn_client_core.specs.Polled.{is_without_allocation, unallocated}
use Rattle.turn_client_core.specs.Sending.{give_up_step}
use Rattle.turn_client_core.proofs.calls.AskLemmas.{with_outbox}

abbrev Answer : Type 0
Answer = TurnPollRet × State

-- ---- what comes first: what is pending, an offer, what is timed

pub pending-is : (now : ℕ) (s : State) → (has_event s || has_reply s) ≡ true → ◌≡◌ {A = Answer} (Do.WaitUntil now, s) (poll_step now s)
pending-is now s pending = rw pending refl

pub offers-is : (now : ℕ) (s : State) (offer : DataOffer) → (has_event s || has_reply s) ≡ false → next_offer s ≡ Some offer → offer_step offer s ≡ poll_step now s
offers-is now s offer pending found = rw (pending, found) refl

pub times-is : (now : ℕ) (s : State) → (has_event s || has_reply s) ≡ false → next_offer s ≡ None → timed_out_step now s ≡ poll_step now s
times-is now s pending found = rw (pending, found) refl

-- ---- the next wake-up time

pub least_due-is : (now : ℕ) (s : State) → fold min (fold min (fold min (fold min max_time (latest_wakeup now s ∷ (if has_request_to_send s then pause_end s ∷ [] else [])))
    (map (transaction_timeout (timers_of s.config) s.transport) s.transactions)) (flat_map (times_of now (pause_end s) s) s.grants)) (keepalive_times s) ≡ least_due now s
least_due-is now s =
    let queued : List ℕ = if has_request_to_send s then pause_end s ∷ [] else [] in
    let sends = map (transaction_timeout (timers_of s.config) s.transport) s.transactions in
    let ends = flat_map (times_of now (pause_end s) s) s.grants in
    let first = min max_time (latest_wakeup now s) in
    sym (fold-append min first (queued ++ sends ++ ends) (keepalive_times s)
    ∙ ap (λ n. fold min n (keepalive_times s)) (fold-append min first (queued ++ sends) ends ∙ ap (λ n. fold min n ends) (fold-append min first queued sends)))

-- with these for the first of them and the end of the pause
pub least_due-by : (now first pause : ℕ) (s t : State) → s ≡ t → pause ≡ pause_end t → first ≡ fold min max_time (latest_wakeup now t ∷ (if has_request_to_send t then pause ∷ [] else []))
    → fold min (fold min (fold min first (map (transaction_timeout (timers_of s.config) s.transport) s.transactions)) (flat_map (times_of now pause s) s.grants)) (keepalive_times s) ≡ least_due now t
least_due-by now first pause s t same paused least = rw (same, least, paused) (least_due-is now t)

-- ---- what times out

abbrev Given : Type 0
Given = Option ℕ × Outgoing

given_up-is : (now : ℕ) (s : State) (o p : Outgoing) (given : Option ℕ) → o.timers ≡ timers_of s.config → (given, p) ≡ give_up_step now o
    → timed_out_step now (with_outbox o s) ≡ timed_step s.phase given now (with_outbox p s)
given_up-is now s o p given times step = by (find (is_timed_out o.timers o.transport now) o.transactions) refl step
  where
    by : (found : Option Transaction) → find (is_timed_out o.timers o.transport now) o.transactions ≡ found → (given, p) ≡ give_up_step now o
        → timed_out_step now (with_outbox o s) ≡ timed_step s.phase given now (with_outbox p s)
    by None e step = rw (← times, e) (ap (λ (r : Given). timed_step s.phase r.0 now (with_outbox r.1 s)) (sym (rw e at step)))
    by (Some t) e step = rw (← times, e) (ap (λ (r : Given). timed_step s.phase r.0 now (with_outbox r.1 s)) (sym (rw e at step)))

-- the client in this phase
pub timed-is : (now : ℕ) (s : State) (o p : Outgoing) (given : Option ℕ) (phase : Phase) → o.timers ≡ timers_of s.config → s.phase ≡ phase → (given, p) ≡ give_up_step now o
    → timed_step phase given now (with_outbox p s) ≡ timed_out_step now (with_outbox o s)
timed-is now s o p given phase times is step =
    ap (λ (phase : Phase). timed_step phase given now (with_outbox p s)) (sym is) ∙ sym (given_up-is now s o p given times step)

-- the client goes on, as it was or after what time brings
pub requesting-is : (given : Option ℕ) (now : ℕ) (s : State) → is_some given ≡ false → answer_step given now s ≡ timed_step Requesting given now s
requesting-is None now s e = refl
requesting-is (Some id) now s e = cc

pub authenticating-is : (given : Option ℕ) (now : ℕ) (s : State) → answer_step given now (unallocated given s) ≡ timed_step Authenticating given now s
authenticating-is None now s = refl
authenticating-is (Some id) now s = refl

-- ---- what the caller is to do

pub close-is : (given : Option ℕ) (now : ℕ) (s : State) (local : SocketAddr) (others : List SocketAddr) → s.closes ≡ local ∷ others
    → ◌≡◌ {A = Answer} (Do.TcpClose local s.remote, record s { closes = drop 1 s.closes }) (answer_step given now s)
close-is given now s local others e = rw e refl

dropped_none : {X : Type 0} (xs : List X) → xs ≡ drop 1 xs → xs ≡ []
dropped_none [] e = refl
dropped_none (x ∷ xs) e = let longer : suc (length xs) ≡ length xs = ap length e in absurd (omega (arith, longer))

-- no connection was to be closed, and nothing changed
pub none_closed : (s t : State) → s.closes ≡ t.closes → t ≡ record s { closes = drop 1 s.closes } → (s.closes ≡ []) × (t ≡ s)
none_closed s t same after =
    let dropped : s.closes ≡ drop 1 s.closes = same ∙ ap (λ (u : State). u.closes) after in
    (dropped_none s.closes dropped, after ∙ ap (λ (closes : List SocketAddr). record s { closes = closes }) (sym dropped))

let_go-by : (p : Phase) (relays : List Relay) (given : Option ℕ) (now : ℕ) (s : State) → (is_allocated p && is_none (slice_get relays 0)) ≡ true
    → ◌≡◌ {A = Answer} (Do.Closed, s) (answer_by [] p relays given now s)
let_go-by Allocated [] given now s e = refl
let_go-by p relays given now s e = cc

pub let_go-is : (given : Option ℕ) (now : ℕ) (s : State) → s.closes ≡ [] → is_without_allocation s ≡ true → ◌≡◌ {A = Answer} (Do.Closed, s) (answer_step given now s)
let_go-is given now s none gone =
    let_go-by s.phase (allocations s) given now s gone
    ∙ ap (λ (closes : List SocketAddr). answer_by closes s.phase (allocations s) given now s) (sym none)

waits-by : (p : Phase) (relays : List Relay) (given : Option ℕ) (now : ℕ) (s : State) → (is_allocated p && is_none (slice_get relays 0)) ≡ false
    → ◌≡◌ {A = Answer} (Do.WaitUntil (next_wakeup (is_some given) now s), s) (answer_by [] p relays given now s)
waits-by Allocated [] given now s e = cc
waits-by p relays given now s e = refl

pub waits-is : (given : Option ℕ) (now : ℕ) (s : State) → s.closes ≡ [] → is_without_allocation s ≡ false
    → ◌≡◌ {A = Answer} (Do.WaitUntil (next_wakeup (is_some given) now s), s) (answer_step given now s)
waits-is given now s none stays =
    waits-by s.phase (allocations s) given now s stays
    ∙ ap (λ (closes : List SocketAddr). answer_by closes s.phase (allocations s) given now s) (sym none)
