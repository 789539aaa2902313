-- What `poll_transmit` sends, step by step.
use Rattle.turn_client_laws.proofs.Common.{◌≡◌, ◌∙◌, ℕ, true, false, List, [], ◌∷◌, Option, Some, None, append-nil, refl, sym, ap, false≢true, IsSome, filter_map, find, slice_get}
use Rattle.turn_client_laws.proofs.Machine.{Transmit, TransportType, AddressFamily, due, is_due, Transaction, timers_of, allocations, with_more_grants, request_started, first_allocate}
use Rattle.turn_client_laws.proofs.Machine.{fresh_id, request_for, to_server, State, agent_of, keepalive_step, next_refresh, refresh_step, sent, sent_at_once, transmit_step, Grant, Purpose}
use Rattle.turn_client_core.specs.Outgoing.{Outgoing, packet_of}
use Rattle.turn_client_core.specs.Sending.{resend_step, waiting_step}
use Rattle.turn_client_grants.specs.Asked.{Asks}
use Rattle.turn_client_grants.specs.Ledger.{Ledger, with_ledger}
use Rattle.turn_client_grants.specs.Refresh.{first_refresh}
use Rattle.turn_client_grants.proofs.RefreshLemmas.{next_first}
use Rattle.turn_client_requests.specs.RequestAttributes.{with_asked_families}
use Rattle.turn_client_core.proofs.calls.AskLemmas.{with_outbox}

abbrev pub Packet : Type 0
Packet = Option (Transmit (List ℕ))

abbrev pub Sent : Type 0
Sent = Packet × Outgoing

-- what was sent first, or else what is sent next
abbrev pub sent_or : (State → Packet × State) → State → Sent → Packet × State
sent_or next s (None, o) = next (with_outbox o s)
sent_or next s (Some packet, o) = (Some packet, with_outbox o s)

-- a retransmission comes before all else
pub resends-first : (now : ℕ) (s : State) (o : Outgoing) → o.timers ≡ timers_of s.config
    → sent_or (waiting_step now) s (resend_step now o) ≡ transmit_step now (with_outbox o s)
resends-first now s o times = by (find (is_due o.timers o.transport now) o.transactions) refl
  where
    by : (found : Option Transaction) → find (is_due o.timers o.transport now) o.transactions ≡ found
        → sent_or (waiting_step now) s (resend_step now o) ≡ transmit_step now (with_outbox o s)
    by None e = rw (← times, e) refl
    by (Some t) e = rw (← times, e) refl

-- ---- a request that is sent at once

pub sends-is : (s : State) (was ledger : Ledger) (id : ℕ) (text : List ℕ) (purpose : Purpose) (now : ℕ) → with_ledger was s ≡ s → Asks id (purpose ∷ []) now (with_more_grants []) was ledger s text
    → id ≡ fresh_id s → ◌≡◌ {A = Packet × State} (Some (to_server s s.local text), sent now (with_ledger ledger (request_started id text (purpose ∷ []) now s))) (sent_at_once text purpose now s)
sends-is s was ledger id text purpose now same made next =
    let made_from : State → State = λ t. request_started id text (purpose ∷ []) now t in
    let whole : with_ledger ledger (made_from s) ≡ made_from s =
    made ∙ (ap (λ (t : State). made_from (with_more_grants [] t)) same
    ∙ ap (λ (grants : List Grant). made_from (record s { grants = grants })) (append-nil s.grants)) in
    ap (λ (t : State). (Some (to_server s s.local text), sent now t)) whole
    ∙ ap (λ (n : ℕ). (Some (to_server s s.local text), sent now (request_started n text (purpose ∷ []) now s))) next

-- the first ALLOCATE is that of this client
pub first-text-is : (s : State) (transport : TransportType) (families : List AddressFamily) (id : ℕ) (text : List ℕ) → transport ≡ s.config.allocation_transport → families ≡ s.families
    → id ≡ fresh_id s → text ≡ first_allocate (with_asked_families transport families s) id → text ≡ first_allocate s (fresh_id s)
first-text-is s transport families id text over request_started next is =
    is
    ∙ (ap (λ (t : TransportType). first_allocate (with_asked_families t families s) id) over
    ∙ (ap (λ (f : List AddressFamily). first_allocate (with_asked_families s.config.allocation_transport f s) id) request_started
    ∙ ap (λ (n : ℕ). first_allocate s n) next))

pub refresh-some : (now : ℕ) (s : State) (purpose : Purpose) → slice_get (filter_map (first_refresh now s) (allocations s)) 0 ≡ Some purpose
    → refresh_step now s ≡ sent_at_once (request_for s purpose (fresh_id s)) purpose now s
refresh-some now s purpose found = rw (next_first now s (allocations s), found) refl

pub refresh-due : (now : ℕ) (s : State) (found : Option Purpose) → found ≡ slice_get (filter_map (first_refresh now s) (allocations s)) 0 → found ≡ next_refresh now s
refresh-due now s found is = is ∙ sym (next_first now s (allocations s))

pub refresh-none : (now : ℕ) (s : State) → slice_get (filter_map (first_refresh now s) (allocations s)) 0 ≡ None → keepalive_step now s ≡ refresh_step now s
refresh-none now s found = rw (next_first now s (allocations s), found) refl

-- ---- when memory is needed

pub transmit-wanted : (now : ℕ) (s : State) (o : Outgoing) → o.timers ≡ timers_of s.config → IsSome (resend_step now o).0 → IsSome (transmit_step now (with_outbox o s)).0
transmit-wanted now s o times wanted = by (find (is_due o.timers o.transport now) o.transactions) refl wanted
  where
    by : (found : Option Transaction) → find (is_due o.timers o.transport now) o.transactions ≡ found → IsSome (resend_step now o).0 → IsSome (transmit_step now (with_outbox o s)).0
    by None e wanted = absurd (false≢true (rw e at wanted))
    by (Some t) e wanted = rw (← times, e) refl

-- a retransmission is due
pub resend-due : (now : ℕ) (s : State) (o : Outgoing) → o.timers ≡ timers_of s.config → IsSome (resend_step now o).0 → IsSome (due (agent_of (with_outbox o s)) now)
resend-due now s o times wanted = by (find (is_due o.timers o.transport now) o.transactions) refl wanted
  where
    by : (found : Option Transaction) → find (is_due o.timers o.transport now) o.transactions ≡ found → IsSome (resend_step now o).0 → IsSome (due (agent_of (with_outbox o s)) now)
    by None e wanted = absurd (false≢true (rw e at wanted))
    by (Some t) e wanted = rw (← times, e) refl

-- if none is, nothing changes
pub resend-none : (now : ℕ) (o after : Outgoing) → ◌≡◌ {A = Sent} (None, after) (resend_step now o) → after ≡ o
resend-none now o after is = by (find (is_due o.timers o.transport now) o.transactions) refl is
  where
    by : (found : Option Transaction) → find (is_due o.timers o.transport now) o.transactions ≡ found → ◌≡◌ {A = Sent} (None, after) (resend_step now o) → after ≡ o
    by None e is = ap (λ (r : Sent). r.1) (rw e at is)
    by (Some t) e is = let clash : None ≡ Some (record (packet_of o o.local t.request) { to = t.to }) = ap (λ (r : Sent). r.0) (rw e at is) in cc
