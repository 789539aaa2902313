-- A client whose server answers its first requests.
use Rattle.turn_client_laws.proofs.Common.{◌≡◌, ◌≢◌, ◌⊎◌, ℕ, ◌+◌, ◌%◌, ◌^◌, ◌<◌, ◌≤◌, max, min, Bool, true, false, cond, not, ◌&&◌, ◌||◌, ltb, eqb, List, [], ◌∷◌, ◌++◌, drop, take, Option, Some, None}
use Rattle.turn_client_laws.proofs.Common.{refl, inl, inr, ap}
use Rattle.turn_client_laws.proofs.Common.{All, sym, subst, ◌∙◌, arith, IfSome, IsSome, find, fold, if◌then◌else◌, nat_le, list_any, option_map_or, unwrap_or, and_parts, cases_Bool, cases_lt, eq-eqb}
use Rattle.turn_client_laws.proofs.Common.{eqb-true}
use Rattle.turn_client_laws.proofs.Common.{le-ltb, lt-ltb, none-some}
use Rattle.turn_client_laws.proofs.Common.{SocketAddr}
use Rattle.turn_client_laws.proofs.Machine.{id_of, Success, Udp, Transmit, Challenge, IsValidated, validation_of, Validation, Validated, ResendRequest, Refused, challenge_of-sound, due, first_sent}
use Rattle.turn_client_laws.proofs.Machine.{is_outstanding, is_response, timed_out_transaction, without_transaction, wait_at, Transaction, timers_of, State, agent_of, auth_of, initial, Phase, New}
use Rattle.turn_client_laws.proofs.Machine.{Requesting, Authenticating, Allocated, Queued, Listing, Purpose, ForAllocation, DataOffer, Relay, allocations, is_for_allocation, purposes_of}
use Rattle.turn_client_laws.proofs.Machine.{binding_indication, first_allocate, fresh_id, id_used, listings, request_for, Challenged, SignedSuccess, answers_one, answers_allocate, challenge_in}
use Rattle.turn_client_laws.proofs.Machine.{class_in, judgement_of, lifetime_in, allocate_granted, allocated, phase_with, relayed_in, taken_addresses, transaction_ended, state_after_retry, has_event}
use Rattle.turn_client_laws.proofs.Machine.{has_reply, is_paused, keepalive_times, Outcome, Handled, message_step, signed_step, idle_step, keepalive_step, next_queued, queue_step, reply_step, sent_at_once}
use Rattle.turn_client_laws.proofs.Machine.{transmit_step, front_sent, settled, id_in_header, waits_begun, waits_from, answer_by, answer_step, expired_at, next_offer, offer_step, poll_step, timed_out_step, timed_step, packet_step, state_after, state_after_all}
use Rattle.turn_client_laws.proofs.Machine.{Call, Poll, PollTransmit, PollEvent, Recv, Has, all-has, cases_Option, filter-none, has-all, has-append, Config, later_by, seconds, Grant, Allocation}
use Rattle.turn_client_laws.proofs.Machine.{min_lifetime, new_allocation, Leaves, begun_by, ended_count, has_ended, is_listed, is_of_request, max_time, next_id, pause_end, phase_after, to_server}
use Rattle.turn_client_laws.proofs.Machine.{waiting_from}
use Rattle.turn_client_laws.proofs.Machine.{with_held, without_request}
use Rattle.turn_client_laws.proofs.Laws.{none-queued, settled-untimed, answer-by, has-mapped, expired_at-shrinks, HasNoDoubles, FitsPhase, GrantsHaveAllocations, initial-steady, leaves-steadies}
use Rattle.turn_client_laws.proofs.Laws.{GrantsHaveAllocations-AllHaveAllocation, initial-GrantsHaveAllocations, leaves-GrantsHaveAllocations, initial-single, leaves-single, no_reply-kept}
use Rattle.turn_client_laws.proofs.Laws.{not_due-transmit, no_reply-left}
use Rattle.std.specs.declared.net.socket_addr.SocketAddr.TheVariants.{V4}
use Rattle.turn_client_runs.proofs.ChallengeLemmas.{run-configured}
use Rattle.turn_client_runs.proofs.HoldLemmas.{kept-behind}
use Rattle.turn_client_runs.specs.Lasting.{HasRoom, IsInForce, IsSteady, HoldsAtMost, ahead_of, expiry_of}
use Rattle.turn_client_runs.specs.OnTime.{IsInTime, time_of, time_of_all}
use Rattle.turn_client_runs.specs.Handshake.{HandshakeEndsSteadily, HandshakeSucceeds, IsAllocating, IsFirstChallenge, IsStep, RunsHandshake, second_within}
use Rattle.turn_client_runs.proofs.HeaderLemmas.{request-named}
use Rattle.turn_client_runs.proofs.LastingSends.{none-due, none-over}
use Rattle.turn_client_runs.proofs.LastingHistory.{first-wait}
use Rattle.turn_client_runs.proofs.LastingRuns.{arrives}
use Rattle.turn_client_runs.proofs.SilenceLemmas.{IsUnsent, no-event, unsent-transmits, unsent-waits}
use Rattle.turn_client_runs.proofs.SignedLemmas.{some-held}

-- the allocation that a grant is
abbrev allocation_at : Grant → Relay
allocation_at (Allocation a) = a
allocation_at g = record { relayed = V4 (record { ip = record { octets = [] }; port = 0 }); first_lifetime = 0; expiry = 0; is_expired = false }

-- ---- the stages

-- what holds until there is an allocation
pub record IsPlain (delay now : ℕ) (s : State) : Type 0 where
  pub over_udp : s.transport ≡ Udp
  pub prompt : delay < wait_at (timers_of s.config) s.transport 0
  pub answers : 1 ≤ s.config.max_stale_nonces
  pub grants : s.grants ≡ []
  pub closes : s.closes ≡ []
  pub events : s.events ≡ []
  pub no_reply : has_reply s ≡ false
  pub sent_before : IfSome s.last_send (λ time. time ≤ now)
  pub allocates : (l : Listing) → Has l s.listed → is_for_allocation l.purpose ≡ true

-- one request awaits its reply
pub record IsAsked (delay now until : ℕ) (s : State) (x : Transaction) : Type 0 where
  pub only : s.transactions ≡ x ∷ []
  pub young : x.resends ≡ 0
  pub sent : x.last_send ≤ until
  pub heard : now ≤ x.last_send + delay

-- The request was made, and waits from its first copy on, which is queued, and nothing else. It leaves by then.
pub record IsWaiting (now until : ℕ) (s : State) (x : Transaction) : Type 0 where
  pub timed : s.config.timed_from_send ≡ true
  pub packet : Transmit (List ℕ)
  pub queued : s.queue ≡ record { packet = packet; is_request = true } ∷ []
  pub named : id_in_header packet.payload ≡ Some x.id
  pub listed : is_listed x.id s ≡ true
  pub paused : pause_end s ≤ until
  pub before : now ≤ until

-- the purpose of the first two requests
abbrev for_allocation : ℕ → Listing
for_allocation id = record { id = id; purpose = ForAllocation }

-- when the second request begins to wait, at the latest
abbrev second_by : ℕ → ℕ → State → ℕ
second_by delay start s = start + second_within delay s.config

pub data IsStage (delay start now : ℕ) (s : State) : Type 0 where
  new : IsPlain delay now s → IsUnsent start now s → s.listed ≡ [] → s.challenges ≡ 0 → IsStage delay start now s
  first : IsPlain delay now s → (x : Transaction) → IsAsked delay now start s x → s.phase ≡ Requesting → s.queue ≡ [] → s.listed ≡ for_allocation x.id ∷ [] → s.challenges ≡ 0
      → pause_end s ≤ start + s.config.request_cadence → IsStage delay start now s
  waiting : IsPlain delay now s → (x : Transaction) → IsAsked delay now max_time s x → s.phase ≡ Authenticating → IsWaiting now (second_by delay start s) s x → IsStage delay start now s
  second : IsPlain delay now s → (x : Transaction) → IsAsked delay now (second_by delay start s) s x → s.phase ≡ Authenticating → (s.config.timed_from_send ≡ false) ⊎ (s.queue ≡ [])
      → IsStage delay start now s
  done : s.phase ≡ Allocated → IsStage delay start now s

-- the delay is within it
second-late : (delay : ℕ) (config : Config) → delay ≤ second_within delay config
second-late delay config = by config.timed_from_send
  where
    by : (timed : Bool) → delay ≤ cond timed (max delay config.request_cadence) delay
    by true = omega arith
    by false = omega arith

-- ---- nothing is sent again

module _ (delay now until : ℕ) (s : State) (x : Transaction) (p : IsPlain delay now s) (a : IsAsked delay now until s x) (range : now ≤ 2 ^ 62) where
  is-it : (y : Transaction) → Has y s.transactions → y ≡ x
  is-it y h = by (subst (λ (xs : List Transaction). Has y xs) a.only h)
    where
      by : Has y (x ∷ []) → y ≡ x
      by (inl e) = e
      by (inr none) = absurd none

  pub no-due : due (agent_of s) now ≡ None
  no-due = none-due delay now s p.prompt range (λ y h. ap (λ (z : Transaction). z.resends) (is-it y h) ∙ a.young)
      (λ y h. let e = ap (λ (z : Transaction). z.last_send) (is-it y h) in let w = a.heard in omega (arith, e, w))

  pub no-over : timed_out_transaction (agent_of s) now ≡ None
  no-over = none-over delay now s p.prompt range (λ y h. ap (λ (z : Transaction). z.resends) (is-it y h) ∙ a.young)
      (λ y h. let e = ap (λ (z : Transaction). z.last_send) (is-it y h) in let w = a.heard in omega (arith, e, w))

-- ---- a poll changes nothing

no-offer : (s : State) (p : Phase) → s.phase ≡ p → (p ≡ Requesting) ⊎ (p ≡ Authenticating) → next_offer s ≡ None
no-offer s p e (inl f) = rw (e ∙ f) refl
no-offer s p e (inr f) = rw (e ∙ f) refl

quiet-poll : (now : ℕ) (s : State) → has_event s ≡ false → has_reply s ≡ false → next_offer s ≡ None → poll_step now s ≡ timed_out_step now s
quiet-poll now s e q o = rw (e, q, o, poll_step) refl

answers-same : (now : ℕ) (s : State) (p : Phase) (closes : List SocketAddr) → (p ≡ Requesting) ⊎ (p ≡ Authenticating) → closes ≡ [] → (answer_by closes p (allocations s) None now s).1 ≡ s
answers-same now s p closes (inl e) f = rw (e, f) refl
answers-same now s p closes (inr e) f = rw (e, f) refl

timed-same : (now : ℕ) (s : State) (p : Phase) → (p ≡ Requesting) ⊎ (p ≡ Authenticating) → (timed_step p None now s).1 ≡ (answer_step None now s).1
timed-same now s p (inl e) = rw e refl
timed-same now s p (inr e) = rw e refl

poll-same : (delay now until : ℕ) (s : State) (x : Transaction) → IsPlain delay now s → IsAsked delay now until s x → now ≤ 2 ^ 62 → (s.phase ≡ Requesting) ⊎ (s.phase ≡ Authenticating)
    → (poll_step now s).1 ≡ s
poll-same delay now until s x p a range phase =
    ap (λ (z : Rattle.turn_client_api.specs.declared.poll.TurnPollRet.TurnPollRet × State). z.1) (quiet-poll now s no_event p.no_reply (no-offer s s.phase refl phase))
    ∙ (timed ∙ (timed-same now s s.phase phase ∙ answers-same now s s.phase s.closes phase p.closes))
  where
    no_event : has_event s ≡ false
    no_event = rw p.events refl

    timed : (timed_out_step now s).1 ≡ (timed_step s.phase None now s).1
    timed = rw (no-over delay now until s x p a range, timed_out_step) refl

-- ---- what is sent

reply-same : (s : State) → has_reply s ≡ false → (reply_step s).1 ≡ s
reply-same s none = ap (λ (q : List Queued). record s { queue = q }) (no_reply-kept s.queue none)

-- while the first request awaits its reply, nothing more is sent
first-transmit : (delay now until : ℕ) (s : State) (x : Transaction) → IsPlain delay now s → IsAsked delay now until s x → now ≤ 2 ^ 62 → s.phase ≡ Requesting → s.queue ≡ []
    → (transmit_step now s).1 ≡ s
first-transmit delay now until s x p a range e q = rw (not_due-transmit now s (no-due delay now until s x p a range)) (by (is_paused now s))
  where
    idle : (f : Phase) (o : Option Queued) → f ≡ Requesting → o ≡ None
        → (option_map_or (λ q. (Some q.packet, front_sent now q (settled s))) o (idle_step f now s)).1 ≡ s
    idle f o g h = rw (g, h) refl

    by : (b : Bool) → (if b then reply_step s else queue_step now s).1 ≡ s
    by true = reply-same s p.no_reply
    by false = idle s.phase (next_queued now s) e (none-queued now s q)

-- what holds is so after a packet left the queue
plain-left : (delay now : ℕ) (s : State) (transactions : List Transaction) → IsPlain delay now s
    → IsPlain delay now (record s { queue = drop 1 s.queue; transactions = transactions; last_send = Some now })
plain-left delay now s transactions p = record {
  over_udp = p.over_udp;
  prompt = p.prompt;
  answers = p.answers;
  grants = p.grants;
  closes = p.closes;
  events = p.events;
  no_reply = no_reply-left s.queue p.no_reply;
  sent_before = omega arith;
  allocates = p.allocates;
}

-- with nothing queued, a client that is not allocated sends nothing
nothing-transmit : (now : ℕ) (s : State) → has_reply s ≡ false → due (agent_of s) now ≡ None → s.phase ≡ Authenticating → s.queue ≡ [] → (transmit_step now s).1 ≡ s
nothing-transmit now s no_reply none e q = rw (not_due-transmit now s none) (by (is_paused now s))
  where
    idle : (f : Phase) (o : Option Queued) → f ≡ Authenticating → o ≡ None → (option_map_or (λ q. (Some q.packet, front_sent now q (settled s))) o (idle_step f now s)).1 ≡ s
    idle f o g h = rw (g, h) refl

    by : (b : Bool) → (if b then reply_step s else queue_step now s).1 ≡ s
    by true = reply-same s no_reply
    by false = idle s.phase (next_queued now s) e (none-queued now s q)

-- The second request is sent, and nothing more: it waits already.
called-transmit : (delay start now : ℕ) (s : State) (x : Transaction) → IsPlain delay now s → IsAsked delay now (second_by delay start s) s x → now ≤ 2 ^ 62 → s.phase ≡ Authenticating
    → s.config.timed_from_send ≡ false → IsStage delay start now (transmit_step now s).1
called-transmit delay start now s x p a range e from_call = rw (not_due-transmit now s (no-due delay now (second_by delay start s) s x p a range)) (by (is_paused now s))
  where
    Next : State → Type 0
    Next t = IsStage delay start now t

    same : Next s
    same = second p x a e (inl from_call)

    left : Next (record s { queue = drop 1 s.queue; last_send = Some now })
    left = second (plain-left delay now s s.transactions p) x (record { only = a.only; young = a.young; sent = a.sent; heard = a.heard }) e (inl from_call)

    idle : (f : Phase) → f ≡ Authenticating → Next (idle_step f now s).1
    idle f g = rw g same

    front : (o : Option Queued) → Next (option_map_or (λ q. (Some q.packet, front_sent now q (settled s))) o (idle_step s.phase now s)).1
    front None = idle s.phase e
    front (Some q) = subst (λ (t : State). Next (front_sent now q t)) (sym (settled-untimed s from_call)) (by s.config.timed_from_send from_call)
      where
        by : (timed : Bool) → timed ≡ false → Next (Rattle.turn_client_api.specs.Transmit.sent now (record s {
          queue = drop 1 s.queue;
          transactions = cond (timed && q.is_request) (option_map_or (λ id. waits_begun id now s.transactions) (id_in_header q.packet.payload) s.transactions) s.transactions;
        }))
        by false e = left
        by true e = cc

    by : (b : Bool) → Next (if b then reply_step s else queue_step now s).1
    by true = subst Next (sym (reply-same s p.no_reply)) same
    by false = front (next_queued now s)

second-transmit : (delay start now : ℕ) (s : State) (x : Transaction) → IsPlain delay now s → IsAsked delay now (second_by delay start s) s x → now ≤ 2 ^ 62 → s.phase ≡ Authenticating
    → (s.config.timed_from_send ≡ false) ⊎ (s.queue ≡ []) → IsStage delay start now (transmit_step now s).1
second-transmit delay start now s x p a range e (inl from_call) = called-transmit delay start now s x p a range e from_call
second-transmit delay start now s x p a range e (inr empty) =
    subst (IsStage delay start now) (sym (nothing-transmit now s p.no_reply (no-due delay now (second_by delay start s) s x p a range) e empty)) (second p x a e (inr empty))

-- ---- the second request waits for the pause

-- what is sent if nothing is to be retransmitted
abbrev queue_or_reply : ℕ → State → Option (Transmit (List ℕ)) × State
queue_or_reply now s = if is_paused now s then reply_step s else queue_step now s

module _ (delay now until : ℕ) (s : State) (x : Transaction) (p : IsPlain delay now s) (a : IsAsked delay now max_time s x) (e : s.phase ≡ Authenticating) (w : IsWaiting now until s x) where
  abbrev waits : Queued
  waits = record { packet = w.packet; is_request = true }

  -- it has not ended
  goes-on : has_ended s waits ≡ false
  goes-on =
      let outstanding : is_outstanding x.id s.transactions ≡ true = rw (a.only, eq-eqb x.id x.id refl) refl in
      rw (w.timed, w.named, outstanding, w.listed) refl

  -- so it is sent next
  chosen : (time : ℕ) → next_queued time s ≡ Some waits
  chosen time = rw (w.queued, goes-on, e, w.timed) refl

  none-dropped : settled s ≡ s
  none-dropped =
      let none : ended_count s ≡ 0 = rw (w.queued, goes-on) refl in
      ap (λ n. record s { queue = drop n s.queue; transactions = fold without_request s.transactions (take n s.queue) }) none

  -- it waits from now on
  begun : begun_by now waits s ≡ waiting_from now x ∷ []
  begun = rw (w.timed, w.named, a.only, eq-eqb x.id x.id refl) refl

  -- at the end of the pause it is sent, if nothing is to be retransmitted
  sends : (time : ℕ) → due (agent_of s) time ≡ None → pause_end s ≤ time → transmit_step time s ≡ (Some w.packet, front_sent time waits (settled s))
  sends time none over =
      let idle : is_paused time s ≡ false = le-ltb time (pause_end s) over in
      let given : queue_or_reply time s ≡ (Some w.packet, front_sent time waits (settled s)) = rw (idle, chosen time) refl in
      not_due-transmit time s none ∙ given

-- then it waits from now on, and nothing is queued
pub waiting-left : (delay now until : ℕ) (s : State) (x : Transaction) → IsPlain delay now s → IsAsked delay now max_time s x → now ≤ 2 ^ 62 → s.phase ≡ Authenticating → IsWaiting now until s x
    → pause_end s ≤ now → (transmit_step now s).1 ≡ record s { queue = drop 1 s.queue; transactions = waiting_from now x ∷ []; last_send = Some now }
waiting-left delay now until s x p a range e w over =
    ap (λ (z : Option (Transmit (List ℕ)) × State). z.1) (sends delay now until s x p a e w now (no-due delay now max_time s x p a range) over)
    ∙ (ap (front_sent now (waits delay now until s x p a e w)) (none-dropped delay now until s x p a e w)
    ∙ ap (λ (xs : List Transaction). record s { queue = drop 1 s.queue; transactions = xs; last_send = Some now }) (begun delay now until s x p a e w))

waiting-transmit : (delay start now : ℕ) (s : State) (x : Transaction) → IsPlain delay now s → IsAsked delay now max_time s x → now ≤ 2 ^ 62 → s.phase ≡ Authenticating
    → IsWaiting now (second_by delay start s) s x → IsStage delay start now (transmit_step now s).1
waiting-transmit delay start now s x p a range e w = elim (cases_lt now (pause_end s)) [
  | inl early ↦
      let paused : is_paused now s ≡ true = lt-ltb now (pause_end s) early in
      let replies : queue_or_reply now s ≡ reply_step s = rw paused refl in
      let same : (transmit_step now s).1 ≡ s = ap (λ (z : Option (Transmit (List ℕ)) × State). z.1) (not_due-transmit now s none ∙ replies) ∙ reply-same s p.no_reply in
      subst (IsStage delay start now) (sym same) (waiting p x a e w)
  | inr over ↦ subst (IsStage delay start now) (sym (waiting-left delay now (second_by delay start s) s x p a range e w over)) sent
]
  where
    none : due (agent_of s) now ≡ None
    none = no-due delay now max_time s x p a range

    u : State
    u = record s { queue = drop 1 s.queue; transactions = waiting_from now x ∷ []; last_send = Some now }

    sent : IsStage delay start now u
    sent = second (plain-left delay now s (waiting_from now x ∷ []) p) (waiting_from now x) (record { only = refl; young = a.young; sent = w.before; heard = omega arith }) e
        (inr (rw w.queued refl))

new-transmit : (delay start now : ℕ) (s : State) → IsPlain delay now s → IsUnsent start now s → s.listed ≡ [] → s.challenges ≡ 0 → IsStage delay start now (transmit_step now s).1
new-transmit delay start now s p u none zero = rw (unsent-transmits start now now s u) (first
    (record {
      over_udp = p.over_udp;
      prompt = p.prompt;
      answers = p.answers;
      grants = p.grants;
      closes = p.closes;
      events = p.events;
      no_reply = p.no_reply;
      sent_before = omega arith;
      allocates = listed;
    })
    (first_sent id s.remote now text)
    (record { only = rw u.none refl; young = refl; sent = let b = u.begins in omega (arith, b); heard = omega arith })
    refl
    u.queue
    (rw none refl)
    zero
    (let b = u.begins in omega (arith, b)))
  where
    id : ℕ
    id = fresh_id (record s { phase = Requesting })

    text : List ℕ
    text = first_allocate s (fresh_id s)

    listed : (l : Listing) → Has l (s.listed ++ for_allocation id ∷ []) → is_for_allocation l.purpose ≡ true
    listed l h = elim (has-append l s.listed (for_allocation id ∷ []) h) [ inl old ↦ p.allocates l old | inr (inl e) ↦ rw e refl | inr (inr no_more) ↦ absurd no_more ]

-- ---- what comes in

first-judged : (message : List ℕ) (s : State) (c : Challenge) → s.phase ≡ Requesting → answers_one s message ≡ true → challenge_in s message ≡ Some c → judgement_of s message ≡ Challenged c
first-judged message s c e a f = rw (e, a, f) refl

-- the only request is answered
answers-it : (message : List ℕ) (s : State) (x : Transaction) → s.transactions ≡ x ∷ [] → answers_one s message ≡ true → x.id ≡ id_of message
answers-it message s x only a =
    let o : is_outstanding (id_of message) (x ∷ []) ≡ true = subst (λ (xs : List Transaction). is_outstanding (id_of message) xs ≡ true) only
    (and_parts (is_response (class_in message)) (is_outstanding (id_of message) s.transactions) a).1 in
    eqb-true x.id (id_of message) (or-none (eqb x.id (id_of message)) o)
  where
    or-none : (b : Bool) → (b || false) ≡ true → b ≡ true
    or-none true e = refl
    or-none false e = e

challenged : (message : List ℕ) (now : ℕ) (s : State) (c : Challenge) → 1 ≤ s.config.max_stale_nonces → s.challenges ≡ 0 → purposes_of (id_of message) s ≡ ForAllocation ∷ []
    → judgement_of s message ≡ Challenged c
    → (message_step message now s).1 ≡ state_after_retry s (id_of message) ForAllocation c now
challenged message now s c some zero purposes judged = rw judged (step (purposes_of (id_of message) s) purposes)
  where
    few : ltb s.challenges s.config.max_stale_nonces ≡ true
    few = lt-ltb s.challenges s.config.max_stale_nonces (omega (arith, some, zero))

    step : (ps : List Purpose) → ps ≡ ForAllocation ∷ [] → (cond {A = Outcome × State} (ltb s.challenges s.config.max_stale_nonces)
        (option_map_or (λ purpose. (Handled, state_after_retry s (id_of message) purpose c now)) (Rattle.turn_client_api.specs.Retry.retried ps) (Rattle.turn_client_api.specs.Payloads.Ignored, s))
        (Handled, Rattle.turn_client_api.specs.Effect.closed (Rattle.turn_client_api.specs.Effect.fail_all s))).1 ≡ state_after_retry s (id_of message) ForAllocation c now
    step ps e = rw (few, e) refl

one-purpose : (r : Purpose) → Has r (ForAllocation ∷ []) → is_for_allocation r ≡ true
one-purpose r (inl e) = rw e refl
one-purpose r (inr none) = absurd none

-- of three candidates one after the other, the first that is not taken, where one is at most
pub small-id : (taken : ℕ → Bool) (id n : ℕ) → ((c : ℕ) → taken c ≡ true → id ≡ c)
    → unwrap_or (find (λ c. not (taken c)) ((n + 0) % 2 ^ 96 ∷ (n + 1) % 2 ^ 96 ∷ (n + 2) % 2 ^ 96 ∷ [])) n < 2 ^ 96
small-id taken id n only = elim (cases_Bool (taken ((n + 0) % 2 ^ 96))) [
  | inl one ↦ elim (cases_Bool (taken ((n + 1) % 2 ^ 96))) [
    | inl other ↦ let a = only ((n + 0) % 2 ^ 96) one in let b = only ((n + 1) % 2 ^ 96) other in absurd (omega (arith, a, b))
    | inr free ↦ rw (one, free) (omega arith)
  ]
  | inr free ↦ rw free (omega arith)
]

-- one ID is taken, and the next one is a number that a message can carry
next-small : (s : State) (x : Transaction) → s.transactions ≡ x ∷ [] → s.listed ≡ for_allocation x.id ∷ [] → s.grants ≡ [] → fresh_id s < 2 ^ 96
next-small s x only listed none = rw (only, listed, none) (small-id taken x.id (next_id s.ids) other)
  where
    taken : ℕ → Bool
    taken c = (eqb x.id c || false) || ((eqb x.id c || false) || false)

    other : (c : ℕ) → taken c ≡ true → x.id ≡ c
    other c h = elim (cases_Bool (eqb x.id c)) [ inl e ↦ eqb-true x.id c e | inr e ↦ absurd (let no : false ≡ true = rw (← h) (rw e refl) in cc) ]

pub second-listed : (id other : ℕ) (s : State) → s.listed ≡ for_allocation id ∷ for_allocation other ∷ [] → is_listed other s ≡ true
second-listed id other s e = rw (e, eq-eqb other other refl) (by (eqb id other) (list_any (is_of_request other) s.grants))
  where
    by : (b d : Bool) → ((b || (true || false)) || d) ≡ true
    by true d = refl
    by false d = refl

-- ---- the challenge is answered

module _ (delay start now : ℕ) (packet : Transmit (List ℕ)) (s : State) (x : Transaction) (c : Challenge) (p : IsPlain delay now s) (a : IsAsked delay now start s x) (q : s.queue ≡ [])
    (listed : s.listed ≡ for_allocation x.id ∷ []) (over : pause_end s ≤ start + s.config.request_cadence) (is : IsFirstChallenge packet s) (same : x.id ≡ id_of packet.payload) where
  abbrev message : List ℕ
  message = packet.payload

  -- the request is made again under this ID
  abbrev again : ℕ
  again = fresh_id s

  abbrev t : State
  t = state_after_retry s (id_of message) ForAllocation c now

  -- by a client that holds the challenge
  abbrev holding : State
  holding = with_held c (record (transaction_ended (id_of message) s) { phase = phase_after s.phase; challenges = s.challenges + 1 })

  one : purposes_of (id_of message) s ≡ ForAllocation ∷ []
  one = rw (listed, eq-eqb x.id (id_of message) same) refl

  listed-with : (id : ℕ) → s.listed ++ listings id (purposes_of (id_of message) s) ≡ for_allocation x.id ∷ for_allocation id ∷ []
  listed-with id = rw (listed, eq-eqb x.id (id_of message) same) refl

  listed-again : t.listed ≡ for_allocation x.id ∷ for_allocation again ∷ []
  listed-again = listed-with again

  allocates : (l : Listing) → Has l t.listed → is_for_allocation l.purpose ≡ true
  allocates l h = by (subst (λ (ls : List Listing). Has l ls) listed-again h)
    where
      by : Has l (for_allocation x.id ∷ for_allocation again ∷ []) → is_for_allocation l.purpose ≡ true
      by (inl e) = rw e refl
      by (inr (inl e)) = rw e refl
      by (inr (inr none)) = absurd none

  plain-again : IsPlain delay now t
  plain-again = record {
    over_udp = p.over_udp;
    prompt = p.prompt;
    answers = p.answers;
    grants = p.grants;
    closes = p.closes;
    events = p.events;
    no_reply = rw q refl;
    sent_before = p.sent_before;
    allocates = allocates;
  }

  authenticates : t.phase ≡ Authenticating
  authenticates = by s.phase is.phase
    where
      by : (f : Phase) → f ≡ Requesting → phase_after f ≡ Authenticating
      by f e = rw e refl

  -- it is outstanding, and nothing else is
  abbrev made : Transaction
  made = first_sent again s.remote (waits_from now s) (request_for holding ForAllocation again)

  ended : (id : ℕ) → x.id ≡ id → {y : Transaction} → without_transaction id s.transactions ++ y ∷ [] ≡ y ∷ []
  ended id e = rw (a.only, eq-eqb x.id id e) refl

  only-again : t.transactions ≡ made ∷ []
  only-again = ended (id_of message) same

  -- it waits from now on
  from-call : s.config.timed_from_send ≡ false → IsStage delay start now t
  from-call untimed =
      let waits : waits_from now s ≡ now = rw untimed refl in
      let within : second_within delay s.config ≡ delay = rw untimed refl in
      second plain-again made
      (record { only = only-again; young = refl; sent = let h = a.heard in let b = a.sent in rw (waits, within) (omega (arith, h, b)); heard = rw waits (omega arith) })
      authenticates (inl untimed)

  -- its first copy waits for the pause
  from-send : s.config.timed_from_send ≡ true → now ≤ 2 ^ 62 → IsStage delay start now t
  from-send timed range =
      let waits : waits_from now s ≡ max_time = rw timed refl in
      let within : second_within delay s.config ≡ max delay s.config.request_cadence = rw timed refl in
      let small = next-small s x a.only listed p.grants in
      waiting plain-again made
      (record { only = only-again; young = refl; sent = rw waits (omega arith); heard = rw waits (omega (arith, range)) })
      authenticates
      (record {
        timed = timed;
        packet = to_server s s.local made.request;
        queued = rw q refl;
        named = request-named holding again small ForAllocation;
        listed = second-listed x.id again t listed-again;
        paused = rw within (omega (arith, over));
        before = let h = a.heard in let b = a.sent in rw within (omega (arith, h, b));
      })

  pub next-stage : now ≤ 2 ^ 62 → IsStage delay start now t
  next-stage range = elim (cases_Bool s.config.timed_from_send) [ inl timed ↦ from-send timed range | inr untimed ↦ from-call untimed ]

first-answered : (delay start now : ℕ) (packet : Transmit (List ℕ)) (s : State) (x : Transaction) → IsPlain delay now s → IsAsked delay now start s x → now ≤ 2 ^ 62 → s.queue ≡ []
    → s.listed ≡ for_allocation x.id ∷ [] → s.challenges ≡ 0 → pause_end s ≤ start + s.config.request_cadence → IsFirstChallenge packet s → IsStage delay start now (packet_step packet now s).1
first-answered delay start now packet s x p a range q listed zero over is =
    let (c, e) = some-held (challenge_in s packet.payload) is.challenge in
    let same = answers-it packet.payload s x a.only is.answers in
    let judged = first-judged packet.payload s c is.phase is.answers e in
    let arrived : (packet_step packet now s).1 ≡ (message_step packet.payload now s).1 = ap (λ (z : Outcome × State). z.1) (arrives packet now s p.over_udp is.arrives) in
    let made = challenged packet.payload now s c p.answers zero (one delay start now packet s x c p a q listed over is same) judged in
    subst (IsStage delay start now) (sym (arrived ∙ made)) (next-stage delay start now packet s x c p a q listed over is same range)

-- ---- the allocation

none-challenged : (message : List ℕ) (s : State) → class_in message ≡ Success → challenge_in s message ≡ None
none-challenged message s e = elim (cases_Option (challenge_in s message)) [
  | inl none ↦ none
  | inr (c, f) ↦ let is = (challenge_of-sound (auth_of s) message c f).error in absurd
      (let no : Success ≡ Rattle.turn_stun.specs.declared.message.header.MessageClass.TheVariants.Error = sym e ∙ is in cc)
]

pub second-judged : (message : List ℕ) (s : State) → s.phase ≡ Authenticating → answers_allocate s message ≡ true → class_in message ≡ Success → IsValidated (validation_of (auth_of s) message)
    → is_outstanding (id_of message) s.transactions ≡ true → judgement_of s message ≡ SignedSuccess
second-judged message s p a c v o = by (validation_of (auth_of s) message) refl v
  where
    by : (w : Validation) → validation_of (auth_of s) message ≡ w → IsValidated w → judgement_of s message ≡ SignedSuccess
    by (Validated algorithm) e h = rw (p, a, e, none-challenged message s c, o) (rw c refl)
    by (ResendRequest algorithm) e h = absurd h
    by (Refused integrity) e h = absurd h

phase-some : (addresses : List SocketAddr) → addresses ≢ [] → phase_with addresses ≡ Allocated
phase-some [] h = absurd (h refl)
phase-some (a ∷ others) h = refl

second-answered : (delay start now : ℕ) (packet : Transmit (List ℕ)) (s : State) → IsPlain delay now s → IsAllocating packet s → IsStage delay start now (packet_step packet now s).1
second-answered delay start now packet s p is =
    let message = packet.payload in
    let arrived = arrives packet now s p.over_udp is.arrives in
    let judged : message_step message now s ≡ signed_step true message now s = rw (second-judged message s is.phase is.answers is.success is.signed is.outstanding) refl in
    let granted : signed_step true message now s ≡ (Handled, allocate_granted message now (transaction_ended (id_of message) s)) = rw is.phase refl in
    subst (λ (z : Outcome × State). IsStage delay start now z.1) (sym (arrived ∙ (judged ∙ granted))) (done (by (lifetime_in message) is.lifetime))
  where
    by : (o : Option ℕ) → IsSome o
        → (option_map_or (λ lifetime. allocated lifetime (taken_addresses s.families (relayed_in packet.payload)) now (transaction_ended (id_of packet.payload) s)) o
        (Rattle.turn_client_api.specs.Effect.closed (Rattle.turn_client_api.specs.Effect.fail_all (transaction_ended (id_of packet.payload) s)))).phase ≡ Allocated
    by None h = cc
    by (Some n) h = phase-some (taken_addresses s.families (relayed_in packet.payload)) is.relayed

-- ---- an allocation stays

sent-allocated : (now : ℕ) (s : State) → s.phase ≡ Allocated → (transmit_step now s).1.phase ≡ Allocated
sent-allocated now s e = again (due (agent_of s) now)
  where
    Is : Option (Transmit (List ℕ)) × State → Type 0
    Is z = z.1.phase ≡ Allocated

    keeps : (b : Bool)
        → Is (if b then (Some (Rattle.turn_client_api.specs.Requests.to_server s s.local (binding_indication (fresh_id s))), Rattle.turn_client_api.specs.Transmit.sent now (id_used s)) else (None, s))
    keeps true = e
    keeps false = e

    refresh : (o : Option Purpose) → Is (option_map_or (λ purpose. sent_at_once (request_for s purpose (fresh_id s)) purpose now s) o (keepalive_step now s))
    refresh None = keeps (list_any (λ time. nat_le time now) (keepalive_times s))
    refresh (Some p) = e

    idle : (f : Phase) → f ≡ Allocated → Is (idle_step f now s)
    idle f g = rw g (refresh _)

    front : (o : Option Queued) → Is (option_map_or (λ q. (Some q.packet, front_sent now q (settled s))) o (idle_step s.phase now s))
    front None = idle s.phase e
    front (Some q) = e

    wait : (b : Bool) → Is (if b then reply_step s else queue_step now s)
    wait true = e
    wait false = front (next_queued now s)

    again : (o : Option Transaction) → Is (option_map_or (λ t. (
      Some (record (Rattle.turn_client_api.specs.Requests.to_server s s.local t.request)
          { to = t.to }),
      Rattle.turn_client_api.specs.Transmit.sent now (record s { transactions = Rattle.turn_agent.specs.Agent.resent t.id now s.transactions }),
    )) o
        (if is_paused now s then reply_step s else queue_step now s))
    again None = wait (is_paused now s)
    again (Some t) = e

polled-allocated : (now : ℕ) (s : State) → s.phase ≡ Allocated → (poll_step now s).1.phase ≡ Allocated
polled-allocated now s e = event (has_event s || has_reply s)
  where
    Is : Rattle.turn_client_api.specs.declared.poll.TurnPollRet.TurnPollRet × State → Type 0
    Is z = z.1.phase ≡ Allocated

    answers : (given : Option ℕ) (t : State) → t.phase ≡ Allocated → Is (answer_step given now t)
    answers given t f = answer-by (λ (u : State). u.phase ≡ Allocated) given now t (λ closes. f)

    steps : (f : Phase) (given : Option ℕ) (t : State) → f ≡ Allocated → t.phase ≡ Allocated → Is (timed_step f given now t)
    steps f given t g h = rw g (answers given (expired_at given now t) ((expired_at-shrinks given now t).phase ∙ h))

    times : (o : Option Transaction) → Is (option_map_or (λ t. timed_step s.phase (Some t.id) now (transaction_ended t.id s)) o (timed_step s.phase None now s))
    times None = steps s.phase None s e e
    times (Some t) = steps s.phase (Some t.id) (transaction_ended t.id s) e e

    offers : (o : Option DataOffer) → Is (option_map_or (λ offer. offer_step offer s) o (timed_out_step now s))
    offers None = times (timed_out_transaction (agent_of s) now)
    offers (Some offer) = e

    event : (b : Bool) → Is (if b then (Rattle.turn_client_api.specs.declared.poll.TurnPollRet.TheVariants.WaitUntil now, s) else option_map_or (λ offer. offer_step offer s) (next_offer s)
        (timed_out_step now s))
    event true = e
    event false = offers (next_offer s)

-- ---- the run

not-new : (s : State) (p : Phase) → s.phase ≡ p → p ≢ New → s.phase ≡ New → ⊥
not-new s p e other begins = other (sym e ∙ begins)

plain-later : (delay before now : ℕ) (s : State) → IsPlain delay before s → before ≤ now → IsPlain delay now s
plain-later delay before now s p later = record {
  over_udp = p.over_udp;
  prompt = p.prompt;
  answers = p.answers;
  grants = p.grants;
  closes = p.closes;
  events = p.events;
  no_reply = p.no_reply;
  sent_before = sent s.last_send p.sent_before;
  allocates = p.allocates;
}
  where
    sent : (o : Option ℕ) → IfSome o (λ time. time ≤ before) → IfSome o (λ time. time ≤ now)
    sent None h = tt
    sent (Some time) h = omega (arith, h, later)

asked-later : (delay before now until : ℕ) (s : State) (x : Transaction) → IsAsked delay before until s x → All (λ y. now ≤ y.last_send + delay) s.transactions → IsAsked delay now until s x
asked-later delay before now until s x a answered = record {
  only = a.only;
  young = a.young;
  sent = a.sent;
  heard = has-all (λ y. now ≤ y.last_send + delay) x s.transactions answered (subst (Has x) (sym a.only) (inl refl));
}

-- while it waits for the pause, the caller is on time
waiting-later : (delay before now until : ℕ) (s : State) (x : Transaction) → IsPlain delay before s → IsAsked delay before max_time s x → s.phase ≡ Authenticating → IsWaiting before until s x
    → IsInTime delay before now s → IsWaiting now until s x
waiting-later delay before now until s x p a e w t = record {
  timed = w.timed;
  packet = w.packet;
  queued = w.queued;
  named = w.named;
  listed = w.listed;
  paused = w.paused;
  before = elim (cases_lt (max before (pause_end s)) now) [
    | inl early ↦
        let time = max before (pause_end s) in
        let range = t.on_time.in_range in
        let awaited = (asked-later delay before now max_time s x a t.answered).heard in
        let none = no-due delay time max_time s x (plain-later delay before time s p (omega arith))
        (record { only = a.only; young = a.young; sent = a.sent; heard = omega (arith, early, awaited) }) (omega (arith, early, range)) in
        let given = sends delay before until s x p a e w time none (omega arith) in
        let silent = t.on_time.punctual time (omega arith) early in
        absurd (none-some w.packet (sym silent ∙ ap (λ (z : Option (Transmit (List ℕ)) × State). z.0) given))
    | inr late ↦ let over = w.paused in let b = w.before in omega (arith, late, over, b)
  ];
}

passes : (delay start before now : ℕ) (s : State) → IsStage delay start before s → IsInTime delay before now s → IsStage delay start now s
passes delay start before now s (new p u none zero) t = new (plain-later delay before now s p t.on_time.later) (unsent-waits start before now s u t.on_time) none zero
passes delay start before now s (first p x a e q ls zero over) t =
    first (plain-later delay before now s p t.on_time.later) x (asked-later delay before now start s x a t.answered) e q ls zero over
passes delay start before now s (waiting p x a e w) t =
    waiting (plain-later delay before now s p t.on_time.later) x (asked-later delay before now max_time s x a t.answered) e
    (waiting-later delay before now (second_by delay start s) s x p a e w t)
passes delay start before now s (second p x a e left) t =
    second (plain-later delay before now s p t.on_time.later) x (asked-later delay before now (second_by delay start s) s x a t.answered) e left
passes delay start before now s (done e) t = done e

steps-on : (delay start before : ℕ) (s : State) (call : Call) → IsStage delay start before s → IsInTime delay before (time_of before call) s → IsStep call s
    → IsStage delay start (time_of before call) (state_after call s)
steps-on delay start before s call stage t step = by call (passes delay start before (time_of before call) s stage t) t.on_time.in_range step
  where
    by : (c : Call) → IsStage delay start (time_of before c) s → time_of before c ≤ 2 ^ 62 → IsStep c s → IsStage delay start (time_of before c) (state_after c s)
    by (Poll now) (new p u none zero) r h = subst (IsStage delay start now) (sym (Rattle.turn_client_runs.proofs.SilenceLemmas.unsent-same start now s u)) (new p u none zero)
    by (Poll now) (first p x a e q ls zero over) r h = subst (IsStage delay start now) (sym (poll-same delay now start s x p a r (inl e))) (first p x a e q ls zero over)
    by (Poll now) (waiting p x a e w) r h = subst (IsStage delay start now) (sym (poll-same delay now max_time s x p a r (inr e))) (waiting p x a e w)
    by (Poll now) (second p x a e left) r h = subst (IsStage delay start now) (sym (poll-same delay now (second_by delay start s) s x p a r (inr e))) (second p x a e left)
    by (Poll now) (done e) r h = done (polled-allocated now s e)
    by (PollTransmit now) (new p u none zero) r h = new-transmit delay start now s p u none zero
    by (PollTransmit now) (first p x a e q ls zero over) r h = subst (IsStage delay start now) (sym (first-transmit delay now start s x p a r e q)) (first p x a e q ls zero over)
    by (PollTransmit now) (waiting p x a e w) r h = waiting-transmit delay start now s x p a r e w
    by (PollTransmit now) (second p x a e left) r h = second-transmit delay start now s x p a r e left
    by (PollTransmit now) (done e) r h = done (sent-allocated now s e)
    by PollEvent (new p u none zero) r h = subst (IsStage delay start before) (sym (no-event s p.events)) (new p u none zero)
    by PollEvent (first p x a e q ls zero over) r h = subst (IsStage delay start before) (sym (no-event s p.events)) (first p x a e q ls zero over)
    by PollEvent (waiting p x a e w) r h = subst (IsStage delay start before) (sym (no-event s p.events)) (waiting p x a e w)
    by PollEvent (second p x a e left) r h = subst (IsStage delay start before) (sym (no-event s p.events)) (second p x a e left)
    by PollEvent (done e) r h = done e
    by (Recv packet now) stage r (inr (inr same)) = subst (IsStage delay start now) (sym same) stage
    by (Recv packet now) (new p u none zero) r (inl is) = absurd (not-new s Requesting is.phase (λ f. cc) u.phase)
    by (Recv packet now) (first p x a e q ls zero over) r (inl is) = first-answered delay start now packet s x p a r q ls zero over is
    by (Recv packet now) (waiting p x a e w) r (inl is) = absurd (let no : Authenticating ≡ Requesting = sym e ∙ is.phase in cc)
    by (Recv packet now) (second p x a e left) r (inl is) = absurd (let no : Authenticating ≡ Requesting = sym e ∙ is.phase in cc)
    by (Recv packet now) (done e) r (inl is) = absurd (let no : Allocated ≡ Requesting = sym e ∙ is.phase in cc)
    by (Recv packet now) (new p u none zero) r (inr (inl is)) = absurd (not-new s Authenticating is.phase (λ f. cc) u.phase)
    by (Recv packet now) (first p x a e q ls zero over) r (inr (inl is)) = absurd (let no : Requesting ≡ Authenticating = sym e ∙ is.phase in cc)
    by (Recv packet now) (waiting p x a e w) r (inr (inl is)) = second-answered delay start now packet s p is
    by (Recv packet now) (second p x a e left) r (inr (inl is)) = second-answered delay start now packet s p is
    by (Recv packet now) (done e) r (inr (inl is)) = absurd (let no : Allocated ≡ Authenticating = sym e ∙ is.phase in cc)
    by c stage r same = subst (IsStage delay start (time_of before c)) (sym same) stage

all-on : (delay start before : ℕ) (s : State) (calls : List Call) → IsStage delay start before s → RunsHandshake delay before s calls
    → IsStage delay start (time_of_all before calls) (state_after_all s calls)
all-on delay start before s [] stage run = stage
all-on delay start before s (call ∷ calls) stage (t, step, run) =
    all-on delay start (time_of before call) (state_after call s) calls (steps-on delay start before s call stage t step) run

has-allocation : (delay start now : ℕ) (s : State) → IsStage delay start now s → second_by delay start s + delay < now → s.phase ≡ Allocated
has-allocation delay start now s (new p u none zero) late = let b = u.begins in absurd (omega (arith, b, late))
has-allocation delay start now s (first p x a e q ls zero over) late =
    let h = a.heard in let b = a.sent in let within = second-late delay s.config in absurd (omega (arith, h, b, within, late))
has-allocation delay start now s (waiting p x a e w) late = let b = w.before in absurd (omega (arith, b, late))
has-allocation delay start now s (second p x a e left) late = let h = a.heard in let b = a.sent in absurd (omega (arith, h, b, late))
has-allocation delay start now s (done e) late = e

begins : (local remote : SocketAddr) (config : Config) (seed : List ℕ) (delay start : ℕ) → 1 ≤ config.max_stale_nonces → delay < wait_at (timers_of config) Udp 0
    → IsStage delay start start (initial Udp local remote config seed)
begins local remote config seed delay start some prompt =
    new (record { over_udp = refl; prompt = prompt; answers = some; grants = refl; closes = refl; events = refl; no_reply = refl; sent_before = tt; allocates = λ l h. absurd h })
    (record { phase = refl; queue = refl; events = refl; closes = refl; none = refl; never = refl; begins = refl }) refl refl

pub run-handshake : HandshakeSucceeds
run-handshake local remote config seed delay start now calls some prompt run t late =
    let s = initial Udp local remote config seed in
    let last = state_after_all s calls in
    let over = subst (λ (c : Config). start + second_within delay c + delay < now) (sym (run-configured s calls)) late in
    has-allocation delay start now last (passes delay start (time_of_all start calls) now last (all-on delay start start s calls (begins local remote config seed delay start some prompt) run) t) over

-- ---- the state just after

-- what holds in all runs, and is needed here
abbrev AreFit : State → Type 0
AreFit s = FitsPhase s × HasNoDoubles s × GrantsHaveAllocations s

fit-stays : (call : Call) (s t : State) → Leaves call s t → AreFit s → AreFit t
fit-stays call s t leaves (fits, distinct, in_allocations) =
    (leaves-steadies call s t leaves fits, leaves-single call s t leaves fits distinct, leaves-GrantsHaveAllocations call s t leaves in_allocations)

steady-next : (count slots extras delay until now lifetime : ℕ) (packet : Transmit (List ℕ)) (s : State) → AreFit s → IsPlain delay now s → (x : Transaction) → IsAsked delay now until s x
    → now ≤ 2 ^ 62
    → IsAllocating packet s → s.queue ≡ [] → lifetime_in packet.payload ≡ Some lifetime → min_lifetime ≤ lifetime
    → HasRoom count slots extras s.config.request_cadence delay (min s.config.refresh_ahead (seconds 150))
    → HoldsAtMost count slots (state_after (Recv packet now) s) → IsSteady count slots extras delay now (state_after (Recv packet now) s)
steady-next count slots extras delay until now lifetime packet s (fits, distinct, in_allocations) p x a range is empty said enough room within =
    let after = fit-stays (Recv packet now) s (state_after (Recv packet now) s) (inl refl) (fits, distinct, in_allocations) in
    let next : AreFit t × HoldsAtMost count slots t = subst (λ (z : State). AreFit z × HoldsAtMost count slots z) whole (after, within) in
    subst (IsSteady count slots extras delay now) (sym whole) (record {
      allocated = phase-some addresses is.relayed;
      none_queued = empty;
      none_outstanding = ended;
      none_listed = filter-none _ s.listed (λ l h. rw (p.allocates l h) refl);
      sent_before = p.sent_before;
      in_force = all-has (IsInForce now) t.grants (λ g h. let (e, l) = made g h in rw e (refl, l));
      none_late = all-has (λ g. now + ahead_of t.config.refresh_ahead g ≤ expiry_of g) t.grants (λ g h. let (e, l) = made g h in rw e (omega (arith, lasts)));
      room = all-has (λ g. HasRoom count slots extras t.config.request_cadence delay (ahead_of t.config.refresh_ahead g)) t.grants (λ g h. let (e, l) = made g h in rw e (omega (arith, room, enough)));
      room_for_more = room;
      within = next.1;
      distinct = next.0.1;
      in_allocations = GrantsHaveAllocations-AllHaveAllocation t next.0.2;
      prompt = let first = p.prompt in let all = first-wait (timers_of s.config) s.transport in omega (arith, first, all);
      in_range = range;
    })
  where
    message : List ℕ
    message = packet.payload

    addresses : List SocketAddr
    addresses = taken_addresses s.families (relayed_in packet.payload)

    u : State
    u = transaction_ended (id_of packet.payload) s

    t : State
    t = allocated lifetime addresses now u

    whole : state_after (Recv packet now) s ≡ t
    whole =
        let judged : message_step packet.payload now s ≡ signed_step true packet.payload now s = rw (second-judged packet.payload s is.phase is.answers is.success is.signed is.outstanding) refl in
        let granted : signed_step true packet.payload now s ≡ (Handled, allocate_granted packet.payload now u) = rw is.phase refl in
        let given : allocate_granted packet.payload now u ≡ t = rw said refl in
        ap (λ (z : Outcome × State). z.1) (arrives packet now s p.over_udp is.arrives ∙ (judged ∙ granted)) ∙ given

    ended : t.transactions ≡ []
    ended =
        let o : is_outstanding (id_of packet.payload) (x ∷ []) ≡ true = subst (λ (xs : List Transaction). is_outstanding (id_of packet.payload) xs ≡ true) a.only is.outstanding in
        rw (a.only, or-none (eqb x.id (id_of packet.payload)) o) refl
      where
        or-none : (b : Bool) → (b || false) ≡ true → b ≡ true
        or-none true e = refl
        or-none false e = e

    lasts : now + 300_000_000_000 ≤ later_by (seconds lifetime) now
    lasts = omega (arith, range, enough)

    made : (g : Grant) → Has g t.grants → (g ≡ Allocation (record {
      relayed = (allocation_at g).relayed;
      first_lifetime = seconds lifetime;
      expiry = later_by
          (seconds lifetime) now;
      is_expired = false;
    })) × (now < later_by (seconds lifetime) now)
    made g h = (by g (has-mapped (new_allocation lifetime now) g addresses (subst (λ (gs : List Grant). Has g gs) (rw p.grants refl) h)), omega (arith, lasts))
      where
        by : (g : Grant) → (address : SocketAddr) × Has address addresses × (g ≡ new_allocation lifetime now address)
            → g ≡ Allocation (record { relayed = (allocation_at g).relayed; first_lifetime = seconds lifetime; expiry = later_by (seconds lifetime) now; is_expired = false })
        by g (address, there, e) = rw e refl

pub run-steadily : HandshakeEndsSteadily
run-steadily local remote config seed delay start now calls packet count slots extras lifetime some prompt run t is empty said enough room within =
    let s = initial Udp local remote config seed in
    let last = state_after_all s calls in
    let fit = kept-behind AreFit fit-stays s calls (
      initial-steady Udp local remote config seed,
      initial-single Udp local remote config seed,
      initial-GrantsHaveAllocations Udp local remote config seed,
    ) in
    by (passes delay start (time_of_all start calls) now last (all-on delay start start s calls (begins local remote config seed delay start some prompt) run) t) fit
  where
    last : State
    last = state_after_all (initial Udp local remote config seed) calls

    paced : HasRoom count slots extras last.config.request_cadence delay (min last.config.refresh_ahead (seconds 150))
    paced = subst (λ (c : Config). HasRoom count slots extras c.request_cadence delay (min c.refresh_ahead (seconds 150))) (sym (run-configured (initial Udp local remote config seed) calls)) room

    by : IsStage delay start now last → AreFit last → IsSteady count slots extras delay now (state_after (Recv packet now) last)
    by (new p u none zero) fit = absurd (not-new last Authenticating is.phase (λ f. cc) u.phase)
    by (first p x a e q ls zero over) fit = absurd (let no : Requesting ≡ Authenticating = sym e ∙ is.phase in cc)
    by (waiting p x a e w) fit = absurd (let no : record { packet = w.packet; is_request = true } ∷ [] ≡ [] = sym w.queued ∙ empty in cc)
    by (second p x a e left) fit = steady-next count slots extras delay (second_by delay start last) now lifetime packet last fit p x a t.on_time.in_range is empty said enough paced within
    by (done e) fit = absurd (let no : Allocated ≡ Authenticating = sym e ∙ is.phase in cc)
