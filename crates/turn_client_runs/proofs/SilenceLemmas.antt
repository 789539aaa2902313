-- A client whose server does not answer.
use Rattle.turn_client_laws.proofs.Common.{◌≡◌, ◌⊎◌, ℕ, zero, suc, ◌+◌, ◌^◌, ◌<◌, ◌≤◌, max, Bool, true, false, ltb, List, [], ◌∷◌, drop, sum, Some, None, refl, inl, inr, ap, sym, subst, ◌∙◌, arith}
use Rattle.turn_client_laws.proofs.Common.{if◌then◌else◌, is_some, cases_lt, eq-eqb, le-leb, le-ltb, leb-true, lt-ltb, ltb-true, SocketAddr}
use Rattle.turn_client_laws.proofs.Machine.{TransportType, Udp, Tcp, due, is_due, is_timed_out, resent, sent_again, timed_out_transaction, transaction_timeout, Timers, doubled_sum, doubled_wait}
use Rattle.turn_client_laws.proofs.Machine.{resends_of, schedule, udp_resends, wait_at, Transaction, timers_of, State, agent_of, initial, Phase, New, Requesting, Closed, Queued, allocations}
use Rattle.turn_client_laws.proofs.Machine.{transaction_ended, first_allocate, fresh_id, TurnEvent, first_sent, is_paused, pause_end, idle_step, next_transmit, queue_step, reply_step, transmit_step}
use Rattle.turn_client_laws.proofs.Machine.{without_first_reply, answer_by, answer_step, next_offer, poll_step, timed_out_step, timed_step, state_after, state_after_all, Call, Poll, PollTransmit}
use Rattle.turn_client_laws.proofs.Machine.{PollEvent}
use Rattle.turn_client_laws.proofs.Laws.{none-queued, call-keeps, not_due-transmit}
use Rattle.turn_agent.proofs.ScheduleLemmas.{sum-schedule}
use Rattle.turn_client_runs.proofs.ChallengeLemmas.{run-configured}
use Rattle.turn_client_runs.specs.History.{waited}
use Rattle.turn_client_runs.specs.OnTime.{IsOnTime, time_of, time_of_all}
use Rattle.turn_client_runs.specs.Silence.{BringsNothing, GivesUpInSilence, RunsInSilence}

-- ---- the waits

waited-suc : (timers : Timers) (transport : TransportType) (n : ℕ) → waited timers transport (suc n) ≡ waited timers transport n + wait_at timers transport n
waited-suc timers transport n = refl

pub waited-mono : (timers : Timers) (transport : TransportType) (m n : ℕ) → m ≤ n → waited timers transport m ≤ waited timers transport n
waited-mono timers transport m zero h = let e : m ≡ 0 = omega (arith, h) in rw e (omega arith)
waited-mono timers transport m (suc n) h = elim (cases_lt n m) [
  | inl over ↦ let e : m ≡ suc n = omega (arith, h, over) in rw e (omega arith)
  | inr within ↦ omega (arith, waited-mono timers transport m n within)
]

doubled-last : (first greatest place n : ℕ) → doubled_sum first greatest place (suc n) ≡ doubled_sum first greatest place n + doubled_wait first greatest (place + n)
unfolding doubled_sum
doubled-last first greatest place zero = let e : place + 0 ≡ place = omega arith in rw e (omega arith)
doubled-last first greatest place (suc n) =
    let e : place + suc n ≡ place + 1 + n = omega arith in
    rw e (omega (arith, doubled-last first greatest (place + 1) n))

waited-doubled : (timers : Timers) (n : ℕ) → n ≤ udp_resends timers → waited timers Udp n ≡ doubled_sum timers.initial timers.max 0 n
unfolding doubled_sum
waited-doubled timers zero h = refl
waited-doubled timers (suc n) h =
    let inside : ltb n (udp_resends timers) ≡ true = lt-ltb n (udp_resends timers) (omega (arith, h)) in
    let others = waited-doubled timers n (omega (arith, h)) in
    let e : 0 + n ≡ n = omega arith in
    let more : doubled_sum timers.initial timers.max 0 (suc n) ≡ doubled_sum timers.initial timers.max 0 n + doubled_wait timers.initial timers.max n = subst
    (λ (k : ℕ). doubled_sum timers.initial timers.max 0 (suc n) ≡ doubled_sum timers.initial timers.max 0 n + doubled_wait timers.initial timers.max k) e
    (doubled-last timers.initial timers.max 0 n) in
    rw (inside, others) (sym more)

waited-all : (timers : Timers) (transport : TransportType) → waited timers transport (suc (resends_of timers transport)) ≡ sum (schedule timers)
waited-all timers Tcp = omega arith
waited-all timers Udp =
    let last : ltb (udp_resends timers) (udp_resends timers) ≡ false = le-ltb _ _ (omega arith) in
    rw (last, sum-schedule timers, waited-doubled timers (udp_resends timers) (omega arith)) refl

-- ---- a client that waits

abbrev pub timers : State → Timers
timers s = timers_of s.config

-- nothing was sent, and no time has passed
pub record IsUnsent (start now : ℕ) (s : State) : Type 0 where
  pub phase : s.phase ≡ New
  pub queue : s.queue ≡ []
  pub events : s.events ≡ []
  pub closes : s.closes ≡ []
  pub none : s.transactions ≡ []
  pub never : s.last_send ≡ None
  pub begins : now ≡ start

-- the first request was sent so often, each time as soon as it was due
record IsAsking (start now : ℕ) (s : State) : Type 0 where
  phase : s.phase ≡ Requesting
  queue : s.queue ≡ []
  events : s.events ≡ []
  closes : s.closes ≡ []
  transaction : Transaction
  only : s.transactions ≡ transaction ∷ []
  within : transaction.resends ≤ resends_of (timers s) s.transport
  sent : transaction.last_send ≡ start + waited (timers s) s.transport transaction.resends
  waits : transaction.resends < resends_of (timers s) s.transport → now ≤ transaction.last_send + wait_at (timers s) s.transport transaction.resends

data IsSilent (start now : ℕ) (s : State) : Type 0 where
  unsent : IsUnsent start now s → IsSilent start now s
  asking : IsAsking start now s → IsSilent start now s
  over : s.phase ≡ Closed → IsSilent start now s

-- ---- what it sends

pub queue-idle : (now : ℕ) (s : State) (p : Phase) → s.queue ≡ [] → s.phase ≡ p → queue_step now s ≡ idle_step p now s
queue-idle now s p e f = rw (none-queued now s e, f) refl

pub unsent-transmits : (start before now : ℕ) (s : State) → IsUnsent start before s → transmit_step now s ≡ idle_step New now s
unsent-transmits start before now s u =
    let none : due (agent_of s) now ≡ None = rw u.none refl in
    let early : pause_end s ≡ 0 = rw u.never refl in
    let idle : is_paused now s ≡ false = rw early (le-ltb now 0 (omega arith)) in
    not_due-transmit now s none ∙ rw idle (queue-idle now s New u.queue u.phase)

-- one transaction, and the test of it
module _ (now : ℕ) (s : State) (x : Transaction) (only : s.transactions ≡ x ∷ []) where
  due-some : is_due (timers s) s.transport now x ≡ true → due (agent_of s) now ≡ Some x
  due-some e = rw (only, e) refl

  due-none : is_due (timers s) s.transport now x ≡ false → due (agent_of s) now ≡ None
  due-none e = rw (only, e) refl

  over-some : is_timed_out (timers s) s.transport now x ≡ true → timed_out_transaction (agent_of s) now ≡ Some x
  over-some e = rw (only, e) refl

  over-none : is_timed_out (timers s) s.transport now x ≡ false → timed_out_transaction (agent_of s) now ≡ None
  over-none e = rw (only, e) refl

  resent-one : resent x.id now s.transactions ≡ sent_again now x ∷ []
  resent-one = rw (only, eq-eqb x.id x.id refl) refl

resent-state : (now : ℕ) (s : State) (x : Transaction) → due (agent_of s) now ≡ Some x → (transmit_step now s).1 ≡ record s { transactions = resent x.id now s.transactions; last_send = Some now }
resent-state now s x e = rw (e, transmit_step) refl

resends : (now : ℕ) (s : State) (x : Transaction) → due (agent_of s) now ≡ Some x → next_transmit now s ≡ None → ⊥
resends now s x e none = let no : is_some (next_transmit now s) ≡ false = rw none refl in let yes : is_some (next_transmit now s) ≡ true = rw (e, transmit_step, is_some) refl in cc

-- ---- time passes

pub unsent-waits : (start before now : ℕ) (s : State) → IsUnsent start before s → IsOnTime before now s → IsUnsent start now s
unsent-waits start before now s u o = record {
  phase = u.phase;
  queue = u.queue;
  events = u.events;
  closes = u.closes;
  none = u.none;
  never = u.never;
  begins = elim (cases_lt before now) [
    | inl early ↦ absurd (sends (o.punctual before (omega arith) early))
    | inr late ↦ let b = u.begins in let l = o.later in omega (arith, b, l, late)
  ];
}
  where
    sends : next_transmit before s ≡ None → ⊥
    sends e =
        let yes : is_some (next_transmit before s) ≡ true = rw (unsent-transmits start before before s u, is_some) refl in
        let no : is_some (next_transmit before s) ≡ false = rw e refl in
        cc

asking-waits : (start before now : ℕ) (s : State) → IsAsking start before s → IsOnTime before now s → IsAsking start now s
asking-waits start before now s a o = record {
  phase = a.phase;
  queue = a.queue;
  events = a.events;
  closes = a.closes;
  transaction = a.transaction;
  only = a.only;
  within = a.within;
  sent = a.sent;
  waits = λ more. elim (cases_lt (max before end) now) [
    | inl early ↦ absurd (resends (max before end) s x (found more (max before end) (omega arith)) (o.punctual (max before end) (omega arith) early))
    | inr late ↦ let w = a.waits more in omega (arith, late, w)
  ];
}
  where
    x : Transaction
    x = a.transaction

    end : ℕ
    end = x.last_send + wait_at (timers s) s.transport x.resends

    found : x.resends < resends_of (timers s) s.transport → (time : ℕ) → end ≤ time → due (agent_of s) time ≡ Some x
    found more time past =
        let due_now : is_due (timers s) s.transport time x ≡ true =
        rw (lt-ltb x.resends (resends_of (timers s) s.transport) more) (le-leb (transaction_timeout (timers s) s.transport x) time (omega (arith, past))) in
        due-some time s x a.only due_now

-- ---- each call

asking-sends : (start now : ℕ) (s : State) → now ≤ 2 ^ 62 → IsAsking start now s → IsAsking start now (transmit_step now s).1
asking-sends start now s range a = by (is_due (timers s) s.transport now x) refl
  where
    x : Transaction
    x = a.transaction

    Next : State → Type 0
    Next t = IsAsking start now t

    end : ℕ
    end = x.last_send + wait_at (timers s) s.transport x.resends

    again : State
    again = record s { transactions = sent_again now x ∷ []; last_send = Some now }

    next : x.resends < resends_of (timers s) s.transport → end ≤ now → Next again
    next more past =
        let e : x.resends + 1 ≡ suc x.resends = omega arith in
        record {
          phase = a.phase;
          queue = a.queue;
          events = a.events;
          closes = a.closes;
          transaction = sent_again now x;
          only = refl;
          within = omega (arith, more);
          sent = rw e (let w = a.waits more in let is = a.sent in omega (arith, waited-suc (timers s) s.transport x.resends, w, is, past));
          waits = λ left. omega arith;
        }

    idle : Next (if is_paused now s then reply_step s else queue_step now s).1
    idle = wait (is_paused now s)
      where
        same : (q : List Queued) → q ≡ [] → without_first_reply q ≡ q
        same q e = rw e refl

        wait : (b : Bool) → Next (if b then reply_step s else queue_step now s).1
        wait true = subst Next (sym (ap (λ (q : List Queued). record s { queue = q }) (same s.queue a.queue))) a
        wait false = rw (queue-idle now s Requesting a.queue a.phase) a

    by : (b : Bool) → is_due (timers s) s.transport now x ≡ b → Next (transmit_step now s).1
    by false e = rw (not_due-transmit now s (due-none now s x a.only e)) idle
    by true e =
        let (more, past) = Rattle.std.proofs.lemmas.Bool.and_parts (ltb x.resends (resends_of (timers s) s.transport)) _ e in
        let late = leb-true (transaction_timeout (timers s) s.transport x) now past in
        let is : (transmit_step now s).1 ≡ again =
        resent-state now s x (due-some now s x a.only e) ∙ ap (λ (xs : List Transaction). record s { transactions = xs; last_send = Some now }) (resent-one now s x a.only) in
        subst Next (sym is) (next (ltb-true x.resends (resends_of (timers s) s.transport) more) (omega (arith, late, range)))

unsent-sends : (start now : ℕ) (s : State) → IsUnsent start now s → IsAsking start now (transmit_step now s).1
unsent-sends start now s u = rw (unsent-transmits start now now s u) (record {
  phase = refl;
  queue = u.queue;
  events = u.events;
  closes = u.closes;
  transaction = first_sent (fresh_id (record s { phase = Requesting })) s.remote now (first_allocate s (fresh_id s));
  only = rw u.none refl;
  within = omega arith;
  sent = let b = u.begins in omega (arith, b);
  waits = λ more. omega arith;
})

-- nothing is pending
pub polls : (now : ℕ) (s : State) → s.events ≡ [] → s.queue ≡ [] → next_offer s ≡ None → poll_step now s ≡ timed_out_step now s
polls now s e q o = rw (e, q, o, poll_step) refl

asking-polls : (start now : ℕ) (s : State) → IsAsking start now s → IsSilent start now (poll_step now s).1
asking-polls start now s a = rw (polls now s a.events a.queue (rw a.phase refl)) (by (is_timed_out (timers s) s.transport now x) refl)
  where
    x : Transaction
    x = a.transaction

    answers : (p : Phase) (closes : List SocketAddr) → p ≡ Requesting → closes ≡ [] → (answer_by closes p (allocations s) None now s).1 ≡ s
    answers p closes e f = rw (e, f) refl

    waits : (p : Phase) → p ≡ Requesting → (timed_step p None now s).1 ≡ (answer_step None now s).1
    waits p e = rw e refl

    gives_up : (p : Phase) (u : State) → p ≡ Requesting → (timed_step p (Some x.id) now u).1.phase ≡ Closed
    gives_up p u e = rw e refl

    by : (b : Bool) → is_timed_out (timers s) s.transport now x ≡ b → IsSilent start now (timed_out_step now s).1
    by true e = rw (over-some now s x a.only e, timed_out_step) (over (gives_up s.phase (transaction_ended x.id s) a.phase))
    by false e =
        rw (over-none now s x a.only e, timed_out_step) (subst (IsSilent start now) (sym (waits s.phase a.phase ∙ answers s.phase s.closes a.phase a.closes)) (asking a))

pub unsent-same : (start now : ℕ) (s : State) → IsUnsent start now s → (poll_step now s).1 ≡ s
unsent-same start now s u = rw (polls now s u.events u.queue (rw u.phase refl)) (rw (none, timed_out_step) (waits s.phase u.phase))
  where
    none : timed_out_transaction (agent_of s) now ≡ None
    none = rw u.none refl

    waits : (p : Phase) → p ≡ New → (timed_step p None now s).1 ≡ s
    waits p e = rw e refl

pub unsent-polls : (start now : ℕ) (s : State) → IsUnsent start now s → IsUnsent start now (poll_step now s).1
unsent-polls start now s u = subst (IsUnsent start now) (sym (unsent-same start now s u)) u

closed-stays : (start now : ℕ) (s : State) (call : Call) → s.phase ≡ Closed → IsSilent start now (state_after call s)
closed-stays start now s call e = over ((call-keeps call s).0 e)

pub no-event : (s : State) → s.events ≡ [] → record s { events = drop 1 s.events } ≡ s
no-event s e = ap (λ (es : List TurnEvent). record s { events = es }) (same s.events e)
  where
    same : (es : List TurnEvent) → es ≡ [] → drop 1 es ≡ es
    same es e = rw e refl

time-passes : (start before now : ℕ) (s : State) → IsSilent start before s → IsOnTime before now s → IsSilent start now s
time-passes start before now s (unsent u) o = unsent (unsent-waits start before now s u o)
time-passes start before now s (asking a) o = asking (asking-waits start before now s a o)
time-passes start before now s (over e) o = over e

call-silent : (start before : ℕ) (s : State) (call : Call) → IsSilent start before s → IsOnTime before (time_of before call) s → BringsNothing call s
    → IsSilent start (time_of before call) (state_after call s)
call-silent start before s call silent o brings = by call (time-passes start before (time_of before call) s silent o) o.in_range brings
  where
    by : (c : Call) → IsSilent start (time_of before c) s → time_of before c ≤ 2 ^ 62 → BringsNothing c s → IsSilent start (time_of before c) (state_after c s)
    by (Poll now) (unsent u) r h = unsent (unsent-polls start now s u)
    by (Poll now) (asking a) r h = asking-polls start now s a
    by (PollTransmit now) (unsent u) r h = asking (unsent-sends start now s u)
    by (PollTransmit now) (asking a) r h = asking (asking-sends start now s r a)
    by PollEvent (unsent u) r h = subst (IsSilent start before) (sym (no-event s u.events)) (unsent u)
    by PollEvent (asking a) r h = subst (IsSilent start before) (sym (no-event s a.events)) (asking a)
    by (Poll now) (over e) r h = closed-stays start now s (Poll now) e
    by (PollTransmit now) (over e) r h = closed-stays start now s (PollTransmit now) e
    by PollEvent (over e) r h = closed-stays start before s PollEvent e
    by c silent r same = subst (IsSilent start (time_of before c)) (sym same) silent

all-silent : (start before : ℕ) (s : State) (calls : List Call) → IsSilent start before s → RunsInSilence before s calls → IsSilent start (time_of_all before calls) (state_after_all s calls)
all-silent start before s [] silent run = silent
all-silent start before s (call ∷ calls) silent (o, brings, run) =
    all-silent start (time_of before call) (state_after call s) calls (call-silent start before s call silent o brings) run

-- ---- the end

total : (s : State) → waited (timers s) s.transport (suc (resends_of (timers s) s.transport)) ≡ sum (schedule (timers s))
total s = waited-all (timers s) s.transport

ends : (start now : ℕ) (s : State) → IsSilent start now s → now ≤ 2 ^ 62 → next_transmit now s ≡ None → start + sum (schedule (timers s)) ≤ now → (state_after (Poll now) s).phase ≡ Closed
ends start now s (over e) r none late = (call-keeps (Poll now) s).0 e
ends start now s (unsent u) r none late =
    let yes : is_some (next_transmit now s) ≡ true = rw (unsent-transmits start now now s u, is_some) refl in
    let no : is_some (next_transmit now s) ≡ false = rw none refl in
    cc
ends start now s (asking a) r none late = rw (state_after, polls now s a.events a.queue (rw a.phase refl)) (last (cases_lt x.resends (resends_of (timers s) s.transport)))
  where
    x : Transaction
    x = a.transaction

    gives_up : (p : Phase) (u : State) → p ≡ Requesting → (timed_step p (Some x.id) now u).1.phase ≡ Closed
    gives_up p u e = rw e refl

    past : x.last_send + wait_at (timers s) s.transport x.resends ≤ now
    past =
        let is = a.sent in
        let more = waited-mono (timers s) s.transport (suc x.resends) (suc (resends_of (timers s) s.transport)) (let w = a.within in omega (arith, w)) in
        omega (arith, is, waited-suc (timers s) s.transport x.resends, more, total s, late)

    last : (x.resends < resends_of (timers s) s.transport) ⊎ (resends_of (timers s) s.transport ≤ x.resends) → (timed_out_step now s).1.phase ≡ Closed
    last (inl more) =
        let due_now : is_due (timers s) s.transport now x ≡ true =
        rw (lt-ltb x.resends (resends_of (timers s) s.transport) more) (le-leb (transaction_timeout (timers s) s.transport x) now (omega (arith, past))) in
        absurd (resends now s x (due-some now s x a.only due_now) none)
    last (inr all) =
        let over_now : is_timed_out (timers s) s.transport now x ≡ true =
        rw (le-leb (resends_of (timers s) s.transport) x.resends all) (le-leb (transaction_timeout (timers s) s.transport x) now (omega (arith, past))) in
        rw (over-some now s x a.only over_now, timed_out_step) (gives_up s.phase (transaction_ended x.id s) a.phase)

pub run-silent : GivesUpInSilence
run-silent transport local remote config seed start now calls run o none late =
    let first = initial transport local remote config seed in
    let last = state_after_all first calls in
    let begins : IsSilent start start first = unsent (record { phase = refl; queue = refl; events = refl; closes = refl; none = refl; never = refl; begins = refl }) in
    let silent = time-passes start (time_of_all start calls) now last (all-silent start start first calls begins run) o in
    ends start now last silent o.in_range none (rw (ap timers_of (run-configured first calls)) late)
