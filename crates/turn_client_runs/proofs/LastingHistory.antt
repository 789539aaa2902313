-- What came before in a run, while no grant is lost.
use Rattle.turn_client_laws.proofs.Common.{◌≡◌, ℕ, zero, suc, ◌+◌, ◌-◌, ◌^◌, ◌<◌, ◌≤◌, min, Bool, true, false, cond, not, ◌&&◌, ◌||◌, leb, eqb, List, [], ◌∷◌, ◌++◌, length, None, refl, inl, inr, ap}
use Rattle.turn_client_laws.proofs.Common.{sym, subst, ◌∙◌, arith, filter, map, nat_le, list_any, and_parts, and_right, eq-eqb, le-leb, leb-true, lt-leb, not-true, or_cases, or_left, or_parts}
use Rattle.turn_client_laws.proofs.Common.{or_right, length-append, filter-append}
use Rattle.turn_client_laws.proofs.Machine.{TransportType, id_of, is_outstanding, timed_out_transaction, transaction_timeout, Timers, resends_of, wait_at, Transaction, timers_of, fresh_id, State}
use Rattle.turn_client_laws.proofs.Machine.{agent_of, waits_from, state_after, Call, Recv, is_kept, Grant, Listing, Permission, Channel, Has, find-none}
use Rattle.turn_client_laws.proofs.Laws.{has-any, fresh-free}
use Rattle.turn_client_runs.specs.History.{History, is_replied, IsSeldom, all_waits, extra_since, first_made, is_extra, lets_channel_go, lets_permission_go, lost, waited, was_let_go, with_call}
use Rattle.turn_client_runs.specs.Lasting.{expiry_of}
use Rattle.turn_client_runs.proofs.AppendLemmas.{has-last}
use Rattle.turn_client_runs.proofs.LastingStands.{AreLetGo, Goes, IsKept, IsKnown, IsPending, IsRequested, IsWell, Stands, due_of, kept-changed, requested-more, still-paced, Lag}
use Rattle.turn_client_runs.proofs.SilenceLemmas.{waited-mono}

-- ---- waits

-- once the last wait is over, all are
all-waited : (timers : Timers) (transport : TransportType) (r : ℕ) → resends_of timers transport ≤ r → all_waits timers transport ≤ waited timers transport r + wait_at timers transport r
all-waited timers transport r last = waited-mono timers transport (suc (resends_of timers transport)) (suc r) (omega (arith, last))

-- no request waits from before it is made
pub from-later : (now : ℕ) (s : State) → now ≤ 2 ^ 62 → now ≤ waits_from now s
from-later now s range = by s.config.timed_from_send
  where
    by : (timed : Bool) → now ≤ cond timed (2 ^ 63 - 1) now
    by true = omega (arith, range)
    by false = omega arith

pub waited-next : (timers : Timers) (transport : TransportType) (r : ℕ) → waited timers transport (r + 1) ≡ waited timers transport r + wait_at timers transport r
waited-next timers transport r =
    let next : suc r ≡ r + 1 = omega arith in
    subst (λ (n : ℕ). waited timers transport n ≡ waited timers transport r + wait_at timers transport r) next refl

-- a request whose reply may yet come has not timed out
pub none-over_yet : (delay time : ℕ) (past : History) (s : State) → delay < all_waits (timers_of s.config) s.transport → time ≤ 2 ^ 62
    → ((x : Transaction) → Has x s.transactions → past.made x.id + waited (timers_of s.config) s.transport x.resends ≤ x.last_send)
    → ((x : Transaction) → Has x s.transactions → time ≤ past.made x.id + delay)
    → timed_out_transaction (agent_of s) time ≡ None
none-over_yet delay time past s prompt range aged heard = find-none _ s.transactions (λ x h. by x (aged x h) (heard x h) (leb (resends_of timers s.transport) x.resends) refl)
  where
    timers : Timers
    timers = timers_of s.config

    by : (x : Transaction) → past.made x.id + waited timers s.transport x.resends ≤ x.last_send → time ≤ past.made x.id + delay → (b : Bool) → leb (resends_of timers s.transport) x.resends ≡ b
        → (leb (resends_of timers s.transport) x.resends && leb (transaction_timeout timers s.transport x) time) ≡ false
    by x old late false e = rw e refl
    by x old late true e =
        let all = all-waited timers s.transport x.resends (leb-true (resends_of timers s.transport) x.resends e) in
        and_right _ _ (lt-leb (min (x.last_send + wait_at timers s.transport x.resends) (2 ^ 63 - 1)) time (omega (arith, prompt, range, old, late, all)))

-- ---- IDs

-- no outstanding request has the next ID
pub old-apart : (s : State) (x : Transaction) → Has x s.transactions → eqb x.id (fresh_id s) ≡ false
old-apart s x there = by (eqb x.id (fresh_id s)) refl
  where
    by : (b : Bool) → eqb x.id (fresh_id s) ≡ b → eqb x.id (fresh_id s) ≡ false
    by false e = e
    by true e =
        let free = (or_parts (is_outstanding (fresh_id s) s.transactions) _ (fresh-free s)).0 in
        let no : false ≡ true = sym free ∙ has-any (λ (t : Transaction). eqb t.id (fresh_id s)) x s.transactions there e in
        cc

-- outstanding requests have different IDs, also with a new one
pub lone-more : (s : State) (xs : List Transaction) (new : Transaction) → new.id ≡ fresh_id s → ((x : Transaction) → Has x xs → Has x s.transactions)
    → ((x y : Transaction) → Has x xs → Has y xs → x.id ≡ y.id → x ≡ y)
    → (x y : Transaction) → Has x (xs ++ new ∷ []) → Has y (xs ++ new ∷ []) → x.id ≡ y.id → x ≡ y
lone-more s xs new fresh old lone x y hx hy e = elim (has-last x xs new hx) [
  | inl ox ↦ elim (has-last y xs new hy) [
    | inl oy ↦ lone x y ox oy e
    | inr is ↦ absurd (apart x ox (e ∙ (ap (λ (z : Transaction). z.id) is ∙ fresh)))
  ]
  | inr is ↦ elim (has-last y xs new hy) [
    | inl oy ↦ absurd (apart y oy (sym e ∙ (ap (λ (z : Transaction). z.id) is ∙ fresh)))
    | inr as_well ↦ is ∙ sym as_well
  ]
]
  where
    apart : (z : Transaction) → Has z xs → z.id ≡ fresh_id s → ⊥
    apart z h same = let no : false ≡ true = sym (old-apart s z (old z h)) ∙ eq-eqb z.id (fresh_id s) same in cc

-- ---- a call is made

-- the times of lost refreshes come first
pub extra-more : (now : ℕ) (past : History) (gs : List Grant) (since : ℕ)
    → length (filter (λ time. nat_le since time) (map (λ g. now) gs ++ past.extra)) ≡ length (filter (λ time. nat_le since time) (map (λ g. now) gs)) + extra_since since past
extra-more now past gs since =
    ap length (filter-append (λ time. nat_le since time) (map (λ g. now) gs) past.extra)
    ∙ length-append (filter (λ time. nat_le since time) (map (λ g. now) gs)) (filter (λ time. nat_le since time) past.extra)

-- each of them counts
pub lost-more : (now : ℕ) (gs : List Grant) (since : ℕ) → since ≤ now → length (filter (λ time. nat_le since time) (map (λ g. now) gs)) ≡ length gs
lost-more now [] since early = refl
lost-more now (g ∷ gs) since early = rw (le-leb since now early) (ap suc (lost-more now gs since early))

-- what was let go is so after a call
pub call-lets_go : (call : Call) (now : ℕ) (past : History) (s : State) → AreLetGo past (with_call call now s past)
call-lets_go call now past s (Permission ip progress) e = or_left (past.permission_let_go ip) (lets_permission_go call s ip) e
call-lets_go call now past s (Channel number peer progress) e = or_left (past.channel_let_go number peer) (lets_channel_go call s peer) e
call-lets_go call now past s g e = cc

-- these requests were made when they were, and no fewer packets are extra
pub record GoesOn (xs : List Transaction) (past later : History) : Type 0 where
  pub same : (x : Transaction) → Has x xs → later.made x.id ≡ past.made x.id
  pub more : (since : ℕ) → extra_since since past ≤ extra_since since later
  pub let_go : AreLetGo past later

pub call-goes_on : (call : Call) (now : ℕ) (past : History) (s : State) → GoesOn s.transactions past (with_call call now s past)
call-goes_on call now past s = record { same = same; more = λ since. by (is_extra call s) since; let_go = call-lets_go call now past s }
  where
    same : (x : Transaction) → Has x s.transactions → cond (eqb x.id (fresh_id s)) (first_made call now s past) (past.made x.id) ≡ past.made x.id
    same x h = rw (old-apart s x h) refl

    one : (since : ℕ) (b : Bool)
        → length (filter (λ time. nat_le since time) past.extra) ≤ length (cond b (now ∷ filter (λ time. nat_le since time) past.extra) (filter (λ time. nat_le since time) past.extra))
    one since true = omega arith
    one since false = omega arith

    by : (b : Bool) (since : ℕ)
        → length (filter (λ time. nat_le since time) past.extra) ≤ length (filter (λ time. nat_le since time) (cond b (now ∷ past.extra) (map (λ g. now) (lost call s) ++ past.extra)))
    by true since = one since (leb since now)
    by false since = rw (extra-more now past (lost call s) since) (omega arith)

-- a call that changes nothing answers no challenge and ends no row
pub same-row : (call : Call) (now : ℕ) (past : History) (s : State) → state_after call s ≡ s → s.challenges ≤ past.challenged → s.challenges ≤ (with_call call now s past).challenged
same-row (Recv packet received) now past s same row = by (is_extra (Recv packet received) s) (is_replied (id_of packet.payload) (Recv packet received) s) refl
  where
    by : (a b : Bool) → is_replied (id_of packet.payload) (Recv packet received) s ≡ b → s.challenges ≤ cond a (past.challenged + 1) (cond b 0 past.challenged)
    by true b e = omega (arith, row)
    by false false e = row
    by false true e =
        let listed = list_any (λ (l : Listing). eqb l.id (id_of packet.payload)) s.listed in
        let (both, not) = and_parts (listed && is_outstanding (id_of packet.payload) s.transactions) _ e in
        let was = (and_parts listed (is_outstanding (id_of packet.payload) s.transactions) both).1 in
        let still : is_outstanding (id_of packet.payload) (state_after (Recv packet received) s).transactions ≡ true =
        subst (λ (x : State). is_outstanding (id_of packet.payload) x.transactions ≡ true) (sym same) was in
        let no : false ≡ true = sym (not-true _ not) ∙ still in
        cc
same-row call now past s same row = row

-- what an extra packet adds
pub call-extra : (call : Call) (now : ℕ) (past : History) (s : State) → is_extra call s ≡ true → (since : ℕ) → since ≤ now → extra_since since past + 1 ≤ extra_since since (with_call call now s past)
call-extra call now past s e since early = rw e (by (leb since now) (Rattle.std.proofs.lemmas.Bool.le-leb since now early))
  where
    by : (b : Bool) → b ≡ true
        → length (filter (λ time. nat_le since time) past.extra) + 1 ≤ length (cond b (now ∷ filter (λ time. nat_le since time) past.extra) (filter (λ time. nat_le since time) past.extra))
    by true always = omega arith
    by false never = cc

-- the request that a call makes
pub call-made : (call : Call) (now : ℕ) (past : History) (s : State) → (with_call call now s past).made (fresh_id s) ≡ first_made call now s past
call-made call now past s = rw (eq-eqb (fresh_id s) (fresh_id s) refl) refl

-- ---- with more extra packets, all is as it was

module _ (count slots extras : ℕ) (lag : Lag) (delay now : ℕ) (past later : History) (transactions : List Transaction) (s : State) (same : (x : Transaction) → Has x transactions → later.made x.id ≡ past.made x.id)
    (more : (since : ℕ) → extra_since since past ≤ extra_since since later) where
  pub requested-later : (when : ℕ → Type 0) (g : Grant) → IsRequested when past transactions s.listed g → IsRequested when later transactions s.listed g
  requested-later when g = requested-more when past later transactions transactions s.listed s.listed g same (λ x h. h) (λ l h for. h)

  pub stands-later : (g : Grant) → Stands count slots extras lag delay now past transactions s g → Stands count slots extras lag delay now later transactions s g
  stands-later g was = record {
    granted = was.granted;
    room = was.room;
    long = was.long;
    either = elim was.either [
      | inl a ↦ inl (requested-later (λ made. made + delay < expiry_of g) g a)
      | inr idle ↦
          let used_more = more (due_of s g) in
          let soon = idle.soon in
          let paused = idle.paused in
          inr (record {
            unasked = idle.unasked;
            near = idle.near;
            soon = still-paced _ _ lag.since _ _ (due_of s g) (due_of s g) slots _ _ refl refl refl (omega (arith, used_more)) soon;
            paused = still-paced _ _ _ _ _ (due_of s g) (due_of s g) slots _ _ refl refl refl (omega (arith, used_more)) paused;
          })
    ];
  }

  well-later : AreLetGo past later → (g : Grant) → IsWell count slots extras lag delay now past transactions s g → IsWell count slots extras lag delay now later transactions s g
  well-later let_go g (inl (waits, pending)) = inl (waits, requested-later (λ made. made ≤ now) g pending)
  well-later let_go g (inr (inl stands)) = inr (inl (stands-later g stands))
  well-later let_go g (inr (inr (inl (freed, leased)))) = inr (inr (inl (let_go g freed, leased)))
  well-later let_go g (inr (inr (inr reserved))) = inr (inr (inr reserved))

-- what waits is kept, or was let go: so it is in a longer history
pub known-later : (past later : History) → AreLetGo past later → (g : Grant) → (is_kept g || was_let_go past g) ≡ true → (is_kept g || was_let_go later g) ≡ true
known-later past later on g e = elim (or_cases (is_kept g) (was_let_go past g) e) [ inl kept ↦ or_left (is_kept g) _ kept | inr freed ↦ or_right (is_kept g) _ (on g freed) ]

-- the same requests were made when they were, and no more packets are extra than may be
pub kept-with : (count slots extras : ℕ) (lag : Lag) (delay now : ℕ) (past later : History) (s : State) → ((x : Transaction) → Has x s.transactions → later.made x.id ≡ past.made x.id)
    → IsSeldom extras s.config.refresh_ahead now later → s.challenges ≤ later.challenged → ((g : Grant) → Has g s.grants → IsKnown now later s g)
    → ((g : Grant) → Has g s.grants → IsWell count slots extras lag delay now later s.transactions s g) → IsKept count slots extras lag delay now past s.transactions s
    → IsKept count slots extras lag delay now later s.transactions s
kept-with count slots extras lag delay now past later s same seldom row known each k =
    kept-changed count slots extras lag delay now past later s.transactions s.transactions s same seldom k s.grants s.listed s.events s.challenges s.ids s.closes (record {
      row = row;
      asked = k.asked;
      size = k.size;
      single = k.single;
      linked = k.linked;
      in_allocations = k.in_allocations;
      known = known;
      each = each;
    })

pub kept-later : (count slots extras : ℕ) (lag : Lag) (delay now : ℕ) (past later : History) (s : State) → GoesOn s.transactions past later → IsSeldom extras s.config.refresh_ahead now later
    → s.challenges ≤ later.challenged → IsKept count slots extras lag delay now past s.transactions s → IsKept count slots extras lag delay now later s.transactions s
kept-later count slots extras lag delay now past later s on seldom row k =
    kept-with count slots extras lag delay now past later s on.same seldom row
    (λ g there. let (waits, due) = k.known g there in (λ w. known-later past later on.let_go g (waits w), due))
    (λ g there. well-later count slots extras lag delay now past later s.transactions s on.same on.more on.let_go g (k.each g there)) k

pub goes-later : (past later : History) (ys : List Transaction) (s t : State) → GoesOn s.transactions past later → Goes later later s.transactions ys s t → Goes past later s.transactions ys s t
goes-later past later ys s t on goes = record {
  let_go = on.let_go;
  remain = goes.remain;
  follow = λ until g there waits pending none. goes.follow until g there waits (requested-later 0 0 0 (record { late = 0; since = 0; pace = 0 }) 0 0 past later s.transactions s on.same on.more (λ made. made ≤ until) g pending) none;
}

-- how many challenges came is nothing to the grants
pub goes-row : (past later : History) (row : ℕ) (xs ys : List Transaction) (s t : State) → Goes past (record later { challenged = row }) xs ys s t → Goes past later xs ys s t
goes-row past later row xs ys s t goes = record {
  let_go = goes.let_go;
  remain = goes.remain;
  follow = λ until g there waits pending none. elim (goes.follow until g there waits pending none) [ inl (here, still) ↦ inl (here, as-later until g still) | inr is ↦ inr is ];
}
  where
    as-later : (until : ℕ) (g : Grant) → IsPending until (record later { challenged = row }) ys t.listed g → IsPending until later ys t.listed g
    as-later until g p = requested-more (λ made. made ≤ until) (record later { challenged = row }) later ys ys t.listed t.listed g (λ x h. refl) (λ x h. h) (λ l h for. h) p

-- the first wait is one of all
pub first-wait : (timers : Timers) (transport : TransportType) → wait_at timers transport 0 ≤ all_waits timers transport
first-wait timers transport =
    let more = waited-mono timers transport (suc zero) (suc (resends_of timers transport)) (omega arith) in
    let one : waited timers transport (suc zero) ≡ 0 + wait_at timers transport 0 = refl in
    omega (arith, more, one)
