-- What `poll_transmit` changes while no grant is lost.
use Rattle.turn_client_laws.proofs.Common.{◌≡◌, ◌⊎◌, ℕ, ◌+◌, ◌*◌, ◌<◌, ◌≤◌, Bool, true, false, cond, not, ◌&&◌, ◌||◌, leb, List, [], ◌∷◌, length, drop, Option, Some, None, refl, inl, inr, ap, sym}
use Rattle.turn_client_laws.proofs.Common.{subst, ◌∙◌, arith, filter, filter_map, is_some, flat_map, slice_get, nat_le, if◌then◌else◌, list_any, option_map_or, and_parts, cases_Bool, cases_lt, eq-eqb, leb-true, lt-leb}
use Rattle.turn_client_laws.proofs.Common.{or_cases, or_left, or_right, list_any-append, none-some, same_Some, IpAddr}
use Rattle.turn_client_laws.proofs.Machine.{Transmit, due, first_sent, State, agent_of, Queued, Grant, Allocation, Permission, Channel, Relay, Active, Pending, Reserved, Listing, Purpose, ForRefresh}
use Rattle.turn_client_laws.proofs.Machine.{ForPermission, ForChannel, allocations, as_allocation, family_of, family_of_grant, has_request, is_for, is_of, is_ranked, same_ip, asked_lifetime}
use Rattle.turn_client_laws.proofs.Machine.{binding_indication}
use Rattle.turn_client_laws.proofs.Machine.{fresh_id, id_used, request_for, to_server, has_reply, is_paused, is_refreshable, keepalive_times, refresh_time, is_due_in, is_refresh_due, keepalive_step}
use Rattle.turn_client_laws.proofs.Machine.{Phase, Allocated, idle_step, is_allocated, next_refresh, refreshes_first, queue_step, front_sent, settled, id_in_header, waits_begun, refresh_purpose, refreshes_in, refreshes_of_rank, reply_in, reply_step, sent_at_once, transmit_step, Has}
use Rattle.std.proofs.lemmas.Nat.{mul-le}
use Rattle.turn_client_laws.proofs.Machine.{filter_map-has, first-has, has-filter, has-filter_map, has-flat_map, has-left, has-right}
use Rattle.turn_client_laws.proofs.Laws.{first_left, settled-first, same_family-self, IsReserved, no_reply-kept, not_due-transmit, no_reply-left}
use Rattle.std.specs.Prelude.{option_and_then}
use Rattle.std.proofs.lemmas.Slice.Eq.{bytes_eq-Decides}
use Rattle.std.specs.Net.Addr.{ipv4_octets, ipv6_segments}
use Rattle.std.specs.declared.net.ip_addr.IpAddr.TheVariants.{V4, V6}
use Rattle.turn_client_runs.specs.History.{History}
use Rattle.turn_client_runs.specs.Lasting.{expiry_of, queue_ahead}
use Rattle.turn_client_runs.proofs.AppendLemmas.{has-last}
use Rattle.turn_client_runs.proofs.LastingCounts.{passes, passes-more, passes-same}
use Rattle.turn_client_runs.proofs.LastingHistory.{lone-more}
use Rattle.turn_client_runs.proofs.LastingStands.{ahead-more, Goes, goes-more, goes-trans, granted-active, leased-active, kept-rest, requested-more, IsActive, IsAwaited, IsIdle, IsRequested, IsLoose}
use Rattle.turn_client_runs.proofs.LastingStands.{IsUnique, IsKept}
use Rattle.turn_client_runs.proofs.LastingStands.{IsRefreshing, Stands, allocation-stands, stands-early, bound, bound-le, extra-paced, soon-by, Lag, taken, due_of, left-paced, is_served, is_waiting, kind-due, not-waiting}
use Rattle.turn_client_runs.proofs.LastingStands.{served, used}
use Rattle.turn_client_runs.proofs.LastingSends.{due-sends, is-due, may-refresh, queue-idle}
use Rattle.turn_client_runs.proofs.LastingBegun.{goes-begun, kept-begun}
use Rattle.turn_client_runs.proofs.LastingSettled.{goes-settled, kept-settled}
use Rattle.turn_client_runs.proofs.LastingListings.{requests-more}
use Rattle.turn_client_runs.proofs.LastingTime.{bound-early}
use Rattle.turn_client_runs.proofs.GrantInputs.{IsLeased}

-- ---- what is refreshed next

-- the grant is due, and this refreshes it
pub record IsNext (now : ℕ) (s : State) (p : Purpose) : Type 0 where
  pub grant : Grant
  pub there : Has grant s.grants
  pub is_due : is_refresh_due now s grant ≡ true
  pub gives : refresh_purpose now grant ≡ Some p

next-in : (now : ℕ) (s : State) (p : Purpose) (a : Relay) → Has p (refreshes_in now s a) → IsNext now s p
next-in now s p a h = by (leb a.expiry a.expiry) (leb now a.expiry) h
  where
    of_rank : ℕ → List Purpose
    of_rank = refreshes_of_rank now s (family_of a.relayed)

    by : (c b : Bool) → Has p (cond b (flat_map of_rank (0 ∷ 1 ∷ 2 ∷ [])) []) → IsNext now s p
    by c false h = absurd h
    by c true h =
        let came = has-flat_map of_rank p (0 ∷ 1 ∷ 2 ∷ []) h in
        let test = is_due_in came.from (family_of a.relayed) now s in
        let (g, there, gives) = has-filter_map (refresh_purpose now) p (filter test s.grants) came.gives in
        let (here, passes) = has-filter test g s.grants there in
        record { grant = g; there = here; is_due = (and_parts _ (is_refresh_due now s g) passes).1; gives = gives }

pub next-of : (now : ℕ) (s : State) (p : Purpose) → slice_get (flat_map (refreshes_in now s) (allocations s)) 0 ≡ Some p → IsNext now s p
next-of now s p e =
    let came = has-flat_map (refreshes_in now s) p (allocations s) (first-has p (flat_map (refreshes_in now s) (allocations s)) e) in
    next-in now s p came.from came.gives

by-kind : (may asked : Bool) (time now : ℕ) → option_map_or (λ m. nat_le m now) (option_and_then (λ t. if may && not asked then Some t else None) (Some time)) false ≡ true
    → (asked ≡ false) × (time ≤ now)
by-kind true false time now e = (refl, leb-true time now e)
by-kind true true time now e = cc
by-kind false asked time now e = cc

pub due-unasked : (now : ℕ) (s : State) (g : Grant) → IsActive g → is_refresh_due now s g ≡ true → (has_request g s ≡ false) × (due_of s g ≤ now)
unfolding is_refresh_due refresh_time
due-unasked now s g granted due = by-kind (is_refreshable g s) (has_request g s) (due_of s g) now (rw (kind-due s.config.refresh_ahead g granted) at due)

-- ---- what it is for

pub same_ip-self : (a : IpAddr) → same_ip a a ≡ true
same_ip-self (V4 a) = (bytes_eq-Decides (ipv4_octets a) (ipv4_octets a)).1 refl
same_ip-self (V6 a) = (bytes_eq-Decides (ipv6_segments a) (ipv6_segments a)).1 refl

abbrev IsRefreshOf : Purpose → Grant → Type 0
IsRefreshOf p g = IsRefreshing p × (is_for p g ≡ true)

if-some : (b : Bool) (q p : Purpose) → cond b (Some q) None ≡ Some p → q ≡ p
if-some true q p e = same_Some q p e
if-some false q p e = absurd (none-some p e)

pub refresh-for : (now : ℕ) (g : Grant) (p : Purpose) → IsActive g → refresh_purpose now g ≡ Some p → IsRefreshOf p g
refresh-for now g p granted e = by g granted e
  where
    by : (g : Grant) → IsActive g → refresh_purpose now g ≡ Some p → IsRefreshOf p g
    by (Allocation a) granted e =
        subst (λ (q : Purpose). IsRefreshOf q (Allocation a)) (if-some (leb now a.expiry) (ForRefresh (family_of a.relayed) asked_lifetime) p e)
        (omega arith, same_family-self (family_of a.relayed) (family_of a.relayed) refl)
    by (Permission ip (Active expiry)) granted e =
        subst (λ (q : Purpose). IsRefreshOf q (Permission ip (Active expiry))) (if-some _ (ForPermission ip) p e) (tt, same_ip-self ip)
    by (Channel number peer (Active expiry)) granted e =
        subst (λ (q : Purpose). IsRefreshOf q (Channel number peer (Active expiry))) (if-some _ (ForChannel number peer) p e) (tt, eq-eqb number number refl)
    by g granted e = absurd granted

-- a purpose that is for a permission or a channel is for no other one
pub leased-unique : (p : Purpose) (g : Grant) → IsLeased g → is_for p g ≡ true → IsUnique p
leased-unique (ForPermission ip) (Permission other (Active lease)) h e = tt
leased-unique (ForChannel number peer) (Channel other to (Active lease)) h e = tt
leased-unique p g h e = grind arith

pub reserved-unique : (p : Purpose) (g : Grant) → IsReserved g → is_for p g ≡ true → IsUnique p
reserved-unique (ForChannel number peer) (Channel other to (Reserved until)) h e = tt
reserved-unique p g h e = grind arith

pub reserved-inactive : (g : Grant) → IsReserved g → IsActive g → ⊥
reserved-inactive (Channel number peer (Reserved until)) is h = h
reserved-inactive g is h = is

-- ---- the refresh is sent

or-false : (b : Bool) → (b || false) ≡ b
or-false true = refl
or-false false = refl

module _ (count slots extras : ℕ) (lag : Lag) (delay now : ℕ) (past : History) (s : State) (k : IsKept count slots extras lag delay now past s.transactions s) (p : Purpose) (next : IsNext now s p)
    (active : IsActive next.grant) (fresh : past.made (fresh_id s) ≡ now) where
  abbrev id : ℕ
  id = fresh_id s

  abbrev text : List ℕ
  text = request_for s p id

  abbrev t : State
  t = (sent_at_once text p now s).1

  abbrev listing : Listing
  listing = record { id = id; purpose = p }

  refresh : IsRefreshOf p next.grant
  refresh = refresh-for now next.grant p active next.gives

  unasked : (has_request next.grant s ≡ false) × (due_of s next.grant ≤ now)
  unasked = due-unasked now s next.grant active next.is_due

  asked-more : (g : Grant) → has_request g t ≡ (has_request g s || is_for p g)
  asked-more g = list_any-append (λ (l : Listing). is_for l.purpose g) s.listed (listing ∷ []) ∙ ap (λ b. has_request g s || b) (or-false (is_for p g))

  still-asked : (g : Grant) → has_request g s ≡ true → has_request g t ≡ true
  still-asked g e = asked-more g ∙ or_left (has_request g s) (is_for p g) e

  now-asked : (g : Grant) → is_for p g ≡ true → has_request g t ≡ true
  now-asked g e = asked-more g ∙ or_right (has_request g s) (is_for p g) e

  not-asked : (g : Grant) → has_request g s ≡ false → is_for p g ≡ false → has_request g t ≡ false
  not-asked g e f = asked-more g ∙ rw (e, f) refl

  -- one grant more was served since then
  serves-more : (g : Grant) → Has g s.grants → Stands count slots extras lag delay now past s.transactions s g → IsIdle slots lag now past s g → served s (due_of s g) + 1 ≤ served t (due_of s g)
  serves-more g there stands idle =
      passes-more (is_served s r) (is_served t r) next.grant s.grants still next.there (rw (not-waiting next.grant active, unasked.0, old) refl)
      (or_right (is_waiting next.grant) _ (or_left (has_request next.grant t) _ (now-asked next.grant refresh.1)))
    where
      r : ℕ
      r = due_of s g

      still : (x : Grant) → Has x s.grants → is_served s r x ≡ true → is_served t r x ≡ true
      still x h e = elim (cases_Bool (is_waiting x)) [
        | inl w ↦ or_left (is_waiting x) _ w
        | inr w ↦ or_right (is_waiting x) _ (elim (cases_Bool (has_request x s)) [
          | inl f ↦ or_left (has_request x t) _ (still-asked x f)
          | inr f ↦ or_right (has_request x t) _ (rw (w, f) at e)
        ])
      ]

      old : leb (r + 150_000_000_000) (due_of s next.grant) ≡ false
      old =
          lt-leb (r + 150_000_000_000) (due_of s next.grant)
          (omega (arith, unasked.1, k.behind, soon-by lag.since lag.pace (queue_ahead s) (bound slots lag past s g) idle.soon, bound-le count slots extras lag delay now past s.transactions s g k there stands.granted idle, k.pace))

  -- what is queued is sent after it
  later : (g : Grant) → Has g s.grants → Stands count slots extras lag delay now past s.transactions s g → IsIdle slots lag now past s g
      → now + s.config.request_cadence + lag.pace * queue_ahead s ≤ bound slots lag past t g
  later g there stands idle = elim (cases_lt (due_of s g) now) [
    | inl late ↦
        let more = serves-more g there stands idle in
        let whole =
        extra-paced lag.pace lag.since (queue_ahead s) (due_of s g) slots (used past s (due_of s g)) (used past t (due_of s g)) (omega (arith, more)) idle.soon in
        let paced = k.paced in
        let behind = k.behind in
        omega (arith, whole, paced, behind)
    | inr early ↦
        let paced = k.paced in
        let few = mul-le lag.pace (queue_ahead s) lag.pace (slots + used past t (due_of s g)) (omega arith) (let few = k.few in omega (arith, few)) in
        omega (arith, early, paced, few)
  ]

  requested-old : (when : ℕ → Type 0) (g : Grant) → IsRequested when past s.transactions s.listed g → IsRequested when past t.transactions t.listed g
  requested-old when g = requested-more when past past s.transactions t.transactions s.listed t.listed g (λ x h. refl) (λ x h. has-left x s.transactions _ h) (λ l h for. has-left l s.listed _ h)

  stands-sent : (g : Grant) → Has g s.grants → Stands count slots extras lag delay now past s.transactions s g → Stands count slots extras (taken now lag) delay now past t.transactions t g
  stands-sent g there was = record { granted = was.granted; room = was.room; long = was.long; either = by was.either }
    where
      by : IsAwaited delay past s.transactions s.listed g ⊎ IsIdle slots lag now past s g → IsAwaited delay past t.transactions t.listed g ⊎ IsIdle slots (taken now lag) now past t g
      by (inl a) = inl (requested-old (λ made. made + delay < expiry_of g) g a)
      by (inr idle) = elim (cases_Bool (is_for p g)) [
        | inl for ↦ inl (record {
          transaction = first_sent id s.remote now text;
          there = has-right (first_sent id s.remote now text) s.transactions (first_sent id s.remote now text ∷ []) (inl refl);
          listing = listing;
          within = has-right listing s.listed (listing ∷ []) (inl refl);
          for = for;
          same = refl;
          made = omega (arith, fresh, k.behind, soon-by lag.since lag.pace (queue_ahead s) (bound slots lag past s g) idle.soon, bound-early count slots extras lag delay now past s.transactions s g k there was idle);
        })
        | inr other ↦
            let more = later g there was idle in
            inr (record { unasked = not-asked g idle.unasked other; near = idle.near; soon = omega (arith, more); paused = omega (arith, more) })
      ]

  -- a permission or a channel that is asked for now is the one that is due
  due-asked : (g : Grant) → Has g s.grants → IsLeased g → has_request g t ≡ true → due_of s g ≤ now
  due-asked g there leased e = elim (or_cases (has_request g s) (is_for p g) (sym (asked-more g) ∙ e)) [
    | inl old ↦ (k.known g there).1 leased old
    | inr new ↦
        let is = passes-same (is_for p) next.grant g s.grants (k.single p (leased-unique p g leased new)) next.there there refresh.1 new in
        subst (λ (x : Grant). due_of s x ≤ now) is unasked.1
  ]

  -- what is reserved is not asked for
  loose-sent : (g : Grant) → Has g s.grants → IsLoose past s g → IsLoose past t g
  loose-sent g there (inl freed) = inl freed
  loose-sent g there (inr (is, none)) = inr (is, not-asked g none (by (is_for p g) refl))
    where
      by : (b : Bool) → is_for p g ≡ b → is_for p g ≡ false
      by false e = e
      by true e =
          let same = passes-same (is_for p) next.grant g s.grants (k.single p (reserved-unique p g is e)) next.there there refresh.1 e in
          absurd (reserved-inactive g is (subst IsActive same active))

  one-id : (l : Listing) → Has l (listing ∷ []) → l.id ≡ id
  one-id l (inl e) = ap (λ (m : Listing). m.id) e
  one-id l (inr none) = absurd none

  pub kept-sent : IsKept count slots extras (taken now lag) delay now past t.transactions t
  kept-sent = record {
    phase = k.phase;
    requests = k.requests;
    few = k.few;
    prompt = k.prompt;
    paced = k.paced;
    begins = omega arith;
    behind = omega arith;
    pace = k.pace;
    sent = omega arith;
    aged = λ x h. elim (has-last x s.transactions (first_sent id s.remote now text) h) [
      | inl old ↦ k.aged x old
      | inr e ↦ rw e (omega (arith, fresh))
    ];
    lone = lone-more s s.transactions (first_sent id s.remote now text) refl (λ x h. h) k.lone;
    begun = λ x h. elim (has-last x s.transactions (first_sent id s.remote now text) h) [
      | inl old ↦ k.begun x old
      | inr e ↦ rw e (omega (arith, fresh))
    ];
    heard = λ x h. elim (has-last x s.transactions (first_sent id s.remote now text) h) [
      | inl old ↦ k.heard x old
      | inr e ↦ rw e (omega (arith, fresh))
    ];
    seldom = k.seldom;
    row = k.row;
    asked = λ l h. elim (has-last l s.listed listing h) [
      | inl old ↦ k.asked l old
      | inr e ↦ rw e (refresh.0, (next.grant, next.there, refresh.1))
    ];
    size = k.size;
    single = k.single;
    linked = requests-more s s.grants (listing ∷ []) (λ g h. h) (λ l h. one-id l h) tt k.linked;
    in_range = k.in_range;
    in_allocations = k.in_allocations;
    known = λ g there. ((k.known g there).0, due-asked g there);
    each = λ g there. elim (k.each g there) [
      | inl (waits, p) ↦ inl (waits, requested-old (λ made. made ≤ now) g p)
      | inr (inl stands) ↦ inr (inl (stands-sent g there stands))
      | inr (inr loose) ↦ inr (inr (loose-sent g there loose))
    ];
  }

  pub goes-sent : Goes past past s.transactions t.transactions s t
  goes-sent = goes-more past s.transactions t.transactions s t refl (λ x h. has-left x s.transactions _ h) (λ l h. has-left l s.listed _ h)

-- ---- nothing is to be refreshed

-- Then each refresh is still to come, so a pause that begins now delays none.
module _ (count slots extras : ℕ) (lag : Lag) (delay now : ℕ) (past : History) (s : State)
    (k : IsKept count slots extras lag delay now past s.transactions s) (nothing : next_refresh now s ≡ None) where
  kept-in_use : (b : Relay) → Has (Allocation b) s.grants → b.is_expired ≡ false
  kept-in_use b h = (allocation-stands count slots extras lag delay now past s.transactions s k b h).granted

  pub still-early : (g : Grant) → Has g s.grants → Stands count slots extras lag delay now past s.transactions s g → IsIdle slots lag now past s g → now < due_of s g
  still-early g there stands idle = elim (cases_lt now (due_of s g)) [
    | inl early ↦ early
    | inr late ↦
        let (a, here, same) = k.in_allocations g there in
        let inside : Has a (allocations s) = filter_map-has as_allocation (Allocation a) a s.grants here refl in
        let is = is-due now s g (granted-active g stands.granted) (may-refresh s g kept-in_use stands.granted (k.in_allocations g there)) idle.unasked late in
        let in_allocations = allocation-stands count slots extras lag delay now past s.transactions s k a here in
        let goes_on : now ≤ a.expiry = let early = stands-early count slots extras lag delay now past s k (Allocation a) here in_allocations in omega (arith, early) in
        let alive = stands-early count slots extras lag delay now past s k g there stands in
        let some = due-sends now s g there (granted-active g stands.granted) is alive a inside (same_family-self (family_of_grant g) (family_of a.relayed) (sym same)) goes_on in
        absurd (let no : false ≡ true = rw nothing at some in cc)
  ]

  -- the path is kept alive
  stands-alive : (g : Grant) → Has g s.grants → Stands count slots extras lag delay now past s.transactions s g
      → Stands count slots extras (taken now lag) delay now past s.transactions (record s { ids = (id_used s).ids; last_send = Some now }) g
  stands-alive g there was = record {
    granted = was.granted;
    room = was.room;
    long = was.long;
    either = elim was.either [
      | inl a ↦ inl a
      | inr idle ↦
          let early = still-early g there was idle in
          let paced = k.paced in
          let few = mul-le lag.pace (queue_ahead s) lag.pace (slots + used past s (due_of s g)) (omega arith) (let few = k.few in omega (arith, few)) in
          inr (record { unasked = idle.unasked; near = idle.near; soon = omega (arith, early, few); paused = omega (arith, early, paced, few) })
    ];
  }

  pub kept-alive : IsKept count slots extras (taken now lag) delay now past s.transactions (record s { ids = (id_used s).ids; last_send = Some now })
  kept-alive = kept-rest count slots extras lag delay now past s.transactions s k now s.queue (Some now) s.transactions s.events (id_used s).ids s.closes (record {
    begins = omega arith;
    behind = omega arith;
    requests = k.requests;
    few = k.few;
    sent = omega arith;
    awaited = λ x h. h;
    stands = stands-alive;
  })

-- ---- what is queued

-- Those that are queued leave before refreshes. Or nothing is to be refreshed.
abbrev LeavesFirst : ℕ → State → Type 0
LeavesFirst now s = (s.config.timed_from_send ≡ false) ⊎ (next_refresh now s ≡ None)

module _ (count slots extras : ℕ) (lag : Lag) (delay now : ℕ) (past : History) (s : State)
    (k : IsKept count slots extras lag delay now past s.transactions s) (q : Queued) (qs : List Queued) (front : s.queue ≡ q ∷ qs) (first : LeavesFirst now s) where
  abbrev v : State
  v = record s { queue = drop 1 s.queue; last_send = Some now }

  one-left : length v.queue + 1 ≡ length s.queue
  one-left = rw front (omega arith)

  fewer : queue_ahead v ≤ queue_ahead s
  fewer = let all = ahead-more s v 0 refl (omega (arith, one-left)) in omega (arith, all)

  stands-queued : (g : Grant) → Has g s.grants → Stands count slots extras lag delay now past s.transactions s g
      → Stands count slots extras (taken now lag) delay now past s.transactions (record s { queue = drop 1 s.queue; last_send = Some now }) g
  stands-queued g there was = record {
    granted = was.granted;
    room = was.room;
    long = was.long;
    either = elim was.either [ inl a ↦ inl a | inr idle ↦ inr (by first idle) ];
  }
    where
      by : LeavesFirst now s → IsIdle slots lag now past s g → IsIdle slots (taken now lag) now past v g
      by (inl untimed) idle =
          let all : queue_ahead s ≡ length s.queue = rw untimed refl in
          let rest : queue_ahead v ≡ length v.queue = rw untimed refl in
          let (soon, paused) = left-paced lag.pace lag.since (queue_ahead v) (queue_ahead s) (bound slots lag past s g) (omega (arith, all, rest, one-left)) idle.soon in
          let paced = k.paced in
          let behind = k.behind in
          record { unasked = idle.unasked; near = idle.near; soon = omega (arith, paused, paced, behind); paused = omega (arith, paused, paced, behind) }
      by (inr nothing) idle =
          let early = still-early count slots extras lag delay now past s k nothing g there was idle in
          let paced = k.paced in
          let few = mul-le lag.pace (queue_ahead v) lag.pace (slots + used past s (due_of s g)) (omega arith) (let few = k.few in omega (arith, few, fewer)) in
          record { unasked = idle.unasked; near = idle.near; soon = omega (arith, early, few); paused = omega (arith, early, paced, few) }

  pub kept-queued : IsKept count slots extras (taken now lag) delay now past s.transactions (record s { queue = drop 1 s.queue; last_send = Some now })
  kept-queued = kept-rest count slots extras lag delay now past s.transactions s k now (drop 1 s.queue) (Some now) s.transactions s.events s.ids s.closes (record {
    begins = omega arith;
    behind = omega arith;
    requests = no_reply-left s.queue k.requests;
    few = let few = k.few in omega (arith, few, fewer);
    sent = omega arith;
    awaited = λ x h. h;
    stands = stands-queued;
  })

-- ---- poll_transmit

-- what is to be refreshed does not depend on the queue
module _ (now : ℕ) (s : State) where
  able-settled : (g : Grant) → is_refreshable g (settled s) ≡ is_refreshable g s
  able-settled (Allocation a) = refl
  able-settled g = refl

  time-settled : (g : Grant) → refresh_time (settled s) g ≡ refresh_time s g
  unfolding refresh_time
  time-settled g = rw (able-settled g) refl

  due-settled : (g : Grant) → is_refresh_due now (settled s) g ≡ is_refresh_due now s g
  unfolding is_refresh_due
  due-settled g = rw (time-settled g) refl

  refresh-settled : next_refresh now (settled s) ≡ next_refresh now s
  refresh-settled = ap by (λ i g. due-settled g i)
    where
      of_rank : (Grant → Bool) → Relay → ℕ → List Purpose
      of_rank due a rank = filter_map (refresh_purpose now) (filter (λ g. is_ranked rank g && is_of (family_of a.relayed) g && due g) s.grants)

      by : (Grant → Bool) → Option Purpose
      by due = slice_get (flat_map (λ a. cond (leb now a.expiry) (flat_map (of_rank due a) (0 ∷ 1 ∷ 2 ∷ [])) []) (allocations s)) 0

-- where no refresh goes first, what is queued may
leaves-first : (now : ℕ) (s : State) → s.phase ≡ Allocated → refreshes_first now s ≡ false → LeavesFirst now s
leaves-first now s allocated e = by s.config.timed_from_send refl (next_refresh now s) refl
  where
    by : (timed : Bool) → s.config.timed_from_send ≡ timed → (o : Option Purpose) → next_refresh now s ≡ o → LeavesFirst now s
    by false untimed o f = inl untimed
    by true timed None f = inr f
    by true timed (Some p) f = absurd (let no : true ≡ false = rw (f, timed, allocated) at e in cc)

-- no grant changes, and a packet that is taken ends the lag
abbrev pub KeepsOn : ℕ → ℕ → ℕ → Lag → ℕ → ℕ → History → State → Option (Transmit (List ℕ)) × State → Type 0
KeepsOn count slots extras lag delay now past s z =
    IsKept count slots extras (taken (cond (is_some z.0) now lag.since) lag) delay now past z.1.transactions z.1 × Goes past past s.transactions z.1.transactions s z.1

no-replies : (qs : List Queued) → list_any (λ q. not q.is_request) qs ≡ false → filter_map reply_in qs ≡ []
no-replies [] none = refl
no-replies (q ∷ qs) none =
    elim (cases_Bool q.is_request) [ inl is ↦ rw is (no-replies qs (rw is at none)) | inr is ↦ let h : true ≡ false = rw is at none in cc ]

empty-kept : (s : State) → has_reply s ≡ false → reply_step s ≡ (None, s)
empty-kept s none = rw (no-replies s.queue none, no_reply-kept s.queue none) refl

-- what is due is granted, and not waiting
due-granted : (now : ℕ) (s : State) (g : Grant) → is_waiting g ≡ true → is_refresh_due now s g ≡ true → ⊥
unfolding is_refresh_due refresh_time
due-granted now s (Permission ip (Pending is_kept)) w e = cc
due-granted now s (Channel number peer (Pending is_kept)) w e = cc
due-granted now s g w e = cc

due-unreserved : (now : ℕ) (s : State) (g : Grant) → IsReserved g → is_refresh_due now s g ≡ true → ⊥
unfolding is_refresh_due refresh_time
due-unreserved now s (Channel number peer (Reserved until)) is e = cc
due-unreserved now s g is e = absurd is

pub transmit-kept : (count slots extras : ℕ) (lag : Lag) (delay now : ℕ) (past : History) (s : State) → IsKept count slots extras lag delay now past s.transactions s → past.made (fresh_id s) ≡ now
    → due (agent_of s) now ≡ None → KeepsOn count slots extras lag delay now past s (transmit_step now s)
transmit-kept count slots extras lag delay now past s k fresh none = rw (not_due-transmit now s none) (by (is_paused now s))
  where
    Keeps : Option (Transmit (List ℕ)) × State → Type 0
    Keeps z = KeepsOn count slots extras lag delay now past s z

    same : (z : Option (Transmit (List ℕ)) × State) → z ≡ (None, s) → Keeps z
    same z e = subst Keeps (sym e) (k, goes-more past s.transactions s.transactions s s refl (λ x h. h) (λ l h. h))

    keeps : (b : Bool) → next_refresh now s ≡ None
        → Keeps (cond {A = Option (Transmit (List ℕ)) × State} b (Some (to_server s s.local (binding_indication (fresh_id s))), Rattle.turn_client_api.specs.Transmit.sent now (id_used s)) (None, s))
    keeps true e = (
      kept-alive count slots extras lag delay now past s k e,
      goes-more past s.transactions s.transactions s
          (record s { ids = (id_used s).ids; last_send = Some now }) refl (λ x h. h) (λ l h. h),
    )
    keeps false e = (k, goes-more past s.transactions s.transactions s s refl (λ x h. h) (λ l h. h))

    sends : (p : Purpose) (next : IsNext now s p) → IsActive next.grant → Keeps (sent_at_once (request_for s p (fresh_id s)) p now s)
    sends p next active =
        (kept-sent count slots extras lag delay now past s k p next active fresh, goes-sent count slots extras lag delay now past s k p next active fresh)

    -- what is refreshed
    renews : (p : Purpose) → next_refresh now s ≡ Some p → Keeps (sent_at_once (request_for s p (fresh_id s)) p now s)
    renews p e =
        let next = next-of now s p e in
        elim (k.each next.grant next.there) [
          | inl waits ↦ absurd (due-granted now s next.grant waits.0 next.is_due)
          | inr (inl stands) ↦ sends p next (granted-active next.grant stands.granted)
          | inr (inr (inl (freed, leased))) ↦ sends p next (leased-active next.grant leased)
          | inr (inr (inr (is, none))) ↦ absurd (due-unreserved now s next.grant is next.is_due)
        ]

    refreshes : (o : Option Purpose) → next_refresh now s ≡ o
        → Keeps (option_map_or (λ purpose. sent_at_once (request_for s purpose (fresh_id s)) purpose now s) o (keepalive_step now s))
    refreshes None e = keeps (list_any (λ time. nat_le time now) (keepalive_times s)) e
    refreshes (Some p) e = renews p e

    -- a refresh goes first, and the client has allocations
    first : (o : Option Purpose) → next_refresh now s ≡ o → is_some o ≡ true
        → Keeps (option_map_or (λ purpose. sent_at_once (request_for s purpose (fresh_id s)) purpose now s) o (keepalive_step now s))
    first None e some = cc
    first (Some p) e some = renews p e

    queued : (o : Option Queued) → first_left s s.queue ≡ o → Keeps (queue_step now s)
    queued None e = rw (queue-idle now s e k.phase) (refreshes (next_refresh now s) refl)
    queued (Some q) e = chosen (refreshes_first now s) refl
      where
        front : (o : Option Queued) → o ≡ Some q
            → (option_map_or (λ q. (Some q.packet, front_sent now q (settled s))) o (idle_step s.phase now s))
            ≡ (Some q.packet, front_sent now q (settled s))
        front o e = rw e refl

        w : State
        w = settled s

        v : State
        v = record w { queue = drop 1 w.queue; last_send = Some now }

        left : refreshes_first now s ≡ false → IsKept count slots extras (taken now lag) delay now past w.transactions v
        left later =
            let (others, is) = settled-first s q e in
            kept-queued count slots extras lag delay now past w (kept-settled count slots extras lag delay now past s k) q others is first_of_all
          where
            first_of_all : LeavesFirst now w
            first_of_all = elim (leaves-first now s k.phase later) [ inl untimed ↦ inl untimed | inr nothing ↦ inr (refresh-settled now s ∙ nothing) ]

        goes : Goes past past s.transactions w.transactions s v
        goes = goes-settled count slots extras lag delay now past s k v refl refl

        same-left : refreshes_first now s ≡ false → Keeps (Some q.packet, v)
        same-left later = (left later, goes)

        -- its waits may begin now
        by : refreshes_first now s ≡ false → (timed : Bool) (o : Option ℕ) → Keeps
            (Some q.packet, record v { transactions = cond timed (option_map_or (λ id. waits_begun id now w.transactions) o w.transactions) w.transactions })
        by later true (Some id) = (
          kept-begun count slots extras (taken now lag) delay now past v (left later) id,
          goes-trans past past past s.transactions w.transactions (waits_begun id now w.transactions) s v (record v { transactions = waits_begun id now w.transactions })
              goes (goes-begun count slots extras (taken now lag) delay now past v (left later) id v refl refl),
        )
        by later true None = same-left later
        by later false o = same-left later

        at_once : (phase : Phase) → phase ≡ Allocated → refreshes_first now s ≡ true → Keeps (idle_step phase now s)
        at_once phase is e =
            let some = (and_parts (s.config.timed_from_send && is_allocated s.phase) (is_some (next_refresh now s)) e).1 in
            rw is (first (next_refresh now s) refl some)

        chosen : (b : Bool) → refreshes_first now s ≡ b
            → Keeps (option_map_or (λ (q : Queued). (Some q.packet, front_sent now q (settled s))) (cond {A = Option Queued} b None (first_left s s.queue)) (idle_step s.phase now s))
        chosen true first_is = at_once s.phase k.phase first_is
        chosen false first_is = subst Keeps (sym (front (first_left s s.queue) e)) (by first_is (s.config.timed_from_send && q.is_request) (id_in_header q.packet.payload))

    by : (b : Bool) → Keeps (if b then reply_step s else queue_step now s)
    by true = same (reply_step s) (empty-kept s k.requests)
    by false = queued (first_left s s.queue) refl
