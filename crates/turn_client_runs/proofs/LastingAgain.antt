-- A request is retransmitted, or made again after a challenge, while no grant is lost.
use Rattle.turn_client_laws.proofs.Common.{◌≡◌, ◌⊎◌, ℕ, ◌+◌, ◌-◌, ◌*◌, ◌^◌, ◌<◌, ◌≤◌, min, Bool, true, false, cond, not, ◌||◌, eqb, List, [], ◌∷◌, map, Some, refl, inl, inr, ap, sym, subst}
use Rattle.turn_client_laws.proofs.Common.{◌∙◌, arith, filter, list_any, and_parts, cases_Bool, cases_lt, eq-eqb, eqb-true, leb-true, not_from_false, or_left, length-append, list_any-append}
use Rattle.turn_client_laws.proofs.Machine.{due, first_sent, is_due, resent, sent_again, without_transaction, Timers, wait_at, Transaction, Challenge, timers_of, pause_end, has_request, is_for}
use Rattle.turn_client_laws.proofs.Machine.{purposes_of, fresh_id, listings, request_for, to_server, phase_after, state_after_retry, with_held, transaction_ended, waits_from, State, agent_of, Phase, Allocated}
use Rattle.turn_client_laws.proofs.Machine.{Queued, Grant, Listing, Purpose, Has, filter-has, has-append, has-filter, has-found, has-left, has-right, map-has}
use Rattle.turn_client_laws.proofs.Laws.{has-mapped, any-has, has-any, purpose-with}
use Rattle.turn_client_runs.specs.History.{History, IsSeldom, extra_since, waited}
use Rattle.turn_client_runs.specs.Lasting.{expiry_of, queue_ahead}
use Rattle.turn_client_runs.proofs.AppendLemmas.{has-last}
use Rattle.turn_client_runs.proofs.LastingCounts.{passes-all}
use Rattle.turn_client_runs.proofs.LastingHistory.{from-later, GoesOn, known-later, lone-more, waited-next}
use Rattle.turn_client_runs.proofs.LastingListings.{requests-more}
use Rattle.turn_client_runs.proofs.LastingStands.{ahead-more, Goes, IsAsked, IsAwaited, IsIdle, IsKept, IsRequest, IsRequested, Stands, due_of, early-paced, extra-paced, listed_as, asked-before}
use Rattle.turn_client_runs.proofs.LastingStands.{is_served}
use Rattle.turn_client_runs.proofs.LastingStands.{is_waiting, served, more-paced, pause-paced, used, Lag, taken}

-- one packet more is extra
abbrev pub IsOneMore : ℕ → History → History → Type 0
IsOneMore now past later = (since : ℕ) → since ≤ now → extra_since since past + 1 ≤ extra_since since later

-- ---- a request is retransmitted

module _ (count slots extras : ℕ) (lag : Lag) (delay now : ℕ) (past later : History) (s : State) (k : IsKept count slots extras lag delay now past s.transactions s) (on : GoesOn s.transactions past later)
    (more : IsOneMore now past later) (seldom : IsSeldom extras s.config.refresh_ahead now later)
    (row : s.challenges ≤ later.challenged) (x : Transaction) (found : due (agent_of s) now ≡ Some x) where
  abbrev again : Transaction → Transaction
  again y = cond (eqb y.id x.id) (sent_again now y) y

  abbrev t : State
  t = record s { transactions = resent x.id now s.transactions; last_send = Some now }

  abbrev timers : Timers
  timers = timers_of s.config

  is : Has x s.transactions × (is_due timers s.transport now x ≡ true)
  is = has-found (is_due timers s.transport now) x s.transactions found

  -- its wait is over
  over : x.last_send + wait_at timers s.transport x.resends ≤ now
  over =
      let late = leb-true (min (x.last_send + wait_at timers s.transport x.resends) (2 ^ 63 - 1)) now (and_parts _ _ is.1).1 in
      let range = k.in_range in
      omega (arith, late, range)

  same-id : (y : Transaction) → (again y).id ≡ y.id
  same-id y = by (eqb y.id x.id)
    where
      by : (b : Bool) → (cond b (sent_again now y) y).id ≡ y.id
      by true = refl
      by false = refl

  aged-again : (y : Transaction) → Has y s.transactions → later.made (again y).id + waited timers s.transport (again y).resends ≤ (again y).last_send
  aged-again y h = rw (same-id y) (by (eqb y.id x.id) refl)
    where
      made : later.made y.id ≡ past.made y.id
      made = on.same y h

      by : (b : Bool) → eqb y.id x.id ≡ b → later.made y.id + waited timers s.transport (cond b (sent_again now y) y).resends ≤ (cond b (sent_again now y) y).last_send
      by false e = let old = k.aged y h in omega (arith, made, old)
      by true e =
          let one : y ≡ x = k.lone y x h is.0 (eqb-true y.id x.id e) in
          let old = k.aged y h in
          let next = waited-next timers s.transport y.resends in
          let late : y.last_send + wait_at timers s.transport y.resends ≤ now = subst (λ (z : Transaction). z.last_send + wait_at timers s.transport z.resends ≤ now) (sym one) over in
          omega (arith, made, old, next, late)

  begun-again : (y : Transaction) → Has y s.transactions → later.made (again y).id + waited timers s.transport (again y).resends ≤ now
  begun-again y h = rw (same-id y) (by (eqb y.id x.id) refl)
    where
      made : later.made y.id ≡ past.made y.id
      made = on.same y h

      by : (b : Bool) → eqb y.id x.id ≡ b → later.made y.id + waited timers s.transport (cond b (sent_again now y) y).resends ≤ now
      by false e = let old = k.begun y h in omega (arith, made, old)
      by true e =
          let one : y ≡ x = k.lone y x h is.0 (eqb-true y.id x.id e) in
          let old = k.aged y h in
          let next = waited-next timers s.transport y.resends in
          let late : y.last_send + wait_at timers s.transport y.resends ≤ now = subst (λ (z : Transaction). z.last_send + wait_at timers s.transport z.resends ≤ now) (sym one) over in
          omega (arith, made, old, next, late)

  idle-again : (g : Grant) → IsIdle slots lag now past s g → IsIdle slots (taken now lag) now later t g
  idle-again g idle = record { unasked = idle.unasked; near = idle.near; soon = soon; paused = paused }
    where
      used-more : due_of s g ≤ now → used past s (due_of s g) + 1 ≤ used later t (due_of s g)
      used-more early =
          let one = more (due_of s g) early in
          let same : served s (due_of s g) ≡ served t (due_of s g) = refl in
          omega (arith, one, same)

      paused : pause_end t + lag.pace * queue_ahead s ≤ due_of s g + lag.pace * (1 + slots + used later t (due_of s g))
      paused = elim (cases_lt now (due_of s g)) [
        | inl early ↦
            let few = k.few in
            let paced = k.paced in
            let pause : pause_end t ≤ now + s.config.request_cadence = omega arith in
            early-paced lag.pace lag.pace (pause_end t) (queue_ahead s) (queue_ahead s) now (due_of s g) slots (used later t (due_of s g))
            refl refl few (omega (arith, pause, paced)) (omega (arith, early))
        | inr late ↦
            let whole = extra-paced lag.pace lag.since (queue_ahead s) (due_of s g) slots (used past s (due_of s g)) (used later t (due_of s g)) (used-more late) idle.soon in
            let pause : pause_end t ≤ now + s.config.request_cadence = omega arith in
            let paced = k.paced in
            let behind = k.behind in
            omega (arith, whole, pause, paced, behind)
      ]

      soon : now + lag.pace * queue_ahead s ≤ due_of s g + lag.pace * (1 + slots + used later t (due_of s g))
      soon = elim (cases_lt now (due_of s g)) [
        | inl early ↦
            let few = k.few in
            early-paced lag.pace lag.pace now (queue_ahead s) (queue_ahead s) now (due_of s g) slots (used later t (due_of s g))
            refl refl few (omega arith) (omega (arith, early))
        | inr late ↦
            let whole = extra-paced lag.pace lag.since (queue_ahead s) (due_of s g) slots (used past s (due_of s g)) (used later t (due_of s g)) (used-more late) idle.soon in
            let paced = k.paced in
            let behind = k.behind in
            omega (arith, whole, paced, behind)
      ]

  requested-again : (when : ℕ → Type 0) (g : Grant) → IsRequested when past s.transactions s.listed g → IsRequested when later t.transactions t.listed g
  requested-again when g p = record {
    transaction = again p.transaction;
    there = map-has again p.transaction s.transactions p.there;
    listing = p.listing;
    within = p.within;
    for = p.for;
    same = same-id p.transaction ∙ p.same;
    made = rw (same-id p.transaction, on.same p.transaction p.there) p.made;
  }

  stands-again : (g : Grant) → Stands count slots extras lag delay now past s.transactions s g → Stands count slots extras (taken now lag) delay now later t.transactions t g
  stands-again g was = record { granted = was.granted; room = was.room; long = was.long; either = by was.either }
    where
      by : IsAwaited delay past s.transactions s.listed g ⊎ IsIdle slots lag now past s g → IsAwaited delay later t.transactions t.listed g ⊎ IsIdle slots (taken now lag) now later t g
      by (inl a) = inl (requested-again (λ made. made + delay < expiry_of g) g a)
      by (inr idle) = inr (idle-again g idle)

  came : (y : Transaction) → Has y t.transactions → (z : Transaction) × Has z s.transactions × (y ≡ again z)
  came y h = has-mapped again y s.transactions h

  pub kept-again : IsKept count slots extras (taken now lag) delay now later t.transactions t
  kept-again = record {
    phase = k.phase;
    requests = k.requests;
    few = k.few;
    prompt = k.prompt;
    paced = k.paced;
    begins = omega arith;
    behind = omega arith;
    pace = k.pace;
    sent = omega arith;
    aged = λ y h.
        let (z, there, e) = came y h in
        subst (λ (y : Transaction). later.made y.id + waited timers s.transport y.resends ≤ y.last_send) (sym e) (aged-again z there);
    lone = λ y z hy hz e.
        let (a, here, f) = came y hy in
        let (b, there, g) = came z hz in
        let one : a ≡ b = k.lone a b here there (sym (same-id a) ∙ (sym (ap (λ (w : Transaction). w.id) f) ∙ (e ∙ (ap (λ (w : Transaction). w.id) g ∙ same-id b)))) in
        f ∙ (ap again one ∙ sym g);
    begun = λ y h.
        let (z, there, e) = came y h in
        subst (λ (y : Transaction). later.made y.id + waited timers s.transport y.resends ≤ now) (sym e) (begun-again z there);
    heard = λ y h.
        let (z, there, e) = came y h in
        let same = on.same z there in
        let late = k.heard z there in
        subst (λ (y : Transaction). now ≤ later.made y.id + delay) (sym e) (rw (same-id z) (omega (arith, same, late)));
    seldom = seldom;
    row = row;
    asked = k.asked;
    size = k.size;
    single = k.single;
    linked = k.linked;
    in_range = k.in_range;
    in_allocations = k.in_allocations;
    known = λ g there. let (waits, due) = k.known g there in (λ w. known-later past later on.let_go g (waits w), due);
    each = λ g there. elim (k.each g there) [
      | inl (waits, pending) ↦ inl (waits, requested-again (λ made. made ≤ now) g pending)
      | inr (inl stands) ↦ inr (inl (stands-again g stands))
      | inr (inr (inl (freed, leased))) ↦ inr (inr (inl (on.let_go g freed, leased)))
      | inr (inr (inr reserved)) ↦ inr (inr (inr reserved))
    ];
  }

  pub goes-again : Goes past later s.transactions t.transactions s t
  goes-again = record {
    let_go = on.let_go;
    remain = λ g there granted none. (g, there, refl, granted);
    follow = λ until g there waits pending none. inl (there, requested-again (λ made. made ≤ until) g pending);
  }

-- ---- a challenge is answered

-- the request that is made again
abbrev retry_text : State → ℕ → Purpose → Challenge → List ℕ
retry_text s id purpose challenge =
    request_for (with_held challenge (record (transaction_ended id s) { phase = phase_after s.phase; challenges = s.challenges + 1 })) purpose (fresh_id s)

-- at most one packet more leaves before a refresh
retried-queue : (s : State) (id : ℕ) (purpose : Purpose) (challenge : Challenge) (now : ℕ) → queue_ahead (state_after_retry s id purpose challenge now) ≤ queue_ahead s + 1
retried-queue s id purpose challenge now =
    ahead-more s (state_after_retry s id purpose challenge now) 1 refl
    (omega (arith, length-append s.queue (record { packet = to_server s s.local (retry_text s id purpose challenge); is_request = true } ∷ [])))

module _ (count slots extras : ℕ) (lag : Lag) (delay now : ℕ) (past later : History) (s : State) (k : IsKept count slots extras lag delay now past s.transactions s) (on : GoesOn s.transactions past later)
    (more : IsOneMore now past later) (seldom : IsSeldom extras s.config.refresh_ahead now later) (row : s.challenges + 1 ≤ later.challenged) (id : ℕ) (purpose : Purpose) (challenge : Challenge)
    (fits : queue_ahead (state_after_retry s id purpose challenge now) ≤ slots) (early_made : later.made (fresh_id s) ≤ now) (answered_by : now ≤ later.made (fresh_id s) + delay)
    (as_old : (x : Transaction) → Has x s.transactions → x.id ≡ id → later.made (fresh_id s) ≡ past.made x.id) where
  abbrev after : State
  after = state_after_retry s id purpose challenge now

  abbrev text : List ℕ
  text = retry_text s id purpose challenge

  abbrev new : Transaction
  new = first_sent (fresh_id s) s.remote (waits_from now s) text

  abbrev left : List Transaction
  left = without_transaction id s.transactions

  abbrev copies : List Listing
  copies = listings (fresh_id s) (purposes_of id s)

  still : (x : Transaction) → Has x left → Has x s.transactions
  still x h = (has-filter (λ (x : Transaction). not (eqb x.id id)) x s.transactions h).0

  copied : (l : Listing) → Has l copies → (p : Purpose) × Has p (purposes_of id s) × (l ≡ record { id = fresh_id s; purpose = p })
  copied l h = has-mapped (λ (p : Purpose). record { id = fresh_id s; purpose = p }) l (purposes_of id s) h

  -- what the old one was listed for, the new one is
  copy-of : (l : Listing) → Has l s.listed → l.id ≡ id → Has (record { id = fresh_id s; purpose = l.purpose }) after.listed
  copy-of l there e =
      has-right (record { id = fresh_id s; purpose = l.purpose }) s.listed copies
      (map-has (λ (p : Purpose). record { id = fresh_id s; purpose = p }) l.purpose (purposes_of id s)
      (map-has (λ (l : Listing). l.purpose) l (filter (λ (l : Listing). eqb l.id id) s.listed) (filter-has (λ (l : Listing). eqb l.id id) l s.listed there (eq-eqb l.id id e))))

  stays : (x : Transaction) → Has x s.transactions → eqb x.id id ≡ false → Has x after.transactions
  stays x h e = has-left x left (new ∷ []) (filter-has (λ (x : Transaction). not (eqb x.id id)) x s.transactions h (not_from_false (eqb x.id id) e))

  new-there : Has new after.transactions
  new-there = has-right new left (new ∷ []) (inl refl)

  -- it is made again, or awaits its reply still
  requested-retried : (when : ℕ → Type 0) (g : Grant) → IsRequested when past s.transactions s.listed g → IsRequested when later after.transactions after.listed g
  requested-retried when g p = by (eqb p.transaction.id id) refl
    where
      by : (b : Bool) → eqb p.transaction.id id ≡ b → IsRequested when later after.transactions after.listed g
      by false e = record {
        transaction = p.transaction;
        there = stays p.transaction p.there e;
        listing = p.listing;
        within = has-left p.listing s.listed copies p.within;
        for = p.for;
        same = p.same;
        made = subst when (sym (on.same p.transaction p.there)) p.made;
      }
      by true e =
          let is : p.transaction.id ≡ id = eqb-true p.transaction.id id e in record {
            transaction = new;
            there = new-there;
            listing = record { id = fresh_id s; purpose = p.listing.purpose };
            within = copy-of p.listing p.within (sym p.same ∙ is);
            for = p.for;
            same = refl;
            made = subst when (sym (as_old p.transaction p.there is)) p.made;
          }

  -- what is not requested is not requested by this
  not-asked : (g : Grant) → has_request g s ≡ false → has_request g after ≡ false
  not-asked g e = list_any-append (λ (l : Listing). is_for l.purpose g) s.listed copies ∙ rw e (by (list_any (λ (l : Listing). is_for l.purpose g) copies) refl)
    where
      by : (b : Bool) → list_any (λ (l : Listing). is_for l.purpose g) copies ≡ b → list_any (λ (l : Listing). is_for l.purpose g) copies ≡ false
      by false f = f
      by true f =
          let (l, here, for) = any-has (λ (l : Listing). is_for l.purpose g) copies f in
          let (p, among, is) = copied l here in
          let also : is_for p g ≡ true = subst (λ (m : Listing). is_for m.purpose g ≡ true) is for in
          let was = purpose-with id p s among in
          let no : false ≡ true = sym e ∙ has-any (λ (l : Listing). is_for l.purpose g) (record { id = id; purpose = p }) s.listed was also in
          cc

  still-asked : (g : Grant) → has_request g s ≡ true → has_request g after ≡ true
  still-asked g e = list_any-append (λ (l : Listing). is_for l.purpose g) s.listed copies ∙ or_left (has_request g s) _ e

  serves-same : (since : ℕ) → served s since ≤ served after since
  serves-same since = passes-all (is_served s since) (is_served after since) s.grants still-served
    where
      still-served : (g : Grant) → Has g s.grants → is_served s since g ≡ true → is_served after since g ≡ true
      still-served g h e = elim (cases_Bool (has_request g s)) [
        | inl f ↦ let f = still-asked g f in rw f (or-true (is_waiting g))
        | inr f ↦ let n = not-asked g f in rw n (rw f at e)
      ]
        where
          or-true : (b : Bool) → (b || true) ≡ true
          or-true true = refl
          or-true false = refl

  one-more : queue_ahead after ≤ queue_ahead s + 1
  one-more = retried-queue s id purpose challenge now

  idle-retried : (g : Grant) → IsIdle slots lag now past s g → IsIdle slots lag now later after g
  idle-retried g idle = record { unasked = not-asked g idle.unasked; near = idle.near; soon = soon; paused = paused }
    where
      used-more : due_of s g ≤ now → used past s (due_of s g) + 1 ≤ used later after (due_of s g)
      used-more early = let one = more (due_of s g) early in let same = serves-same (due_of s g) in omega (arith, one, same)

      by : (x : ℕ) → x ≤ now + lag.pace → x + lag.pace * queue_ahead s ≤ due_of s g + lag.pace * (1 + slots + used past s (due_of s g))
          → x + lag.pace * queue_ahead after ≤ due_of s g + lag.pace * (1 + slots + used later after (due_of s g))
      by x pause was = elim (cases_lt now (due_of s g)) [
        | inl early ↦
            early-paced lag.pace lag.pace x (queue_ahead after) (queue_ahead after) now (due_of s g) slots (used later after (due_of s g))
            refl refl fits pause (omega (arith, early))
        | inr late ↦ more-paced lag.pace x (queue_ahead s) (queue_ahead after)
            (due_of s g) slots (used past s (due_of s g)) (used later after (due_of s g)) one-more (used-more late) was
      ]

      soon : lag.since + lag.pace * queue_ahead after ≤ due_of s g + lag.pace * (1 + slots + used later after (due_of s g))
      soon = let begins = k.begins in by lag.since (omega (arith, begins)) idle.soon

      paused : pause_end s + lag.pace * queue_ahead after ≤ due_of s g + lag.pace * (1 + slots + used later after (due_of s g))
      paused = by (pause_end s) (pause-paced count slots extras lag delay now past s.transactions s k) idle.paused

  stands-retried : (g : Grant) → Stands count slots extras lag delay now past s.transactions s g → Stands count slots extras lag delay now later after.transactions after g
  stands-retried g was = record {
    granted = was.granted;
    room = was.room;
    long = was.long;
    either = elim was.either [ inl a ↦ inl (requested-retried (λ made. made + delay < expiry_of g) g a) | inr idle ↦ inr (idle-retried g idle) ];
  }

  -- the copies are listed as the others were
  copies-linked : IsRequest s.grants copies
  copies-linked = by (listed_as id s.listed) (k.linked id)
    where
      by : (ls : List Listing) → IsRequest s.grants ls → IsRequest s.grants (map (λ (p : Purpose). record { id = fresh_id s; purpose = p }) (map (λ (l : Listing). l.purpose) ls))
      by [] h = tt
      by (l ∷ []) h = tt
      by (l ∷ m ∷ []) h = h
      by (l ∷ m ∷ n ∷ ls) h = absurd h

  phase-same : phase_after s.phase ≡ Allocated
  phase-same = by s.phase k.phase
    where
      by : (p : Phase) → p ≡ Allocated → phase_after p ≡ Allocated
      by p e = rw e refl

  pub kept-retried : IsKept count slots extras lag delay now later after.transactions after
  kept-retried = record {
    phase = phase-same;
    requests = list_any-append (λ (q : Queued). not q.is_request) s.queue (record { packet = to_server s s.local text; is_request = true } ∷ []) ∙ rw k.requests refl;
    few = fits;
    prompt = k.prompt;
    paced = k.paced;
    begins = k.begins;
    behind = k.behind;
    pace = k.pace;
    sent = k.sent;
    aged = λ x h. elim (has-last x left new h) [
      | inl old ↦ let same = on.same x (still x old) in let was = k.aged x (still x old) in omega (arith, same, was)
      | inr e ↦ let later = from-later now s k.in_range in rw e (omega (arith, early_made, later))
    ];
    lone = lone-more s left new refl still (λ x y hx hy e. k.lone x y (still x hx) (still y hy) e);
    begun = λ x h. elim (has-last x left new h) [
      | inl old ↦ let same = on.same x (still x old) in let begun = k.begun x (still x old) in omega (arith, same, begun)
      | inr e ↦ rw e (omega (arith, early_made))
    ];
    heard = λ x h. elim (has-last x left new h) [
      | inl old ↦ let same = on.same x (still x old) in let late = k.heard x (still x old) in omega (arith, same, late)
      | inr e ↦ rw e answered_by
    ];
    seldom = seldom;
    row = row;
    asked = λ l h. elim (has-append l s.listed copies h) [
      | inl old ↦ k.asked l old
      | inr new ↦
          let (p, among, is) = copied l new in
          subst (IsAsked s.grants) (sym is) (k.asked (record { id = id; purpose = p }) (purpose-with id p s among))
    ];
    size = k.size;
    single = k.single;
    linked = requests-more s s.grants copies (λ g h. h) (λ l h. ap (λ (m : Listing). m.id) (copied l h).2) copies-linked k.linked;
    in_range = k.in_range;
    in_allocations = k.in_allocations;
    known = λ g there.
        let (waits, due) = k.known g there in
        (λ w. known-later past later on.let_go g (waits w), λ leased asked. due leased (asked-before (has_request g s) (has_request g after) (not-asked g) asked));
    each = λ g there. elim (k.each g there) [
      | inl (waits, pending) ↦ inl (waits, requested-retried (λ made. made ≤ now) g pending)
      | inr (inl stands) ↦ inr (inl (stands-retried g stands))
      | inr (inr (inl (freed, leased))) ↦ inr (inr (inl (on.let_go g freed, leased)))
      | inr (inr (inr (is, none))) ↦ inr (inr (inr (is, not-asked g none)))
    ];
  }

  pub goes-retried : Goes past later s.transactions after.transactions s after
  goes-retried = record {
    let_go = on.let_go;
    remain = λ g there granted none. (g, there, refl, granted);
    follow = λ until g there waits pending none. inl (there, requested-retried (λ made. made ≤ until) g pending);
  }
