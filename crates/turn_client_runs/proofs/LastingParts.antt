-- No grant is lost in a part of a run.
use Rattle.turn_client_laws.proofs.Common.{◌≡◌, ◌⊎◌, ℕ, ◌+◌, ◌*◌, ◌<◌, ◌≤◌, max, min, cond, None, Bool, true, false, ◌||◌, eqb, List, [], ◌∷◌, ◌++◌, length, refl, inl, inr, ap, sym, subst, ◌∙◌, arith, is_some, Contains}
use Rattle.turn_client_laws.proofs.Common.{list_any, cases_Bool, eqb-true, AllByRecursion, IsDistinct}
use Rattle.turn_client_laws.proofs.Machine.{Transaction, State, is_kept, pause_end, Grant, Allocation, Permission, Channel, Active, Pending, Listing, Purpose, ForPermission, ForChannel, has_request}
use Rattle.turn_client_laws.proofs.Machine.{family_of_grant, is_for, same_ip, next_transmit, PollTransmit, state_after, state_after_all, Call, Has, all-has, has-all, same_ip-true}
use Rattle.turn_client_laws.proofs.Laws.{room-of, is_double, contains-has, has-contains}
use Rattle.turn_client_runs.specs.LastingRuns.{LastsThrough}
use Rattle.turn_client_runs.specs.Late.{HasRoomBehind, IsLate, IsReady, IsReservedChannel, IsSteadyBehind, OnTimeIsLateByNone, RunsBehind, since_next}
use Rattle.turn_client_runs.specs.Lasting.{with_expiry, IsRequested, RequestsSucceed, as_granted, GrantsLast, HasRoom, HasStill, IsInForce, IsSteady, IsFresh, RunsSteadily, ahead_of, expiry_of}
use Rattle.turn_client_runs.specs.Lasting.{queue_ahead}
use Rattle.turn_client_runs.specs.OnTime.{IsOnTime, time_of, time_of_all}
use Rattle.turn_client_laws.proofs.Laws.{IsReserved}
use Rattle.turn_client_laws.proofs.Machine.{Reserved}
use Rattle.turn_client_laws.proofs.Common.{All}
use Rattle.turn_client_runs.specs.History.{History, IsKeptBy, no_history, was_let_go, with_call}
use Rattle.turn_client_runs.proofs.LastingStands.{ahead-queued, due_of, early-paced, granted-active, leased-active, let_go-became, IsActive, Follows, IsWell, is_waiting, AreSingle, IsGranted, IsKept}
use Rattle.turn_client_runs.proofs.LastingStands.{IsUnique}
use Rattle.turn_client_runs.proofs.LastingStands.{Lag, Stands, not-waiting, pause-le, pause-paced, stands-early, taken}
use Rattle.turn_client_runs.proofs.LastingCounts.{passes}
use Rattle.turn_client_runs.proofs.LastingTransmits.{reserved-inactive}
use Rattle.turn_client_runs.proofs.LastingExpiry.{reserved-waits}
use Rattle.turn_client_runs.proofs.LastingSpared.{kept-spared, pending-spared, spared-none, sparing}
use Rattle.turn_client_runs.proofs.LastingRuns.{KeepsAll, joined}
use Rattle.turn_client_runs.proofs.LastingWays.{Behind, Way, all-kept, behind-way, halves, none-by, onwards}
use Rattle.turn_client_runs.proofs.GrantInputs.{IsLeased}

-- ---- the first state

force-granted : (now : ℕ) (g : Grant) → IsInForce now g → IsGranted g
force-granted now (Allocation a) h = h.0
force-granted now (Permission ip (Active lease)) h = h.0
force-granted now (Channel number peer (Active lease)) h = h.0
force-granted now g h = absurd h

granted-force : (now : ℕ) (g : Grant) → IsGranted g → now < expiry_of g → IsInForce now g
granted-force now (Allocation a) h early = (h, early)
granted-force now (Permission ip (Active lease)) h early = (h, early)
granted-force now (Channel number peer (Active lease)) h early = (h, early)
granted-force now g h early = absurd h

-- grants that differ are not for the same purpose
none-double : (p : Purpose) → IsUnique p → (g : Grant) (gs : List Grant) → is_for p g ≡ true → AllByRecursion (λ h. is_double g h ≡ false) gs → passes (is_for p) gs ≡ 0
none-double p unique g [] is all = refl
none-double p unique g (h ∷ gs) is (differ, others) = let e = apart p unique g h is differ in rw e (omega (arith, none-double p unique g gs is others))
  where
    apart : (p : Purpose) → IsUnique p → (g h : Grant) → is_for p g ≡ true → is_double g h ≡ false → is_for p h ≡ false
    apart (ForPermission ip) u (Permission a m) (Permission c n) is differ = by (same_ip c ip) refl
      where
        by : (b : Bool) → same_ip c ip ≡ b → same_ip c ip ≡ false
        by false e = e
        by true e =
            let here : c ≡ ip = same_ip-true c ip e in
            let no : true ≡ false = sym is ∙ (ap (same_ip a) (sym here) ∙ differ) in
            cc
    apart (ForChannel number peer) u (Channel a at m) (Channel c ct n) is differ = by (eqb c number) refl
      where
        by : (b : Bool) → eqb c number ≡ b → eqb c number ≡ false
        by false e = e
        by true e =
            let here : c ≡ number = eqb-true c number e in
            let no : true ≡ false = sym is ∙ (ap (eqb a) (sym here) ∙ differ) in
            cc
    apart p u g h is differ = grind arith

single-first : (gs : List Grant) → IsDistinct is_double gs → AreSingle gs
unfolding IsDistinct
single-first [] distinct p unique = omega arith
single-first (g ∷ gs) (apart, others) p unique = elim (cases_Bool (is_for p g)) [
  | inl e ↦ rw e (omega (arith, none-double p unique g gs e apart))
  | inr e ↦ rw e (omega (arith, single-first gs others p unique))
]

-- how a caller that is so late lags behind at first
abbrev pub first_lag : ℕ → ℕ → State → Lag
first_lag late now s = record { late = late; since = now; pace = s.config.request_cadence + late }

reserved-is : (g : Grant) → IsReservedChannel g → IsReserved g
reserved-is (Channel number peer (Reserved until)) h = tt
reserved-is g h = grind arith

pub steady-kept : (count slots extras late delay now : ℕ) (s : State) → IsSteadyBehind count slots extras late delay now s
    → IsKept count slots extras (first_lag late now s) delay now (no_history s) s.transactions s
steady-kept count slots extras late delay now s is = record {
  phase = is.allocated;
  requests = rw is.none_queued refl;
  few = is.within.1;
  prompt = is.prompt;
  paced = omega arith;
  begins = omega arith;
  behind = omega arith;
  pace = is.room_for_more;
  sent = is.sent_before;
  aged = λ x h. absurd (none-there x h);
  lone = λ x y h. absurd (none-there x h);
  begun = λ x h. absurd (none-there x h);
  heard = λ x h. absurd (none-there x h);
  seldom = λ since within. omega arith;
  row = omega arith;
  asked = λ l h. absurd (subst (λ (ls : List Listing). Has l ls) is.none_listed h);
  size = is.within.0;
  single = single-first s.grants is.distinct;
  linked = λ id. rw is.none_listed tt;
  in_range = is.in_range;
  in_allocations = λ g there. room-of (family_of_grant g) s
      (has-all (λ g. is_some (Rattle.turn_client_api.specs.Grants.find_allocation (family_of_grant g) s) ≡ true) g s.grants is.in_allocations there);
  known = λ g there. (waits g there, λ leased asked. absurd (let no : false ≡ true = sym (unasked g s.listed is.none_listed) ∙ asked in cc));
  each = λ g there. elim (each g there) [
    | inl reserved ↦ inr (inr (inr (reserved-is g reserved, unasked g s.listed is.none_listed)))
    | inr ready ↦ inr (inl (stands g ready))
  ];
}
  where
    each : (g : Grant) → Has g s.grants → IsReservedChannel g ⊎ IsReady count slots extras late delay now s g
    each g there = has-all (λ g. IsReservedChannel g ⊎ IsReady count slots extras late delay now s g) g s.grants is.grants there

    waits : (g : Grant) → Has g s.grants → is_waiting g ≡ true → (is_kept g || was_let_go (no_history s) g) ≡ true
    waits g there w = elim (each g there) [
      | inl reserved ↦ absurd (reserved-waits g (reserved-is g reserved) w)
      | inr ready ↦ absurd (let no : false ≡ true = sym (not-waiting g (granted-active g (force-granted now g ready.in_force))) ∙ w in cc)
    ]

    none-there : (x : Transaction) → Has x s.transactions → ⊥
    none-there x h = subst (λ (xs : List Transaction). Has x xs) is.none_outstanding h

    unasked : (g : Grant) (ls : List Listing) → ls ≡ [] → list_any (λ (l : Listing). is_for l.purpose g) ls ≡ false
    unasked g ls e = rw e refl

    none : queue_ahead s ≡ 0
    none = let few = ahead-queued s in let e : length s.queue ≡ 0 = rw is.none_queued refl in omega (arith, few, e)

    stands : (g : Grant) → IsReady count slots extras late delay now s g → Stands count slots extras (first_lag late now s) delay now (no_history s) s.transactions s g
    stands g ready =
        let early : now + ahead_of s.config.refresh_ahead g ≤ expiry_of g = ready.none_late in
        record {
          granted = force-granted now g ready.in_force;
          room = ready.room;
          long = omega (arith, early);
          either = inr (record {
            unasked = unasked g s.listed is.none_listed;
            near = omega (arith, early);
            soon = rw none (omega (arith, early));
            paused = rw none (omega (arith, early, pause-le now s is.sent_before));
          });
        }

early-of : (count slots extras : ℕ) (lag : Lag) (delay now : ℕ) (past : History) (t : State)
    → IsKept count slots extras lag delay now past t.transactions t → (h : Grant) → Has h t.grants → IsGranted h → was_let_go past h ≡ false
    → now < expiry_of h
early-of count slots extras lag delay now past t k h here granted none = elim (k.each h here) [
  | inl (waits, pending) ↦ absurd (let no : false ≡ true = sym (not-waiting h (granted-active h granted)) ∙ waits in cc)
  | inr (inl stands) ↦ stands-early count slots extras lag delay now past t k h here stands
  | inr (inr (inl freed)) ↦ absurd (let no : false ≡ true = sym none ∙ freed.0 in cc)
  | inr (inr (inr (is, unasked))) ↦ absurd (reserved-inactive h is (granted-active h granted))
]

force-key : (now : ℕ) (g : Grant) → IsInForce now g → with_expiry 0 g ≡ as_granted g
force-key now (Allocation a) h = refl
force-key now (Permission ip (Active lease)) h = refl
force-key now (Channel number peer (Active lease)) h = refl
force-key now g h = absurd h

requested-waits : (g : Grant) → IsRequested g → (is_waiting g ≡ true) × (is_kept g ≡ true)
requested-waits (Permission ip (Pending is_kept)) h = (refl, h)
requested-waits (Channel number peer (Pending is_kept)) h = (refl, h)
requested-waits g h = absurd h

-- a permission or a channel whose refresh time is yet to come stands, whatever was let go before
fresh-stands : (count slots extras : ℕ) (lag : Lag) (delay now : ℕ) (past : History) (s : State) → IsKept count slots extras lag delay now past s.transactions s → (g : Grant) → Has g s.grants → IsGranted g → IsLeased g
    → IsFresh now s g → Stands count slots extras lag delay now past s.transactions s g
fresh-stands count slots extras lag delay now past s k g there granted leased fresh =
    let few = k.few in
    let early : now ≤ due_of s g = omega (arith, fresh) in
    let begins = k.begins in
    record {
      granted = granted;
      room = let pace = k.pace in let more = leased-ahead s.config.refresh_ahead g leased in omega (arith, pace, more);
      long = omega (arith, fresh);
      either = inr (record {
        unasked = unasked (has_request g s) refl;
        near = omega (arith, early);
        soon = early-paced lag.pace _ lag.since _ _ now (due_of s g) slots _ refl refl few (omega (arith, begins)) early;
        paused = early-paced lag.pace _ (pause_end s) _ _ now (due_of s g) slots _ refl refl few (pause-paced count slots extras lag delay now past s.transactions s k) early;
      });
    }
  where
    leased-ahead : (ahead : ℕ) (g : Grant) → IsLeased g → min ahead 150_000_000_000 ≤ ahead_of ahead g
    leased-ahead ahead (Permission ip (Active lease)) h = omega arith
    leased-ahead ahead (Channel number peer (Active lease)) h = omega arith
    leased-ahead ahead g h = absurd h

    unasked : (b : Bool) → has_request g s ≡ b → has_request g s ≡ false
    unasked false e = e
    unasked true e = let due = (k.known g there).1 leased e in absurd (omega (arith, due, fresh))

-- the rest of a run, in which the grant is not let go
module _ (count slots extras delay : ℕ) (Runs : ℕ → ℕ → ℕ → History → State → List Call → Type 0) (onward : Call → ℕ → State → History → History) (way : Way count slots extras delay Runs onward)
    (lag : Lag) (between : ℕ) (mid_past : History) (mid : State) (kept-mid : IsKept count slots extras lag delay between mid_past mid.transactions mid) (later : List Call)
    (run : Runs lag.late lag.since between mid_past mid later) (g : Grant) (here : Has g mid.grants) (kept : IsKeptBy later between mid g) where
  abbrev last : ℕ
  last = time_of_all between later

  abbrev end : State
  end = state_after_all mid later

  -- what came before, without the grant; and at the end
  abbrev spared : History
  spared = sparing g mid_past

  abbrev end_past : History
  end_past = onwards onward later between mid spared

  end-spares : was_let_go end_past g ≡ false
  end-spares = none-by count slots extras delay Runs onward way later between mid spared g (spared-none g mid_past) kept

  -- it stands, or waits and is kept, whatever was let go before
  abbrev IsSure : Type 0
  IsSure = Stands count slots extras lag delay between mid_past mid.transactions mid g ⊎ ((is_waiting g ≡ true) × (is_kept g ≡ true))

  at-end : IsSure → (since : ℕ) × KeepsAll count slots extras (taken since lag) delay last spared end_past mid end
  at-end sure =
      all-kept count slots extras delay Runs onward way lag between spared mid later (kept-spared count slots extras lag delay between mid_past mid kept-mid g here sure)
      (way.alike lag.late lag.since between mid_past spared mid later (λ id. refl) refl refl run)

  -- how the caller lags behind at the end
  abbrev last_lag : IsSure → Lag
  last_lag sure = taken (at-end sure).0 lag

  kept-end : (sure : IsSure) → KeepsAll count slots extras (last_lag sure) delay last spared end_past mid end
  kept-end sure = (at-end sure).1

  has-still : IsSure → (h : Grant) → Has h end.grants → with_expiry 0 h ≡ as_granted g → IsGranted h → HasStill g last end
  has-still sure h at_end same granted = (
    h,
    has-contains h end.grants at_end,
    same,
    granted-force last h granted (early-of count slots extras (last_lag sure) delay last end_past end (kept-end sure).0 h at_end granted (let_go-became end_past g h same ∙ end-spares)),
  )

  pub lasts : IsInForce between g → (was_let_go mid_past g ≡ false) ⊎ IsFresh between mid g → HasStill g last end
  lasts in_force counted = ends (stands (kept-mid.each g here))
    where
      granted : IsGranted g
      granted = force-granted between g in_force

      stands : IsWell count slots extras lag delay between mid_past mid.transactions mid g → Stands count slots extras lag delay between mid_past mid.transactions mid g
      stands (inl (waits, pending)) = absurd (let no : false ≡ true = sym (not-waiting g (granted-active g granted)) ∙ waits in cc)
      stands (inr (inl is)) = is
      stands (inr (inr (inr (is, none)))) = absurd (reserved-inactive g is (granted-active g granted))
      stands (inr (inr (inl (freed, leased)))) = elim counted [
        | inl never ↦ absurd (let no : false ≡ true = sym never ∙ freed in cc)
        | inr fresh ↦ fresh-stands count slots extras lag delay between mid_past mid kept-mid g here granted leased fresh
      ]

      ends : Stands count slots extras lag delay between mid_past mid.transactions mid g → HasStill g last end
      ends is =
          let (h, at_end, same, still) = (kept-end (inl is)).1.remain g here granted end-spares in
          has-still (inl is) h at_end (same ∙ force-key between g in_force) still

  pub succeeds : IsRequested g → between + delay < last → HasStill g last end
  succeeds requested after_delay = by (kept-mid.each g here)
    where
      waits : (is_waiting g ≡ true) × (is_kept g ≡ true)
      waits = requested-waits g requested

      follows : Follows between end_past end.transactions g end → HasStill g last end
      follows (inl (remains, p)) = let heard = (kept-end (inr waits)).0.heard p.transaction p.there in let made = p.made in absurd (omega (arith, heard, made, after_delay))
      follows (inr (h, at_end, same, granted)) = has-still (inr waits) h at_end same granted

      active : IsActive g → HasStill g last end
      active is = absurd (let no : false ≡ true = sym (not-waiting g is) ∙ waits.0 in cc)

      by : IsWell count slots extras lag delay between mid_past mid.transactions mid g → HasStill g last end
      by (inl (waiting, pending)) = follows ((kept-end (inr waits)).1.follow between g here waiting (pending-spared between mid_past mid.transactions mid.listed g g pending) end-spares)
      by (inr (inl stands)) = active (granted-active g stands.granted)
      by (inr (inr (inl (freed, leased)))) = active (leased-active g leased)
      by (inr (inr (inr (is, none)))) = absurd (reserved-waits g is waits.0)

none-yet : (s : State) (g : Grant) → was_let_go (no_history s) g ≡ false
none-yet s (Permission ip progress) = refl
none-yet s (Channel number peer progress) = refl
none-yet s g = refl

-- of the calls of the second part alone
pub lasts-through : (count slots extras delay : ℕ) (Runs : ℕ → ℕ → ℕ → History → State → List Call → Type 0) (onward : Call → ℕ → State → History → History) → Way count slots extras delay Runs onward
    → (late now : ℕ) (s : State) (before after : List Call) → IsSteadyBehind count slots extras late delay now s → Runs late now now (no_history s) s (before ++ after)
    → LastsThrough delay now s before after
lasts-through count slots extras delay Runs onward way late now s before after steady run g there kept =
    let parts = halves count slots extras delay Runs onward way (first_lag late now s) now (no_history s) s before after (steady-kept count slots extras late delay now s steady) run in
    let lag = taken parts.since (first_lag late now s) in
    let past = onwards onward before now s (no_history s) in
    let here = contains-has g (state_after_all s before).grants there in (
      λ in_force counted. lasts count slots extras delay Runs onward way lag (time_of_all now before) past (state_after_all s before) parts.kept after parts.run g here kept in_force (elim counted [
        | inl still ↦ inl (none-by count slots extras delay Runs onward way before now s (no_history s) g (none-yet s g) still)
        | inr fresh ↦ inr fresh
      ]),
      succeeds count slots extras delay Runs onward way lag (time_of_all now before) past (state_after_all s before) parts.kept after parts.run g here kept,
    )

-- ---- a caller that is on time

-- with room for a caller that is so late
pub behind-of : (count slots extras late delay now : ℕ) (s : State) → IsSteady count slots extras delay now s
    → All (λ g. HasRoomBehind count slots extras late s.config.request_cadence delay (ahead_of s.config.refresh_ahead g)) s.grants
    → HasRoomBehind count slots extras late s.config.request_cadence delay (min s.config.refresh_ahead 150_000_000_000) → IsSteadyBehind count slots extras late delay now s
behind-of count slots extras late delay now s is room more = record {
  allocated = is.allocated;
  none_queued = is.none_queued;
  none_outstanding = is.none_outstanding;
  none_listed = is.none_listed;
  sent_before = is.sent_before;
  grants = all-has (λ g. IsReservedChannel g ⊎ IsReady count slots extras late delay now s g) s.grants (λ g h. inr (record {
    in_force = has-all (IsInForce now) g s.grants is.in_force h;
    none_late = has-all (λ g. now + ahead_of s.config.refresh_ahead g ≤ expiry_of g) g s.grants is.none_late h;
    room = has-all (λ g. HasRoomBehind count slots extras late s.config.request_cadence delay (ahead_of s.config.refresh_ahead g)) g s.grants room h;
  }));
  room_for_more = more;
  within = is.within;
  distinct = is.distinct;
  in_allocations = is.in_allocations;
  prompt = is.prompt;
  in_range = is.in_range;
}

steady-behind : (count slots extras delay now : ℕ) (s : State) → IsSteady count slots extras delay now s → IsSteadyBehind count slots extras 0 delay now s
steady-behind count slots extras delay now s is = behind-of count slots extras 0 delay now s is
    (all-has (λ g. HasRoomBehind count slots extras 0 s.config.request_cadence delay (ahead_of s.config.refresh_ahead g)) s.grants (λ g h.
    same (count + slots + extras) s.config.request_cadence (ahead_of s.config.refresh_ahead g)
    (has-all (λ g. HasRoom count slots extras s.config.request_cadence delay (ahead_of s.config.refresh_ahead g)) g s.grants is.room h)))
    (same (count + slots + extras) s.config.request_cadence (min s.config.refresh_ahead 150_000_000_000) is.room_for_more)
  where
    same : (n cadence ahead : ℕ) → n * cadence + delay < ahead → n * (cadence + 0) + delay + 0 < ahead
    same n cadence ahead h = omega (arith, h)

-- whether a packet is taken or not
pub taken-now : (call : Call) (before : ℕ) (s : State) → since_next call s (time_of before call) ≡ time_of before call
taken-now (PollTransmit now) before s = by (is_some (next_transmit now s))
  where
    by : (b : Bool) → cond b now now ≡ now
    by true = refl
    by false = refl
taken-now call before s = refl

-- a caller that is on time is late by no more than any time
pub late-at : (late before now : ℕ) (s : State) → IsOnTime before now s → IsLate late before before now now s
late-at late before now s is = record {
  later = is.later;
  in_range = is.in_range;
  from = is.later;
  begun = omega arith;
  soon = omega arith;
  free = λ time after early.
      let same : max time before ≡ time = omega (arith, after) in
      subst (λ (t : ℕ). next_transmit t s ≡ None) (sym same) (is.punctual time after early);
}

-- so it is with any lateness
pub runs-behind : (count slots extras late delay before : ℕ) (past : History) (s : State) (calls : List Call) → RunsSteadily count slots extras delay before past s calls
    → RunsBehind count slots extras late delay before before past s calls
runs-behind count slots extras late delay before past s [] run = tt
runs-behind count slots extras late delay before past s (call ∷ calls) (in_time, quiet, within, seldom, run) = (
  time_of before call,
  record {
    caller = late-at late before (time_of before call) s in_time.on_time;
    answered = in_time.answered;
  },
  inl quiet,
  within,
  seldom,
  subst (λ (since : ℕ). RunsBehind count slots extras late delay since (time_of before call) (with_call call (time_of before call) s past) (state_after call s) calls)
      (sym (taken-now call before s))
      (runs-behind count slots extras late delay (time_of before call) (with_call call (time_of before call) s past) (state_after call s) calls run),
)

pub on-time-behind : OnTimeIsLateByNone
on-time-behind count slots extras delay now s calls steady run = (steady-behind count slots extras delay now s steady, runs-behind count slots extras 0 delay now (no_history s) s calls run)

module _ (count slots extras delay now : ℕ) (s : State) (earlier later : List Call) (steady : IsSteady count slots extras delay now s)
    (run : RunsSteadily count slots extras delay now (no_history s) s (earlier ++ later))
    (g : Grant) (there : Contains (state_after_all s earlier).grants g) (kept : IsKeptBy later (time_of_all now earlier) (state_after_all s earlier) g) where
  abbrev Ends : State → Type 0
  Ends t = HasStill g (time_of_all (time_of_all now earlier) later) t

  both : (IsInForce (time_of_all now earlier) g → IsKeptBy earlier now s g ⊎ IsFresh (time_of_all now earlier) (state_after_all s earlier) g → Ends (state_after_all (state_after_all s earlier) later))
      × (IsRequested g → time_of_all now earlier + delay < time_of_all (time_of_all now earlier) later → Ends (state_after_all (state_after_all s earlier) later))
  both = lasts-through count slots extras delay (Behind count slots extras delay) with_call (behind-way count slots extras delay) 0 now s earlier later
      (steady-behind count slots extras delay now s steady)
      (runs-behind count slots extras 0 delay now (no_history s) s (earlier ++ later) run) g there kept

  ends : Ends (state_after_all (state_after_all s earlier) later) → Ends (state_after_all s (earlier ++ later))
  ends = subst Ends (sym (joined s earlier later))

pub grants-last : GrantsLast
grants-last count slots extras delay now s earlier later steady run g there in_force counted kept =
    ends count slots extras delay now s earlier later steady run g there kept ((both count slots extras delay now s earlier later steady run g there kept).0 in_force counted)

pub requests-succeed : RequestsSucceed
requests-succeed count slots extras delay now s earlier later steady run g there requested after_delay kept =
    ends count slots extras delay now s earlier later steady run g there kept ((both count slots extras delay now s earlier later steady run g there kept).1 requested after_delay)
