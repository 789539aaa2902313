-- No grant is lost when others expire that were let go.
use Rattle.turn_client_laws.proofs.Common.{◌≡◌, ◌⊎◌, ℕ, ◌+◌, ◌<◌, ◌≤◌, true, false, List, refl, inl, inr, sym, subst, ◌∙◌, arith, nat_le, SocketAddr, cases_lt, lt-leb}
use Rattle.turn_client_laws.proofs.Machine.{pause_end, family_of_grant, has_request, State, TurnEvent, Grant, Allocation, Channel, Permission, Listing, Active, Pending, Reserved, Relay, Has}
use Rattle.turn_client_laws.proofs.Laws.{Room, room-more, IsReserved}
use Rattle.turn_client_runs.specs.History.{History, IsSeldom, extra_since, was_let_go}
use Rattle.turn_client_runs.specs.Lasting.{expiry_of, queue_ahead}
use Rattle.turn_client_runs.proofs.LastingCounts.{passes}
use Rattle.turn_client_runs.proofs.LastingHistory.{GoesOn, known-later}
use Rattle.turn_client_runs.proofs.LastingLeft.{IsGone, IsTidy, ExpiresInto, asked_in, is_lost, unasked-less}
use Rattle.turn_client_runs.proofs.LastingStands.{granted-active, Follows, Goes, IsAwaited, IsGranted, IsIdle, IsKept, IsKnown, IsPending, IsRequested, IsWell, Remains, Stands, asked-before, bound-le, due_of}
use Rattle.turn_client_runs.proofs.LastingStands.{early-paced, is_waiting, kept-changed, pause-paced, soon-by, bound, Lag, requested-more, stands-early, still-paced, used}
use Rattle.turn_client_runs.proofs.LastingTransmits.{reserved-inactive}
use Rattle.turn_client_runs.proofs.GrantInputs.{IsLeased}

-- what waits is not gone
waits-stays : (now : ℕ) (g : Grant) → is_waiting g ≡ true → IsGone now g → ⊥
waits-stays now (Permission ip (Pending kept)) waits gone = gone
waits-stays now (Channel number peer (Pending kept)) waits gone = gone
waits-stays now g waits gone = cc

pub reserved-waits : (g : Grant) → IsReserved g → is_waiting g ≡ true → ⊥
reserved-waits (Channel number peer (Reserved until)) is waits = cc
reserved-waits g is waits = is

reserved-leased : (g : Grant) → IsReserved g → IsLeased g → ⊥
reserved-leased (Channel number peer (Reserved until)) is leased = leased
reserved-leased g is leased = is

-- what is gone has expired, if it was granted
gone-late : (now : ℕ) (g : Grant) → IsGranted g → IsGone now g → expiry_of g ≤ now
gone-late now (Permission ip (Active lease)) granted gone = gone
gone-late now (Channel number peer (Active lease)) granted gone = gone
gone-late now g granted gone = grind arith

-- what is gone does not wait, and was to be refreshed before
gone-unserved : (now since : ℕ) (s : State) → now < since + 150_000_000_000 → (g : Grant) → IsGone now g → (is_waiting g ≡ false) × (nat_le (since + 150_000_000_000) (due_of s g) ≡ false)
gone-unserved now since s near (Permission ip (Active lease)) gone = (refl, lt-leb (since + 150_000_000_000) (due_of s (Permission ip (Active lease))) (omega (arith, near, gone)))
gone-unserved now since s near (Channel number peer (Active lease)) gone = (refl, lt-leb (since + 150_000_000_000) (due_of s (Channel number peer (Active lease))) (omega (arith, near, gone)))
gone-unserved now since s near (Channel number peer (Reserved until)) gone = (refl, lt-leb (since + 150_000_000_000) (due_of s (Channel number peer (Reserved until))) (omega arith))
gone-unserved now since s near g gone = absurd gone

module _ (count slots extras : ℕ) (lag : Lag) (delay now : ℕ) (past later : History) (s : State) (k : IsKept count slots extras lag delay now past s.transactions s) (on : GoesOn s.transactions past later)
    (seldom : IsSeldom extras s.config.refresh_ahead now later) (row : s.challenges ≤ later.challenged)
    (grants : List Grant) (listed : List Listing) (events : List TurnEvent) (closes : List SocketAddr)
    (expires_into : ExpiresInto now s.grants s.listed grants listed) (tidy : IsTidy grants listed)
    (counts : (since : ℕ) → since ≤ now → extra_since since past + passes (is_lost s.listed listed) s.grants ≤ extra_since since later) where
  abbrev t : State
  t = record s { grants = grants; listed = listed; events = events; closes = closes }

  -- what stands is not gone
  stands-stays : (g : Grant) → Has g s.grants → Stands count slots extras lag delay now past s.transactions s g → IsGone now g → ⊥
  stands-stays g there stands gone =
      let early = stands-early count slots extras lag delay now past s k g there stands in
      absurd (omega (arith, early, gone-late now g stands.granted gone))

  -- what is gone was let go, if it was granted
  gone-let_go : (g : Grant) → Has g s.grants → IsGranted g → IsGone now g → was_let_go past g ≡ true
  gone-let_go g there granted gone = elim (k.each g there) [
    | inl (waits, pending) ↦ absurd (waits-stays now g waits gone)
    | inr (inl stands) ↦ absurd (stands-stays g there stands gone)
    | inr (inr (inl freed)) ↦ freed.0
    | inr (inr (inr (is, none))) ↦ absurd (reserved-inactive g is (granted-active g granted))
  ]

  allocation-stays : (a : Relay) → Has (Allocation a) s.grants → Has (Allocation a) grants
  allocation-stays a there = expires_into.stays (Allocation a) there (λ none. none)

  requested-stays : (when : ℕ → Type 0) (g : Grant) → Has g s.grants → (IsGone now g → ⊥) → IsRequested when past s.transactions s.listed g → IsRequested when later s.transactions listed g
  requested-stays when g there not =
      requested-more when past later s.transactions s.transactions s.listed listed g on.same (λ x h. h) (λ l h for. expires_into.remains l h g there for not)

  -- as many were served, or are extra
  still-used : (since : ℕ) → since ≤ now → now < since + 150_000_000_000 → used past s since ≤ used later t since
  still-used since before near =
      let served = expires_into.serves is_waiting (λ g. nat_le (since + 150_000_000_000) (due_of s g)) (gone-unserved now since s near) in
      let extra = counts since before in
      omega (arith, served, extra)

  stands-left : (g : Grant) → Has g s.grants → Stands count slots extras lag delay now past s.transactions s g → Stands count slots extras lag delay now later s.transactions t g
  stands-left g there was = record { granted = was.granted; room = was.room; long = was.long; either = by was.either }
    where
      by : IsAwaited delay past s.transactions s.listed g ⊎ IsIdle slots lag now past s g → IsAwaited delay later s.transactions listed g ⊎ IsIdle slots lag now later t g
      by (inl a) = inl (requested-stays (λ made. made + delay < expiry_of g) g there (stands-stays g there was) a)
      by (inr idle) = elim (cases_lt (due_of s g) now) [
        | inl late ↦
            let few = bound-le count slots extras lag delay now past s.transactions s g k there was.granted idle in
            let pace = k.pace in
            let soon = soon-by lag.since lag.pace (queue_ahead s) (bound slots lag past s g) idle.soon in
            let behind = k.behind in
            let more = still-used (due_of s g) (omega (arith, late)) (omega (arith, soon, behind, few, pace)) in
            inr (record {
              unasked = unasked-less s.listed listed expires_into.listed g idle.unasked;
              near = idle.near;
              soon = still-paced _ _ lag.since _ _ (due_of s g) (due_of s g) slots _ _ refl refl refl more idle.soon;
              paused = still-paced _ _ (pause_end s) _ _ (due_of s g) (due_of s g) slots _ _ refl refl refl more idle.paused;
            })
        | inr early ↦
            let few = k.few in
            let begins = k.begins in
            inr (record {
              unasked = unasked-less s.listed listed expires_into.listed g idle.unasked;
              near = idle.near;
              soon = early-paced lag.pace _ lag.since _ _ now (due_of s g) slots _ refl refl few (omega (arith, begins)) early;
              paused = early-paced lag.pace _ (pause_end s) _ _ now (due_of s g) slots _ refl refl few (pause-paced count slots extras lag delay now past s.transactions s k) early;
            })
      ]

  well-old : (g : Grant) → Has g s.grants → IsWell count slots extras lag delay now later s.transactions t g
  well-old g there = elim (k.each g there) [
    | inl (waits, pending) ↦ inl (waits, requested-stays (λ made. made ≤ now) g there (waits-stays now g waits) pending)
    | inr (inl stands) ↦ inr (inl (stands-left g there stands))
    | inr (inr (inl (freed, leased))) ↦ inr (inr (inl (on.let_go g freed, leased)))
    | inr (inr (inr (is, none))) ↦ inr (inr (inr (is, unasked-less s.listed listed expires_into.listed g none)))
  ]

  well-left : (g : Grant) → Has g grants → IsWell count slots extras lag delay now later s.transactions t g
  well-left g h = elim (expires_into.came g h) [
    | inl old ↦ well-old g old
    | inr takes ↦ inr (inr (inr (takes.is, takes.unasked)))
  ]

  known-left : (g : Grant) → Has g grants → IsKnown now later t g
  known-left g h = elim (expires_into.came g h) [
    | inl old ↦
        let (waits, due) = k.known g old in (
          λ w. known-later past later on.let_go g (waits w),
          λ leased asked. due leased (asked-before (has_request g s) (asked_in listed g) (unasked-less s.listed listed expires_into.listed g) asked),
        )
    | inr takes ↦ (λ w. absurd (reserved-waits g takes.is w), λ leased asked. absurd (reserved-leased g takes.is leased))
  ]

  pub kept-left : IsKept count slots extras lag delay now later s.transactions (record s { grants = grants; listed = listed; events = events; closes = closes })
  kept-left = kept-changed count slots extras lag delay now past later s.transactions s.transactions s on.same seldom k grants listed events s.challenges s.ids closes (record {
    row = row;
    asked = λ l h. let (refreshes, (g, there, for)) = k.asked l (expires_into.listed l h) in (refreshes, (g, expires_into.held l h g there for, for));
    size = let a = k.size in let b = expires_into.size in omega (arith, a, b);
    single = tidy.single;
    linked = tidy.linked;
    in_allocations = λ g h. elim (expires_into.came g h) [
      | inl old ↦ room (family_of_grant g) (k.in_allocations g old)
      | inr takes ↦ subst (Room grants) (sym takes.family) (room (family_of_grant takes.was) (k.in_allocations takes.was takes.there))
    ];
    known = known-left;
    each = well-left;
  })
    where
      room : (family : _) → Room s.grants family → Room grants family
      room = room-more s.grants grants allocation-stays

  pub goes-left : Goes past later s.transactions s.transactions s (record s { grants = grants; listed = listed; events = events; closes = closes })
  goes-left = record { let_go = on.let_go; remain = remains; follow = follows }
    where
      remains : (g : Grant) → Has g s.grants → IsGranted g → was_let_go later g ≡ false → Remains g t
      remains g there granted none = (g, expires_into.stays g there not, refl, granted)
        where
          not : IsGone now g → ⊥
          not gone = let no : false ≡ true = sym none ∙ on.let_go g (gone-let_go g there granted gone) in cc

      follows : (until : ℕ) (g : Grant) → Has g s.grants → is_waiting g ≡ true → IsPending until past s.transactions s.listed g → was_let_go later g ≡ false → Follows until later s.transactions g t
      follows until g there waits pending none = inl (expires_into.stays g there (waits-stays now g waits), requested-stays (λ made. made ≤ until) g there (waits-stays now g waits) pending)
