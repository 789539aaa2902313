-- What a success changes while no grant is lost.
use Rattle.turn_client_laws.proofs.Common.{◌≡◌, ◌⊎◌, ℕ, ◌+◌, ◌*◌, ◌<◌, ◌≤◌, Bool, true, false, cond, not, ◌&&◌, ◌||◌, List, [], ◌∷◌, map, fold, refl, inl, inr, ap, sym, subst, ◌∙◌, arith}
use Rattle.turn_client_laws.proofs.Common.{filter, length-append, length-map, list_any, and_from, and_parts, cases_Bool, cases_lt, eqb-true, le-leb, not-true, not_from_false, or_left, or_right}
use Rattle.turn_client_laws.proofs.Common.{eq-eqb}
use Rattle.turn_client_laws.proofs.Machine.{AddressFamily, Transaction, State, Grant, Allocation, Permission, Channel, Active, Pending, Listing, Purpose, ForRefresh, ForPermission, ForChannel}
use Rattle.turn_client_laws.proofs.Machine.{family_of, family_of_grant, has_request, is_for, purposes_of, is_kept, pause_end, effect, same_ip-true, Has, filter-has, has-filter, has-left}
use Rattle.turn_client_laws.proofs.Machine.{has-right, map-has, channel_bind_method, method_for, method_in, is_answered}
use Rattle.turn_client_laws.proofs.Laws.{IsReserved, has-mapped, Room, any-has, has-any, room-more, same_family-true}
use Rattle.turn_client_runs.specs.History.{History, was_let_go}
use Rattle.turn_client_runs.specs.Lasting.{as_granted, Answers, Grants, ahead_of, expiry_of, queue_ahead, with_expiry}
use Rattle.turn_client_runs.proofs.AppendLemmas.{has-last}
use Rattle.turn_client_runs.proofs.LastingCounts.{or_else, or_first, length-without, passes, passes-all, passes-append, passes-filter, passes-map, passes-mapped, passes-none, passes-split}
use Rattle.turn_client_runs.proofs.LastingCounts.{passes-same, passes-two}
use Rattle.turn_client_runs.proofs.LastingStands.{AllRemain, Follows, Goes, IsPending, goes-more, goes-trans, requested-more, IsRequested, AreRequests, Brings, IsRequest, listed_as, IsAsked}
use Rattle.turn_client_runs.proofs.LastingStands.{IsAwaited, asked-before, kept-changed, granted-active, kept-granted, leased-active, let_go-became, let_go-with, reserved-unserved, IsActive, IsKnown}
use Rattle.turn_client_runs.proofs.LastingStands.{IsLoose, IsGranted, IsIdle, IsKept, IsRefreshing, Stands, due_of, early-paced, still-paced, is_served, not-waiting, pause-paced, Lag, IsUnique, IsWell}
use Rattle.turn_client_runs.proofs.LastingStands.{is_waiting, served, used, unique-refreshing, unique-spares}
use Rattle.turn_client_runs.proofs.LastingListings.{requests-left}
use Rattle.turn_client_runs.proofs.LastingEffects.{effect-resets, IsForGranted, IsOfKind, Does, granted_for, IsGrantedAnew, effect-brings, effect-does, granted_by, is_shared, renewed_by, renews}
use Rattle.turn_client_runs.proofs.GrantInputs.{IsLeased}

-- ---- two requests for one grant are for the same grants

pub for-joins : (p q : Purpose) (g h : Grant) → IsRefreshing p → IsRefreshing q → is_for p h ≡ true → is_for q h ≡ true → is_for q g ≡ true → is_for p g ≡ true
for-joins (ForRefresh family lifetime) (ForRefresh other n) (Allocation a) (Allocation b) x y e f i =
    let one : family_of b.relayed ≡ family = same_family-true (family_of b.relayed) family e in
    let two : family_of b.relayed ≡ other = same_family-true (family_of b.relayed) other f in
    let is : other ≡ family = sym two ∙ one in
    rw (sym is) i
for-joins (ForPermission ip) (ForPermission other) (Permission a m) (Permission b n) x y e f i =
    let one : b ≡ ip = same_ip-true b ip e in
    let two : b ≡ other = same_ip-true b other f in
    let is : other ≡ ip = sym two ∙ one in
    rw (sym is) i
for-joins (ForChannel number peer) (ForChannel other to) (Channel a at m) (Channel b bt n) x y e f i =
    let one : b ≡ number = eqb-true b number e in
    let two : b ≡ other = eqb-true b other f in
    let is : other ≡ number = sym two ∙ one in
    rw (sym is) i
for-joins p q g h x y e f i = grind arith

-- ---- grants that are renewed

with-for : (q : Purpose) (expiry : ℕ) (g : Grant) → is_for q (with_expiry expiry g) ≡ is_for q g
with-for q expiry g = grind arith

renews-for : (q p : Purpose) (expiry : ℕ) (g : Grant) → is_for q (renews p expiry g) ≡ is_for q g
renews-for q p expiry g = by (is_for p g)
  where
    by : (b : Bool) → is_for q (cond b (with_expiry expiry g) g) ≡ is_for q g
    by true = with-for q expiry g
    by false = refl

with-granted : (expiry : ℕ) (g : Grant) → IsGranted g → IsGranted (with_expiry expiry g)
with-granted expiry g h = grind arith

with-expires : (expiry : ℕ) (g : Grant) → IsActive g → expiry_of (with_expiry expiry g) ≡ expiry
with-expires expiry g h = grind arith

with-ahead : (ahead expiry : ℕ) (g : Grant) → ahead_of ahead (with_expiry expiry g) ≡ ahead_of ahead g
with-ahead ahead expiry (Allocation a) = refl
with-ahead ahead expiry (Permission ip (Active w)) = refl
with-ahead ahead expiry (Channel number peer (Active w)) = refl
with-ahead ahead expiry g = grind arith

-- a grant is granted for longer than its refresh is ahead
for-longer : (ahead : ℕ) (p : Purpose) (g : Grant) → IsRefreshing p → is_for p g ≡ true → ahead_of ahead g + 150_000_000_000 ≤ granted_for p
for-longer ahead (ForRefresh family lifetime) (Allocation a) r for = omega arith
for-longer ahead (ForPermission ip) (Permission other progress) r for = omega arith
for-longer ahead (ForChannel number peer) (Channel other to progress) r for = omega arith
for-longer ahead p g r for = grind arith

with-family : (expiry : ℕ) (g : Grant) → family_of_grant (with_expiry expiry g) ≡ family_of_grant g
with-family expiry g = grind arith

with-twice : (later expiry : ℕ) (g : Grant) → with_expiry later (with_expiry expiry g) ≡ with_expiry later g
with-twice later expiry (Allocation a) = refl
with-twice later expiry g = grind arith

with-leased : (expiry : ℕ) (g : Grant) → IsLeased g → IsLeased (with_expiry expiry g)
with-leased expiry g h = grind arith

with-reserved : (expiry : ℕ) (g : Grant) → IsReserved g → with_expiry expiry g ≡ g
with-reserved expiry g h = grind arith

with-waits : (expiry : ℕ) (g : Grant) → is_waiting (with_expiry expiry g) ≡ is_waiting g
with-waits expiry g = grind arith

with-kept : (expiry : ℕ) (g : Grant) → is_kept (with_expiry expiry g) ≡ is_kept g
with-kept expiry g = grind arith

with-waiting : (expiry : ℕ) (g : Grant) → is_waiting g ≡ true → with_expiry expiry g ≡ g
with-waiting expiry (Permission ip (Pending is_kept)) h = refl
with-waiting expiry (Channel number peer (Pending is_kept)) h = refl
with-waiting expiry g h = cc

-- ---- what is answered is listed no more

-- what is listed is listed for nothing that this purpose is for
abbrev left : Purpose → State → List Listing
left p u = filter (λ l. not (is_shared p u.grants l)) u.listed

module _ (count slots extras : ℕ) (lag : Lag) (delay now : ℕ) (past : History) (transactions : List Transaction) (u : State)
    (k : IsKept count slots extras lag delay now past transactions u) (p : Purpose) (refreshing : IsRefreshing p) where
  -- what is listed still was listed, and for nothing that is answered
  kept-listing : (l : Listing) → Has l (left p u) → Has l u.listed × (is_shared p u.grants l ≡ false)
  kept-listing l h = let (there, keeps) = has-filter (λ (l : Listing). not (is_shared p u.grants l)) l u.listed h in (there, not-true (is_shared p u.grants l) keeps)

  -- a request for a grant that is not answered stays
  stays : (l : Listing) (g : Grant) → Has l u.listed → is_for l.purpose g ≡ true → is_for p g ≡ false → Has l (left p u)
  stays l g there for other = filter-has (λ (l : Listing). not (is_shared p u.grants l)) l u.listed there (by (is_shared p u.grants l) refl)
    where
      by : (b : Bool) → is_shared p u.grants l ≡ b → not (is_shared p u.grants l) ≡ true
      by false e = rw e refl
      by true e =
          let (h, here, both) = any-has (λ g. is_for p g && is_for l.purpose g) u.grants e in
          let (one, two) = and_parts (is_for p h) (is_for l.purpose h) both in
          let joined = for-joins p l.purpose g h refreshing (k.asked l there).0 one two for in
          let no : false ≡ true = sym other ∙ joined in
          cc

  asked-by : (g : Grant) (ls : List Listing) → list_any (λ (l : Listing). is_for l.purpose g) ls ≡ true → (l : Listing) × Has l ls × (is_for l.purpose g ≡ true)
  asked-by g ls e = any-has (λ (l : Listing). is_for l.purpose g) ls e

  is_asked : Grant → List Listing → Bool
  is_asked g ls = list_any (λ (l : Listing). is_for l.purpose g) ls

  -- its request is not answered by this
  still-asked : (g : Grant) → has_request g u ≡ true → is_for p g ≡ false → list_any (λ (l : Listing). is_for l.purpose g) (left p u) ≡ true
  still-asked g e other =
      let (l, there, for) = asked-by g u.listed e in
      has-any (λ (l : Listing). is_for l.purpose g) l (left p u) (stays l g there for other) for

  not-asked : (g : Grant) → has_request g u ≡ false → list_any (λ (l : Listing). is_for l.purpose g) (left p u) ≡ false
  not-asked g e = by (list_any (λ (l : Listing). is_for l.purpose g) (left p u)) refl
    where
      by : (b : Bool) → list_any (λ (l : Listing). is_for l.purpose g) (left p u) ≡ b → list_any (λ (l : Listing). is_for l.purpose g) (left p u) ≡ false
      by false f = f
      by true f =
          let (l, there, for) = asked-by g (left p u) f in
          let no : false ≡ true = sym e ∙ has-any (λ (l : Listing). is_for l.purpose g) l u.listed (kept-listing l there).0 for in
          cc

  -- a grant that is answered is asked for no more, also in another shape
  answered : (g h : Grant) → Has g u.grants → is_for p g ≡ true → ((l : Listing) → Has l u.listed → is_for l.purpose h ≡ true → is_for l.purpose g ≡ true)
      → list_any (λ (l : Listing). is_for l.purpose h) (left p u) ≡ false
  answered g h there is alike = by (list_any (λ (l : Listing). is_for l.purpose h) (left p u)) refl
    where
      by : (b : Bool) → list_any (λ (l : Listing). is_for l.purpose h) (left p u) ≡ b → list_any (λ (l : Listing). is_for l.purpose h) (left p u) ≡ false
      by false f = f
      by true f =
          let (l, here, for) = asked-by h (left p u) f in
          let (was, unshared) = kept-listing l here in
          let no : false ≡ true = sym unshared ∙ has-any (λ g. is_for p g && is_for l.purpose g) g u.grants there (and_from (is_for p g) (is_for l.purpose g) is (alike l was for)) in
          cc

  -- a request is not for what is answered
  others-asked : (l : Listing) → Has l (left p u) → (g : Grant) → Has g u.grants → is_for l.purpose g ≡ true → is_for p g ≡ false
  others-asked l h g there for = by (is_for p g) refl
    where
      by : (b : Bool) → is_for p g ≡ b → is_for p g ≡ false
      by false e = e
      by true e =
          let no : false ≡ true = sym (kept-listing l h).1 ∙ has-any (λ g. is_for p g && is_for l.purpose g) g u.grants there (and_from (is_for p g) (is_for l.purpose g) e for) in
          cc

  -- what is listed under one ID is so still
  linked-left : (hs : List Grant) → ((g : Grant) → Has g u.grants → is_for p g ≡ false → Has g hs) → AreRequests hs (left p u)
  linked-left hs more = requests-left u.grants hs (is_shared p u.grants) u.listed
      (λ l there e g here for. more g here
      (others-asked l (filter-has (λ (l : Listing). not (is_shared p u.grants l)) l u.listed there (not_from_false (is_shared p u.grants l) e)) g here for)) k.linked

  -- a request for what is not answered awaits its reply still
  requested-other : (when : ℕ → Type 0) (g : Grant) → is_for p g ≡ false → IsRequested when past transactions u.listed g → IsRequested when past transactions (left p u) g
  requested-other when g other = requested-more when past past transactions transactions u.listed (left p u) g (λ x h. refl) (λ x h. h) (λ l h for. stays l g h for other)

  pauses-same : (t : State) → t.config ≡ u.config → t.last_send ≡ u.last_send → pause_end t ≡ pause_end u
  pauses-same t same sends = rw (same, sends) refl

  -- if as many grants are served as before, the others stand as they did
  stands-other : (t : State) → t.config ≡ u.config → t.listed ≡ left p u → t.queue ≡ u.queue → t.last_send ≡ u.last_send → ((since : ℕ) → since ≤ now → served u since ≤ served t since)
      → (g : Grant) → is_for p g ≡ false → Stands count slots extras lag delay now past transactions u g → Stands count slots extras lag delay now past transactions t g
  stands-other t same ls qs sends serves g other was = record { granted = was.granted; room = rw same was.room; long = rw same was.long; either = by was.either }
    where
      len : queue_ahead t ≡ queue_ahead u
      len = rw (same, qs) refl

      pauses : pause_end t ≡ pause_end u
      pauses = pauses-same t same sends

      dues : due_of t g ≡ due_of u g
      dues = rw same refl

      asks : has_request g t ≡ list_any (λ (l : Listing). is_for l.purpose g) (left p u)
      asks = ap (λ (ls : List Listing). list_any (λ (l : Listing). is_for l.purpose g) ls) ls

      by : IsAwaited delay past transactions u.listed g ⊎ IsIdle slots lag now past u g → IsAwaited delay past transactions t.listed g ⊎ IsIdle slots lag now past t g
      by (inl a) = inl (rw ls (requested-other (λ made. made + delay < expiry_of g) g other a))
      by (inr idle) = elim (cases_lt (due_of u g) now) [
        | inl late ↦
            let fewest : used past u (due_of u g) ≤ used past t (due_of u g) = let h = serves (due_of u g) (omega (arith, late)) in omega (arith, h) in
            let no_fewer : used past u (due_of u g) ≤ used past t (due_of t g) = subst (λ (since : ℕ). used past u (due_of u g) ≤ used past t since) (sym dues) fewest in
            inr (record {
              unasked = asks ∙ not-asked g idle.unasked;
              near = rw same idle.near;
              soon = still-paced _ _ lag.since _ _ (due_of u g) (due_of t g) slots _ _ refl len dues no_fewer idle.soon;
              paused = still-paced _ _ (pause_end t) _ _ (due_of u g) (due_of t g) slots _ _ refl len dues no_fewer (rw pauses idle.paused);
            })
        | inr early ↦
            let few = k.few in
            let begins = k.begins in
            inr (record {
              unasked = asks ∙ not-asked g idle.unasked;
              near = rw same idle.near;
              soon = early-paced _ _ lag.since _ _ now (due_of t g) slots _ refl len few (omega (arith, begins)) (rw dues early);
              paused = early-paced _ _ (pause_end t) _ _ now (due_of t g) slots _ refl len few (rw pauses (pause-paced count slots extras lag delay now past transactions u k)) (rw dues early);
            })
      ]

  -- what was let go is so still, and is requested no more
  loose-other : (t : State) → t.listed ≡ left p u → (g : Grant) → IsLoose past u g → IsLoose past t g
  loose-other t ls g (inl freed) = inl freed
  loose-other t ls g (inr (is, none)) = inr (is, ap (λ (ls : List Listing). list_any (λ (l : Listing). is_for l.purpose g) ls) ls ∙ not-asked g none)

  -- what was asked for since its refresh time is so, if at all
  known-other : (t : State) → t.config ≡ u.config → t.listed ≡ left p u → (g : Grant) → IsKnown now past u g → IsKnown now past t g
  known-other t same ls g (waits, due) = (
    waits,
    λ leased asked.
        let is = sym (ap (λ (ls : List Listing). list_any (λ (l : Listing). is_for l.purpose g) ls) ls) ∙ asked in
        rw same (due leased (asked-before (has_request g u) (list_any (λ (l : Listing). is_for l.purpose g) (left p u)) (not-asked g) is)),
  )

  -- what was granted now is refreshed much later
  stands-new : (t : State) → t.config ≡ u.config → t.queue ≡ u.queue → t.last_send ≡ u.last_send → (h : Grant) → IsGranted h
      → (count + slots + extras) * lag.pace + delay + lag.late < ahead_of u.config.refresh_ahead h → now + 150_000_000_000 + ahead_of u.config.refresh_ahead h ≤ expiry_of h
      → has_request h t ≡ false → Stands count slots extras lag delay now past transactions t h
  stands-new t same qs sends h granted room late unasked =
      let len : queue_ahead t ≡ queue_ahead u = rw (same, qs) refl in
      let pauses = pauses-same t same sends in
      let few = k.few in
      let begins = k.begins in
      let early : now ≤ due_of t h = rw same (omega (arith, late)) in
      record {
        granted = granted;
        room = rw same room;
        long = rw same (omega (arith, late));
        either = inr (record {
          unasked = unasked;
          near = omega (arith, early);
          soon = early-paced _ _ lag.since _ _ now (due_of t h) slots _ refl len few (omega (arith, begins)) early;
          paused = early-paced _ _ (pause_end t) _ _ now (due_of t h) slots _ refl len few (rw pauses (pause-paced count slots extras lag delay now past transactions u k)) early;
        });
      }

  -- what waits or is asked for is served, and so is what was granted now
  serves-other : (t : State) → t.config ≡ u.config → t.listed ≡ left p u → (since : ℕ) (g : Grant) → is_for p g ≡ false → is_served u since g ≡ true → is_served t since g ≡ true
  serves-other t same ls since g other e = elim (cases_Bool (is_waiting g)) [
    | inl w ↦ or_left (is_waiting g) _ w
    | inr w ↦ or_right (is_waiting g) _ (elim (cases_Bool (has_request g u)) [
      | inl asked ↦ or_left (has_request g t) _ (ap (λ (ls : List Listing). list_any (λ (l : Listing). is_for l.purpose g) ls) ls ∙ still-asked g asked other)
      | inr not ↦ or_right (has_request g t) _ (rw same (rw (w, not) at e))
    ])
  ]

  serves-new : (t : State) → t.config ≡ u.config → (since : ℕ) (h : Grant) → since ≤ now → now + 150_000_000_000 + ahead_of u.config.refresh_ahead h ≤ expiry_of h → is_served t since h ≡ true
  serves-new t same since h before late =
      or_right (is_waiting h) _ (or_right (has_request h t) _ (le-leb (since + 150_000_000_000) (due_of t h) (rw same (omega (arith, before, late)))))

-- ---- a refresh

module _ (count slots extras : ℕ) (lag : Lag) (delay now : ℕ) (past : History) (transactions : List Transaction) (u : State)
    (k : IsKept count slots extras lag delay now past transactions u) (p : Purpose) (refreshing : IsRefreshing p) (expiry challenges : ℕ)
    (fewer : challenges ≤ u.challenges) (late : now + granted_for p ≤ expiry) (alone : IsForGranted p u) where
  abbrev t : State
  t = renewed_by p expiry challenges u

  -- what waits is not answered
  unanswered : (g : Grant) → Has g u.grants → is_waiting g ≡ true → is_for p g ≡ true → ⊥
  unanswered g there waits for =
      let (unique, (x, here, also, granted)) = alone g there waits for in
      let two = passes-two (is_for p) is_waiting g x u.grants there here for also waits granted in
      let one = k.single p unique in
      absurd (omega (arith, two, one))

  expires-late : (g : Grant) → IsActive g → is_for p g ≡ true → now + 150_000_000_000 + ahead_of u.config.refresh_ahead (with_expiry expiry g) ≤ expiry_of (with_expiry expiry g)
  expires-late g h for =
      let e = with-expires expiry g h in
      let a = with-ahead u.config.refresh_ahead expiry g in
      let longer = for-longer u.config.refresh_ahead p g refreshing for in
      omega (arith, e, a, longer, late)

  serves : (since : ℕ) → since ≤ now → served u since ≤ served t since
  serves since before = passes-map (is_served u since) (is_served t since) (renews p expiry) u.grants each
    where
      serves-late : (g : Grant) → IsActive g → is_for p g ≡ true → is_served t since (with_expiry expiry g) ≡ true
      serves-late g active f = serves-new count slots extras lag delay now past transactions u k p refreshing t refl since (with_expiry expiry g) before (expires-late g active f)

      each : (g : Grant) → Has g u.grants → is_served u since g ≡ true → is_served t since (renews p expiry g) ≡ true
      each g there e = by (is_for p g) refl
        where
          by : (b : Bool) → is_for p g ≡ b → is_served t since (cond b (with_expiry expiry g) g) ≡ true
          by true f = elim (k.each g there) [
            | inl (waits, pending) ↦ or_left (is_waiting (with_expiry expiry g)) _ (ap is_waiting (with-waiting expiry g waits) ∙ waits)
            | inr (inl stands) ↦ serves-late g (granted-active g stands.granted) f
            | inr (inr (inl (freed, leased))) ↦ serves-late g (leased-active g leased) f
            | inr (inr (inr (is, none))) ↦ absurd (let no : false ≡ true = sym (reserved-unserved u since g is none) ∙ e in cc)
          ]
          by false f = serves-other count slots extras lag delay now past transactions u k p refreshing t refl refl since g f e

  -- what has an allocation has it still
  has-room : (family : AddressFamily) → Room u.grants family → Room t.grants family
  has-room family (a, there, is) = by (is_for p (Allocation a)) refl
    where
      by : (b : Bool) → is_for p (Allocation a) ≡ b → Room t.grants family
      by true e =
          (record a { expiry = expiry }, subst (λ (x : Grant). Has x t.grants) (rw e refl) (map-has (renews p expiry) (Allocation a) u.grants there), is)
      by false e = (a, subst (λ (x : Grant). Has x t.grants) (rw e refl) (map-has (renews p expiry) (Allocation a) u.grants there), is)

  renews-family : (g : Grant) → family_of_grant (renews p expiry g) ≡ family_of_grant g
  renews-family g = by (is_for p g)
    where
      by : (b : Bool) → family_of_grant (cond b (with_expiry expiry g) g) ≡ family_of_grant g
      by true = with-family expiry g
      by false = refl

  -- what is renewed is requested no more
  unasked-renewed : (g : Grant) → Has g u.grants → is_for p g ≡ true → has_request (with_expiry expiry g) t ≡ false
  unasked-renewed g there e = answered count slots extras lag delay now past transactions u k p refreshing g (with_expiry expiry g) there e (λ l was for. sym (with-for l.purpose expiry g) ∙ for)

  loose-renewed : (g : Grant) → IsLoose past u g → IsLoose past t (with_expiry expiry g)
  loose-renewed g (inl (freed, leased)) = inl (let_go-with past expiry g ∙ freed, with-leased expiry g leased)
  loose-renewed g (inr (is, none)) =
      subst (IsLoose past t) (sym (with-reserved expiry g is)) (loose-other count slots extras lag delay now past transactions u k p refreshing t refl g (inr (is, none)))

  renews-known : (g : Grant) → Has g u.grants → IsKnown now past t (renews p expiry g)
  renews-known g there = by (is_for p g) refl
    where
      waits : IsKnown now past u g → is_waiting (with_expiry expiry g) ≡ true → (is_kept (with_expiry expiry g) || was_let_go past (with_expiry expiry g)) ≡ true
      waits was w = rw (with-kept expiry g, let_go-with past expiry g) (was.0 (sym (with-waits expiry g) ∙ w))

      by : (b : Bool) → is_for p g ≡ b → IsKnown now past t (cond b (with_expiry expiry g) g)
      by true e = (waits (k.known g there), λ leased asked. absurd (let no : false ≡ true = sym (unasked-renewed g there e) ∙ asked in cc))
      by false e = known-other count slots extras lag delay now past transactions u k p refreshing t refl refl g (k.known g there)

  renews-well : (g : Grant) → Has g u.grants → IsWell count slots extras lag delay now past transactions t (renews p expiry g)
  renews-well g there = by (is_for p g) refl (k.each g there)
    where
      by : (b : Bool) → is_for p g ≡ b → IsWell count slots extras lag delay now past transactions u g → IsWell count slots extras lag delay now past transactions t (cond b (with_expiry expiry g) g)
      by true e (inl (waits, pending)) = absurd (unanswered g there waits e)
      by true e (inr (inr loose)) = inr (inr (loose-renewed g loose))
      by true e (inr (inl was)) =
          let a = with-ahead u.config.refresh_ahead expiry g in
          inr (inl (stands-new count slots extras lag delay now past transactions u k p refreshing t refl refl refl (with_expiry expiry g) (with-granted expiry g was.granted)
          (omega (arith, a, was.room)) (expires-late g (granted-active g was.granted) e) (unasked-renewed g there e)))
      by false e (inl (waits, pending)) = inl (waits, requested-other count slots extras lag delay now past transactions u k p refreshing (λ made. made ≤ now) g e pending)
      by false e (inr (inl was)) = inr (inl (stands-other count slots extras lag delay now past transactions u k p refreshing t refl refl refl refl serves g e was))
      by false e (inr (inr loose)) = inr (inr (loose-other count slots extras lag delay now past transactions u k p refreshing t refl g loose))

  pub renewed-kept : IsKept count slots extras lag delay now past transactions t
  renewed-kept = kept-changed count slots extras lag delay now past past transactions transactions u (λ x h. refl) k.seldom k t.grants t.listed u.events challenges u.ids u.closes (record {
    row = let row = k.row in omega (arith, row, fewer);
    asked = λ l h. asked l (k.asked l (kept-listing count slots extras lag delay now past transactions u k p refreshing l h).0);
    size = let same = length-map u.grants (renews p expiry) in let size = k.size in omega (arith, same, size);
    single = λ q unique.
        let few = k.single q unique in
        omega (arith, few, passes-mapped (is_for q) (is_for q) (renews p expiry) u.grants (λ g there e. sym (renews-for q p expiry g) ∙ e));
    linked = linked-left count slots extras lag delay now past transactions u k p refreshing t.grants
        (λ g there other. subst (λ (h : Grant). Has h t.grants) (rw other refl) (map-has (renews p expiry) g u.grants there));
    in_allocations = λ g h.
        let (x, there, e) = has-mapped (renews p expiry) g u.grants h in
        subst (λ (y : Grant). Room t.grants (family_of_grant y)) (sym e) (rw (renews-family x) (has-room (family_of_grant x) (k.in_allocations x there)));
    known = λ g h. let (x, there, e) = has-mapped (renews p expiry) g u.grants h in subst (IsKnown now past t) (sym e) (renews-known x there);
    each = λ g h. let (x, there, e) = has-mapped (renews p expiry) g u.grants h in subst (IsWell count slots extras lag delay now past transactions t) (sym e) (renews-well x there);
  })
    where
      asked : (l : Listing) → IsAsked u.grants l → IsAsked t.grants l
      asked l (refreshes, (g, there, for)) = (refreshes, (renews p expiry g, map-has (renews p expiry) g u.grants there, renews-for l.purpose p expiry g ∙ for))

  renewed-remain : AllRemain u t
  renewed-remain g there granted = (renews p expiry g, map-has (renews p expiry) g u.grants there, same (is_for p g), still (is_for p g))
    where
      same : (b : Bool) → with_expiry 0 (cond b (with_expiry expiry g) g) ≡ with_expiry 0 g
      same true = with-twice 0 expiry g
      same false = refl

      still : (b : Bool) → IsGranted (cond b (with_expiry expiry g) g)
      still true = with-granted expiry g granted
      still false = granted

  pub renewed-goes : Goes past past transactions transactions u t
  renewed-goes = record {
    let_go = λ g e. e;
    remain = λ g there granted none. renewed-remain g there granted;
    follow = λ until g there waits pending none. by until g there waits pending (is_for p g) refl;
  }
    where
      by : (until : ℕ) (g : Grant) → Has g u.grants → is_waiting g ≡ true → IsPending until past transactions u.listed g → (b : Bool) → is_for p g ≡ b → Follows until past transactions g t
      by until g there waits pending true e = absurd (unanswered g there waits e)
      by until g there waits pending false e = inl (
        subst (λ (h : Grant). Has h t.grants) (rw e refl) (map-has (renews p expiry) g u.grants there),
        requested-other count slots extras lag delay now past transactions u k p refreshing (λ made. made ≤ until) g e pending,
      )

-- ---- what waited

module _ (count slots extras : ℕ) (lag : Lag) (delay now : ℕ) (past : History) (transactions : List Transaction) (u : State) (k : IsKept count slots extras lag delay now past transactions u) (p : Purpose) (made : State)
    (anew : IsGrantedAnew p now u made) where
  abbrev new : Grant
  new = anew.new

  abbrev after : State
  after = granted_by p anew.new anew.events anew.challenges u

  refreshing : IsRefreshing p
  refreshing = unique-refreshing p anew.unique

  abbrev others : List Grant
  others = filter (λ g. not (is_for p g)) u.grants

  -- it is one of the others, or the new one
  which : (g : Grant) → Has g after.grants → (Has g u.grants × (is_for p g ≡ false)) ⊎ (g ≡ new)
  which g h = elim (has-last g others new h) [
    | inl old ↦ let (there, not) = has-filter (λ (g : Grant). not (is_for p g)) g u.grants old in inl (there, not-true (is_for p g) not)
    | inr e ↦ inr e
  ]

  stays-there : (g : Grant) → Has g u.grants → is_for p g ≡ false → Has g after.grants
  stays-there g there other = has-left g others (new ∷ []) (filter-has (λ (g : Grant). not (is_for p g)) g u.grants there (not_from_false (is_for p g) other))

  new-there : Has new after.grants
  new-there = has-right new others (new ∷ []) (inl refl)

  new-serves : (since : ℕ) → since ≤ now → is_served after since new ≡ true
  new-serves since before = serves-new count slots extras lag delay now past transactions u k p refreshing after refl since new before anew.late

  serves-anew : (since : ℕ) → since ≤ now → served u since ≤ served after since
  serves-anew since before =
      let split = passes-split (is_served u since) (is_for p) u.grants in
      let one = k.single p anew.unique in
      let same = passes-all (is_served u since) (is_served after since) others
      (λ g h e. let (there, not) = has-filter (λ (g : Grant). not (is_for p g)) g u.grants h in
      serves-other count slots extras lag delay now past transactions u k p refreshing after refl refl since g (not-true (is_for p g) not) e) in
      let more = passes-append (is_served after since) others (new ∷ []) in
      let last : passes (is_served after since) (new ∷ []) ≡ 1 = rw (new-serves since before) refl in
      omega (arith, split, one, same, more, last)

  new-unasked : has_request new after ≡ false
  new-unasked = answered count slots extras lag delay now past transactions u k p refreshing anew.waits new anew.there anew.same
      (λ l was for. for-joins l.purpose p anew.waits new (k.asked l was).0 refreshing for anew.for anew.same)

  -- what is granted, but not kept, was let go
  new-let_go : is_kept new ≡ false → was_let_go past new ≡ true
  new-let_go loose = let_go-became past anew.waits new anew.becomes
      ∙ or_else (is_kept anew.waits) (was_let_go past anew.waits) (sym anew.marks ∙ loose) ((k.known anew.waits anew.there).0 anew.waiting)

  well-anew : (g : Grant) → Has g after.grants → IsWell count slots extras lag delay now past transactions after g
  well-anew g h = elim (which g h) [
    | inl (there, other) ↦ elim (k.each g there) [
      | inl (waits, pending) ↦ inl (waits, requested-other count slots extras lag delay now past transactions u k p refreshing (λ made. made ≤ now) g other pending)
      | inr (inl was) ↦ inr (inl (stands-other count slots extras lag delay now past transactions u k p refreshing after refl refl refl refl serves-anew g other was))
      | inr (inr loose) ↦ inr (inr (loose-other count slots extras lag delay now past transactions u k p refreshing after refl g loose))
    ]
    | inr e ↦ subst (IsWell count slots extras lag delay now past transactions after) (sym e) (inr (new-well (is_kept new) refl))
  ]
    where
      new-well : (b : Bool) → is_kept new ≡ b → Stands count slots extras lag delay now past transactions after new ⊎ IsLoose past after new
      new-well true kept =
          let pace = k.pace in
          let minute = anew.minute in
          inl (stands-new count slots extras lag delay now past transactions u k p refreshing after refl refl refl new (kept-granted new anew.leased kept)
          (omega (arith, pace, minute)) anew.late new-unasked)
      new-well false kept = inr (inl (new-let_go kept, anew.leased))

  known-anew : (g : Grant) → Has g after.grants → IsKnown now past after g
  known-anew g h = elim (which g h) [
    | inl (there, other) ↦ known-other count slots extras lag delay now past transactions u k p refreshing after refl refl g (k.known g there)
    | inr e ↦ subst (IsKnown now past after) (sym e) (
      λ waits. absurd (let no : false ≡ true = sym (not-waiting new (leased-active new anew.leased)) ∙ waits in cc),
      λ leased asked. absurd (let no : false ≡ true = sym new-unasked ∙ asked in cc),
    )
  ]

  single-anew : (q : Purpose) → IsUnique q → passes (is_for q) after.grants ≤ 1
  single-anew q unique = by (is_for q new) refl
    where
      more : passes (is_for q) after.grants ≡ passes (is_for q) others + passes (is_for q) (new ∷ [])
      more = passes-append (is_for q) others (new ∷ [])

      apart : is_for q new ≡ true → (g : Grant) → is_for p g ≡ false → (b : Bool) → is_for q g ≡ b → is_for q g ≡ false
      apart e g other false f = f
      apart e g other true f =
          let no : false ≡ true = sym other ∙ for-joins p q g new refreshing (unique-refreshing q unique) anew.for e f in
          cc

      by : (b : Bool) → is_for q new ≡ b → passes (is_for q) after.grants ≤ 1
      by true e =
          let none = passes-none (is_for q) others
          (λ g h. apart e g (not-true (is_for p g) (has-filter (λ (g : Grant). not (is_for p g)) g u.grants h).1) (is_for q g) refl) in
          let last : passes (is_for q) (new ∷ []) ≡ 1 = rw e refl in
          omega (arith, more, none, last)
      by false e =
          let few = k.single q unique in
          let last : passes (is_for q) (new ∷ []) ≡ 0 = rw e refl in
          omega (arith, more, few, last, passes-filter (is_for q) (λ g. not (is_for p g)) u.grants)

  room-anew : (family : AddressFamily) → Room u.grants family → Room after.grants family
  room-anew = room-more u.grants after.grants (λ a there. stays-there (Allocation a) there (unique-spares p anew.unique a))

  pub anew-kept : IsKept count slots extras lag delay now past transactions after
  anew-kept = kept-changed count slots extras lag delay now past past transactions transactions u (λ x h. refl) k.seldom k after.grants after.listed anew.events anew.challenges u.ids u.closes (record {
    row = let row = k.row in let fewer = anew.fewer in omega (arith, row, fewer);
    asked = λ l h.
        let (was, unshared) = kept-listing count slots extras lag delay now past transactions u k p refreshing l h in
        let (refreshes, (g, there, for)) = k.asked l was in
        (refreshes, (g, stays-there g there (others-asked count slots extras lag delay now past transactions u k p refreshing l h g there for), for));
    size =
        let one = length-without (is_for p) anew.waits u.grants anew.there anew.same in
        let len = length-append others (new ∷ []) in
        let size = k.size in
        omega (arith, one, len, size);
    single = single-anew;
    linked = linked-left count slots extras lag delay now past transactions u k p refreshing after.grants stays-there;
    in_allocations = λ g h. elim (which g h) [
      | inl (there, other) ↦ room-anew (family_of_grant g) (k.in_allocations g there)
      | inr e ↦ subst (λ (y : Grant). Room after.grants (family_of_grant y)) (sym e)
          (subst (Room after.grants) anew.family (room-anew (family_of_grant anew.waits) (k.in_allocations anew.waits anew.there)))
    ];
    known = known-anew;
    each = well-anew;
  })

  -- the one that waited is the only one for its IP address
  anew-remain : AllRemain u after
  anew-remain g there granted = (g, stays-there g there (other (is_for p g) refl), refl, granted)
    where
      other : (b : Bool) → is_for p g ≡ b → is_for p g ≡ false
      other false e = e
      other true e =
          let two = passes-two (is_for p) is_waiting anew.waits g u.grants anew.there there anew.same e anew.waiting (not-waiting g (granted-active g granted)) in
          let one = k.single p anew.unique in
          absurd (omega (arith, two, one))

  pub anew-goes : Goes past past transactions transactions u after
  anew-goes = record {
    let_go = λ g e. e;
    remain = λ g there granted none. anew-remain g there granted;
    follow = λ until g there waits pending none. by until g there waits pending none (is_for p g) refl;
  }
    where
      by : (until : ℕ) (g : Grant) → Has g u.grants → is_waiting g ≡ true → IsPending until past transactions u.listed g → was_let_go past g ≡ false → (b : Bool) → is_for p g ≡ b
          → Follows until past transactions g after
      by until g there waits pending none true e =
          let is : anew.waits ≡ g = passes-same (is_for p) anew.waits g u.grants (k.single p anew.unique) anew.there there anew.same e in
          let kept = or_first (is_kept g) (was_let_go past g) none ((k.known g there).0 waits) in
          inr (new, new-there, anew.becomes ∙ ap as_granted is, kept-granted new anew.leased (anew.marks ∙ (ap is_kept is ∙ kept)))
      by until g there waits pending none false e = inl (stays-there g there e, requested-other count slots extras lag delay now past transactions u k p refreshing (λ made. made ≤ until) g e pending)

-- ---- all purposes of a request

-- what is listed is listed for none of these any more
pub record IsAnswered (count slots extras : ℕ) (lag : Lag) (delay now : ℕ) (past : History) (transactions : List Transaction) (purposes : List Purpose) (u t : State) : Type 0 where
  pub kept : IsKept count slots extras lag delay now past transactions t
  pub goes : Goes past past transactions transactions u t
  pub outstanding : t.transactions ≡ u.transactions
  pub listed : (l : Listing) → Has l t.listed → Has l u.listed × (Has l.purpose purposes → ⊥)

one-listed : (p : Purpose) (u : State) (l : Listing) → Has l (left p u) → ((g : Grant) × Has g u.grants × (is_for p g ≡ true)) → (l.purpose ≡ p → ⊥)
one-listed p u l h (g, there, for) e =
    let (was, keeps) = has-filter (λ (l : Listing). not (is_shared p u.grants l)) l u.listed h in
    let also : is_for l.purpose g ≡ true = rw e for in
    let some = has-any (λ g. is_for p g && is_for l.purpose g) g u.grants there (and_from (is_for p g) (is_for l.purpose g) for also) in
    let no : false ≡ true = sym (not-true (is_shared p u.grants l) keeps) ∙ some in
    cc

pub all-known : (count slots extras : ℕ) (lag : Lag) (delay now : ℕ) (past : History) (transactions : List Transaction) (u : State)
    → IsKept count slots extras lag delay now past transactions u → (g : Grant) → Has g u.grants
    → IsOfKind u g
all-known count slots extras lag delay now past transactions u k g there = elim (k.each g there) [
  | inl (waits, pending) ↦ inl waits
  | inr (inl stands) ↦ inr (inl (granted-active g stands.granted))
  | inr (inr (inl (freed, leased))) ↦ inr (inl (leased-active g leased))
  | inr (inr (inr reserved)) ↦ inr (inr reserved)
]

module _ (count slots extras : ℕ) (lag : Lag) (delay now : ℕ) (past : History) (transactions : List Transaction) (u : State)
    (k : IsKept count slots extras lag delay now past transactions u) (p : Purpose) (refreshing : IsRefreshing p) (g : Grant)
    (there : Has g u.grants)
    (for : is_for p g ≡ true) where
  left-listed : (l : Listing) → Has l (left p u) → Has l u.listed × (Has l.purpose (p ∷ []) → ⊥)
  left-listed l h = (
    (has-filter (λ (l : Listing). not (is_shared p u.grants l)) l u.listed h).0,
    λ there_is. elim there_is [ inl e ↦ one-listed p u l h (g, there, for) e | inr none ↦ absurd none ],
  )

  -- one purpose is answered
  pub one-answered : (t : State) → Does p now u t → IsAnswered count slots extras lag delay now past transactions (p ∷ []) u t
  one-answered t (inl (expiry, challenges, fewer, late, is, alone)) = subst (IsAnswered count slots extras lag delay now past transactions (p ∷ []) u) (sym is) (record {
    kept = renewed-kept count slots extras lag delay now past transactions u k p refreshing expiry challenges fewer late alone;
    goes = renewed-goes count slots extras lag delay now past transactions u k p refreshing expiry challenges fewer late alone;
    outstanding = refl;
    listed = left-listed;
  })
  one-answered t (inr anew) = subst (IsAnswered count slots extras lag delay now past transactions (p ∷ []) u) (sym anew.is) (record {
    kept = anew-kept count slots extras lag delay now past transactions u k p t anew;
    goes = anew-goes count slots extras lag delay now past transactions u k p t anew;
    outstanding = refl;
    listed = left-listed;
  })

-- one purpose is answered after another one
both-answered : (count slots extras : ℕ) (lag : Lag) (delay now : ℕ) (past : History) (transactions : List Transaction) (p q : Purpose) (u v t : State)
    → IsAnswered count slots extras lag delay now past transactions (q ∷ []) u v
    → IsAnswered count slots extras lag delay now past transactions (p ∷ []) v t → IsAnswered count slots extras lag delay now past transactions (p ∷ q ∷ []) u t
both-answered count slots extras lag delay now past transactions p q u v t first last = record {
  kept = last.kept;
  goes = goes-trans past past past transactions transactions transactions u v t first.goes last.goes;
  outstanding = last.outstanding ∙ first.outstanding;
  listed = λ l h.
      let (here, not_p) = last.listed l h in
      let (was, not_q) = first.listed l here in
      (was, λ there_is. elim there_is [ inl e ↦ not_p (inl e) | inr later ↦ not_q later ]);
}

-- the request of the message's ID is for this
abbrev pub IsGiven : List Grant → Purpose → Type 0
IsGiven gs p = IsRefreshing p × ((g : Grant) × Has g gs × (is_for p g ≡ true))

of_method : (method : ℕ) (p : Purpose) → IsRefreshing p → method ≡ method_for p → is_answered method p ≡ true
of_method method (ForRefresh family lifetime) r e = eq-eqb _ method (sym e)
of_method method (ForPermission ip) r e = eq-eqb _ method (sym e)
of_method method (ForChannel number peer) r e = eq-eqb _ method (sym e)
of_method method p r e = absurd r

-- all that the request was made for is answered
pub all-answered : (message : List ℕ) (id count slots extras : ℕ) (lag : Lag) (delay now : ℕ) (past : History) (transactions : List Transaction) (u : State) → IsKept count slots extras lag delay now past transactions u
    → ((p : Purpose) → Has p (purposes_of id u) → IsGiven u.grants p) → Answers message (purposes_of id u)
    → let t = fold (effect id true message now) u (filter (is_answered (method_in message)) (purposes_of id u)) in
    IsAnswered count slots extras lag delay now past transactions (purposes_of id u) u t × ((p : Purpose) → Has p (purposes_of id u) → t.challenges ≡ 0)
all-answered message id count slots extras lag delay now past transactions u k given answers = by (listed_as id u.listed) refl (k.linked id)
  where
    answered_to : List Purpose → State
    answered_to ps = fold (effect id true message now) u (filter (is_answered (method_in message)) ps)

    Done : List Purpose → Type 0
    Done ps = IsAnswered count slots extras lag delay now past transactions ps u (answered_to ps) × ((p : Purpose) → Has p ps → (answered_to ps).challenges ≡ 0)

    known : (g : Grant) → Has g u.grants → IsOfKind u g
    known = all-known count slots extras lag delay now past transactions u k

    one : (p : Purpose) → purposes_of id u ≡ p ∷ [] → IsGiven u.grants p → Grants message p → Done (p ∷ [])
    one p e (refreshing, (g, there, for)) grants =
        rw (of_method (method_in message) p refreshing grants.0) (
          one-answered count slots extras lag delay now past transactions u k p refreshing g there for (effect id true message now u p)
              (effect-does message id now u p k.in_range known refreshing grants e g there for),
          λ q h. effect-resets message id now u p refreshing grants,
        )

    two : (p q : Purpose) → purposes_of id u ≡ p ∷ q ∷ [] → Brings u.grants p q → IsGiven u.grants p → IsGiven u.grants q → Grants message p → Done (p ∷ q ∷ [])
    two (ForChannel number peer) (ForPermission ip) e (h, here, waits, is) gp (refreshing, (g, there, for)) grants =
        let m : method_in message ≡ channel_bind_method = grants.0 in
        let yes : is_answered (method_in message) (ForChannel number peer) ≡ true = of_method (method_in message) (ForChannel number peer) tt grants.0 in
        let not : is_answered (method_in message) (ForPermission ip) ≡ false = rw m refl in
        let t = effect id true message now u (ForChannel number peer) in
        let both = effect-brings message number peer ip id now u k.in_range known e g there for h here is waits (k.single (ForChannel number peer) tt) in
        let first = one-answered count slots extras lag delay now past transactions u k (ForPermission ip) tt g there for both.middle both.first in
        let last = one-answered count slots extras lag delay now past transactions both.middle first.kept (ForChannel number peer) tt h (both.stays h here (apart h is)) is t both.last in
        rw (yes, not) (
          both-answered count slots extras lag delay now past transactions (ForChannel number peer) (ForPermission ip) u both.middle t first last,
          λ q h. effect-resets message id now u (ForChannel number peer) tt grants,
        )
      where
        apart : (h : Grant) → is_for (ForChannel number peer) h ≡ true → is_for (ForPermission ip) h ≡ false
        apart h e = grind arith
    two p q e brings gp gq grants = absurd brings

    by : (ls : List Listing) → listed_as id u.listed ≡ ls → IsRequest u.grants ls → Done (purposes_of id u)
    by [] e h =
        let none : purposes_of id u ≡ [] = ap (map (λ (l : Listing). l.purpose)) e in
        rw none (record { kept = k; goes = goes-more past transactions transactions u u refl (λ x h. h) (λ l h. h); outstanding = refl; listed = λ l h. (h, λ no. no) }, λ p no. absurd no)
    by (l ∷ []) e h =
        let is : purposes_of id u ≡ l.purpose ∷ [] = ap (map (λ (l : Listing). l.purpose)) e in
        subst Done (sym is) (one l.purpose is (given l.purpose (rw is (inl refl))) (subst (Answers message) is answers))
    by (l ∷ m ∷ []) e h =
        let is : purposes_of id u ≡ l.purpose ∷ m.purpose ∷ [] = ap (map (λ (l : Listing). l.purpose)) e in
        subst Done (sym is) (two l.purpose m.purpose is h (given l.purpose (rw is (inl refl))) (given m.purpose (rw is (inr (inl refl)))) (subst (Answers message) is answers))
    by (l ∷ m ∷ n ∷ ls) e h = absurd h
