-- An ALLOCATE requests the families of which an address is still requested.
use Rattle.turn_client_laws.proofs.Common.{◌≡◌, ◌⊎◌, ◌≤◌, ◌+◌, ℕ, Bool, true, false, not, cond, ◌&&◌, eqb, List, [], ◌∷◌, ◌++◌, filter, length, Some, inl, inr, refl, sym, subst, ap, ◌∙◌, arith}
use Rattle.turn_client_laws.proofs.Common.{Contains, list_any, eq-eqb, eqb-true, SocketAddr}
use Rattle.turn_client_laws.proofs.Machine.{id_of, TransportType, AddressFamily, IPV6, first_sent, is_outstanding, resent, sent_again, waiting_from, waits_begun, Transaction, Config, State, initial, Phase, New, Requesting}
use Rattle.turn_client_laws.proofs.Machine.{Allocated, Closed, Grant, Allocation, Purpose, ForAllocation, Listing, is_channel_of, is_connect_to, is_for, is_of, is_permission_of, purposes_of}
use Rattle.turn_client_laws.proofs.Machine.{without_grants, request_started, listings, request_for, transaction_ended, phase_with, relayed_in, taken_addresses, phase_after, Leaves, Call, Has}
use Rattle.turn_client_laws.proofs.Machine.{filter-has, has-append, has-filter, has-left, has-right, map-has}
use Rattle.turn_client_laws.specs.Handled.{Input, handled}
use Rattle.turn_client_laws.specs.LawsAllocates.{AllocatesAsAsked, AllocatesInOrder, AsksForFamilies, HasConfiguredFamilies, IsAllocate, IsAllocationInput, IsAskedForFamilies}
use Rattle.turn_client_laws.specs.LawsGranted.{IsGrantInput}
use Rattle.turn_client_laws.specs.LawsOrder.{IsUngranted}
use Rattle.turn_client_laws.proofs.Edits.{IsSpelled, IsUnlisted, KeepsAllEdits, KeepsEdits, MayAskFor, listing}
use Rattle.turn_client_laws.proofs.EditsOfCalls.{leaves-walk}
use Rattle.turn_client_laws.proofs.EditsOfMessages.{edits-IsKept, granted-with}
use Rattle.turn_client_laws.proofs.GrantedLemmas.{leaves-grants}
use Rattle.turn_client_laws.proofs.GrantOriginLemmas.{has-mapped}
use Rattle.turn_client_laws.proofs.InAllocationLemmas.{any-has, has-any}
use Rattle.turn_client_laws.proofs.StandLemmas.{contains-has, has-contains}
use Rattle.turn_client_laws.proofs.InputKeepLemmas.{before-kept}
use Rattle.turn_client_laws.proofs.TwoPurposes.{purpose-with}

-- ---- what is kept

-- until the allocation all requests are for it
abbrev Alone : State → Type 0
Alone s = IsUngranted s.phase → (l : Listing) → Has l s.listed → l.purpose ≡ ForAllocation

-- and after it none
abbrev NoneLater : State → Type 0
NoneLater s = (IsUngranted s.phase → ⊥) → IsUnlisted s

-- a request with the ID is for the families
abbrev HasAsked : ℕ → State → Type 0
HasAsked id s = (x : Transaction) × Has x s.transactions × (x.id ≡ id) × AsksForFamilies s.config s.families x

abbrev AllAsked : State → Type 0
AllAsked s = (y : Transaction) → Has y s.transactions → Has (listing y.id ForAllocation) s.listed → HasAsked y.id s

abbrev IsInOrder : State → Type 0
IsInOrder s = Alone s × NoneLater s × AllAsked s × HasConfiguredFamilies s

abbrev pub StayInOrder : State → State → Type 0
StayInOrder s t = IsInOrder s → IsInOrder t

-- ---- requests are no longer listed

fewer : (p : Listing → Bool) (s : State) → StayInOrder s (record s { listed = filter p s.listed })
fewer p s h = (
  λ u l there. h.0 u l (has-filter p l s.listed there).0,
  λ granted id there. h.1 granted id (has-filter p (listing id ForAllocation) s.listed there).0,
  λ y here there. h.2 y here (has-filter p (listing y.id ForAllocation) s.listed there).0,
  h.3,
)

-- with the grants of a kind their requests are unlisted
gone : (which : Grant → Bool) (s : State) → StayInOrder s (without_grants which s)
gone which s h = fewer (λ l. not (list_any (λ g. which g && is_for l.purpose g) s.grants)) s h

-- ---- families change

-- two are no fewer than one
two-one : (families : List AddressFamily) → families ≡ IPV6 ∷ [] → 2 ≤ length families → ⊥
two-one families e two = let no : 2 ≤ 1 = subst (λ (f : List AddressFamily). 2 ≤ length f) e two in absurd (omega (arith, no))

families-in_order : (families : List AddressFamily) (s : State) → MayAskFor families s → StayInOrder s (record s { families = families })
families-in_order families s (inl granted) h = (
  λ u. absurd (granted u),
  h.1,
  λ y here there. absurd (h.1 granted y.id there),
  λ u. absurd (granted u),
)
families-in_order families s (inr (alone, two, none)) h = (
  h.0,
  h.1,
  λ y here there. absurd (none y.id there),
  λ u. elim (h.3 u) [
    | inl e ↦ inr (alone, subst (λ (f : List AddressFamily). 2 ≤ length f) e two)
    | inr (e, more) ↦ absurd (two-one s.families e two)
  ],
)

-- ---- a request is made

ungranted-or : (p : Phase) → IsUngranted p ⊎ (IsUngranted p → ⊥)
ungranted-or Allocated = inr (λ none. none)
ungranted-or Closed = inr (λ none. none)
ungranted-or p = inl tt

module _ (id : ℕ) (text : List ℕ) (purposes : List Purpose) (now : ℕ) (s : State) (spelled : IsSpelled id text purposes s) (h : IsInOrder s) where
  abbrev t : State
  t = request_started id text purposes now s

  abbrev new : Transaction
  new = first_sent id s.remote now text

  -- before, it is for the allocation alone
  each : IsUngranted s.phase → (p : Purpose) → Has p purposes → p ≡ ForAllocation
  each u p there = elim spelled [
    | inl (allocated, other) ↦ absurd (subst IsUngranted allocated u)
    | inr (inl (begins, all, spells)) ↦ all p there
    | inr (inr (listed, again)) ↦ let (l, here, e) = listed p there in sym e ∙ h.0 u l here
  ]

  -- and later it is not
  never : (IsUngranted s.phase → ⊥) → Has ForAllocation purposes → ⊥
  never granted there = elim spelled [
    | inl (allocated, other) ↦ other ForAllocation there refl
    | inr (inl (u, all, spells)) ↦ granted u
    | inr (inr (listed, again)) ↦ let (l, here, e) = listed ForAllocation there in h.1 granted l.id (subst (λ (q : Purpose). Has (listing l.id q) s.listed) e here)
  ]

  -- so that it requests the families
  asks-families : IsUngranted s.phase → AsksForFamilies s.config s.families new
  asks-families u = (
    s,
    refl,
    refl,
    elim spelled [
      | inl (allocated, other) ↦ absurd (subst IsUngranted allocated u)
      | inr (inl (begins, all, spells)) ↦ spells
      | inr (inr (listed, (p, there, spells))) ↦ inr (spells ∙ ap (λ (q : Purpose). request_for s q id) (each u p there))
    ],
  )

  -- what is listed was so before, or is by this request
  listed-by : (l : Listing) → Has l (s.listed ++ listings id purposes) → Has l s.listed ⊎ ((p : Purpose) × Has p purposes × (l ≡ listing id p))
  listed-by l there = elim (has-append l s.listed (listings id purposes) there) [ inl old ↦ inl old | inr more ↦ inr (has-mapped (listing id) l purposes more) ]

  asked-alone : IsUngranted s.phase → (l : Listing) → Has l (s.listed ++ listings id purposes) → l.purpose ≡ ForAllocation
  asked-alone u l there = elim (listed-by l there) [ inl old ↦ h.0 u l old | inr (p, here, e) ↦ ap (λ (x : Listing). x.purpose) e ∙ each u p here ]

  asked-none : (IsUngranted s.phase → ⊥) → (other : ℕ) → Has (listing other ForAllocation) (s.listed ++ listings id purposes) → ⊥
  asked-none granted other there = elim (listed-by (listing other ForAllocation) there) [
    | inl old ↦ h.1 granted other old
    | inr (p, here, e) ↦ never granted (subst (λ (q : Purpose). Has q purposes) (sym (ap (λ (x : Listing). x.purpose) e)) here)
  ]

  asked-all : (y : Transaction) → Has y (s.transactions ++ new ∷ []) → Has (listing y.id ForAllocation) (s.listed ++ listings id purposes) → HasAsked y.id t
  asked-all y here there = of (ungranted-or s.phase)
    where
      -- under another ID all is unchanged
      other : eqb y.id id ≡ false → Has y s.transactions ⊎ Has y (new ∷ []) → Has (listing y.id ForAllocation) s.listed
          ⊎ ((p : Purpose) × Has p purposes × (listing y.id ForAllocation ≡ listing id p)) → HasAsked y.id t
      other f (inl old) (inl listed) = let (x, is, same, asks) = h.2 y old listed in (x, has-left x s.transactions (new ∷ []) is, same, asks)
      other f (inr (inl e)) listed = let no : false ≡ true = sym f ∙ eq-eqb y.id id (ap (λ (x : Transaction). x.id) e) in cc
      other f (inr (inr none)) listed = absurd none
      other f old (inr (p, listed, e)) = let no : false ≡ true = sym f ∙ eq-eqb y.id id (ap (λ (x : Listing). x.id) e) in cc

      by : IsUngranted s.phase → (b : Bool) → eqb y.id id ≡ b → HasAsked y.id t
      by u true f = (new, has-right new s.transactions (new ∷ []) (inl refl), sym (eqb-true y.id id f), asks-families u)
      by u false f = other f (has-append y s.transactions (new ∷ []) here) (listed-by (listing y.id ForAllocation) there)

      of : IsUngranted s.phase ⊎ (IsUngranted s.phase → ⊥) → HasAsked y.id t
      of (inl u) = by u (eqb y.id id) refl
      of (inr granted) = absurd (asked-none granted y.id there)

  asks-in_order : IsInOrder (request_started id text purposes now s)
  asks-in_order = (asked-alone, asked-none, asked-all, h.3)

-- ---- a request ends, or is retransmitted

finishes-in_order : (id : ℕ) (s : State) → StayInOrder s (transaction_ended id s)
finishes-in_order id s h = (h.0, h.1, all, h.3)
  where
    all : (y : Transaction) → Has y (filter (λ (x : Transaction). not (eqb x.id id)) s.transactions) → Has (listing y.id ForAllocation) s.listed → HasAsked y.id (transaction_ended id s)
    all y here there =
        let (before, passes) = has-filter (λ (x : Transaction). not (eqb x.id id)) y s.transactions here in
        let (x, is, same, asks) = h.2 y before there in
        (x, filter-has (λ (z : Transaction). not (eqb z.id id)) x s.transactions is (subst (λ (n : ℕ). not (eqb n id) ≡ true) (sym same) passes), same, asks)

resends-in_order : (id now : ℕ) (s : State) → StayInOrder s (record s { transactions = resent id now s.transactions })
resends-in_order id now s h = (h.0, h.1, all, h.3)
  where
    again : Transaction → Transaction
    again x = cond (eqb x.id id) (sent_again now x) x

    same-id : (b : Bool) (x : Transaction) → (cond b (sent_again now x) x).id ≡ x.id
    same-id true x = refl
    same-id false x = refl

    same-asks : (b : Bool) (x : Transaction) → AsksForFamilies s.config s.families x → AsksForFamilies s.config s.families (cond b (sent_again now x) x)
    same-asks true x asks = asks
    same-asks false x asks = asks

    all : (y : Transaction) → Has y (resent id now s.transactions) → Has (listing y.id ForAllocation) s.listed → HasAsked y.id (record s { transactions = resent id now s.transactions })
    all y here there =
        let (z, before, e) = has-mapped again y s.transactions here in
        let named : y.id ≡ z.id = ap (λ (x : Transaction). x.id) e ∙ same-id (eqb z.id id) z in
        let (x, is, same, asks) = h.2 z before (subst (λ (n : ℕ). Has (listing n ForAllocation) s.listed) named there) in
        (again x, map-has again x s.transactions is, same-id (eqb x.id id) x ∙ (same ∙ sym named), same-asks (eqb x.id id) x asks)

starts-in_order : (id now : ℕ) (s : State) → StayInOrder s (record s { transactions = waits_begun id now s.transactions })
starts-in_order id now s h = (h.0, h.1, all, h.3)
  where
    begun : Transaction → Transaction
    begun x = cond (eqb x.id id) (waiting_from now x) x

    same-id : (b : Bool) (x : Transaction) → (cond b (waiting_from now x) x).id ≡ x.id
    same-id true x = refl
    same-id false x = refl

    same-asks : (b : Bool) (x : Transaction) → AsksForFamilies s.config s.families x → AsksForFamilies s.config s.families (cond b (waiting_from now x) x)
    same-asks true x asks = asks
    same-asks false x asks = asks

    all : (y : Transaction) → Has y (waits_begun id now s.transactions) → Has (listing y.id ForAllocation) s.listed → HasAsked y.id (record s { transactions = waits_begun id now s.transactions })
    all y here there =
        let (z, before, e) = has-mapped begun y s.transactions here in
        let named : y.id ≡ z.id = ap (λ (x : Transaction). x.id) e ∙ same-id (eqb z.id id) z in
        let (x, is, same, asks) = h.2 z before (subst (λ (n : ℕ). Has (listing n ForAllocation) s.listed) named there) in
        (begun x, map-has begun x s.transactions is, same-id (eqb x.id id) x ∙ (same ∙ sym named), same-asks (eqb x.id id) x asks)

-- ---- the phase advances

begins-in_order : (now : ℕ) (s : State) → s.phase ≡ New → StayInOrder s (record s { phase = Requesting; last_send = Some now })
begins-in_order now s e h = (λ u. h.0 begins, λ granted. absurd (granted tt), h.2, λ u. h.3 begins)
  where
    begins : IsUngranted s.phase
    begins = subst IsUngranted (sym e) tt

ends-in_order : (s : State) → IsUnlisted s → StayInOrder s (record s { phase = Closed })
ends-in_order s none h = (λ u. absurd u, λ granted. none, λ y here there. absurd (none y.id there), λ u. absurd u)

after-ungranted : (p : Phase) → (IsUngranted (phase_after p) → IsUngranted p) × (IsUngranted p → IsUngranted (phase_after p))
after-ungranted Requesting = (λ u. tt, λ u. tt)
after-ungranted p = (λ u. u, λ u. u)

counts-in_order : (s : State) → StayInOrder s (record s { phase = phase_after s.phase; challenges = s.challenges + 1 })
counts-in_order s h =
    let after = after-ungranted s.phase in
    (λ u. h.0 (after.0 u), λ granted. h.1 (λ u. granted (after.1 u)), h.2, λ u. h.3 (after.0 u))

allocates-in_order : (addresses : List SocketAddr) (s : State) → IsUnlisted s → StayInOrder s (record s { phase = phase_with addresses })
allocates-in_order addresses s none h =
    (λ u. absurd (granted-with addresses u), λ granted. none, λ y here there. absurd (none y.id there), λ u. absurd (granted-with addresses u))

StayInOrder-KeepsEdits : KeepsEdits StayInOrder
StayInOrder-KeepsEdits = record {
  rest = record {
    same = λ s h. h;
    trans = λ s t u first second h. second (first h);
    aside = λ s t h. h;
    queues = λ queue s begun h. h;
    dequeues = λ queue s less h. h;
    families = families-in_order;
    sends = λ now s has h. h;
    begins = begins-in_order;
    ends = ends-in_order;
    finishes = finishes-in_order;
    resends = resends-in_order;
    starts = starts-in_order;
  };
  asks = λ id text purposes now s begun askable spelled h. asks-in_order id text purposes now s spelled h;
  unlists = λ which s. fewer which s;
  removes = λ which s spares. gone which s;
  removes_family = λ family s. gone (is_of family) s;
  takes_offer = λ id peer s h. h;
  ages = λ grants s e h. h;
  permission = λ ip s phase room none h. h;
  channel = λ number peer s phase room none within h. h;
  connect = λ peer s phase room none h. h;
  connection = λ id c origin s phase offer none waits h. h;
  reserves = λ number peer was until s there. gone (is_channel_of number) s;
}

pub StayInOrder-KeepsAllEdits : KeepsAllEdits StayInOrder
StayInOrder-KeepsAllEdits = record {
  edits = StayInOrder-KeepsEdits;
  reshapes = λ grants s e h. h;
  rebinds = λ number peer was progress s there. gone (is_channel_of number) s;
  holds = λ message d s e h. h;
  counts = λ s held few. counts-in_order s;
  resets = λ accepted s h. h;
  empties = λ s. gone (λ g. true) s;
  allocates = λ message lifetime now s e none. allocates-in_order (taken_addresses s.families (relayed_in message)) s none;
  permits = λ ip is_kept expiry s is. gone (is_permission_of ip) s;
  connects = λ id connection_id peer s t since stay granted listed h. gone (is_connect_to peer) t (since h);
  offers = λ id peer origin s room few h. h;
}

-- ---- all calls

pub in_order-stated : (s : State) → IsInOrder s → AllocatesInOrder s
in_order-stated s h = ((λ u l there. h.0 u l (contains-has l s.listed there), λ granted id there. h.1 granted id (contains-has _ s.listed there)), request_started, h.3)
  where
    request_started : (id : ℕ) → IsAllocate id s → is_outstanding id s.transactions ≡ true → IsAskedForFamilies id s
    request_started id listed outstanding =
        let (y, here, e) = any-has (λ (x : Transaction). eqb x.id id) s.transactions outstanding in
        let named = eqb-true y.id id e in
        let (x, is, same, asks) = h.2 y here (subst (λ (n : ℕ). Has (listing n ForAllocation) s.listed) (sym named) (contains-has (listing id ForAllocation) s.listed listed)) in
        (x, has-contains x s.transactions is, same ∙ named, asks)

pub stated-in_order : (s : State) → AllocatesInOrder s → IsInOrder s
stated-in_order s ((alone, none), request_started, configured) = (
  λ u l there. alone u l (has-contains l s.listed there),
  λ granted id there. none granted id
      (has-contains (listing id ForAllocation) s.listed there),
  all,
  configured,
)
  where
    all : AllAsked s
    all y here there =
        let outstanding = has-any (λ (x : Transaction). eqb x.id y.id) y s.transactions here (eq-eqb y.id y.id refl) in
        let (x, is, same, asks) = request_started y.id (has-contains (listing y.id ForAllocation) s.listed there) outstanding in
        (x, contains-has x s.transactions is, same, asks)

pub initial-AllocatesInOrder : (transport : TransportType) (local remote : SocketAddr) (config : Config) (seed : List ℕ) → AllocatesInOrder (initial transport local remote config seed)
initial-AllocatesInOrder transport local remote config seed =
    in_order-stated (initial transport local remote config seed) (λ u l none. absurd none, λ granted id none. none, λ y none there. absurd none, λ u. inl refl)

pub leaves-AllocatesInOrder : (call : Call) (s t : State) → Leaves call s t → AllocatesInOrder s → AllocatesInOrder t
leaves-AllocatesInOrder call s t leaves h = in_order-stated t (leaves-walk StayInOrder StayInOrder-KeepsAllEdits (λ s streams h. h) call s t leaves (stated-in_order s h))

-- ---- what is allocated

pub leaves-allocations : (call : Call) (s t : State) → Leaves call s t → AllocatesInOrder s → AllocatesAsAsked call s t
leaves-allocations call s t leaves h a there = elim (leaves-grants call s t (Allocation a) leaves there tt) [
  | inl stood ↦ inl stood
  | inr (inl ended) ↦ inr (inl ended)
  | inr (inr (one, among, by_input)) ↦ inr (inr (one, among, of_grant one among by_input))
]
  where
    of_grant : (one : Input) → Contains (handled call s) one → IsGrantInput (Allocation a) one → IsAllocationInput a one
    of_grant one among by_input = (by_input, request_started)
      where
        order : AllocatesInOrder one.before
        order = in_order-stated one.before (before-kept StayInOrder (edits-IsKept StayInOrder StayInOrder-KeepsAllEdits (λ s streams h. h)) call s one among (stated-in_order s h))

        request_started : by_input.grant.1.purpose ≡ ForAllocation → IsAskedForFamilies (id_of one.bytes) one.before
        request_started e =
            let answers = subst (λ (p : Purpose). Contains (purposes_of (id_of one.bytes) one.before) p) e by_input.grant.1.listed in
            let listed = purpose-with (id_of one.bytes) ForAllocation one.before (contains-has ForAllocation (purposes_of (id_of one.bytes) one.before) answers) in
            order.1 (id_of one.bytes) (has-contains (listing (id_of one.bytes) ForAllocation) one.before.listed listed) by_input.grant.1.outstanding
