-- What a success changes for one purpose of its request, while no grant is lost.
use Rattle.turn_client_laws.proofs.Common.{◌≡◌, ◌⊎◌, ℕ, ◌+◌, ◌^◌, ◌≤◌, min, Bool, true, false, cond, not, ◌&&◌, eqb, List, [], ◌∷◌, ◌++◌, map, Option, Some, None, refl, inl, inr, ap, sym, subst, ◌∙◌}
use Rattle.turn_client_laws.proofs.Common.{arith, IsSomeAnd, filter, filter_map, slice_get, list_any, option_map_or, eq-eqb, le-leb, eqb-true, false_from_ne_true, none-some, same_Some, IpAddr}
use Rattle.turn_client_laws.proofs.Common.{SocketAddr}
use Rattle.turn_client_laws.proofs.Machine.{AddressFamily, State, later_by, seconds, TurnEvent, Grant, Allocation, Permission, Channel, Progress, Active, Pending, Reserved, Listing, Purpose}
use Rattle.turn_client_laws.proofs.Machine.{ForRefresh, ForPermission, ForChannel, as_allocation, channel_at, changed_allocation, family_of_grant, first_in, is_channel_of, is_for, is_of, is_of_family}
use Rattle.turn_client_laws.proofs.Machine.{is_permission_of, permission_progress, permission_state, purposes_of, same_ip, lifetime_in, channel_answered, channel_lifetime, effect, lasting_if}
use Rattle.turn_client_laws.proofs.Machine.{min_lifetime, permission_answered, permission_lifetime, prolonged, refreshed, Has, filter-has, filter_map-has, first-has, has-filter_map, has-left, map-has}
use Rattle.turn_client_laws.proofs.Machine.{is_kept, has_request, same_ip-true, Lease, granted_until}
use Rattle.turn_client_laws.proofs.Laws.{IsReserved, has-any, purpose-with}
use Rattle.turn_client_runs.proofs.LastingCounts.{passes, passes-two}
use Rattle.turn_client_runs.specs.Lasting.{as_granted, Grants, ahead_of, expiry_of, with_expiry}
use Rattle.turn_client_runs.proofs.LastingStands.{IsActive, IsRefreshing, IsUnique, is_waiting}
use Rattle.turn_client_runs.proofs.LastingTransmits.{same_ip-self}
use Rattle.turn_client_runs.proofs.GrantInputs.{IsLeased}

-- what the request is for lasts until then
abbrev pub renews : Purpose → ℕ → Grant → Grant
renews p expiry g = cond (is_for p g) (with_expiry expiry g) g

-- it is listed for something that the other one is for, too
abbrev pub is_shared : Purpose → List Grant → Listing → Bool
is_shared p gs l = list_any (λ g. is_for p g && is_for l.purpose g) gs

abbrev pub renewed_by : Purpose → ℕ → ℕ → State → State
renewed_by p expiry challenges u = record u {
  grants = map (renews p expiry) u.grants;
  listed = filter (λ l. not (is_shared p u.grants l)) u.listed;
  challenges = challenges;
}

-- what was waiting is granted, after all others
abbrev pub granted_by : Purpose → Grant → List TurnEvent → ℕ → State → State
granted_by p new events challenges u = record u {
  grants = filter (λ g. not (is_for p g)) u.grants ++ new ∷ [];
  listed = filter (λ l. not (is_shared p u.grants l)) u.listed;
  events = events;
  challenges = challenges;
}

-- it waits, or is granted, or is a channel that is reserved and not requested
abbrev pub IsOfKind : State → Grant → Type 0
IsOfKind u g = (is_waiting g ≡ true) ⊎ (IsActive g ⊎ (IsReserved g × (has_request g u ≡ false)))

abbrev pub AllKnown : State → Type 0
AllKnown u = (g : Grant) → Has g u.grants → IsOfKind u g

-- for so long a success grants it, or longer
abbrev pub granted_for : Purpose → ℕ
granted_for (ForPermission ip) = 300_000_000_000
granted_for _ = 600_000_000_000

-- the purpose is for a permission or a channel that waits, which is granted for 300 s or more
pub record IsGrantedAnew (p : Purpose) (now : ℕ) (u t : State) : Type 0 where
  pub unique : IsUnique p
  pub waits : Grant
  pub there : Has waits u.grants
  pub same : is_for p waits ≡ true
  pub waiting : is_waiting waits ≡ true
  pub new : Grant
  pub for : is_for p new ≡ true
  pub leased : IsLeased new
  pub marks : is_kept new ≡ is_kept waits
  pub minute : min u.config.refresh_ahead 150_000_000_000 ≤ ahead_of u.config.refresh_ahead new
  pub family : family_of_grant waits ≡ family_of_grant new
  pub late : now + 150_000_000_000 + ahead_of u.config.refresh_ahead new ≤ expiry_of new
  pub becomes : with_expiry 0 new ≡ as_granted waits
  pub events : List TurnEvent
  pub challenges : ℕ
  pub fewer : challenges ≤ u.challenges
  pub is : t ≡ granted_by p new events challenges u

-- what waits for it would not be the only one
abbrev pub IsForGranted : Purpose → State → Type 0
IsForGranted p u =
    (g : Grant) → Has g u.grants → is_waiting g ≡ true → is_for p g ≡ true → IsUnique p × ((x : Grant) × Has x u.grants × (is_for p x ≡ true) × (is_waiting x ≡ false))

-- it does so, for 300 s or more
abbrev pub Renews : Purpose → ℕ → State → State → Type 0
Renews p now u t = (expiry : ℕ) × (challenges : ℕ) × (challenges ≤ u.challenges) × (now + granted_for p ≤ expiry) × (t ≡ renewed_by p expiry challenges u) × IsForGranted p u

-- ---- lists

map-same : {X Y : Type 0} (f g : X → Y) (xs : List X) → ((x : X) → f x ≡ g x) → map f xs ≡ map g xs
map-same f g [] same = refl
map-same f g (x ∷ xs) same = rw (same x, map-same f g xs same) refl

pub filter-same : {X : Type 0} (p q : X → Bool) (xs : List X) → ((x : X) → p x ≡ q x) → filter p xs ≡ filter q xs
filter-same p q [] same = refl
filter-same p q (x ∷ xs) same = rw (same x, filter-same p q xs same) refl

any-same : {X : Type 0} (p q : X → Bool) (xs : List X) → ((x : X) → p x ≡ q x) → list_any p xs ≡ list_any q xs
any-same p q [] same = refl
any-same p q (x ∷ xs) same = rw (same x, any-same p q xs same) refl

pub some-first : {X : Type 0} (x : X) (xs : List X) → Has x xs → (y : X) × (slice_get xs 0 ≡ Some y)
some-first x [] h = absurd h
some-first x (y ∷ xs) h = (y, refl)

-- ---- the parts

-- what is renewed, and what is no longer listed
renewed-is : (which : Grant → Bool) (f : Grant → Grant) (p : Purpose) (expiry challenges : ℕ) (u : State) → ((g : Grant) → f g ≡ renews p expiry g) → ((g : Grant) → which g ≡ is_for p g)
    → record u { grants = map f u.grants; listed = filter (λ l. not (list_any (λ g. which g && is_for l.purpose g) u.grants)) u.listed; challenges = challenges } ≡ renewed_by p expiry challenges u
renewed-is which f p expiry challenges u same test =
    ap (λ (gs : List Grant). record u { grants = gs; listed = filter (λ l. not (list_any (λ g. which g && is_for l.purpose g) u.grants)) u.listed; challenges = challenges })
    (map-same f (renews p expiry) u.grants same)
    ∙ ap (λ (ls : List Listing). record u { grants = map (renews p expiry) u.grants; listed = ls; challenges = challenges })
    (filter-same _ (λ l. not (is_shared p u.grants l)) u.listed
    (λ l. ap not (any-same (λ g. which g && is_for l.purpose g) (λ g. is_for p g && is_for l.purpose g) u.grants (λ g. ap (λ b. b && is_for l.purpose g) (test g)))))

-- a REFRESH
allocation-test : (family : AddressFamily) (lifetime : ℕ) (g : Grant) → (Rattle.std.specs.Prelude.is_some (as_allocation g) && is_of family g) ≡ is_for (ForRefresh family lifetime) g
allocation-test family lifetime (Allocation a) = refl
allocation-test family lifetime g = refl

allocation-changes : (family : AddressFamily) (lifetime expiry : ℕ) (g : Grant)
    → changed_allocation (λ a. is_of_family family a.relayed) (λ a. record a { expiry = expiry }) g ≡ renews (ForRefresh family lifetime) expiry g
allocation-changes family lifetime expiry (Allocation a) = refl
allocation-changes family lifetime expiry g = refl

long-enough : (n now : ℕ) → now ≤ 2 ^ 62 → 600 ≤ n → now + 600_000_000_000 ≤ later_by (seconds n) now
long-enough n now range h = omega (arith, range, h)

refresh-renews : (family : AddressFamily) (lifetime : ℕ) (message : List ℕ) (now : ℕ) (u : State) → now ≤ 2 ^ 62 → 1 ≤ lifetime → IsSomeAnd (lifetime_in message) (λ n. min_lifetime ≤ n)
    → Renews (ForRefresh family lifetime) now u (refreshed family lifetime true message now u)
refresh-renews family lifetime message now u range asked lasts = rw not_zero (by (lifetime_in message) lasts)
  where
    not_zero : eqb lifetime 0 ≡ false
    not_zero = false_from_ne_true (eqb lifetime 0) (λ e. let z = eqb-true lifetime 0 e in omega (arith, z, asked))

    none-waits : IsForGranted (ForRefresh family lifetime) u
    none-waits (Permission ip (Pending is_kept)) there waits for = cc
    none-waits (Channel number peer (Pending is_kept)) there waits for = cc
    none-waits g there waits for = cc

    by : (o : Option ℕ) → IsSomeAnd o (λ n. min_lifetime ≤ n) → Renews (ForRefresh family lifetime) now u (option_map_or (λ granted. prolonged family granted now u) o u)
    by None h = absurd h
    by (Some n) h = rw (le-leb min_lifetime n h) (
      later_by (seconds n) now,
      0,
      omega arith,
      long-enough n now range h,
      renewed-is (λ g. Rattle.std.specs.Prelude.is_some (as_allocation g) && is_of family g) _ (ForRefresh family lifetime) (later_by (seconds n) now) 0 u
          (allocation-changes family lifetime (later_by (seconds n) now))
          (allocation-test family lifetime),
      none-waits,
    )

-- a permission
-- the progress of a permission, which is active or waits
abbrev IsKnownPermission : IpAddr → Grant → Progress → Type 0
IsKnownPermission ip g z =
    ((w : Lease) × (z ≡ Active w) × (is_waiting g ≡ false) × (is_permission_of ip g ≡ true))
    ⊎ ((kept : Bool) × (z ≡ Pending kept) × (g ≡ Permission ip (Pending kept)))

progress-known : (ip : IpAddr) (u : State) (g : Grant) (z : Progress) → IsOfKind u g → permission_progress ip g ≡ Some z → IsKnownPermission ip g z
progress-known ip u (Permission other progress) z h e = by (same_ip other ip) refl e
  where
    kind : (x : Progress) → IsOfKind u (Permission other x) → progress ≡ x → progress ≡ z → same_ip other ip ≡ true → IsKnownPermission ip (Permission other progress) z
    kind (Active w) h f same b = inl (w, sym same ∙ f, rw f refl, b)
    kind (Pending kept) h f same b = let is : other ≡ ip = same_ip-true other ip b in inr (kept, sym same ∙ f, rw (f, is) refl)
    kind (Reserved until) (inl waits) f same b = absurd (let never : false ≡ true = waits in cc)
    kind (Reserved until) (inr (inl active)) f same b = absurd active
    kind (Reserved until) (inr (inr (is, none))) f same b = absurd is

    by : (b : Bool) → same_ip other ip ≡ b → cond b (Some progress) None ≡ Some z → IsKnownPermission ip (Permission other progress) z
    by true f e = kind progress h refl (same_Some progress z e) f
    by false f e = absurd (none-some z e)
progress-known ip u g z h e = absurd (none-some z e)

pub permission-there : (ip : IpAddr) (g : Grant) → is_permission_of ip g ≡ true → (z : Progress) × (permission_progress ip g ≡ Some z)
permission-there ip (Permission other progress) e = (progress, rw e refl)
permission-there ip g e = cc

-- the first permission for the IP address is active, or waits
abbrev IsKnownState : IpAddr → State → Type 0
IsKnownState ip u =
    ((w : Lease) × (permission_state ip u ≡ Some (Active w)) × ((x : Grant) × Has x u.grants × (is_permission_of ip x ≡ true) × (is_waiting x ≡ false)))
    ⊎ ((kept : Bool) × (permission_state ip u ≡ Some (Pending kept)) × Has (Permission ip (Pending kept)) u.grants)

permission-known : (ip : IpAddr) (u : State) → AllKnown u → (g : Grant) → Has g u.grants → is_permission_of ip g ≡ true → IsKnownState ip u
permission-known ip u all g there is =
    let (z, e) = permission-there ip g is in
    let (first, f) = some-first z (filter_map (permission_progress ip) u.grants) (filter_map-has (permission_progress ip) g z u.grants there e) in
    let (x, here, gives) = has-filter_map (permission_progress ip) first u.grants (first-has first (filter_map (permission_progress ip) u.grants) f) in
    elim (progress-known ip u x first (all x here) gives) [
      | inl (w, same, granted, of) ↦ inl (w, rw (sym same) f, (x, here, of, granted))
      | inr (kept, same, it) ↦ inr (kept, rw (sym same) f, subst (λ (y : Grant). Has y u.grants) it here)
    ]

permission-lasts : (ip : IpAddr) (expiry : ℕ) (g : Grant) → lasting_if (is_permission_of ip) expiry g ≡ renews (ForPermission ip) expiry g
permission-lasts ip expiry (Permission other (Active w)) = refl
permission-lasts ip expiry g = refl

-- what a success for a purpose does
abbrev pub Does : Purpose → ℕ → State → State → Type 0
Does p now u t = Renews p now u t ⊎ IsGrantedAnew p now u t

permission-does : (ip : IpAddr) (now : ℕ) (u : State) → now ≤ 2 ^ 62 → AllKnown u → (g : Grant) → Has g u.grants → is_permission_of ip g ≡ true
    → Does (ForPermission ip) now u (permission_answered ip true now u)
permission-does ip now u range all g there is = elim (permission-known ip u all g there is) [
  | inl (w, e, (x, here, of, granted)) ↦ rw e (inl (
    later_by permission_lifetime now,
    u.challenges,
    omega arith,
    omega (arith, range),
    renewed-is (is_permission_of ip) (lasting_if (is_permission_of ip) (later_by permission_lifetime now)) (ForPermission ip) (later_by permission_lifetime now) u.challenges u
        (permission-lasts ip (later_by permission_lifetime now)) (λ g. refl),
    λ g there waits for. (tt, (x, here, of, granted)),
  ))
  | inr (kept, e, here) ↦ rw e (inr (record {
    unique = tt;
    waits = Permission ip (Pending kept);
    there = here;
    same = same_ip-self ip;
    waiting = refl;
    new = Permission ip (granted_until (later_by permission_lifetime now) kept);
    for = same_ip-self ip;
    leased = tt;
    marks = refl;
    minute = omega arith;
    family = refl;
    becomes = refl;
    late = omega (arith, range);
    events = _;
    challenges = u.challenges;
    fewer = omega arith;
    is = refl;
  }))
]

-- a channel
abbrev to_peer : SocketAddr → Progress → Option (SocketAddr × Progress)
to_peer peer progress = Some (peer, progress)

-- the progress of a channel, which is active or waits
abbrev IsKnownChannel : ℕ → Grant → SocketAddr × Progress → Type 0
IsKnownChannel number g z =
    ((w : Lease) × (z.1 ≡ Active w) × (is_channel_of number g ≡ true) × (is_waiting g ≡ false))
    ⊎ ((kept : Bool) × (z.1 ≡ Pending kept) × (g ≡ Channel number z.0 (Pending kept)))

channel-known : (number : ℕ) (u : State) (g : Grant) (z : SocketAddr × Progress) → IsOfKind u g → (is_channel_of number g ≡ true → has_request g u ≡ true) → channel_at number g ≡ Some z
    → IsKnownChannel number g z
channel-known number u (Channel other peer progress) z h asked e = by (eqb other number) refl e
  where
    kind : (x : Progress) → IsOfKind u (Channel other peer x) → has_request (Channel other peer x) u ≡ true → progress ≡ x → (peer, progress) ≡ z → other ≡ number
        → IsKnownChannel number (Channel other peer progress) z
    kind (Active w) h some f same b = inl (w, ap (λ (y : SocketAddr × Progress). y.1) (sym same) ∙ f, eq-eqb other number b, rw f refl)
    kind (Pending kept) h some f same b =
        let one : z.1 ≡ Pending kept = ap (λ (y : SocketAddr × Progress). y.1) (sym same) ∙ f in
        let to : peer ≡ z.0 = ap (λ (y : SocketAddr × Progress). y.0) same in
        inr (kept, one, rw (f, b, to) refl)
    kind (Reserved until) (inl waits) some f same b = absurd (let never : false ≡ true = waits in cc)
    kind (Reserved until) (inr (inl active)) some f same b = absurd active
    kind (Reserved until) (inr (inr (is, none))) some f same b = absurd (let never : false ≡ true = sym none ∙ some in cc)

    by : (b : Bool) → eqb other number ≡ b → cond b (to_peer peer progress) None ≡ Some z → IsKnownChannel number (Channel other peer progress) z
    by true f e = kind progress h (asked f) refl (same_Some (peer, progress) z e) (eqb-true other number f)
    by false f e = absurd (none-some z e)
channel-known number u g z h asked e = absurd (none-some z e)

-- what the request is for is requested
channel-asked : (number : ℕ) (peer : SocketAddr) (id : ℕ) (u : State) → Has (ForChannel number peer) (purposes_of id u) → (g : Grant) → is_channel_of number g ≡ true → has_request g u ≡ true
channel-asked number peer id u among g is =
    has-any (λ (l : Listing). is_for l.purpose g) (record { id = id; purpose = ForChannel number peer }) u.listed (purpose-with id (ForChannel number peer) u among) is

channel-there : (number : ℕ) (g : Grant) → is_channel_of number g ≡ true → (z : SocketAddr × Progress) × (channel_at number g ≡ Some z)
channel-there number (Channel other peer progress) e = ((peer, progress), rw e refl)
channel-there number g e = cc

-- the first channel of the number is active, or waits
abbrev IsChannelState : ℕ → State → Type 0
IsChannelState number u =
    ((peer : SocketAddr) × (w : Lease) × (first_in (channel_at number) u ≡ Some (peer, Active w)) × ((x : Grant) × Has x u.grants × (is_channel_of number x ≡ true) × (is_waiting x ≡ false)))
    ⊎ ((peer : SocketAddr) × (kept : Bool) × (first_in (channel_at number) u ≡ Some (peer, Pending kept)) × Has (Channel number peer (Pending kept)) u.grants)

channel-state : (number : ℕ) (u : State) → AllKnown u → ((g : Grant) → is_channel_of number g ≡ true → has_request g u ≡ true) → (g : Grant) → Has g u.grants → is_channel_of number g ≡ true
    → IsChannelState number u
channel-state number u all asked g there is =
    let (z, e) = channel-there number g is in
    let (first, f) = some-first z (filter_map (channel_at number) u.grants) (filter_map-has (channel_at number) g z u.grants there e) in
    let (x, here, gives) = has-filter_map (channel_at number) first u.grants (first-has first (filter_map (channel_at number) u.grants) f) in
    elim (channel-known number u x first (all x here) (asked x) gives) [
      | inl (w, same, of, granted) ↦ inl (first.0, w, f ∙ ap (λ (q : Progress). to_peer first.0 q) same, (x, here, of, granted))
      | inr (kept, same, it) ↦ inr (first.0, kept, f ∙ ap (λ (q : Progress). to_peer first.0 q) same, subst (λ (y : Grant). Has y u.grants) it here)
    ]

channel-lasts : (number : ℕ) (peer : SocketAddr) (expiry : ℕ) (g : Grant) → lasting_if (is_channel_of number) expiry g ≡ renews (ForChannel number peer) expiry g
channel-lasts number peer expiry (Channel other to (Active w)) = refl
channel-lasts number peer expiry g = refl

-- a success counts challenges anew
does-reset : (p : Purpose) (now : ℕ) (u v : State) → Does p now u v → Does p now u (record v { challenges = 0 })
does-reset p now u v (inl (expiry, challenges, fewer, late, is, alone)) = inl (expiry, 0, omega arith, late, ap (λ (t : State). record t { challenges = 0 }) is, alone)
does-reset p now u v (inr a) = inr (record {
  unique = a.unique;
  waits = a.waits;
  there = a.there;
  same = a.same;
  waiting = a.waiting;
  new = a.new;
  for = a.for;
  leased = a.leased;
  marks = a.marks;
  minute = a.minute;
  family = a.family;
  becomes = a.becomes;
  late = a.late;
  events = a.events;
  challenges = 0;
  fewer = omega arith;
  is = ap (λ (t : State). record t { challenges = 0 }) a.is;
})

-- a channel that waits is granted, once its permission was answered
channel-anew : (number : ℕ) (peer to : SocketAddr) (kept : Bool) (now : ℕ) (v t : State) → now ≤ 2 ^ 62 → Has (Channel number to (Pending kept)) v.grants → (events : List TurnEvent)
    → t ≡ granted_by (ForChannel number peer) (Channel number to (granted_until (later_by channel_lifetime now) kept)) events v.challenges v → Does (ForChannel number peer) now v t
channel-anew number peer to kept now v t range here events is = inr (record {
  unique = tt;
  waits = Channel number to (Pending kept);
  there = here;
  same = eq-eqb number number refl;
  waiting = refl;
  new = Channel number to (granted_until (later_by channel_lifetime now) kept);
  for = eq-eqb number number refl;
  leased = tt;
  marks = refl;
  minute = omega arith;
  family = refl;
  becomes = refl;
  late = omega (arith, range);
  events = events;
  challenges = v.challenges;
  fewer = omega arith;
  is = is;
})

-- with one purpose, a channel is answered alone
channel-does : (number : ℕ) (peer : SocketAddr) (id now : ℕ) (u : State) → now ≤ 2 ^ 62 → AllKnown u → purposes_of id u ≡ ForChannel number peer ∷ [] → (g : Grant) → Has g u.grants
    → is_channel_of number g ≡ true
    → Does (ForChannel number peer) now u (channel_answered number id true now u)
channel-does number peer id now u range all one g there is = elim (channel-state number u all (channel-asked number peer id u (rw one (inl refl))) g there is) [
  | inl (to, w, e, (x, here, of, granted)) ↦ rw e (inl (
    later_by channel_lifetime now,
    u.challenges,
    omega arith,
    omega (arith, range),
    renewed-is (is_channel_of number) (lasting_if (is_channel_of number) (later_by channel_lifetime now)) (ForChannel number peer) (later_by channel_lifetime now) u.challenges u
        (channel-lasts number peer (later_by channel_lifetime now)) (λ g. refl),
    λ g there waits for. (tt, (x, here, of, granted)),
  ))
  | inr (to, kept, e, here) ↦ rw (e, one) (channel-anew number peer to kept now u _ range here _ refl)
]

-- a channel that waits stays when a permission is answered
channel-stays : (ip : IpAddr) (now : ℕ) (u v : State) → Does (ForPermission ip) now u v → (g : Grant) → Has g u.grants → is_permission_of ip g ≡ false → Has g v.grants
channel-stays ip now u v (inl (expiry, challenges, fewer, late, is, alone)) g there other =
    subst (λ (x : State). Has g x.grants) (sym is) (subst (λ (h : Grant). Has h (map (renews (ForPermission ip) expiry) u.grants)) (rw other refl)
    (map-has (renews (ForPermission ip) expiry) g u.grants there))
channel-stays ip now u v (inr a) g there other = subst (λ (x : State). Has g x.grants) (sym a.is)
    (has-left g (filter (λ g. not (is_permission_of ip g)) u.grants) (a.new ∷ []) (filter-has (λ (g : Grant). not (is_permission_of ip g)) g u.grants there (rw other refl)))

-- two permissions are answered, one after the other
pub record DoesBoth (p q : Purpose) (now : ℕ) (u t : State) : Type 0 where
  pub middle : State
  pub first : Does q now u middle
  pub last : Does p now middle t
  pub stays : (g : Grant) → Has g u.grants → is_for q g ≡ false → Has g middle.grants

-- a channel that waits is answered with the permission that it brings
channel-brings : (number : ℕ) (peer : SocketAddr) (ip : IpAddr) (id now : ℕ) (u : State) → now ≤ 2 ^ 62 → AllKnown u → purposes_of id u ≡ ForChannel number peer ∷ ForPermission ip ∷ []
    → (g : Grant) → Has g u.grants → is_permission_of ip g ≡ true → (to : SocketAddr) (kept : Bool) → first_in (channel_at number) u ≡ Some (to, Pending kept)
    → Has (Channel number to (Pending kept)) u.grants
    → DoesBoth (ForChannel number peer) (ForPermission ip) now u (channel_answered number id true now u)
channel-brings number peer ip id now u range all two g there is to kept e here =
    let first = permission-does ip now u range all g there is in
    record {
      middle = permission_answered ip true now u;
      first = first;
      last = rw (e, two) (channel-anew number peer to kept now (permission_answered ip true now u) _ range
          (channel-stays ip now u (permission_answered ip true now u) first (Channel number to (Pending kept)) here refl) _ refl);
      stays = channel-stays ip now u (permission_answered ip true now u) first;
    }

-- ---- the effect

-- of a purpose that is requested alone
pub effect-does : (message : List ℕ) (id now : ℕ) (u : State) (p : Purpose) → now ≤ 2 ^ 62 → AllKnown u → IsRefreshing p → Grants message p → purposes_of id u ≡ p ∷ []
    → (g : Grant) → Has g u.grants → is_for p g ≡ true → Does p now u (effect id true message now u p)
effect-does message id now u (ForRefresh family lifetime) range all asked grants one g there is = inl (refresh-renews family lifetime message now u range asked grants.1)
effect-does message id now u (ForPermission ip) range all asked grants one g there is = does-reset (ForPermission ip) now u (permission_answered ip true now u)
    (permission-does ip now u range all g there is)
effect-does message id now u (ForChannel number peer) range all asked grants one g there is =
    does-reset (ForChannel number peer) now u (channel_answered number id true now u) (channel-does number peer id now u range all one g there is)
effect-does message id now u p range all asked grants one g there is = absurd asked

-- challenges are counted anew
pub effect-resets : (message : List ℕ) (id now : ℕ) (u : State) (p : Purpose) → IsRefreshing p → Grants message p → (effect id true message now u p).challenges ≡ 0
effect-resets message id now u (ForPermission ip) asked grants = refl
effect-resets message id now u (ForChannel number peer) asked grants = refl
effect-resets message id now u (ForRefresh family lifetime) asked grants = rw not_zero (by (lifetime_in message) grants.1)
  where
    not_zero : eqb lifetime 0 ≡ false
    not_zero = false_from_ne_true (eqb lifetime 0) (λ e. let z = eqb-true lifetime 0 e in omega (arith, z, asked))

    by : (o : Option ℕ) → IsSomeAnd o (λ n. min_lifetime ≤ n) → (option_map_or (λ granted. prolonged family granted now u) o u).challenges ≡ 0
    by None h = absurd h
    by (Some n) h = rw (le-leb min_lifetime n h) refl
effect-resets message id now u p asked grants = absurd asked

-- of a channel that waits, and brings a permission
pub effect-brings : (message : List ℕ) (number : ℕ) (peer : SocketAddr) (ip : IpAddr) (id now : ℕ) (u : State) → now ≤ 2 ^ 62 → AllKnown u
    → purposes_of id u ≡ ForChannel number peer ∷ ForPermission ip ∷ []
    → (g : Grant) → Has g u.grants → is_permission_of ip g ≡ true → (h : Grant) → Has h u.grants → is_channel_of number h ≡ true → is_waiting h ≡ true → passes (is_channel_of number) u.grants ≤ 1
    → DoesBoth (ForChannel number peer) (ForPermission ip) now u (effect id true message now u (ForChannel number peer))
effect-brings message number peer ip id now u range all two g there is h here for waits single = elim (channel-state number u all (channel-asked number peer id u (rw two (inl refl))) h here for) [
  | inl (to, w, e, (x, found, same, active)) ↦
      let more = passes-two (is_channel_of number) is_waiting h x u.grants here found for same waits active in
      absurd (omega (arith, more, single))
  | inr (to, kept, e, there_is) ↦
      let both = channel-brings number peer ip id now u range all two g there is to kept e there_is in
      record { middle = both.middle; first = both.first; last = does-reset (ForChannel number peer) now both.middle (channel_answered number id true now u) both.last; stays = both.stays }
]
