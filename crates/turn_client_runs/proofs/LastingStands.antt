-- How a client stands while no grant is lost: each grant is refreshed in time, or its refresh is on its way.
use Rattle.turn_client_laws.proofs.Common.{◌≡◌, ◌⊎◌, ℕ, ◌+◌, ◌-◌, ◌*◌, ◌^◌, ◌<◌, ◌≤◌, min, Bool, true, false, cond, ◌||◌, leb, eqb, List, [], ◌∷◌, length, filter, Option, Some, None, refl, ap, sym}
use Rattle.turn_client_laws.proofs.Common.{subst}
use Rattle.turn_client_laws.proofs.Common.{◌∙◌, inl, inr, arith, IfSome, ⊤, nat_le, lt-leb, SocketAddr}
use Rattle.turn_client_laws.proofs.Machine.{Source, Transaction, timers_of, State, later_by, Allocated, Queued, TurnEvent, Grant, Allocation, Permission, Channel, Active, Pending, Reserved, Purpose}
use Rattle.turn_client_laws.proofs.Machine.{ForRefresh, ForPermission, ForChannel, Listing, family_of_grant, has_request, is_for, Relay, has_reply, is_kept, pause_end, refresh_time_by_kind, Has}
use Rattle.turn_client_laws.proofs.Laws.{Room, IsReserved}
use Rattle.std.proofs.lemmas.Nat.{mul-le}
use Rattle.turn_client_runs.specs.History.{History, IsSeldom, all_waits, extra_since, waited, was_let_go}
use Rattle.turn_client_runs.specs.Lasting.{as_granted, with_expiry, ahead_of, expiry_of, queue_ahead}
use Rattle.turn_client_runs.proofs.LastingCounts.{passes, passes-less}
use Rattle.turn_client_runs.proofs.GrantInputs.{IsLeased}

-- the server granted it, whenever it expires, and whether it is kept or not
abbrev pub IsActive : Grant → Type 0
IsActive (Allocation a) = a.is_expired ≡ false
IsActive (Permission ip (Active lease)) = ⊤
IsActive (Channel number peer (Active lease)) = ⊤
IsActive _ = ⊥

-- the server granted it, and it is kept
abbrev pub IsGranted : Grant → Type 0
IsGranted (Allocation a) = a.is_expired ≡ false
IsGranted (Permission ip (Active lease)) = lease.is_kept ≡ true
IsGranted (Channel number peer (Active lease)) = lease.is_kept ≡ true
IsGranted _ = ⊥

-- when its refresh falls due
abbrev pub due_of : State → Grant → ℕ
due_of s g = expiry_of g - ahead_of s.config.refresh_ahead g

-- it is requested and not yet granted
abbrev pub is_waiting : Grant → Bool
is_waiting (Permission ip (Pending is_kept)) = true
is_waiting (Channel number peer (Pending is_kept)) = true
is_waiting _ = false

-- it is being requested, or was refreshed since that time
abbrev pub is_served : State → ℕ → Grant → Bool
is_served s since g = is_waiting g || (has_request g s || nat_le (since + 150_000_000_000) (due_of s g))

abbrev pub served : State → ℕ → ℕ
served s since = passes (is_served s since) s.grants

-- so many packets left in place of a refresh that fell due at that time, or will
abbrev pub used : History → State → ℕ → ℕ
used past s since = extra_since since past + served s since

-- How far the caller lags behind: by `late` at most, since `since` at the earliest; so a packet leaves in each `pace`.
pub record Lag : Type 0 where
  pub late : ℕ
  pub since : ℕ
  pub pace : ℕ

-- it takes a packet, and lags behind no more
abbrev pub taken : ℕ → Lag → Lag
taken now lag = record lag { since = now }

-- a caller that is not late takes the request for a refresh by then
abbrev pub bound : ℕ → Lag → History → State → Grant → ℕ
bound slots lag past s g = due_of s g + lag.pace * (1 + slots + used past s (due_of s g))

-- a request for it awaits its reply, and was made at such a time
pub record IsRequested (when : ℕ → Type 0) (past : History) (transactions : List Transaction) (listed : List Listing) (g : Grant) : Type 0 where
  pub transaction : Transaction
  pub there : Has transaction transactions
  pub listing : Listing
  pub within : Has listing listed
  pub for : is_for listing.purpose g ≡ true
  pub same : transaction.id ≡ listing.id
  pub made : when (past.made transaction.id)

-- the reply will come before the grant expires
abbrev pub IsAwaited : ℕ → History → List Transaction → List Listing → Grant → Type 0
IsAwaited delay past transactions listed g = IsRequested (λ made. made + delay < expiry_of g) past transactions listed g

-- it was made by then
abbrev pub IsPending : ℕ → History → List Transaction → List Listing → Grant → Type 0
IsPending until past transactions listed g = IsRequested (λ made. made ≤ until) past transactions listed g

-- it is not too late to request it, once all that leaves before it was sent
pub record IsIdle (slots : ℕ) (lag : Lag) (now : ℕ) (past : History) (s : State) (g : Grant) : Type 0 where
  pub unasked : has_request g s ≡ false
  pub near : now ≤ due_of s g + s.config.refresh_ahead
  pub soon : lag.since + lag.pace * queue_ahead s ≤ bound slots lag past s g
  pub paused : pause_end s + lag.pace * queue_ahead s ≤ bound slots lag past s g

pub record Stands (count slots extras : ℕ) (lag : Lag) (delay now : ℕ) (past : History) (transactions : List Transaction) (s : State) (g : Grant) : Type 0 where
  pub granted : IsGranted g
  pub room : (count + slots + extras) * lag.pace + delay + lag.late < ahead_of s.config.refresh_ahead g
  pub long : ahead_of s.config.refresh_ahead g ≤ expiry_of g
  pub either : IsAwaited delay past transactions s.listed g ⊎ IsIdle slots lag now past s g

pub pending-later : (first until : ℕ) (past : History) (xs : List Transaction) (ls : List Listing) (g : Grant) → first ≤ until → IsPending first past xs ls g → IsPending until past xs ls g
pending-later first until past xs ls g later p = record {
  transaction = p.transaction;
  there = p.there;
  listing = p.listing;
  within = p.within;
  for = p.for;
  same = p.same;
  made = let made = p.made in omega (arith, made, later);
}

-- it is so still where the same requests were made when they were, and more are listed
pub requested-more : (when : ℕ → Type 0) (past later : History) (xs ys : List Transaction) (ls ms : List Listing) (g : Grant) → ((x : Transaction) → Has x xs → later.made x.id ≡ past.made x.id)
    → ((x : Transaction) → Has x xs → Has x ys) → ((l : Listing) → Has l ls → is_for l.purpose g ≡ true → Has l ms)
    → IsRequested when past xs ls g → IsRequested when later ys ms g
requested-more when past later xs ys ls ms g same transactions listed p = record {
  transaction = p.transaction;
  there = transactions p.transaction p.there;
  listing = p.listing;
  within = listed p.listing p.within p.for;
  for = p.for;
  same = p.same;
  made = subst when (sym (same p.transaction p.there)) p.made;
}

-- ---- what is granted stays, and what is requested is granted

-- it is there and granted, maybe with another expiry
abbrev pub Remains : Grant → State → Type 0
Remains g t = (h : Grant) × Has h t.grants × (with_expiry 0 h ≡ with_expiry 0 g) × IsGranted h

-- it is granted
abbrev pub Becomes : Grant → State → Type 0
Becomes g t = (h : Grant) × Has h t.grants × (with_expiry 0 h ≡ as_granted g) × IsGranted h

-- what was let go once is so still
abbrev pub AreLetGo : History → History → Type 0
AreLetGo past later = (g : Grant) → was_let_go past g ≡ true → was_let_go later g ≡ true

abbrev pub AllRemain : State → State → Type 0
AllRemain u t = (g : Grant) → Has g u.grants → IsGranted g → Remains g t

-- it waits for its reply still, or is granted
abbrev pub Follows : ℕ → History → List Transaction → Grant → State → Type 0
Follows until past xs g t = (Has g t.grants × IsPending until past xs t.listed g) ⊎ Becomes g t

-- what no call lets go
pub record Goes (past later : History) (xs ys : List Transaction) (u t : State) : Type 0 where
  pub let_go : AreLetGo past later
  pub remain : (g : Grant) → Has g u.grants → IsGranted g → was_let_go later g ≡ false → Remains g t
  pub follow : (until : ℕ) (g : Grant) → Has g u.grants → is_waiting g ≡ true → IsPending until past xs u.listed g → was_let_go later g ≡ false → Follows until later ys g t

-- with another expiry, or granted, it is the same
pub let_go-with : (past : History) (expiry : ℕ) (g : Grant) → was_let_go past (with_expiry expiry g) ≡ was_let_go past g
let_go-with past expiry g = grind arith

pub let_go-granted : (past : History) (g : Grant) → was_let_go past (as_granted g) ≡ was_let_go past g
let_go-granted past g = grind arith

pub let_go-same : (past : History) (g h : Grant) → with_expiry 0 h ≡ with_expiry 0 g → was_let_go past h ≡ was_let_go past g
let_go-same past g h e = sym (let_go-with past 0 h) ∙ (ap (was_let_go past) e ∙ let_go-with past 0 g)

pub let_go-became : (past : History) (g h : Grant) → with_expiry 0 h ≡ as_granted g → was_let_go past h ≡ was_let_go past g
let_go-became past g h e = sym (let_go-with past 0 h) ∙ (ap (was_let_go past) e ∙ let_go-granted past g)

-- what is not let go later was not let go before
pub none-before : (past later : History) → AreLetGo past later → (g : Grant) → was_let_go later g ≡ false → was_let_go past g ≡ false
none-before past later on g none = by (was_let_go past g) refl
  where
    by : (b : Bool) → was_let_go past g ≡ b → was_let_go past g ≡ false
    by false e = e
    by true e = let no : false ≡ true = sym none ∙ on g e in cc

pub goes-trans : (past between later : History) (xs ys zs : List Transaction) (u v t : State) → Goes past between xs ys u v → Goes between later ys zs v t → Goes past later xs zs u t
goes-trans past between later xs ys zs u v t first second = record {
  let_go = λ g e. second.let_go g (first.let_go g e);
  remain = λ g there granted none.
      let (h, here, same, is) = first.remain g there granted (none-before between later second.let_go g none) in
      let (i, now, again, as_well) = second.remain h here is (let_go-same later g h same ∙ none) in
      (i, now, again ∙ same, as_well);
  follow = λ until g there waits pending none. elim (first.follow until g there waits pending (none-before between later second.let_go g none)) [
    | inl (here, still) ↦ second.follow until g here waits still none
    | inr (h, here, same, is) ↦ let (i, now, again, as_well) = second.remain h here is (let_go-became later g h same ∙ none) in inr (i, now, again ∙ same, as_well)
  ];
}

-- no grant changes, and requests are added at most
pub goes-more : (past : History) (xs ys : List Transaction) (u t : State) → t.grants ≡ u.grants → ((x : Transaction) → Has x xs → Has x ys) → ((l : Listing) → Has l u.listed → Has l t.listed)
    → Goes past past xs ys u t
goes-more past xs ys u t e transactions listed = record {
  let_go = λ g e. e;
  remain = λ g there granted none. (g, subst (λ (gs : List Grant). Has g gs) (sym e) there, refl, granted);
  follow = λ until g there waits pending none. inl (
    subst (λ (gs : List Grant). Has g gs) (sym e) there,
    requested-more (λ made. made ≤ until) past past xs ys u.listed t.listed g (λ x h. refl) transactions (λ l h for. listed l h) pending,
  );
}

-- It was let go, and may have been kept again, but too late. Or it is a channel that is reserved, and is not requested.
abbrev pub IsLoose : History → State → Grant → Type 0
IsLoose past s g = ((was_let_go past g ≡ true) × IsLeased g) ⊎ (IsReserved g × (has_request g s ≡ false))

-- it is not granted yet, or will be refreshed in time, or was let go
abbrev pub IsWell : ℕ → ℕ → ℕ → Lag → ℕ → ℕ → History → List Transaction → State → Grant → Type 0
IsWell count slots extras lag delay now past transactions s g =
    ((is_waiting g ≡ true) × IsPending now past transactions s.listed g) ⊎ (Stands count slots extras lag delay now past transactions s g ⊎ IsLoose past s g)

-- while it waits, it is kept or was let go; and it is not refreshed before its time
abbrev pub IsKnown : ℕ → History → State → Grant → Type 0
IsKnown now past s g =
    (is_waiting g ≡ true → (is_kept g || was_let_go past g) ≡ true) × (IsLeased g → has_request g s ≡ true → due_of s g ≤ now)

-- a purpose of a refresh
abbrev pub IsRefreshing : Purpose → Type 0
IsRefreshing (ForRefresh family lifetime) = 1 ≤ lifetime
IsRefreshing (ForPermission ip) = ⊤
IsRefreshing (ForChannel number peer) = ⊤
IsRefreshing _ = ⊥

-- it is for one of these
abbrev pub IsAsked : List Grant → Listing → Type 0
IsAsked gs l = IsRefreshing l.purpose × ((g : Grant) × Has g gs × (is_for l.purpose g ≡ true))

-- it is for one grant at most: a permission or a channel
abbrev pub IsUnique : Purpose → Type 0
IsUnique (ForPermission ip) = ⊤
IsUnique (ForChannel number peer) = ⊤
IsUnique _ = ⊥

-- no two permissions are for one IP address, and no two channels have one number
abbrev pub AreSingle : List Grant → Type 0
AreSingle gs = (p : Purpose) → IsUnique p → passes (is_for p) gs ≤ 1

-- what is listed under one ID: one purpose, or a channel that waits and the permission that it brings
abbrev pub Brings : List Grant → Purpose → Purpose → Type 0
Brings gs (ForChannel number peer) (ForPermission ip) =
    (g : Grant) × Has g gs × (is_waiting g ≡ true) × (is_for (ForChannel number peer) g ≡ true)
Brings gs _ _ = ⊥

abbrev pub IsRequest : List Grant → List Listing → Type 0
IsRequest gs [] = ⊤
IsRequest gs (l ∷ []) = ⊤
IsRequest gs (l ∷ m ∷ []) = Brings gs l.purpose m.purpose
IsRequest gs _ = ⊥

abbrev pub listed_as : ℕ → List Listing → List Listing
listed_as id ls = filter (λ l. eqb l.id id) ls

abbrev pub AreRequests : List Grant → List Listing → Type 0
AreRequests gs ls = (id : ℕ) → IsRequest gs (listed_as id ls)

pub brings-more : (gs hs : List Grant) (p q : Purpose) → ((g : Grant) → Has g gs → is_for p g ≡ true → Has g hs) → Brings gs p q → Brings hs p q
brings-more gs hs (ForChannel number peer) (ForPermission ip) more (g, there, waits, for) = (g, more g there for, waits, for)
brings-more gs hs p q more h = grind arith

pub request-more : (gs hs : List Grant) (ls : List Listing) → ((g : Grant) → Has g gs → Has g hs) → IsRequest gs ls → IsRequest hs ls
request-more gs hs [] more h = tt
request-more gs hs (l ∷ []) more h = tt
request-more gs hs (l ∷ m ∷ []) more h = brings-more gs hs l.purpose m.purpose (λ g there for. more g there) h
request-more gs hs (l ∷ m ∷ n ∷ ls) more h = absurd h

-- the transactions are those that requests await, of which some may have ended
pub record IsKept (count slots extras : ℕ) (lag : Lag) (delay now : ℕ) (past : History) (transactions : List Transaction) (s : State) : Type 0 where
  pub phase : s.phase ≡ Allocated
  pub requests : has_reply s ≡ false
  pub few : queue_ahead s ≤ slots
  pub prompt : delay < all_waits (timers_of s.config) s.transport
  pub paced : s.config.request_cadence + lag.late ≤ lag.pace
  pub begins : lag.since ≤ now
  pub behind : now ≤ lag.since + lag.late
  pub pace : (count + slots + extras) * lag.pace + delay + lag.late < min s.config.refresh_ahead 150_000_000_000
  pub sent : IfSome s.last_send (λ time. time ≤ now)
  pub aged : (x : Transaction) → Has x s.transactions → past.made x.id + waited (timers_of s.config) s.transport x.resends ≤ x.last_send
  pub lone : (x y : Transaction) → Has x s.transactions → Has y s.transactions → x.id ≡ y.id → x ≡ y
  pub begun : (x : Transaction) → Has x s.transactions → past.made x.id + waited (timers_of s.config) s.transport x.resends ≤ now
  pub heard : (x : Transaction) → Has x s.transactions → now ≤ past.made x.id + delay
  pub seldom : IsSeldom extras s.config.refresh_ahead now past
  pub row : s.challenges ≤ past.challenged
  pub asked : (l : Listing) → Has l s.listed → IsAsked s.grants l
  pub size : length s.grants ≤ count
  pub single : AreSingle s.grants
  pub linked : AreRequests s.grants s.listed
  pub in_range : now ≤ 2 ^ 62
  pub in_allocations : (g : Grant) → Has g s.grants → Room s.grants (family_of_grant g)
  pub known : (g : Grant) → Has g s.grants → IsKnown now past s g
  pub each : (g : Grant) → Has g s.grants → IsWell count slots extras lag delay now past transactions s g

-- the grants and what is listed for them
pub record AreKept (count slots extras : ℕ) (lag : Lag) (delay now : ℕ) (past : History) (transactions : List Transaction) (s : State) : Type 0 where
  pub row : s.challenges ≤ past.challenged
  pub asked : (l : Listing) → Has l s.listed → IsAsked s.grants l
  pub size : length s.grants ≤ count
  pub single : AreSingle s.grants
  pub linked : AreRequests s.grants s.listed
  pub in_allocations : (g : Grant) → Has g s.grants → Room s.grants (family_of_grant g)
  pub known : (g : Grant) → Has g s.grants → IsKnown now past s g
  pub each : (g : Grant) → Has g s.grants → IsWell count slots extras lag delay now past transactions s g

-- With other ones the rest stays as it is, if the same requests were made when they were.
pub kept-changed : (count slots extras : ℕ) (lag : Lag) (delay now : ℕ) (past later : History) (xs ys : List Transaction) (s : State)
    → ((x : Transaction) → Has x s.transactions → later.made x.id ≡ past.made x.id) → IsSeldom extras s.config.refresh_ahead now later
    → IsKept count slots extras lag delay now past xs s → (grants : List Grant) (listed : List Listing)
    (events : List TurnEvent) (challenges : ℕ) (ids : Source) (closes : List SocketAddr)
    → let t = record s { grants = grants; listed = listed; events = events; challenges = challenges; ids = ids; closes = closes } in
    AreKept count slots extras lag delay now later ys t → IsKept count slots extras lag delay now later ys t
kept-changed count slots extras lag delay now past later xs ys s same seldom k grants listed events challenges ids closes are = record {
  phase = k.phase;
  requests = k.requests;
  few = k.few;
  prompt = k.prompt;
  paced = k.paced;
  begins = k.begins;
  behind = k.behind;
  pace = k.pace;
  sent = k.sent;
  aged = λ x h. let e = same x h in let old = k.aged x h in omega (arith, e, old);
  lone = k.lone;
  begun = λ x h. let e = same x h in let b = k.begun x h in omega (arith, e, b);
  heard = λ x h. let e = same x h in let late = k.heard x h in omega (arith, e, late);
  seldom = seldom;
  row = are.row;
  asked = are.asked;
  size = are.size;
  single = are.single;
  linked = are.linked;
  in_range = k.in_range;
  in_allocations = are.in_allocations;
  known = are.known;
  each = are.each;
}

-- packets may have left the queue, and transactions may have ended
pub record IsLeft (count slots extras : ℕ) (lag : Lag) (since delay now : ℕ) (past : History) (transactions : List Transaction) (s t : State) : Type 0 where
  pub begins : since ≤ now
  pub behind : now ≤ since + lag.late
  pub requests : has_reply t ≡ false
  pub few : queue_ahead t ≤ slots
  pub sent : IfSome t.last_send (λ time. time ≤ now)
  pub awaited : (x : Transaction) → Has x t.transactions → Has x s.transactions
  pub stands : (g : Grant) → Has g s.grants → Stands count slots extras lag delay now past transactions s g → Stands count slots extras (taken since lag) delay now past transactions t g

-- then the rest is kept, since grants and listings stay
pub kept-rest : (count slots extras : ℕ) (lag : Lag) (delay now : ℕ) (past : History) (transactions : List Transaction) (s : State)
    → IsKept count slots extras lag delay now past transactions s → (since : ℕ) (queue : List Queued) (last_send : Option ℕ) (awaited : List Transaction)
    (events : List TurnEvent) (ids : Source) (closes : List SocketAddr)
    → let t = record s { queue = queue; last_send = last_send; transactions = awaited; events = events; ids = ids; closes = closes } in
    IsLeft count slots extras lag since delay now past transactions s t → IsKept count slots extras (taken since lag) delay now past transactions t
kept-rest count slots extras lag delay now past transactions s k since queue last_send awaited events ids closes left = record {
  phase = k.phase;
  requests = left.requests;
  few = left.few;
  prompt = k.prompt;
  paced = k.paced;
  begins = left.begins;
  behind = left.behind;
  pace = k.pace;
  sent = left.sent;
  aged = λ x h. k.aged x (left.awaited x h);
  lone = λ x y hx hy e. k.lone x y (left.awaited x hx) (left.awaited y hy) e;
  begun = λ x h. k.begun x (left.awaited x h);
  heard = λ x h. k.heard x (left.awaited x h);
  seldom = k.seldom;
  row = k.row;
  asked = k.asked;
  size = k.size;
  single = k.single;
  linked = k.linked;
  in_range = k.in_range;
  in_allocations = k.in_allocations;
  known = k.known;
  each = λ g there. elim (k.each g there) [ inl waits ↦ inl waits | inr (inl stands) ↦ inr (inl (left.stands g there stands)) | inr (inr loose) ↦ inr (inr loose) ];
}

-- neither what is reported counts, nor the transactions that have not ended
pub stands-aside : (count slots extras : ℕ) (lag : Lag) (delay now : ℕ) (past : History) (transactions awaited : List Transaction) (s : State)
    (ids : Source) (events : List TurnEvent) (closes : List SocketAddr) (g : Grant) → Stands count slots extras lag delay now past transactions s g
    → Stands count slots extras lag delay now past transactions (record s { transactions = awaited; ids = ids; events = events; closes = closes }) g
stands-aside count slots extras lag delay now past transactions awaited s ids events closes g was = record {
  granted = was.granted;
  room = was.room;
  long = was.long;
  either = elim was.either [ inl a ↦ inl a | inr idle ↦ inr (record { unasked = idle.unasked; near = idle.near; soon = idle.soon; paused = idle.paused }) ];
}

-- ---- numbers

pub granted-active : (g : Grant) → IsGranted g → IsActive g
granted-active (Allocation a) h = h
granted-active (Permission ip (Active lease)) h = tt
granted-active (Channel number peer (Active lease)) h = tt
granted-active g h = absurd h

pub leased-active : (g : Grant) → IsLeased g → IsActive g
leased-active (Permission ip (Active lease)) h = tt
leased-active (Channel number peer (Active lease)) h = tt
leased-active g h = absurd h

pub kept-granted : (g : Grant) → IsLeased g → is_kept g ≡ true → IsGranted g
kept-granted (Permission ip (Active lease)) h kept = kept
kept-granted (Channel number peer (Active lease)) h kept = kept
kept-granted g h kept = absurd h

-- what is asked for was asked for, if nothing else is
pub asked-before : (was is : Bool) → (was ≡ false → is ≡ false) → is ≡ true → was ≡ true
asked-before true is none e = refl
asked-before false is none e = let no : false ≡ true = sym (none refl) ∙ e in cc

-- a channel that is reserved is not among those that were served
pub reserved-unserved : (s : State) (since : ℕ) (g : Grant) → IsReserved g → has_request g s ≡ false → is_served s since g ≡ false
reserved-unserved s since (Channel number peer (Reserved until)) is none = rw none (lt-leb (since + 150_000_000_000) (due_of s (Channel number peer (Reserved until))) (omega arith))
reserved-unserved s since g is none = absurd is

pub kind-due : (ahead : ℕ) (g : Grant) → IsActive g → refresh_time_by_kind ahead g ≡ Some (expiry_of g - ahead_of ahead g)
kind-due ahead (Allocation a) h = refl
kind-due ahead (Permission ip (Active expiry)) h = refl
kind-due ahead (Channel number peer (Active expiry)) h = refl
kind-due ahead g h = absurd h

-- what is granted is not waiting
pub not-waiting : (g : Grant) → IsActive g → is_waiting g ≡ false
not-waiting (Allocation a) h = refl
not-waiting (Permission ip (Active expiry)) h = refl
not-waiting (Channel number peer (Active expiry)) h = refl
not-waiting g h = absurd h

-- one packet leaves in each pause: if as many are served or more, none is late that was not
pub still-paced : (c d x q r due later slots n m : ℕ) → d ≡ c → q ≡ r → later ≡ due → n ≤ m → x + c * r ≤ due + c * (1 + slots + n) → x + d * q ≤ later + d * (1 + slots + m)
still-paced c d x q r due later slots n m e f moved more h = rw (e, f, moved) (omega (arith, h, mul-le c n c m (omega arith) more))

-- what falls due later leaves in time behind the queue
pub early-paced : (c d x q r now due slots n : ℕ) → d ≡ c → q ≡ r → r ≤ slots → x ≤ now + c → now ≤ due → x + d * q ≤ due + d * (1 + slots + n)
early-paced c d x q r now due slots n e f fits paused late = rw (e, f) (omega (arith, paused, late, mul-le c r c slots (omega arith) fits))

-- no more are queued than there are packets
pub ahead-queued : (s : State) → queue_ahead s ≤ length s.queue
ahead-queued s = by s.config.timed_from_send
  where
    by : (timed : Bool) → cond timed 0 (length s.queue) ≤ length s.queue
    by true = omega arith
    by false = omega arith

-- where at most one packet more is queued, at most one more leaves before a refresh
pub ahead-more : (s t : State) (n : ℕ) → t.config ≡ s.config → length t.queue ≤ length s.queue + n → queue_ahead t ≤ queue_ahead s + n
ahead-more s t n same few = rw same (by s.config.timed_from_send)
  where
    by : (timed : Bool) → cond timed 0 (length t.queue) ≤ cond timed 0 (length s.queue) + n
    by true = omega arith
    by false = few

-- one more is served, and at most one more is queued
pub more-paced : (c x q r due slots n m : ℕ) → r ≤ q + 1 → n + 1 ≤ m → x + c * q ≤ due + c * (1 + slots + n) → x + c * r ≤ due + c * (1 + slots + m)
more-paced c x q r due slots n m at_most more h = omega (arith, h, mul-le c r c (q + 1) (omega arith) at_most, mul-le c (n + 1) c m (omega arith) more)

-- one more is extra, and the pause begins anew
pub extra-paced : (c now q due slots n m : ℕ) → n + 1 ≤ m → now + c * q ≤ due + c * (1 + slots + n) → now + c + c * q ≤ due + c * (1 + slots + m)
extra-paced c now q due slots n m more h = omega (arith, h, mul-le c (n + 1) c m (omega arith) more)

-- one has left the queue, and the pause begins
pub left-paced : (c now q r bound : ℕ) → q + 1 ≡ r → now + c * r ≤ bound → (now + c * q ≤ bound) × (now + c + c * q ≤ bound)
left-paced c now q r bound e h =
    let whole : now + c * (q + 1) ≤ bound = rw e h in
    (omega (arith, whole), omega (arith, whole))

-- no more are served than there are, and no more packets are extra than may be
paced-all : (c slots count extras e n due : ℕ) → n + 1 ≤ count → e ≤ extras → due + c * (1 + slots + (e + n)) ≤ due + (count + slots + extras) * c
paced-all c slots count extras e n due few seldom = omega (arith, mul-le c (e + n + 1) c (count + extras) (omega arith) (omega (arith, few, seldom)))

-- a grant that is idle is not counted among those that were served
pub bound-le : (count slots extras : ℕ) (lag : Lag) (delay now : ℕ) (past : History) (transactions : List Transaction) (s : State) (g : Grant) → IsKept count slots extras lag delay now past transactions s → Has g s.grants
    → IsGranted g → IsIdle slots lag now past s g
    → bound slots lag past s g ≤ due_of s g + (count + slots + extras) * lag.pace
bound-le count slots extras lag delay now past transactions s g k there granted idle =
    let less = passes-less (is_served s (due_of s g)) g s.grants there (rw (not-waiting g (granted-active g granted), idle.unasked) (late (due_of s g))) in
    let few : served s (due_of s g) + 1 ≤ count = omega (arith, less, k.size) in
    paced-all lag.pace slots count extras (extra_since (due_of s g) past) (served s (due_of s g)) (due_of s g) few (k.seldom (due_of s g) idle.near)
  where
    late : (r : ℕ) → leb (r + 150_000_000_000) r ≡ false
    late r = grind arith

pub pause-le : (now : ℕ) (s : State) → IfSome s.last_send (λ time. time ≤ now) → pause_end s ≤ now + s.config.request_cadence
pause-le now s h = by s.last_send h
  where
    by : (o : Option ℕ) → IfSome o (λ time. time ≤ now) → Rattle.std.specs.Option.option_map_or (later_by s.config.request_cadence) o 0 ≤ now + s.config.request_cadence
    by None h = omega arith
    by (Some time) h = omega (arith, h)

-- with the pace, in which the caller may be late
pub pause-paced : (count slots extras : ℕ) (lag : Lag) (delay now : ℕ) (past : History) (transactions : List Transaction) (s : State)
    → IsKept count slots extras lag delay now past transactions s → pause_end s ≤ now + lag.pace
pause-paced count slots extras lag delay now past transactions s k = omega (arith, pause-le now s k.sent, k.paced)

pub soon-by : (x c q bound : ℕ) → x + c * q ≤ bound → x ≤ bound
soon-by x c q bound h = omega (arith, h)

-- what is granted has not expired
pub stands-early : (count slots extras : ℕ) (lag : Lag) (delay now : ℕ) (past : History) (s : State) → IsKept count slots extras lag delay now past s.transactions s
    → (g : Grant) → Has g s.grants → Stands count slots extras lag delay now past s.transactions s g
    → now < expiry_of g
stands-early count slots extras lag delay now past s k g there stands = elim stands.either [
  | inl a ↦ let late = k.heard a.transaction a.there in let t = a.made in omega (arith, late, t)
  | inr idle ↦ omega (arith, k.behind, soon-by lag.since lag.pace (queue_ahead s) (bound slots lag past s g) idle.soon, bound-le count slots extras lag delay now past s.transactions s g k there stands.granted idle, stands.room, stands.long)
]

-- no allocation is waiting, so each is granted
pub allocation-stands : (count slots extras : ℕ) (lag : Lag) (delay now : ℕ) (past : History) (transactions : List Transaction) (s : State)
    → IsKept count slots extras lag delay now past transactions s → (a : Relay) → Has (Allocation a) s.grants
    → Stands count slots extras lag delay now past transactions s (Allocation a)
allocation-stands count slots extras lag delay now past transactions s k a there = elim (k.each (Allocation a) there) [
  | inl waits ↦ absurd (let no : false ≡ true = waits.0 in cc)
  | inr (inl stands) ↦ stands
  | inr (inr (inl freed)) ↦ absurd (let no : false ≡ true = freed.0 in cc)
  | inr (inr (inr kept)) ↦ absurd kept.0
]

pub unique-refreshing : (p : Purpose) → IsUnique p → IsRefreshing p
unique-refreshing (ForPermission ip) u = tt
unique-refreshing (ForChannel number peer) u = tt
unique-refreshing p u = absurd u

pub unique-spares : (p : Purpose) → IsUnique p → (a : Relay) → is_for p (Allocation a) ≡ false
unique-spares (ForPermission ip) u a = refl
unique-spares (ForChannel number peer) u a = refl
unique-spares p u a = absurd u
