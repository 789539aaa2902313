-- What the summary implies: what is due next, and until when nothing is.
use Rattle.std.proofs.Common.{◌≡◌, ◌∙◌, ◌<◌, ◌≤◌, ℕ, Bool, true, false, cond, List, [], ◌∷◌, ◌++◌, append-nil, ap, sym, refl, arith}
use Rattle.std.specs.Prelude.{◌&&◌, All, Option, Some, None, filter_map, find, flat_map, fold, if◌then◌else◌, map, max, min, nat_le, nat_lt, option_to_list, slice_get}
use Rattle.std.specs.List.{list_any}
use Rattle.std.specs.Option.{option_or}
use Rattle.std.proofs.lemmas.Bool.{lt-leb}
use Rattle.std.proofs.lemmas.Grind.{fold-append}
use Rattle.std.proofs.lemmas.List.Elements.{All-cons, All-head, All-nil, All-tail}
use Rattle.std.specs.declared.net.socket_addr.SocketAddr.{SocketAddr}
use Rattle.turn_types.specs.declared.family.AddressFamily.{AddressFamily}
use Rattle.turn_client_api.specs.Calls.{progress_to, reserved_from}
use Rattle.turn_client_api.specs.Due.{end_of, refresh_time, expiry_time, expiry_times, final_expiry, final_times}
use Rattle.turn_client_api.specs.Grants.{as_allocation, family_of, is_for, is_of, is_of_family, is_of_request}
use Rattle.turn_client_api.specs.Poll.{first_unreported, unreported_in}
use Rattle.turn_client_api.specs.State.{State, max_time}
use Rattle.turn_client_api.specs.Transmit.{is_ranked, is_refresh_due, refresh_purpose}
use Rattle.turn_client_api.specs.declared.grant.DataOffer.{DataOffer}
use Rattle.turn_client_api.specs.declared.grant.Grant.{Grant}
use Rattle.turn_client_api.specs.declared.grant.Grant.TheVariants.{Allocation}
use Rattle.turn_client_api.specs.declared.grant.Listing.{Listing}
use Rattle.turn_client_api.specs.declared.grant.Purpose.{Purpose}
use Rattle.turn_client_api.specs.declared.grant.Relay.{Relay}
use Rattle.turn_client_grants.specs.Due.{all_times, relay_ends}
use Rattle.turn_client_grants.specs.Lists.{with_lists}
use Rattle.turn_client_grants.specs.Refresh.{due_purpose, first_refresh}
use Rattle.turn_client_grants.specs.Summary.{end_in, is_requested, is_reserved, is_unreported, expiry_time_in, never}
use Rattle.turn_client_grants.proofs.RefreshLemmas.{refreshes_first, refreshes_none}

-- ---- the least of several times

pub fold-min-le : (n : ℕ) (xs : List ℕ) → fold min n xs ≤ n
fold-min-le n [] = omega arith
fold-min-le n (x ∷ xs) = let rest : fold min (min n x) xs ≤ min n x = fold-min-le (min n x) xs in omega (arith, rest)

fold-min-acc : (n x : ℕ) (xs : List ℕ) → fold min (min n x) xs ≡ min x (fold min n xs)
fold-min-acc n x [] = omega arith
fold-min-acc n x (y ∷ ys) = let swapped : min (min n x) y ≡ min (min n y) x = omega arith in rw swapped (fold-min-acc (min n y) x ys)

pub fold-min-append : (n : ℕ) (xs ys : List ℕ) → fold min n (xs ++ ys) ≡ min (fold min n xs) (fold min n ys)
fold-min-append n [] ys = omega (arith, fold-min-le n ys)
fold-min-append n (x ∷ xs) ys = omega (arith, fold-min-append (min n x) xs ys, fold-min-acc n x ys, fold-min-le (min n x) xs)

pub fold-min-both : {G : Type 0} (n : ℕ) (f h : G → List ℕ) (gs : List G) → fold min n (flat_map (λ g. f g ++ h g) gs) ≡ min (fold min n (flat_map f gs)) (fold min n (flat_map h gs))
fold-min-both n f h [] = omega arith
fold-min-both n f h (g ∷ gs) = grind (arith, fold-min-append, fold-min-both n f h gs)

fold-min-max : (p n : ℕ) (xs : List ℕ) → p ≤ n → fold min n (map (max p) xs) ≡ max p (fold min n xs)
fold-min-max p n [] le = omega arith
fold-min-max p n (x ∷ xs) le = omega (arith, fold-min-max p n xs le, fold-min-acc n (max p x) (map (max p) xs), fold-min-acc n x xs)

-- a start value that is not less changes nothing, if the lesser one is counted too
pub fold-min-from : (m n : ℕ) (xs : List ℕ) → m ≤ n → fold min m xs ≡ min m (fold min n xs)
fold-min-from m n xs le = let same : m ≡ min n m = omega (arith, le) in ap (λ (k : ℕ). fold min k xs) same ∙ fold-min-acc n m xs

-- ---- before the earliest time

below-all : (now n : ℕ) (xs : List ℕ) → now < fold min n xs → All (λ time. now < time) xs
below-all now n [] lt = All-nil (λ time. now < time)
below-all now n (x ∷ xs) lt = All-cons (λ time. now < time) x xs (omega (arith, fold-min-le (min n x) xs)) (below-all now (min n x) xs lt)

-- what holds of all that one function finds holds of all that another finds, where the first finds the same
all-kept : (P : ℕ → Type 0) (f h : Grant → Option ℕ) → ((g : Grant) (time : ℕ) → f g ≡ Some time → h g ≡ Some time) → (gs : List Grant)
    → All P (filter_map h gs) → All P (filter_map f gs)
all-kept P f h kept [] all = All-nil P
all-kept P f h kept (g ∷ gs) all = by (f g) refl (h g) refl (all-kept P f h kept gs)
  where
    by : (time : Option ℕ) → f g ≡ time → (other : Option ℕ) → h g ≡ other → (All P (filter_map h gs) → All P (filter_map f gs)) → All P (filter_map f (g ∷ gs))
    by None e None o rest = rw e (rest (rw o at all))
    by None e (Some other) o rest = rw e (rest (All-tail P other (filter_map h gs) (rw o at all)))
    by (Some time) e other o rest =
        let both : All P (time ∷ filter_map h gs) = rw (kept g time e) at all in
        rw e (All-cons P time (filter_map f gs) (All-head P time (filter_map h gs) both) (rest (All-tail P time (filter_map h gs) both)))

-- a time from which a grant expires is that of the summary, which knows no configuration
expiry_time-kept : (grants : List Grant) (listed : List Listing) (s : State) (g : Grant) (time : ℕ)
    → expiry_time (with_lists grants listed s) g ≡ Some time → expiry_time_in listed g ≡ Some time
expiry_time-kept grants listed s (Allocation a) time e = by (a.is_expired && list_any (λ l. is_for l.purpose (Allocation a)) listed) s.config.timed_from_send e
  where
    by : (awaited timed : Bool) → cond awaited (cond timed (Some (final_expiry a)) None) (Some a.expiry) ≡ Some time
        → Some (cond awaited (final_expiry a) a.expiry) ≡ Some time
    by true true e = e
    by true false e = cc
    by false timed e = e
expiry_time-kept grants listed s g time e = grind (arith, e)

-- nothing expires before the earliest time at which something does
pub early-all : (now : ℕ) (grants : List Grant) (listed : List Listing) (s : State) → now < fold min never (filter_map (expiry_time_in listed) grants)
    → All (λ time. now < time) (expiry_times (with_lists grants listed s))
early-all now grants listed s lt =
    all-kept (λ time. now < time) (expiry_time (with_lists grants listed s)) (expiry_time_in listed) (expiry_time-kept grants listed s) grants
    (below-all now never (filter_map (expiry_time_in listed) grants) lt)

-- ---- before the first refresh

none-due : (now m rank : ℕ) (family : AddressFamily) (s : State) (gs : List Grant) → now < fold min m (filter_map (refresh_time s) gs) → filter_map (due_purpose rank family now s) gs ≡ []
unfolding due_purpose is_refresh_due
none-due now m rank family s [] lt = refl
none-due now m rank family s (g ∷ gs) lt = by (refresh_time s g) refl lt (λ k later. none-due now k rank family s gs later)
  where
    no : (a b : Bool) (purpose : Option Purpose) → cond (a && b && false) purpose None ≡ None
    no a b purpose = grind arith

    by : (time : Option ℕ) → refresh_time s g ≡ time → now < fold min m (filter_map (refresh_time s) (g ∷ gs))
        → ((k : ℕ) → now < fold min k (filter_map (refresh_time s) gs) → filter_map (due_purpose rank family now s) gs ≡ []) → filter_map (due_purpose rank family now s) (g ∷ gs) ≡ []
    by None e lt others =
        let rest : filter_map (due_purpose rank family now s) gs ≡ [] = others m (rw e at lt) in
        rw (e, no (is_ranked rank g) (is_of family g) (refresh_purpose now g)) rest
    by (Some time) e lt others =
        let later : now < fold min (min m time) (filter_map (refresh_time s) gs) = rw e at lt in
        let rest : filter_map (due_purpose rank family now s) gs ≡ [] = others (min m time) later in
        let below : now < time = omega (arith, fold-min-le (min m time) (filter_map (refresh_time s) gs), later) in
        let not_due : nat_le time now ≡ false = lt-leb time now below in
        rw (e, not_due, no (is_ranked rank g) (is_of family g) (refresh_purpose now g)) rest

no-refresh : (now m : ℕ) (s : State) (a : Relay) → now < fold min m (filter_map (refresh_time s) s.grants) → first_refresh now s a ≡ None
no-refresh now m s a lt = by (nat_le now a.expiry) refl
  where
    by : (b : Bool) → nat_le now a.expiry ≡ b → first_refresh now s a ≡ None
    by true e =
        refreshes_first now s a e
        ∙ rw (none-due now m 0 (family_of a.relayed) s s.grants lt, none-due now m 1 (family_of a.relayed) s s.grants lt, none-due now m 2 (family_of a.relayed) s s.grants lt) refl
    by false e = refreshes_none now s a e

-- nothing is refreshed before the earliest time at which something is to be
pub none-refreshed : (now m : ℕ) (s : State) (relays : List Relay) → now < fold min m (filter_map (refresh_time s) s.grants) → None ≡ slice_get (filter_map (first_refresh now s) relays) 0
none-refreshed now m s relays lt = ap (λ (ps : List Purpose). slice_get ps 0) (sym (none relays))
  where
    none : (relays : List Relay) → filter_map (first_refresh now s) relays ≡ []
    none [] = refl
    none (a ∷ others) = rw (no-refresh now m s a lt) (none others)

-- ---- the earliest of all

abbrev relay_end_in : ℕ → Grant → List ℕ
relay_end_in now (Allocation a) = if nat_lt now a.expiry then a.expiry ∷ [] else []
relay_end_in now _ = []

end-parts : (now : ℕ) (g : Grant) → end_of now g ≡ relay_end_in now g ++ option_to_list (end_in g)
end-parts now g = grind (arith, append-nil)

pub flat-same : (f h : Grant → List ℕ) → ((g : Grant) → f g ≡ h g) → (gs : List Grant) → flat_map f gs ≡ flat_map h gs
flat-same f h same [] = refl
flat-same f h same (g ∷ gs) = rw (same g, flat-same f h same gs) refl

pub flat-options : (f : Grant → Option ℕ) (gs : List Grant) → flat_map (λ g. option_to_list (f g)) gs ≡ filter_map f gs
flat-options f [] = refl
flat-options f (g ∷ gs) = grind (arith, flat-options f gs)

flat-mapped : (p : ℕ) (f : Grant → Option ℕ) (gs : List Grant) → flat_map (λ g. map (max p) (option_to_list (f g))) gs ≡ map (max p) (filter_map f gs)
flat-mapped p f [] = refl
flat-mapped p f (g ∷ gs) = grind (arith, flat-mapped p f gs)

flat-relays : (now : ℕ) (gs : List Grant) → flat_map (relay_end_in now) gs ≡ relay_ends now (filter_map as_allocation gs)
flat-relays now [] = refl
flat-relays now (g ∷ gs) = grind (arith, flat-relays now gs)

relay_ends-both : (now : ℕ) (first second : Option Relay) → relay_ends now (option_to_list first ++ option_to_list second) ≡ relay_ends now (option_to_list first) ++ relay_ends now
    (option_to_list second)
relay_ends-both now first second = grind (arith, append-nil)

-- the final expiries of two allocations
pub finals-both : (now time : ℕ) (first second : Option Relay)
    → fold min (fold min time (final_times now (option_to_list first))) (final_times now (option_to_list second)) ≡ fold min time (final_times now (option_to_list first ++ option_to_list second))
finals-both now time None second = refl
finals-both now time (Some a) second =
    let one : List ℕ = cond (a.is_expired && nat_lt now (final_expiry a)) (final_expiry a ∷ []) [] in
    rw (append-nil one) (sym (fold-append min time one (final_times now (option_to_list second))))

-- from the expiries of all but the allocations, the two allocations, and the first refresh
pub soonest-is : (now pause time : ℕ) (s : State) (first second : Option Relay) → time ≤ max_time → pause ≤ max_time
    → filter_map as_allocation s.grants ≡ option_to_list first ++ option_to_list second
    → min (fold min (fold min (min time (fold min max_time (filter_map end_in s.grants))) (relay_ends now (option_to_list first))) (relay_ends now (option_to_list second)))
    (max pause (fold min max_time (filter_map (refresh_time s) s.grants)))
    ≡ fold min time (all_times now pause s)
soonest-is now pause time s first second low early relays =
    let ends = filter_map end_in s.grants in
    let times = filter_map (refresh_time s) s.grants in
    let start = min time (fold min max_time ends) in
    let one = relay_ends now (option_to_list first) in
    let two = relay_ends now (option_to_list second) in
    -- the parts of the sum
    let whole : fold min time (all_times now pause s) ≡ min (fold min time (flat_map (end_of now) s.grants))
    (fold min time (flat_map (λ g. map (max pause) (option_to_list (refresh_time s g))) s.grants)) =
    fold-min-both time (end_of now) (λ g. map (max pause) (option_to_list (refresh_time s g))) s.grants in
    let later : fold min time (flat_map (λ g. map (max pause) (option_to_list (refresh_time s g))) s.grants) ≡ min time (max pause (fold min max_time times)) =
    ap (λ (xs : List ℕ). fold min time xs) (flat-mapped pause (refresh_time s) s.grants)
    ∙ (fold-min-from time max_time (map (max pause) times) low ∙ ap (λ (k : ℕ). min time k) (fold-min-max pause max_time times early)) in
    let all_ends : fold min time (flat_map (end_of now) s.grants) ≡ min (fold min time (flat_map (relay_end_in now) s.grants))
    (fold min time (flat_map (λ g. option_to_list (end_in g)) s.grants)) =
    ap (λ (xs : List ℕ). fold min time xs) (flat-same (end_of now) (λ g. relay_end_in now g ++ option_to_list (end_in g)) (end-parts now) s.grants)
    ∙ fold-min-both time (relay_end_in now) (λ g. option_to_list (end_in g)) s.grants in
    let own_ends : fold min time (flat_map (λ g. option_to_list (end_in g)) s.grants) ≡ start =
    ap (λ (xs : List ℕ). fold min time xs) (flat-options end_in s.grants) ∙ fold-min-from time max_time ends low in
    let relay_parts : fold min time (flat_map (relay_end_in now) s.grants) ≡ min (fold min time one) (fold min time two) =
    ap (λ (xs : List ℕ). fold min time xs) (flat-relays now s.grants ∙ (ap (relay_ends now) relays ∙ relay_ends-both now first second)) ∙ fold-min-append time one two in
    -- the steps of the code
    let first_step : fold min start one ≡ min start (fold min time one) = fold-min-from start time one (omega arith) in
    let second_step : fold min (fold min start one) two ≡ min (fold min start one) (fold min time two) =
    fold-min-from (fold min start one) time two (omega (arith, first_step)) in
    omega (arith, whole, later, all_ends, own_ends, relay_parts, first_step, second_step)

-- ---- offers

none-unreported : (family : AddressFamily) (gs : List Grant) → list_any is_unreported gs ≡ false → filter_map (unreported_in family) gs ≡ []
none-unreported family [] none = refl
none-unreported family (g ∷ gs) none = grind (arith, none-unreported family gs)

-- nothing is reported if all offers were reported
pub no-offer : (s : State) (relays : List Relay) → list_any is_unreported s.grants ≡ false → None ≡ slice_get (filter_map (λ a. first_unreported (family_of a.relayed) s) relays) 0
no-offer s relays none = ap (λ (os : List DataOffer). slice_get os 0) (sym (all relays))
  where
    all : (relays : List Relay) → filter_map (λ a. first_unreported (family_of a.relayed) s) relays ≡ []
    all [] = refl
    all (a ∷ others) = rw (none-unreported (family_of a.relayed) s.grants none) (all others)

pub none-requested : (id : ℕ) (gs : List Grant) → list_any is_requested gs ≡ false → list_any (is_of_request id) gs ≡ false
none-requested id [] none = refl
none-requested id (g ∷ gs) none = grind (arith, none-requested id gs)

-- ---- reserved channels

none-reserved : (peer : SocketAddr) (now : ℕ) (gs : List Grant) → list_any is_reserved gs ≡ false → filter_map (reserved_from now) (filter_map (progress_to peer) gs) ≡ []
none-reserved peer now [] none = refl
none-reserved peer now (g ∷ gs) none = grind (arith, none-reserved peer now gs)

-- no peer is kept from being bound if no channel is reserved
pub no-reservation : (gs : List Grant) (peer : SocketAddr) (now : ℕ) → list_any is_reserved gs ≡ false → None ≡ slice_get (filter_map (reserved_from now) (filter_map (progress_to peer) gs)) 0
no-reservation gs peer now none = ap (λ (times : List ℕ). slice_get times 0) (sym (none-reserved peer now gs none))

-- ---- the two allocations

pub either-found : (family : AddressFamily) (relays : List Relay) (first second : Option Relay) → relays ≡ option_to_list first ++ option_to_list second
    → find (λ (a : Relay). is_of_family family a.relayed) relays
    ≡ option_or (find (λ (a : Relay). is_of_family family a.relayed) (option_to_list first)) (find (λ (a : Relay). is_of_family family a.relayed) (option_to_list second))
either-found family relays first second are = rw are (grind arith)
