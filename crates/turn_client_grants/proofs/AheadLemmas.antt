-- When the first grant is refreshed, from what is kept of those that are to be.
use Rattle.std.proofs.Common.{◌≡◌, ◌∙◌, ◌≤◌, ◌-◌, ℕ, Bool, true, false, List, [], ◌∷◌, ◌++◌, append-nil, ap, sym, refl, arith}
use Rattle.std.specs.Prelude.{◌&&◌, Option, Some, None, filter_map, flat_map, fold, if◌then◌else◌, min, not, option_map, option_to_list}
use Rattle.std.specs.Option.{option_map_or}
use Rattle.turn_client_api.specs.Due.{is_refreshable, refresh_time, refresh_time_by_kind, refresh_time_of, time_ahead}
use Rattle.turn_client_api.specs.Effect.{channel_lifetime, permission_lifetime}
use Rattle.turn_client_api.specs.Grants.{as_allocation, has_request}
use Rattle.turn_client_api.specs.State.{State, max_time}
use Rattle.turn_client_api.specs.declared.grant.Grant.{Grant}
use Rattle.turn_client_api.specs.declared.grant.Grant.TheVariants.{Allocation, Permission, Channel}
use Rattle.turn_client_api.specs.declared.grant.Listing.{Listing}
use Rattle.turn_client_api.specs.declared.grant.Progress.TheVariants.{Active}
use Rattle.turn_client_api.specs.declared.grant.Relay.{Relay}
use Rattle.turn_client_grants.specs.Lists.{with_ahead, with_lists}
use Rattle.turn_client_grants.specs.Summary.{IsSummary, far, is_to_refresh, kept_expiry, refresh_in, relay_refresh}
use Rattle.turn_client_grants.specs.declared.summary.Summary.{Summary}
use Rattle.turn_client_grants.proofs.SummaryLemmas.{flat-options, flat-same, fold-min-both, fold-min-le}

-- ---- a refresh is one of an allocation, of a permission, or of a channel

-- so much before each expiry
abbrev before : ℕ → Option ℕ → Option ℕ
before ahead expiry = option_map (λ time. time - ahead) expiry

-- of an allocation
abbrev of_relay : ℕ → State → Grant → Option ℕ
of_relay ahead s (Allocation a) = if is_to_refresh s.listed a then Some (refresh_time_of ahead a) else None
of_relay ahead s _ = None

abbrev of_permission : ℕ → State → Grant → Option ℕ
of_permission ahead s g = before (time_ahead ahead permission_lifetime) (kept_expiry false s g)

abbrev of_channel : ℕ → State → Grant → Option ℕ
of_channel ahead s g = before (time_ahead ahead channel_lifetime) (kept_expiry true s g)

abbrev all_of : ℕ → State → Grant → List ℕ
all_of ahead s g = option_to_list (of_relay ahead s g) ++ (option_to_list (of_permission ahead s g) ++ option_to_list (of_channel ahead s g))

one-of : (ahead : ℕ) (s : State) (g : Grant) → option_to_list (refresh_time (with_ahead ahead s) g) ≡ all_of ahead s g
unfolding refresh_time kept_expiry
one-of ahead s (Allocation a) = grind arith
one-of ahead s (Permission ip (Active expiry)) = grind (arith, append-nil)
one-of ahead s (Channel number peer (Active expiry)) = grind arith
one-of ahead s g = refl

-- ---- a refresh of one grant

-- whether it is in use does not depend on how long ahead it is refreshed
pub used-ahead : (ahead : ℕ) (g : Grant) (s : State) → is_refreshable g (with_ahead ahead s) ≡ is_refreshable g s
used-ahead ahead (Allocation a) s = refl
used-ahead ahead g s = refl

pub timed : (ahead : ℕ) (s : State) (g : Grant) (time : ℕ) (used asked : Bool) → refresh_time_by_kind ahead g ≡ Some time → is_refreshable g (with_ahead ahead s) ≡ used → has_request g s ≡ asked
    → refresh_time (with_ahead ahead s) g ≡ (if used && not asked then Some time else None)
unfolding refresh_time
timed ahead s g time used asked kind is for = rw (kind, is, for) refl

-- ---- the least of them

-- the least time, so much earlier
fold-before : (m n ahead : ℕ) (f : Grant → Option ℕ) (gs : List Grant) → m ≤ n - ahead
    → fold min m (filter_map (λ g. before ahead (f g)) gs) ≡ min m (fold min n (filter_map f gs) - ahead)
fold-before m n ahead f [] le = omega (arith, le)
fold-before m n ahead f (g ∷ gs) le = by (f g) refl (λ j k less. fold-before j k ahead f gs less)
  where
    Rest : Type 0
    Rest = (j k : ℕ) → j ≤ k - ahead → fold min j (filter_map (λ g. before ahead (f g)) gs) ≡ min j (fold min k (filter_map f gs) - ahead)

    by : (o : Option ℕ) → f g ≡ o → Rest → fold min m (filter_map (λ g. before ahead (f g)) (g ∷ gs)) ≡ min m (fold min n (filter_map f (g ∷ gs)) - ahead)
    by None e others = rw e (others m n le)
    by (Some time) e others =
        let rest = others (min m (time - ahead)) (min n time) (omega (arith, le)) in
        let low = fold-min-le (min n time) (filter_map f gs) in
        rw e (omega (arith, rest, low))

three-parts : (m : ℕ) (f h k : Grant → Option ℕ) (gs : List Grant)
    → fold min m (flat_map (λ g. option_to_list (f g) ++ (option_to_list (h g) ++ option_to_list (k g))) gs)
    ≡ min (fold min m (filter_map f gs)) (min (fold min m (filter_map h gs)) (fold min m (filter_map k gs)))
three-parts m f h k gs =
    fold-min-both m (λ g. option_to_list (f g)) (λ g. option_to_list (h g) ++ option_to_list (k g)) gs
    ∙ (ap (λ (n : ℕ). min (fold min m (flat_map (λ g. option_to_list (f g)) gs)) n) (fold-min-both m (λ g. option_to_list (h g)) (λ g. option_to_list (k g)) gs)
    ∙ rw (flat-options f gs, flat-options h gs, flat-options k gs) refl)

-- ---- the allocations

relays-of : (ahead : ℕ) (s : State) (gs : List Grant)
    → filter_map (of_relay ahead s) gs ≡ filter_map (λ (a : Relay). if is_to_refresh s.listed a then Some (refresh_time_of ahead a) else None) (filter_map as_allocation gs)
relays-of ahead s [] = refl
relays-of ahead s (g ∷ gs) = grind (arith, relays-of ahead s gs)

both-relays : (ahead : ℕ) (listed : List Listing) (first second : Option Relay)
    → fold min max_time (filter_map (λ (a : Relay). if is_to_refresh listed a then Some (refresh_time_of ahead a) else None) (option_to_list first ++ option_to_list second))
    ≡ fold min (fold min max_time (option_to_list (relay_refresh ahead (option_map_or (is_to_refresh listed) first false) first)))
    (option_to_list (relay_refresh ahead (option_map_or (is_to_refresh listed) second false) second))
both-relays ahead listed None None = refl
both-relays ahead listed None (Some b) = one (is_to_refresh listed b)
  where
    one : (k : Bool) → fold min max_time (filter_map (λ (x : Option ℕ). x) ((if k then Some (refresh_time_of ahead b) else None) ∷ []))
        ≡ fold min max_time (option_to_list (if k then Some (refresh_time_of ahead b) else None))
    one true = refl
    one false = refl
both-relays ahead listed (Some a) None = one (is_to_refresh listed a)
  where
    one : (k : Bool) → fold min max_time (filter_map (λ (x : Option ℕ). x) ((if k then Some (refresh_time_of ahead a) else None) ∷ []))
        ≡ fold min max_time (option_to_list (if k then Some (refresh_time_of ahead a) else None))
    one true = refl
    one false = refl
both-relays ahead listed (Some a) (Some b) = two (is_to_refresh listed a) (is_to_refresh listed b)
  where
    two : (j k : Bool) → fold min max_time (filter_map (λ (x : Option ℕ). x) ((if j then Some (refresh_time_of ahead a) else None) ∷ (if k then Some (refresh_time_of ahead b) else None) ∷ []))
        ≡ fold min (fold min max_time (option_to_list (if j then Some (refresh_time_of ahead a) else None))) (option_to_list (if k then Some (refresh_time_of ahead b) else None))
    two true true = refl
    two true false = refl
    two false true = refl
    two false false = refl

-- ---- all of them

pub refresh-is : (ahead : ℕ) (summary : Summary) (grants : List Grant) (listed : List Listing) (s : State)
    → filter_map as_allocation grants ≡ option_to_list summary.first ++ option_to_list summary.second
    → IsSummary summary grants listed → refresh_in ahead summary ≡ fold min max_time (filter_map (refresh_time (with_ahead ahead (with_lists grants listed s))) grants)
refresh-is ahead summary grants listed s relays summed =
    let t = with_lists grants listed s in
    let times = refresh_time (with_ahead ahead t) in
    let whole : fold min max_time (filter_map times grants) ≡ min (fold min max_time (filter_map (of_relay ahead t) grants))
    (min (fold min max_time (filter_map (of_permission ahead t) grants)) (fold min max_time (filter_map (of_channel ahead t) grants))) =
    ap (λ (xs : List ℕ). fold min max_time xs) (sym (flat-options times grants) ∙ flat-same (λ g. option_to_list (times g)) (all_of ahead t) (one-of ahead t) grants)
    ∙ three-parts max_time (of_relay ahead t) (of_permission ahead t) (of_channel ahead t) grants in
    let permissions = fold-before max_time far (time_ahead ahead permission_lifetime) (kept_expiry false t) grants (omega arith) in
    let channels = fold-before max_time far (time_ahead ahead channel_lifetime) (kept_expiry true t) grants (omega arith) in
    let first : summary.keeps_first ≡ option_map_or (is_to_refresh listed) summary.first false = rw summed.first summed.keeps_first in
    let second : summary.keeps_second ≡ option_map_or (is_to_refresh listed) summary.second false = rw summed.second summed.keeps_second in
    let own : fold min max_time (filter_map (of_relay ahead t) grants)
    ≡ fold min (fold min max_time (option_to_list (relay_refresh ahead summary.keeps_first summary.first))) (option_to_list (relay_refresh ahead summary.keeps_second summary.second)) =
    ap (λ (xs : List ℕ). fold min max_time xs) (relays-of ahead t grants ∙ ap (filter_map (λ (a : Relay). if is_to_refresh listed a then Some (refresh_time_of ahead a) else None)) relays)
    ∙ (both-relays ahead listed summary.first summary.second ∙ rw (first, second) refl) in
    let low = fold-min-le max_time (filter_map (of_relay ahead t) grants) in
    omega (arith, whole, permissions, channels, own, low, summed.permissions s, summed.channels s)
