-- What a change leaves of the table and of its summary: grants are added at the end, pending ones are
-- removed, and requests are listed and unlisted that are for no grant that is refreshed.
use Rattle.std.proofs.Common.{arith, ◌≡◌, ◌∙◌, ◌∷◌, ◌++◌, ℕ, zero, suc, Bool, true, false, List, [], append-nil, ap, append_assoc, filter, not, refl, sym}
use Rattle.std.specs.Prelude.{◌&&◌, ◌||◌, Option, Some, None, filter_map, fold, is_some, min, option_to_list, slice_get}
use Rattle.std.specs.List.{list_any}
use Rattle.std.specs.Option.{option_map_or}
use Rattle.std.proofs.lemmas.Grind.{fold-append}
use Rattle.std.proofs.lemmas.List.Elements.{filter_map-append}
use Rattle.std.proofs.lemmas.List.Folds.{list_any-append}
use Rattle.turn_client_api.specs.Grants.{as_allocation, is_connect_to, is_connection_from, is_for, is_for_any}
use Rattle.turn_client_api.specs.Requests.{listings}
use Rattle.turn_client_api.specs.State.{State, max_time}
use Rattle.turn_client_api.specs.declared.grant.Grant.{Grant}
use Rattle.turn_client_api.specs.declared.grant.Grant.TheVariants.{Allocation, Permission, Channel, Connect, Offer, Connection}
use Rattle.turn_client_api.specs.declared.grant.Listing.{Listing}
use Rattle.turn_client_api.specs.declared.grant.Purpose.{Purpose}
use Rattle.turn_client_api.specs.declared.grant.Purpose.TheVariants.{ForAllocation, ForRefresh, ForPermission, ForChannel, ForConnect, ForBind}
use Rattle.std.specs.declared.net.socket_addr.SocketAddr.{SocketAddr}
use Rattle.turn_types.specs.declared.family.AddressFamily.{AddressFamily}
use Rattle.turn_client_grants.specs.Index.{IsIndex}
use Rattle.turn_client_grants.specs.Keys.{is_found_by}
use Rattle.turn_client_grants.specs.Lists.{find_allocation_in, with_lists}
use Rattle.turn_client_grants.specs.Pending.{is_pending, is_refreshed}
use Rattle.turn_client_grants.specs.Summary.{IsSummary, end_in, far, is_to_refresh, is_requested, is_reserved, is_unreported, kept_expiry, expiry_time_in, never}
use Rattle.turn_client_grants.specs.Table.{unlisted_in}
use Rattle.turn_client_grants.specs.GrantFilter.{purposes_in}
use Rattle.turn_client_grants.specs.declared.key.Key.{Key}
use Rattle.turn_client_grants.specs.declared.key.Key.TheVariants as By
use Rattle.turn_client_grants.specs.declared.purposes.Purposes.{Purposes}
use Rattle.turn_client_grants.specs.declared.summary.Summary.{Summary}
use Rattle.turn_client_grants.proofs.IndexLemmas.{index-agrees, index-found}
use Rattle.turn_client_grants.proofs.KeyLemmas.{any-both}

filter_map-agree : {X : Type 0} (f h : Grant → Option X) → ((g : Grant) → f g ≡ h g) → (gs : List Grant) → filter_map f gs ≡ filter_map h gs
filter_map-agree f h same [] = refl
filter_map-agree f h same (g ∷ gs) = rw (same g, filter_map-agree f h same gs) refl

-- ---- a refresh depends on the allocations, and on the requests for the grant

abbrev requests_for : Grant → List Listing → Bool
requests_for g listed = list_any (λ l. is_for l.purpose g) listed

refresh-same : (of_channels : Bool) (rows others : List Grant) (listed later : List Listing) (s : State) (g : Grant) → filter_map as_allocation rows ≡ filter_map as_allocation others
    → requests_for g listed ≡ requests_for g later → kept_expiry of_channels (with_lists rows listed s) g ≡ kept_expiry of_channels (with_lists others later s) g
unfolding kept_expiry
refresh-same of_channels rows others listed later s g relays same = grind arith

refreshes-same : (of_channels : Bool) (rows others gs : List Grant) (listed : List Listing) (s : State) → filter_map as_allocation rows ≡ filter_map as_allocation others
    → filter_map (kept_expiry of_channels (with_lists rows listed s)) gs ≡ filter_map (kept_expiry of_channels (with_lists others listed s)) gs
refreshes-same of_channels rows others gs listed s relays =
    filter_map-agree (kept_expiry of_channels (with_lists rows listed s)) (kept_expiry of_channels (with_lists others listed s))
    (λ g. refresh-same of_channels rows others listed listed s g relays refl) gs

-- ---- grants are added at the end

no-relays : (last : List Grant) → list_any (λ g. is_some (as_allocation g)) last ≡ false → filter_map as_allocation last ≡ []
no-relays [] none = refl
no-relays (g ∷ gs) none = grind (arith, no-relays gs)

relays-joined : (others last : List Grant) → list_any (λ g. is_some (as_allocation g)) last ≡ false → filter_map as_allocation (others ++ last) ≡ filter_map as_allocation others
relays-joined others last none = rw (filter_map-append as_allocation others last, no-relays last none) (append-nil (filter_map as_allocation others))

least-joined : (f : Grant → Option ℕ) (n was : ℕ) (others last : List Grant) → was ≡ fold min n (filter_map f others) → fold min was (filter_map f last) ≡ fold min n (filter_map f (others ++ last))
least-joined f n was others last is = rw (is, filter_map-append f others last) (sym (fold-append min n (filter_map f others) (filter_map f last)))

any-joined : (p : Grant → Bool) (was : Bool) (others last : List Grant) → was ≡ list_any p others → (was || list_any p last) ≡ list_any p (others ++ last)
any-joined p was others last is = rw is (sym (list_any-append p others last))

-- the summary counts the last grants, which are no allocations, beside what it was
pub summary-joined : (was now : Summary) (rows others last : List Grant) (listed : List Listing) → list_any (λ g. is_some (as_allocation g)) last ≡ false → rows ≡ others ++ last
    → now.first ≡ was.first → now.second ≡ was.second
    → now.end ≡ fold min was.end (filter_map end_in last)
    → now.next_expiry ≡ fold min was.next_expiry (filter_map (expiry_time_in listed) last)
    → now.keeps_first ≡ was.keeps_first → now.keeps_second ≡ was.keeps_second
    → ((s : State) → now.permissions ≡ fold min was.permissions (filter_map (kept_expiry false (with_lists rows listed s)) last))
    → ((s : State) → now.channels ≡ fold min was.channels (filter_map (kept_expiry true (with_lists rows listed s)) last))
    → now.has_unreported ≡ (was.has_unreported || list_any is_unreported last)
    → now.has_requested ≡ (was.has_requested || list_any is_requested last)
    → now.has_reserved ≡ (was.has_reserved || list_any is_reserved last)
    → IsSummary was others listed → IsSummary now rows listed
summary-joined was now rows others last listed none are first second end next_expiry keeps_first keeps_second permissions channels unreported requested reserved summed =
    let relays : filter_map as_allocation rows ≡ filter_map as_allocation others = ap (filter_map as_allocation) are ∙ relays-joined others last none in
    record {
      first = first ∙ (summed.first ∙ ap (λ xs. slice_get xs 0) (sym relays));
      second = second ∙ (summed.second ∙ ap (λ xs. slice_get xs 1) (sym relays));
      end = end ∙ (least-joined end_in max_time was.end others last summed.end ∙ ap (λ gs. fold min max_time (filter_map end_in gs)) (sym are));
      next_expiry = next_expiry
          ∙ (least-joined (expiry_time_in listed) never was.next_expiry others last summed.next_expiry ∙ ap (λ gs. fold min never (filter_map (expiry_time_in listed) gs)) (sym are));
      keeps_first = keeps_first ∙ (summed.keeps_first ∙ ap (λ xs. option_map_or (is_to_refresh listed) (slice_get xs 0) false) (sym relays));
      keeps_second = keeps_second ∙ (summed.keeps_second ∙ ap (λ xs. option_map_or (is_to_refresh listed) (slice_get xs 1) false) (sym relays));
      permissions = λ s.
          permissions s
          ∙ (least-joined (kept_expiry false (with_lists rows listed s)) far was.permissions others last
          (summed.permissions s ∙ ap (λ xs. fold min far xs) (sym (refreshes-same false rows others others listed s relays)))
          ∙ ap (λ gs. fold min far (filter_map (kept_expiry false (with_lists rows listed s)) gs)) (sym are));
      channels = λ s.
          channels s
          ∙ (least-joined (kept_expiry true (with_lists rows listed s)) far was.channels others last
          (summed.channels s ∙ ap (λ xs. fold min far xs) (sym (refreshes-same true rows others others listed s relays)))
          ∙ ap (λ gs. fold min far (filter_map (kept_expiry true (with_lists rows listed s)) gs)) (sym are));
      unreported = unreported ∙ (any-joined is_unreported was.has_unreported others last summed.unreported ∙ ap (list_any is_unreported) (sym are));
      requested = requested ∙ (any-joined is_requested was.has_requested others last summed.requested ∙ ap (list_any is_requested) (sym are));
      reserved = reserved ∙ (any-joined is_reserved was.has_reserved others last summed.reserved ∙ ap (list_any is_reserved) (sym are));
    }

-- ---- pending grants are removed

-- all grants that are removed are pending
abbrev pub ArePending : (Grant → Bool) → List Grant → Type 0
ArePending gone rows = list_any (λ g. not (is_pending g) && gone g) rows ≡ false

given-without : {X : Type 0} (f : Grant → Option X) → ((g : Grant) → is_pending g ≡ true → f g ≡ None) → (gone : Grant → Bool) (rows : List Grant) → ArePending gone rows
    → filter_map f (filter (λ g. not (gone g)) rows) ≡ filter_map f rows
given-without f none gone [] are = refl
given-without f none gone (g ∷ rows) are = grind (arith, none g, given-without f none gone rows)

any-without : (test : Grant → Bool) → ((g : Grant) → is_pending g ≡ true → test g ≡ false) → (gone : Grant → Bool) (rows : List Grant) → ArePending gone rows
    → list_any test (filter (λ g. not (gone g)) rows) ≡ list_any test rows
any-without test none gone [] are = refl
any-without test none gone (g ∷ rows) are = grind (arith, none g, any-without test none gone rows)

-- what a pending grant gives: nothing
no-relay : (g : Grant) → is_pending g ≡ true → as_allocation g ≡ None
no-relay g h = grind arith

no-end : (g : Grant) → is_pending g ≡ true → end_in g ≡ None
no-end g h = grind arith

no-expiry : (listed : List Listing) (g : Grant) → is_pending g ≡ true → expiry_time_in listed g ≡ None
no-expiry listed g h = grind arith

pub not-refreshed : (g : Grant) → is_pending g ≡ true → is_refreshed g ≡ false
not-refreshed g h = grind arith

no-refresh : (of_channels : Bool) (s : State) (g : Grant) → is_refreshed g ≡ false → kept_expiry of_channels s g ≡ None
unfolding kept_expiry
no-refresh of_channels s g h = grind arith

not-unreported : (g : Grant) → is_pending g ≡ true → is_unreported g ≡ false
not-unreported g h = grind arith

not-requested : (g : Grant) → is_pending g ≡ true → is_requested g ≡ false
not-requested g h = grind arith

not-reserved : (g : Grant) → is_pending g ≡ true → is_reserved g ≡ false
not-reserved g h = grind arith

-- the summary is the same without pending grants
pub summary-without : (summary : Summary) (gone : Grant → Bool) (rows : List Grant) (listed : List Listing) → ArePending gone rows → IsSummary summary rows listed
    → IsSummary summary (filter (λ g. not (gone g)) rows) listed
summary-without summary gone rows listed are summed =
    let left : List Grant = filter (λ g. not (gone g)) rows in
    let relays : filter_map as_allocation left ≡ filter_map as_allocation rows = given-without as_allocation no-relay gone rows are in
    record {
      first = summed.first ∙ ap (λ xs. slice_get xs 0) (sym relays);
      second = summed.second ∙ ap (λ xs. slice_get xs 1) (sym relays);
      end = summed.end ∙ ap (λ xs. fold min max_time xs) (sym (given-without end_in no-end gone rows are));
      next_expiry = summed.next_expiry ∙ ap (λ xs. fold min never xs) (sym (given-without (expiry_time_in listed) (no-expiry listed) gone rows are));
      keeps_first = summed.keeps_first ∙ ap (λ xs. option_map_or (is_to_refresh listed) (slice_get xs 0) false) (sym relays);
      keeps_second = summed.keeps_second ∙ ap (λ xs. option_map_or (is_to_refresh listed) (slice_get xs 1) false) (sym relays);
      permissions = λ s. summed.permissions s ∙ ap (λ xs. fold min far xs) (sym (kept false s relays));
      channels = λ s. summed.channels s ∙ ap (λ xs. fold min far xs) (sym (kept true s relays));
      unreported = summed.unreported ∙ sym (any-without is_unreported not-unreported gone rows are);
      requested = summed.requested ∙ sym (any-without is_requested not-requested gone rows are);
      reserved = summed.reserved ∙ sym (any-without is_reserved not-reserved gone rows are);
    }
  where
    kept : (of_channels : Bool) (s : State) → filter_map as_allocation (filter (λ g. not (gone g)) rows) ≡ filter_map as_allocation rows
        → filter_map (kept_expiry of_channels (with_lists (filter (λ g. not (gone g)) rows) listed s)) (filter (λ g. not (gone g)) rows)
        ≡ filter_map (kept_expiry of_channels (with_lists rows listed s)) rows
    kept of_channels s relays =
        refreshes-same of_channels (filter (λ g. not (gone g)) rows) rows (filter (λ g. not (gone g)) rows) listed s relays
        ∙ given-without (kept_expiry of_channels (with_lists rows listed s)) (λ g h. no-refresh of_channels (with_lists rows listed s) g (not-refreshed g h)) gone rows are

-- ---- requests are listed and unlisted

-- each grant that is refreshed has a request in both lists, or in neither
abbrev AreAlike : List Grant → List Listing → List Listing → Type 0
AreAlike [] listed later = Unit {0}
AreAlike (g ∷ rows) listed later = (is_refreshed g ≡ true → requests_for g later ≡ requests_for g listed) × AreAlike rows listed later

expiries-alike : (rows : List Grant) (listed later : List Listing) → AreAlike rows listed later → filter_map (expiry_time_in later) rows ≡ filter_map (expiry_time_in listed) rows
expiries-alike [] listed later alike = refl
expiries-alike (Allocation a ∷ rows) listed later alike = rw (alike.0 refl, expiries-alike rows listed later alike.1) refl
expiries-alike (g ∷ rows) listed later alike = grind (arith, expiries-alike rows listed later alike.1)

refreshes-alike : (of_channels : Bool) (all rows : List Grant) (listed later : List Listing) (s : State) → AreAlike rows listed later
    → filter_map (kept_expiry of_channels (with_lists all later s)) rows ≡ filter_map (kept_expiry of_channels (with_lists all listed s)) rows
refreshes-alike of_channels all [] listed later s alike = refl
refreshes-alike of_channels all (g ∷ rows) listed later s alike = rw (by (is_refreshed g) refl, refreshes-alike of_channels all rows listed later s alike.1) refl
  where
    by : (b : Bool) → is_refreshed g ≡ b → kept_expiry of_channels (with_lists all later s) g ≡ kept_expiry of_channels (with_lists all listed s) g
    by true e = refresh-same of_channels all all later listed s g refl (alike.0 e)
    by false e = no-refresh of_channels (with_lists all later s) g e ∙ sym (no-refresh of_channels (with_lists all listed s) g e)

-- an allocation has a request in both lists, or in neither
keeps-alike : (place : ℕ) (rows : List Grant) (listed later : List Listing) → AreAlike rows listed later
    → option_map_or (is_to_refresh later) (slice_get (filter_map as_allocation rows) place) false ≡ option_map_or (is_to_refresh listed) (slice_get (filter_map as_allocation rows) place) false
keeps-alike place [] listed later alike = refl
keeps-alike zero (Allocation a ∷ rows) listed later alike = rw (alike.0 refl) refl
keeps-alike (suc place) (Allocation a ∷ rows) listed later alike = keeps-alike place rows listed later alike.1
keeps-alike place (Permission ip progress ∷ rows) listed later alike = keeps-alike place rows listed later alike.1
keeps-alike place (Channel number peer progress ∷ rows) listed later alike = keeps-alike place rows listed later alike.1
keeps-alike place (Connect peer ∷ rows) listed later alike = keeps-alike place rows listed later alike.1
keeps-alike place (Offer offer ∷ rows) listed later alike = keeps-alike place rows listed later alike.1
keeps-alike place (Connection c ∷ rows) listed later alike = keeps-alike place rows listed later alike.1

summary-alike : (summary : Summary) (rows : List Grant) (listed later : List Listing) → AreAlike rows listed later → IsSummary summary rows listed → IsSummary summary rows later
summary-alike summary rows listed later alike summed = record {
  first = summed.first;
  second = summed.second;
  end = summed.end;
  next_expiry = summed.next_expiry ∙ ap (λ xs. fold min never xs) (sym (expiries-alike rows listed later alike));
  keeps_first = summed.keeps_first ∙ sym (keeps-alike 0 rows listed later alike);
  keeps_second = summed.keeps_second ∙ sym (keeps-alike 1 rows listed later alike);
  permissions = λ s. summed.permissions s ∙ ap (λ xs. fold min far xs) (sym (refreshes-alike false rows rows listed later s alike));
  channels = λ s. summed.channels s ∙ ap (λ xs. fold min far xs) (sym (refreshes-alike true rows rows listed later s alike));
  unreported = summed.unreported;
  requested = summed.requested;
  reserved = summed.reserved;
}

neither : (a b : Bool) → (a || b) ≡ false → (a ≡ false) × (b ≡ false)
neither a b h = grind arith

or-none : (b : Bool) → (b || false) ≡ b
or-none b = grind arith

pub still-true : (b : Bool) → not b ≡ false → b ≡ true
still-true b h = grind arith

-- ---- requests that are listed

requests-listed : (g : Grant) (id : ℕ) (ps : List Purpose) → requests_for g (listings id ps) ≡ is_for_any ps g
requests-listed g id [] = refl
requests-listed g id (p ∷ ps) = rw (requests-listed g id ps) refl

alike-listed : (rows : List Grant) (listed : List Listing) (id : ℕ) (ps : List Purpose) → list_any (λ g. is_refreshed g && is_for_any ps g) rows ≡ false
    → AreAlike rows listed (listed ++ listings id ps)
alike-listed [] listed id ps none = tt
alike-listed (g ∷ rows) listed id ps none =
    let parts = neither (is_refreshed g && is_for_any ps g) (list_any (λ g. is_refreshed g && is_for_any ps g) rows) none in
    (λ refreshed. by refreshed parts.0, alike-listed rows listed id ps parts.1)
  where
    by : is_refreshed g ≡ true → (is_refreshed g && is_for_any ps g) ≡ false → requests_for g (listed ++ listings id ps) ≡ requests_for g listed
    by refreshed none =
        let no : is_for_any ps g ≡ false = rw refreshed at none in
        list_any-append (λ (l : Listing). is_for l.purpose g) listed (listings id ps) ∙ (ap (λ b. requests_for g listed || b) (requests-listed g id ps ∙ no) ∙ or-none (requests_for g listed))

-- the summary is the same when a request is listed for grants that are not refreshed
pub summary-listed : (summary : Summary) (rows : List Grant) (listed : List Listing) (id : ℕ) (purposes : Purposes)
    → (list_any (λ g. is_refreshed g && is_for_any (option_to_list purposes.first) g) rows || list_any (λ g. is_refreshed g && is_for_any (option_to_list purposes.second) g) rows) ≡ false
    → IsSummary summary rows listed → IsSummary summary rows (listed ++ listings id (purposes_in purposes))
summary-listed summary rows listed id purposes none summed =
    let parts = neither (list_any (λ g. is_refreshed g && is_for_any (option_to_list purposes.first) g) rows)
    (list_any (λ g. is_refreshed g && is_for_any (option_to_list purposes.second) g) rows) none in
    let first : List Listing = listed ++ listings id (option_to_list purposes.first) in
    rw (← both purposes.first purposes.second)
    (summary-alike summary rows first (first ++ listings id (option_to_list purposes.second)) (alike-listed rows first id (option_to_list purposes.second) parts.1)
    (summary-alike summary rows listed first (alike-listed rows listed id (option_to_list purposes.first) parts.0) summed))
  where
    both : (a b : Option Purpose) → (listed ++ listings id (option_to_list a)) ++ listings id (option_to_list b) ≡ listed ++ listings id (option_to_list a ++ option_to_list b)
    both None b = ap (λ ls. ls ++ listings id (option_to_list b)) (append-nil listed)
    both (Some p) b = append_assoc listed (listings id (p ∷ [])) (listings id (option_to_list b))

-- ---- which grants a request is for

none-passes : (p : Grant → Bool) → ((g : Grant) → p g ≡ false) → (rows : List Grant) → list_any p rows ≡ false
none-passes p none [] = refl
none-passes p none (g ∷ rows) = rw (none g, none-passes p none rows) refl

pub no-connect : (peer : SocketAddr) (rows : List Grant) → list_any (λ g. is_refreshed g && is_for (ForConnect peer) g) rows ≡ false
no-connect peer rows = none-passes (λ g. is_refreshed g && is_connect_to peer g) (λ g. grind arith) rows

pub no-bind : (local peer : SocketAddr) (id : ℕ) (rows : List Grant) → list_any (λ g. is_refreshed g && is_for (ForBind local peer id) g) rows ≡ false
no-bind local peer id rows = none-passes (λ g. is_refreshed g && is_connection_from local g) (λ g. grind arith) rows

pub no-allocation : (rows : List Grant) → list_any (λ g. is_refreshed g && is_for ForAllocation g) rows ≡ false
no-allocation rows = none-passes (λ g. is_refreshed g && is_for ForAllocation g) (λ g. grind arith) rows

pub one-purpose : (p : Purpose) (rows : List Grant) → list_any (λ g. is_refreshed g && is_for p g) rows ≡ list_any (λ g. is_refreshed g && is_for_any (p ∷ []) g) rows
one-purpose p [] = refl
one-purpose p (g ∷ rows) = rw (or-none (is_for p g), one-purpose p rows) refl

pub no-purpose : (rows : List Grant) → false ≡ list_any (λ g. is_refreshed g && is_for_any [] g) rows
no-purpose rows = sym (none-passes (λ g. is_refreshed g && false) (λ g. grind arith) rows)

pub refresh-any : (family : AddressFamily) (lifetime : ℕ) (rows : List Grant) → is_some (find_allocation_in family rows) ≡ list_any (λ g. is_refreshed g && is_for (ForRefresh family lifetime) g) rows
refresh-any family lifetime [] = refl
refresh-any family lifetime (g ∷ rows) = grind (arith, refresh-any family lifetime rows)

pub refreshed-some : (rows : List Grant) (find : Key → Option Grant) (key : Key) (old : Grant) → IsIndex is_found_by find rows → find key ≡ Some old
    → is_refreshed old ≡ list_any (λ g. is_refreshed g && is_found_by key g) rows
refreshed-some rows find key old is found =
    sym (any-both is_refreshed (is_found_by key) rows ∙ (ap (list_any is_refreshed) (index-found is_found_by find rows key old is found) ∙ or-none (is_refreshed old)))

pub refreshed-none : (rows : List Grant) (find : Key → Option Grant) (key : Key) → IsIndex is_found_by find rows → find key ≡ None → false ≡ list_any (λ g. is_refreshed g && is_found_by key g) rows
unfolding IsIndex
refreshed-none rows find key is found = sym (any-both is_refreshed (is_found_by key) rows ∙ ap (list_any is_refreshed) (is key ∙ ap option_to_list found))

-- ---- the requests for a pending grant that is removed

requests-left : (old g : Grant) → ((p : Purpose) → is_for p old ≡ true → is_for p g ≡ false) → (listed : List Listing)
    → requests_for g (filter (λ l. not (is_for l.purpose old)) listed) ≡ requests_for g listed
requests-left old g apart [] = refl
requests-left old g apart (l ∷ listed) = grind (arith, apart l.purpose, requests-left old g apart listed)

alike-unlisted : (rows : List Grant) (listed : List Listing) (old : Grant) → ((p : Purpose) → is_for p old ≡ true → list_any (λ g. is_refreshed g && is_for p g) rows ≡ false)
    → AreAlike rows listed (filter (λ l. not (is_for l.purpose old)) listed)
alike-unlisted [] listed old own = tt
alike-unlisted (g ∷ rows) listed old own = (λ refreshed. requests-left old g (λ p h. by p refreshed (parts p h).0) listed, alike-unlisted rows listed old (λ p h. (parts p h).1))
  where
    parts : (p : Purpose) → is_for p old ≡ true → ((is_refreshed g && is_for p g) ≡ false) × (list_any (λ g. is_refreshed g && is_for p g) rows ≡ false)
    parts p h = neither (is_refreshed g && is_for p g) (list_any (λ g. is_refreshed g && is_for p g) rows) (own p h)

    by : (p : Purpose) → is_refreshed g ≡ true → (is_refreshed g && is_for p g) ≡ false → is_for p g ≡ false
    by p refreshed none = rw refreshed at none

no-refresh_of : (family : AddressFamily) (lifetime : ℕ) (old : Grant) → is_pending old ≡ true → is_for (ForRefresh family lifetime) old ≡ true → false ≡ true
no-refresh_of family lifetime old h at = grind arith

own-request : (rows : List Grant) (find : Key → Option Grant) (key : Key) (old : Grant) → IsIndex is_found_by find rows → find key ≡ Some old → is_pending old ≡ true
    → (p : Purpose) → is_for p old ≡ true → list_any (λ g. is_refreshed g && is_for p g) rows ≡ false
own-request rows find key old is found pending p at = by p at
  where
    by-key : (k : Key) → is_found_by k old ≡ true → list_any (λ g. is_refreshed g && is_found_by k g) rows ≡ false
    by-key k at =
        let alone = index-found is_found_by find rows k old is (index-agrees is_found_by (is_found_by key) find rows k old is (index-found is_found_by find rows key old is found) at) in
        any-both is_refreshed (is_found_by k) rows ∙ (ap (list_any is_refreshed) alone ∙ (ap (λ b. b || false) (not-refreshed old pending)))

    by : (p : Purpose) → is_for p old ≡ true → list_any (λ g. is_refreshed g && is_for p g) rows ≡ false
    by (ForPermission ip) at = by-key (By.Ip ip) at
    by (ForChannel number peer) at = by-key (By.Number number) at
    by (ForConnect peer) at = no-connect peer rows
    by (ForBind local peer id) at = no-bind local peer id rows
    by ForAllocation at = no-allocation rows
    by (ForRefresh family lifetime) at = let no : false ≡ true = no-refresh_of family lifetime old pending at in cc

-- the summary is the same without a pending grant, and without the requests for it
pub summary-released : (summary : Summary) (rows : List Grant) (listed : List Listing) (find : Key → Option Grant) (key : Key) (old : Grant) → IsIndex is_found_by find rows → find key ≡ Some old
    → is_pending old ≡ true → IsSummary summary rows listed
    → IsSummary summary (filter (λ g. not (is_found_by key g)) rows) (filter (λ l. not (is_for l.purpose old)) listed)
summary-released summary rows listed find key old is found pending summed =
    let later : List Listing = filter (λ l. not (is_for l.purpose old)) listed in
    summary-without summary (is_found_by key) rows later (any-both (λ g. not (is_pending g)) (is_found_by key) rows
    ∙ (ap (list_any (λ g. not (is_pending g))) (index-found is_found_by find rows key old is found) ∙ ap (λ b. not b || false) pending))
    (summary-alike summary rows listed later (alike-unlisted rows listed old (own-request rows find key old is found pending)) summed)

-- ---- grants that are not there

pub left-absent : (which : Grant → Bool) (rows : List Grant) → not (list_any which rows) ≡ true → filter (λ g. not (which g)) rows ≡ rows
left-absent which [] none = refl
left-absent which (g ∷ rows) none = grind (arith, left-absent which rows)

no-purpose_of : (which : Grant → Bool) (rows : List Grant) (p : Purpose) → not (list_any which rows) ≡ true → list_any (λ g. which g && is_for p g) rows ≡ false
no-purpose_of which [] p none = refl
no-purpose_of which (g ∷ rows) p none = grind (arith, no-purpose_of which rows p)

pub unlisted-absent : (which : Grant → Bool) (rows : List Grant) (listed : List Listing) → not (list_any which rows) ≡ true → unlisted_in which rows listed ≡ listed
unlisted-absent which rows [] none = refl
unlisted-absent which rows (l ∷ listed) none = rw (no-purpose_of which rows l.purpose none, unlisted-absent which rows listed none) refl
