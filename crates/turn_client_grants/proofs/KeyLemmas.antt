-- What leads from keys to grants, as grants are added and removed.
use Rattle.std.specs.Prelude.{◌≡◌, ℕ, ◌==◌, Bool, true, false, cond, not, ◌||◌, ◌&&◌, List, [], ◌∷◌, ◌++◌, filter, filter_map, fold, map, Option, Some, None, is_none, is_some, option_and_then}
use Rattle.std.specs.Prelude.{option_map, option_to_list, refl}
use Rattle.std.specs.List.{list_all, list_any}
use Rattle.std.specs.declared.net.ip_addr.IpAddr.{IpAddr}
use Rattle.std.specs.declared.net.socket_addr.SocketAddr.{SocketAddr}
use Rattle.std.proofs.Common.{arith, sym, ◌∙◌, ap, append-nil, append_assoc, subst}
use Rattle.std.proofs.lemmas.Bool.{and_parts, eqb-true}
use Rattle.std.proofs.lemmas.List.Elements.{filter_agree}
use Rattle.std.proofs.lemmas.List.Folds.{list_any-append}
use Rattle.std.proofs.lemmas.Map.Entries.{option_filter}
use Rattle.turn_agent.specs.Agent.{same_address}
use Rattle.turn_client_api.proofs.AddressLemmas.{same_address-true, same_ip-true}
use Rattle.turn_client_api.specs.Calls.{active_channel, is_in_progress, is_offer_of, progress_to, without_first}
use Rattle.turn_client_api.specs.Effect.{new_allocation}
use Rattle.turn_client_api.specs.Grants.{channel_at, channel_peer, is_channel_of, is_for, is_permission_of, permission_progress}
use Rattle.turn_client_api.specs.Poll.{first_reported}
use Rattle.turn_client_api.specs.declared.grant.Grant.{Grant}
use Rattle.turn_client_api.specs.declared.grant.Grant.TheVariants.{Allocation, Permission, Channel, Offer}
use Rattle.turn_client_api.specs.declared.grant.DataOffer.{DataOffer}
use Rattle.turn_client_api.specs.declared.grant.Listing.{Listing}
use Rattle.turn_client_api.specs.declared.grant.Purpose.{Purpose}
use Rattle.turn_client_api.specs.declared.grant.Progress.TheVariants.{Reserved}
use Rattle.turn_client_api.specs.declared.grant.Relay.{Relay}
use Rattle.turn_types.specs.declared.family.AddressFamily.{AddressFamily}
use Rattle.turn_client_grants.specs.Index.{IsIndex, scan}
use Rattle.turn_client_grants.specs.Keys.{is_found_by, is_open_to}
use Rattle.turn_client_grants.specs.Kept.{AreAlone}
use Rattle.turn_client_grants.specs.Lists.{first_among}
use Rattle.turn_client_grants.specs.Table.{are_apart, changed, has_no_double, unlisted_in}
use Rattle.turn_client_grants.specs.declared.changes.Change.{Change}
use Rattle.turn_client_grants.specs.declared.key.Key.{Key}
use Rattle.turn_client_grants.specs.declared.key.Key.TheVariants as By
use Rattle.turn_client_grants.proofs.IndexLemmas.{any-by_index, first-by_index, index-changed, index-found, index-filtered, index-pushed, index-pushed_other, index-same, index-scanned}
use Rattle.turn_client_grants.proofs.TableLemmas.{changed-same}

-- ---- a new grant has keys of its own

-- no existing grant is found by one of its keys
abbrev pub IsFree : List Grant → Grant → Type 0
IsFree rows g = (k : Key) → is_found_by k g ≡ true → list_any (is_found_by k) rows ≡ false

is-not : (b : Bool) → not b ≡ true → b ≡ false
is-not b h = grind arith

pub open-any : (peer : SocketAddr) (rows : List Grant) → list_any is_in_progress (filter_map (progress_to peer) rows) ≡ list_any (is_open_to peer) rows
open-any peer [] = refl
open-any peer (g ∷ rows) = grind (arith, open-any peer rows)

no-permission : (ip : IpAddr) (rows : List Grant) → is_none (first_among (permission_progress ip) rows) ≡ true → list_any (is_permission_of ip) rows ≡ false
no-permission ip [] none = refl
no-permission ip (g ∷ rows) none = grind (arith, no-permission ip rows)

free-number : (rows : List Grant) (number other : ℕ) → list_any (is_channel_of number) rows ≡ false → (number == other) ≡ true → list_any (is_channel_of other) rows ≡ false
free-number rows number other none same = subst (λ (n : ℕ). list_any (is_channel_of n) rows ≡ false) (eqb-true number other same) none

free-peer : (rows : List Grant) (peer other : SocketAddr) → list_any is_in_progress (filter_map (progress_to peer) rows) ≡ false → same_address peer other ≡ true
    → list_any (is_open_to other) rows ≡ false
free-peer rows peer other none same = subst (λ (a : SocketAddr). list_any (is_open_to a) rows ≡ false) (same_address-true peer other same) (sym (open-any peer rows) ∙ none)

pub free-keys : (rows : List Grant) (g : Grant) → has_no_double rows g ≡ true → IsFree rows g
free-keys rows g new k at = by k g new at
  where
    by : (k : Key) (g : Grant) → has_no_double rows g ≡ true → is_found_by k g ≡ true → list_any (is_found_by k) rows ≡ false
    by (By.Ip other) (Permission ip progress) new at = subst (λ (a : IpAddr). list_any (is_permission_of a) rows ≡ false) (same_ip-true ip other at) (no-permission ip rows new)
    by (By.Number k) (Channel number peer (Reserved until)) new at = free-number rows number k (is-not _ new) at
    by (By.Number k) (Channel number peer progress) new at =
        free-number rows number k (is-not _ (and_parts (not (list_any (is_channel_of number) rows)) (not (list_any is_in_progress (filter_map (progress_to peer) rows))) new).0) at
    by (By.Peer k) (Channel number peer (Reserved until)) new at = cc
    by (By.Peer k) (Channel number peer progress) new at =
        free-peer rows peer k (is-not _ (and_parts (not (list_any (is_channel_of number) rows)) (not (list_any is_in_progress (filter_map (progress_to peer) rows))) new).1) at
    by k g new at = cc

-- ---- grants are added

-- what the key leads to, if the grant is found by its keys from now on
abbrev found_after : Key → Option Grant → Grant → Option Grant
found_after k was grant = cond (is_found_by k grant) (Some grant) was

none-found : (found : Option Grant) → is_some found ≡ false → found ≡ None
none-found found h = grind arith

index-free : (rows : List Grant) (find : Key → Option Grant) (g : Grant) → IsIndex is_found_by find rows → IsFree rows g → (k : Key) → is_found_by k g ≡ true → find k ≡ None
index-free rows find g is free k at = none-found (find k) (sym (any-by_index is_found_by find rows k is) ∙ free k at)

index-added : (rows : List Grant) (find then : Key → Option Grant) (g : Grant) → IsIndex is_found_by find rows → IsFree rows g
    → ((k : Key) → then k ≡ found_after k (find k) g) → IsIndex is_found_by then (rows ++ g ∷ [])
index-added rows find then g is free now = index-pushed is_found_by find then rows g (λ k. is_found_by k g) is now (λ k. refl) (index-free rows find g is free)

-- each is free of these, and so are those after it of it
abbrev AllFree : List Grant → List Grant → Type 0
AllFree rows [] = Unit {0}
AllFree rows (g ∷ others) = IsFree rows g × AllFree rows others

all-free : (rows more : List Grant) → list_all (has_no_double rows) more ≡ true → AllFree rows more
all-free rows [] new = tt
all-free rows (g ∷ others) new = let parts = and_parts (has_no_double rows g) (list_all (has_no_double rows) others) new in (free-keys rows g parts.0, all-free rows others parts.1)

both-free : (rows : List Grant) (g : Grant) (others : List Grant) → AllFree rows others → AllFree (g ∷ []) others → AllFree (rows ++ g ∷ []) others
both-free rows g [] a b = tt
both-free rows g (h ∷ others) a b = (λ k at. rw (list_any-append (is_found_by k) rows (g ∷ []), a.0 k at) (b.0 k at), both-free rows g others a.1 b.1)

index-more : (more rows : List Grant) (find then : Key → Option Grant) → IsIndex is_found_by find rows → AllFree rows more → are_apart more ≡ true
    → ((k : Key) → then k ≡ fold (found_after k) (find k) more) → IsIndex is_found_by then (rows ++ more)
index-more [] rows find then is free apart now = subst (λ (gs : List Grant). IsIndex is_found_by then gs) (sym (append-nil rows)) (index-same is_found_by find then rows is now)
index-more (g ∷ others) rows find then is free apart now =
    let parts = and_parts (list_all (has_no_double (g ∷ [])) others) (are_apart others) apart in
    let mid : Key → Option Grant = λ k. found_after k (find k) g in
    subst (λ (gs : List Grant). IsIndex is_found_by then gs) (append_assoc rows (g ∷ []) others)
    (index-more others (rows ++ g ∷ []) mid then (index-added rows find mid g is free.0 (λ k. refl)) (both-free rows g others free.1 (all-free (g ∷ []) others parts.0)) parts.1 now)

index-added_all : (rows more : List Grant) (find then : Key → Option Grant) → IsIndex is_found_by find rows → list_all (has_no_double rows) more ≡ true → are_apart more ≡ true
    → ((k : Key) → then k ≡ fold (found_after k) (find k) more) → IsIndex is_found_by then (rows ++ more)
index-added_all rows more find then is new apart now = index-more more rows find then is (all-free rows more new) apart now

-- ---- grants that no key finds

relay-keys : (k : Key) (a : Relay) → is_found_by k (Allocation a) ≡ false
relay-keys k a = grind arith

offer-keys : (k : Key) (offer : DataOffer) → is_found_by k (Offer offer) ≡ false
offer-keys k offer = grind arith

index-relays : (addresses : List SocketAddr) (lifetime now : ℕ) (rows : List Grant) (find : Key → Option Grant) → IsIndex is_found_by find rows
    → IsIndex is_found_by find (rows ++ map (new_allocation lifetime now) addresses)
index-relays [] lifetime now rows find is = subst (λ (gs : List Grant). IsIndex is_found_by find gs) (sym (append-nil rows)) is
index-relays (a ∷ others) lifetime now rows find is =
    subst (λ (gs : List Grant). IsIndex is_found_by find gs) (append_assoc rows (new_allocation lifetime now a ∷ []) (map (new_allocation lifetime now) others))
    (index-relays others lifetime now (rows ++ new_allocation lifetime now a ∷ []) find (index-pushed_other is_found_by find rows (new_allocation lifetime now a) is (λ k. relay-keys k _)))

found-reported : (k : Key) (family : AddressFamily) (rows : List Grant) → filter (is_found_by k) (first_reported family rows) ≡ filter (is_found_by k) rows
found-reported k family [] = refl
found-reported k family (g ∷ rows) = grind (arith, offer-keys k, found-reported k family rows)

index-reported : (family : AddressFamily) (rows : List Grant) (find : Key → Option Grant) → IsIndex is_found_by find rows → IsIndex is_found_by find (first_reported family rows)
unfolding IsIndex
index-reported family rows find is k = found-reported k family rows ∙ is k

found-taken : (k : Key) (id : ℕ) (peer : SocketAddr) (rows : List Grant) → filter (is_found_by k) (without_first (is_offer_of id peer) rows) ≡ filter (is_found_by k) rows
found-taken k id peer [] = refl
found-taken k id peer (g ∷ rows) = grind (arith, offer-keys k, found-taken k id peer rows)

index-taken : (id : ℕ) (peer : SocketAddr) (rows : List Grant) (find : Key → Option Grant) → IsIndex is_found_by find rows → IsIndex is_found_by find (without_first (is_offer_of id peer) rows)
unfolding IsIndex
index-taken id peer rows find is k = found-taken k id peer rows ∙ is k

-- ---- grants are changed and removed

pub found-changed : (change : Change) (k : Key) (g : Grant) → is_found_by k (changed change g) ≡ is_found_by k g
found-changed change (By.Number n) g = changed-same (is_channel_of n) (λ a e x. refl) (λ ip e u. refl) (λ n p e u. refl) (λ ip e u. refl) (λ n p e u. refl) (λ c d. refl) change g
found-changed change (By.Peer p) g = changed-same (is_open_to p) (λ a e x. refl) (λ ip e u. refl) (λ n p e u. refl) (λ ip e u. refl) (λ n p e u. refl) (λ c d. refl) change g
found-changed change (By.Ip ip) g = changed-same (is_permission_of ip) (λ a e x. refl) (λ ip e u. refl) (λ n p e u. refl) (λ ip e u. refl) (λ n p e u. refl) (λ c d. refl) change g

index-changed_by : (change : Change) (rows : List Grant) (find then : Key → Option Grant) → IsIndex is_found_by find rows
    → ((k : Key) → then k ≡ option_map (changed change) (find k)) → IsIndex is_found_by then (map (changed change) rows)
index-changed_by change rows find then is now = index-changed is_found_by find then rows (changed change) is now (found-changed change)

index-without : (which : Grant → Bool) (rows : List Grant) (find then : Key → Option Grant) → IsIndex is_found_by find rows
    → ((k : Key) → then k ≡ option_filter (λ g. not (which g)) (find k)) → IsIndex is_found_by then (filter (λ g. not (which g)) rows)
index-without which rows find then is now = index-filtered is_found_by find then rows (λ g. not (which g)) is now

-- ---- one replaces others

pub any-both : (p q : Grant → Bool) (rows : List Grant) → list_any (λ g. p g && q g) rows ≡ list_any p (filter q rows)
any-both p q [] = refl
any-both p q (g ∷ rows) = grind (arith, any-both p q rows)

-- the keys of the new grant are keys of those that are removed
abbrev pub IsKeyed : (Grant → Bool) → Grant → List Grant → Type 0
IsKeyed which grant rows = (k : Key) → is_found_by k grant ≡ true → list_any (λ g. which g && is_found_by k g) rows ≡ true

one-goes : (which : Grant → Bool) (rows : List Grant) (find : Key → Option Grant) (k : Key) → IsIndex is_found_by find rows → list_any (λ g. which g && is_found_by k g) rows ≡ true
    → list_any which (option_to_list (find k)) ≡ true
unfolding IsIndex
one-goes which rows find k is there = ap (λ (gs : List Grant). list_any which gs) (sym (is k)) ∙ (sym (any-both which (is_found_by k) rows) ∙ there)

index-replaced : (which : Grant → Bool) (rows : List Grant) (find then : Key → Option Grant) (grant : Grant) → IsIndex is_found_by find rows → IsKeyed which grant rows
    → ((k : Key) → then k ≡ cond (is_found_by k grant) (Some grant) (option_filter (λ g. not (which g)) (find k)))
    → IsIndex is_found_by then (filter (λ g. not (which g)) rows ++ grant ∷ [])
index-replaced which rows find then grant is keyed now =
    let mid : Key → Option Grant = λ k. option_filter (λ g. not (which g)) (find k) in
    index-pushed is_found_by mid then (filter (λ g. not (which g)) rows) grant (λ k. is_found_by k grant) (index-without which rows find mid is (λ k. refl)) now (λ k. refl)
    (λ k at. by (find k) (one-goes which rows find k is (keyed k at)))
  where
    by : (found : Option Grant) → list_any which (option_to_list found) ≡ true → option_filter (λ g. not (which g)) found ≡ None
    by found h = grind arith

-- ---- the grant that a key finds

any-filtered : (p q : Grant → Bool) (rows : List Grant) → list_any (λ g. p g && q g) rows ≡ list_any q (filter p rows)
any-filtered p q [] = refl
any-filtered p q (g ∷ rows) = grind (arith, any-filtered p q rows)

first-passes : (p : Grant → Bool) (rows : List Grant) (g : Grant) → filter p rows ≡ g ∷ [] → p g ≡ true
first-passes p [] g alone = cc
first-passes p (h ∷ rows) g alone = grind (arith, first-passes p rows g)

-- it is the only one for whose requests the key stands
pub unlisted-one : (rows : List Grant) (listed : List Listing) (find : Key → Option Grant) (key : Key) (old : Grant) → IsIndex is_found_by find rows → find key ≡ Some old
    → filter (λ l. not (is_for l.purpose old)) listed ≡ unlisted_in (is_found_by key) rows listed
unlisted-one rows listed find key old is found =
    filter_agree (λ l. not (is_for l.purpose old)) (λ l. not (list_any (λ g. is_found_by key g && is_for l.purpose g) rows)) (λ l. ap not (by l.purpose)) listed
  where
    none : (b : Bool) → b ≡ (b || false)
    none b = grind arith

    by : (p : Purpose) → is_for p old ≡ list_any (λ g. is_found_by key g && is_for p g) rows
    by p = none (is_for p old) ∙ sym (any-filtered (is_found_by key) (is_for p) rows ∙ ap (list_any (is_for p)) (index-found is_found_by find rows key old is found))

-- ---- reading

pub first-found : {X : Type 0} (f : Grant → Option X) (find : Key → Option Grant) (rows : List Grant) (k : Key) → IsIndex is_found_by find rows
    → ((g : Grant) → is_found_by k g ≡ false → f g ≡ None) → first_among f rows ≡ option_and_then f (find k)
first-found f find rows k is other = first-by_index is_found_by f find rows k is other

pub other-owner : (n : ℕ) (g : Grant) → is_channel_of n g ≡ false → channel_at n g ≡ None
other-owner n g h = grind arith

pub other-peer : (n : ℕ) (g : Grant) → is_channel_of n g ≡ false → channel_peer n g ≡ None
other-peer n g h = grind arith

pub other-active : (a : SocketAddr) (g : Grant) → is_open_to a g ≡ false → active_channel a g ≡ None
other-active a g h = grind arith

pub other-permission : (a : IpAddr) (g : Grant) → is_permission_of a g ≡ false → permission_progress a g ≡ None
other-permission a g h = grind arith

-- ---- a key finds at most one grant

pub alone-added : (rows : List Grant) (g : Grant) → AreAlone rows → has_no_double rows g ≡ true → AreAlone (rows ++ g ∷ [])
alone-added rows g is new =
    let then : Key → Option Grant = λ k. found_after k (scan is_found_by rows k) g in
    index-scanned is_found_by then (rows ++ g ∷ []) (index-added rows (scan is_found_by rows) then g is (free-keys rows g new) (λ k. refl))

pub alone-added_all : (rows more : List Grant) → AreAlone rows → list_all (has_no_double rows) more ≡ true → are_apart more ≡ true → AreAlone (rows ++ more)
alone-added_all rows more is new apart =
    let then : Key → Option Grant = λ k. fold (found_after k) (scan is_found_by rows k) more in
    index-scanned is_found_by then (rows ++ more) (index-added_all rows more (scan is_found_by rows) then is new apart (λ k. refl))

pub alone-relays : (addresses : List SocketAddr) (lifetime now : ℕ) (rows : List Grant) → AreAlone rows → AreAlone (rows ++ map (new_allocation lifetime now) addresses)
alone-relays addresses lifetime now rows is = index-scanned is_found_by (scan is_found_by rows) _ (index-relays addresses lifetime now rows (scan is_found_by rows) is)

pub alone-reported : (family : AddressFamily) (rows : List Grant) → AreAlone rows → AreAlone (first_reported family rows)
alone-reported family rows is = index-scanned is_found_by (scan is_found_by rows) _ (index-reported family rows (scan is_found_by rows) is)

pub alone-taken : (id : ℕ) (peer : SocketAddr) (rows : List Grant) → AreAlone rows → AreAlone (without_first (is_offer_of id peer) rows)
alone-taken id peer rows is = index-scanned is_found_by (scan is_found_by rows) _ (index-taken id peer rows (scan is_found_by rows) is)

pub alone-changed : (change : Change) (rows : List Grant) → AreAlone rows → AreAlone (map (changed change) rows)
alone-changed change rows is =
    let then : Key → Option Grant = λ k. option_map (changed change) (scan is_found_by rows k) in
    index-scanned is_found_by then (map (changed change) rows) (index-changed_by change rows (scan is_found_by rows) then is (λ k. refl))

pub alone-without : (which : Grant → Bool) (rows : List Grant) → AreAlone rows → AreAlone (filter (λ g. not (which g)) rows)
alone-without which rows is =
    let then : Key → Option Grant = λ k. option_filter (λ g. not (which g)) (scan is_found_by rows k) in
    index-scanned is_found_by then (filter (λ g. not (which g)) rows) (index-without which rows (scan is_found_by rows) then is (λ k. refl))

pub alone-replaced : (which : Grant → Bool) (rows : List Grant) (grant : Grant) → AreAlone rows → IsKeyed which grant rows → AreAlone (filter (λ g. not (which g)) rows ++ grant ∷ [])
alone-replaced which rows grant is keyed =
    let then : Key → Option Grant = λ k. cond (is_found_by k grant) (Some grant) (option_filter (λ g. not (which g)) (scan is_found_by rows k)) in
    index-scanned is_found_by then (filter (λ g. not (which g)) rows ++ grant ∷ []) (index-replaced which rows (scan is_found_by rows) then grant is keyed (λ k. refl))

-- the grant that a key finds passes its test
pub found-passes : (rows : List Grant) (key : Key) (g : Grant) → AreAlone rows → scan is_found_by rows key ≡ Some g → is_found_by key g ≡ true
found-passes rows key g is found = first-passes (is_found_by key) rows g (index-found is_found_by (scan is_found_by rows) rows key g is found)
