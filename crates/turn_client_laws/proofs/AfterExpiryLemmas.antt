-- What remains after time has passed.
use Rattle.turn_client_laws.proofs.Common.{◌≡◌, ℕ, ◌<◌, Bool, true, false, ◌&&◌, ◌||◌, not, List, [], ◌∷◌, ◌++◌, filter, filter_map, find, fold, reverse, Option, Some, None, ◌⊎◌, inl, inr, refl, sym}
use Rattle.turn_client_laws.proofs.Common.{subst, ◌∙◌, leb, All, ⊤, slice_get, none-some, not-true, leb-false, and_parts, cases_Bool, or_parts, SocketAddr}
use Rattle.turn_client_laws.proofs.Machine.{AddressFamily, same_family, HasAllocation, State, agent_of, later_by, DataOffer, Grant, Allocation, Permission, Channel, Connect, Offer, Connection, Relay}
use Rattle.turn_client_laws.proofs.Machine.{Active, Reserved, Purpose, allocations, as_allocation, find_allocation, family_of_grant, final_expiry, has_request, is_past, failures_among, family_of, is_channel_of}
use Rattle.turn_client_laws.proofs.Machine.{is_for_any, is_connect, is_of, is_pending_channel, is_pending_permission, jump, unlisted, without_grants, reserved, reserved_time, is_allocated}
use Rattle.turn_client_laws.proofs.Machine.{first_unreported, timed_out_purposes, next_offer, unreported_in, channel_expired, connections_unbound, failed_by_timeout, last_channel_expired}
use Rattle.turn_client_laws.proofs.Machine.{offers_timed_out, permissions_expired, refreshes_timed_out, failed, allocation_expires, is_expired_channel, is_expired_permission, is_unbound, expired_at}
use Rattle.turn_client_laws.proofs.Machine.{expired_allocation, expired_in, unbound, TurnEvent, ChannelCreateFailed, Has, has-all, has-reverse, has-unreversed, has-append, has-filter, filter_map-has}
use Rattle.turn_client_laws.proofs.Machine.{has-filter_map, has-found, cases_Option, first-has, expired_in-does}
use Rattle.turn_client_laws.proofs.ReadyLemmas.{Alive}
use Rattle.turn_client_laws.proofs.CaseLemmas.{all-expire}
use Rattle.turn_client_laws.proofs.InAllocationLemmas.{same_family-self, same_family-true}
use Rattle.turn_client_laws.proofs.MoveLemmas.{none-found}

-- a channel that is reserved
abbrev pub IsReserved : Grant → Type 0
IsReserved (Channel number peer (Reserved until)) = ⊤
IsReserved _ = ⊥

-- Grants are removed, or become reserved channels; events are queued, and nothing else changes but what is
-- listed and is to be closed.
pub record Shrinks (s t : State) : Type 0 where
  pub agent : agent_of t ≡ agent_of s
  pub transactions : t.transactions ≡ s.transactions
  pub queue : t.queue ≡ s.queue
  pub phase : t.phase ≡ s.phase
  pub grants : (g : Grant) → Has g t.grants → Has g s.grants ⊎ IsReserved g
  pub events : t.events ≡ [] → s.events ≡ []

pub shrinks-self : (s : State) → Shrinks s s
shrinks-self s = record { agent = refl; transactions = refl; queue = refl; phase = refl; grants = λ g h. inl h; events = λ e. e }

pub shrinks-then : (s t u : State) → Shrinks s t → Shrinks t u → Shrinks s u
shrinks-then s t u first later = record {
  agent = later.agent ∙ first.agent;
  transactions = later.transactions ∙ first.transactions;
  queue = later.queue ∙ first.queue;
  phase = later.phase ∙ first.phase;
  grants = λ g h. elim (later.grants g h) [ inl there ↦ first.grants g there | inr is ↦ inr is ];
  events = λ e. first.events (later.events e);
}

append-empty : {X : Type 0} (xs ys : List X) → xs ++ ys ≡ [] → (xs ≡ []) × (ys ≡ [])
append-empty [] ys e = (refl, e)
append-empty (x ∷ xs) ys e = cc

-- ---- what each part of an expiry does

unlisted-shrinks : (which : Grant → Bool) (s : State) → Shrinks s (unlisted which s)
unlisted-shrinks which s = record { agent = refl; transactions = refl; queue = refl; phase = refl; grants = λ g h. inl h; events = λ e. e }

without-shrinks : (which : Grant → Bool) (s : State) → Shrinks s (without_grants which s)
without-shrinks which s = record { agent = refl; transactions = refl; queue = refl; phase = refl; grants = λ g h. inl (has-filter _ g s.grants h).0; events = λ e. e }

jump-shrinks : (events : List TurnEvent) (s : State) → Shrinks s (jump events s)
jump-shrinks events s = record { agent = refl; transactions = refl; queue = refl; phase = refl; grants = λ g h. inl h; events = λ e. (append-empty (reverse events) s.events e).1 }

failed-shrinks : (which : Grant → Bool) (s : State) → Shrinks s (failed which s)
failed-shrinks which s = shrinks-then s (without_grants which s) (failed which s) (without-shrinks which s) (jump-shrinks (failures_among which s) (without_grants which s))

unbound-shrinks : (which : Grant → Bool) (s : State) → Shrinks s (unbound which s)
unbound-shrinks which s =
    let f = failed-shrinks which s in
    record { agent = refl; transactions = refl; queue = refl; phase = refl; grants = f.grants; events = f.events }

reserved-shrinks : (number : ℕ) (peer : SocketAddr) (expiry : ℕ) (s : State) → Shrinks s (reserved number peer expiry s)
reserved-shrinks number peer expiry s =
    record { agent = refl; transactions = refl; queue = refl; phase = refl; grants = λ g h. of g (has-append g (without_grants (is_channel_of number) s).grants _ h); events = λ e. e }
  where
    of : (g : Grant) → Has g (without_grants (is_channel_of number) s).grants ⊎ Has g (Channel number peer (Reserved (later_by reserved_time expiry)) ∷ []) → Has g s.grants ⊎ IsReserved g
    of g (inl kept) = inl (has-filter (λ x. not (is_channel_of number x)) g s.grants kept).0
    of g (inr (inl e)) = inr (rw e tt)
    of g (inr (inr none)) = absurd none

channel-shrinks : (o : Option Grant) (s : State) → Shrinks s (channel_expired o s)
channel-shrinks (Some (Channel number peer (Active expiry))) s =
    let t = reserved number peer expiry.expiry s in
    let failure = ChannelCreateFailed s.config.allocation_transport peer ∷ [] in
    shrinks-then s t (jump failure t) (reserved-shrinks number peer expiry.expiry s) (jump-shrinks failure t)
channel-shrinks o s = shrinks-self s

-- ---- one allocation

expired_in-shrinks : (family : AddressFamily) (given : Option ℕ) (purposes : List Purpose) (now : ℕ) (s : State) → Shrinks s (expired_in family given purposes now s)
expired_in-shrinks family given purposes now = expired_in-does Shrinks family given purposes now (record {
  trans = shrinks-then;
  channels = failed-shrinks _;
  permissions = failed-shrinks _;
  last_channel = λ t. channel-shrinks _ t;
  expired_permissions = failed-shrinks _;
  connects = failed-shrinks _;
  connections = unbound-shrinks _;
  offers = failed-shrinks _;
  refreshes = unlisted-shrinks _;
  frees = without-shrinks _;
})

-- what did not stay was not tested true
not-passed : (p : Grant → Bool) (g : Grant) (gs : List Grant) → Has g (filter (λ x. not (p x)) gs) → p g ≡ false
not-passed p g gs h = not-true (p g) (has-filter (λ x. not (p x)) g gs h).1

-- the grants in between, from the end back
back : (s t : State) → Shrinks s t → (g : Grant) → (IsReserved g → ⊥) → Has g t.grants → Has g s.grants
back s t shrinks g not_reserved h = elim (shrinks.grants g h) [ inl there ↦ there | inr is ↦ absurd (not_reserved is) ]

-- a test that is false for a pair only by its second part
what-false : (here what : Bool) → here ≡ true → (here && what) ≡ false → what ≡ false
what-false true what e f = f
what-false false what e f = let no : false ≡ true = e in cc

-- if no event was queued, no channel had expired
no_channel_expired : (family : AddressFamily) (now : ℕ) (s : State) → (last_channel_expired family now s).events ≡ [] → find (λ g. is_of family g && is_expired_channel now g) (reverse s.grants) ≡ None
no_channel_expired family now s none = elim (cases_Option (find test (reverse s.grants))) [
  | inl e ↦ e
  | inr (g, e) ↦
      let (there, is) = has-found test g (reverse s.grants) e in
      absurd (expired_is g (has-unreversed g s.grants there) (and_parts (is_of family g) (is_expired_channel now g) is).1 (rw e at none))
]
  where
    test : Grant → Bool
    test g = is_of family g && is_expired_channel now g

    expired_is : (g : Grant) → Has g s.grants → is_expired_channel now g ≡ true → (channel_expired (Some g) s).events ≡ [] → ⊥
    expired_is (Channel number peer (Active expiry)) h is e =
        let no : ChannelCreateFailed s.config.allocation_transport peer ∷ s.events ≡ [] = e in cc
    expired_is g h is e = cc

-- all but an allocation
abbrev pub Outlives : ℕ → Grant → Type 0
Outlives now (Allocation a) = ⊤
Outlives now grant = Alive now grant

-- what remains in an allocation without an event has not expired
alive_in : (family : AddressFamily) (given : Option ℕ) (purposes : List Purpose) (now : ℕ) (s : State) → (expired_in family given purposes now s).events ≡ [] → (g : Grant)
    → Has g (expired_in family given purposes now s).grants → is_of family g ≡ true → Outlives now g
alive_in family given purposes now s none g h here = by g h here
  where
    s2 : State
    s2 = failed_by_timeout family purposes is_pending_permission (failed_by_timeout family purposes is_pending_channel s)

    s3 : State
    s3 = last_channel_expired family now s2

    s4 : State
    s4 = permissions_expired family now s3

    s5 : State
    s5 = failed_by_timeout family purposes is_connect s4

    s6 : State
    s6 = connections_unbound family purposes now s5

    t : State
    t = expired_in family given purposes now s

    -- the last steps
    from6 : Shrinks s6 t
    from6 =
        let s7 = offers_timed_out family given s6 in
        let s8 = refreshes_timed_out family purposes s7 in
        shrinks-then s6 s7 t (failed-shrinks _ s6) (shrinks-then s7 s8 t (unlisted-shrinks _ s7) (without-shrinks _ s8))

    from4 : Shrinks s4 t
    from4 = shrinks-then s4 s5 t (failed-shrinks _ s4) (shrinks-then s5 s6 t (unbound-shrinks _ s5) from6)

    from3 : Shrinks s3 t
    from3 = shrinks-then s3 s4 t (failed-shrinks _ s3) from4

    by : (g : Grant) → Has g t.grants → is_of family g ≡ true → Outlives now g
    by (Permission ip (Active expiry)) h here =
        let inside = back s4 t from4 (Permission ip (Active expiry)) (λ is. is) h in
        leb-false expiry.expiry now (what-false _ _ here (not-passed (λ x. is_of family x && is_expired_permission now x) (Permission ip (Active expiry)) s3.grants inside))
    by (Channel number peer (Active expiry)) h here =
        let g = Channel number peer (Active expiry) in
        let no_event = from3.events none in
        let not_found = no_channel_expired family now s2 no_event in
        let inside3 = back s3 t from3 g (λ is. is) h in
        let inside2 : Has g s2.grants = subst (λ o. Has g (channel_expired o s2).grants) not_found inside3 in
        leb-false expiry.expiry now (what-false _ _ here (none-found (λ x. is_of family x && is_expired_channel now x) g (reverse s2.grants) not_found (has-reverse g s2.grants inside2)))
    by (Connection c) h here =
        let inside = back s6 t from6 (Connection c) (λ is. is) h in
        let bound = what-false _ _ here (not-passed (λ x. is_of family x && is_unbound purposes now x) (Connection c) s5.grants inside) in
        elim (cases_Option c.deadline) [
          | inl e ↦ rw e tt
          | inr (deadline, e) ↦ rw e (leb-false deadline now (or_parts (leb deadline now) _ (rw e at bound)).0)
        ]
    by g h here = tt

-- ---- all allocations

each-shrinks : (given : Option ℕ) (purposes : List Purpose) (now : ℕ) (relays : List Relay) (s : State) → Shrinks s (fold (expired_allocation given purposes now) s relays)
each-shrinks given purposes now =
    all-expire Shrinks shrinks-self shrinks-then given purposes now (λ family. without-shrinks (is_of family)) (λ family. expired_in-shrinks family given purposes now)

pub expired_at-shrinks : (given : Option ℕ) (now : ℕ) (s : State) → Shrinks s (expired_at given now s)
expired_at-shrinks given now s = each-shrinks given (timed_out_purposes given s) now (allocations s) s

reserved-outlives : (now : ℕ) (g : Grant) → IsReserved g → Outlives now g
reserved-outlives now (Channel number peer (Reserved until)) is = tt
reserved-outlives now g is = absurd is

-- what remains of one allocation after it was processed
after-step : (given : Option ℕ) (purposes : List Purpose) (now : ℕ) (s : State) (a : Relay) (g : Grant) → (expired_allocation given purposes now s a).events ≡ []
    → Has g (expired_allocation given purposes now s a).grants → is_of (family_of a.relayed) g ≡ true → Outlives now g
after-step given purposes now s a g none h here = elim (cases_Bool (allocation_expires purposes now s a)) [
  | inl e ↦
      let stayed : Has g (without_grants (is_of (family_of a.relayed)) s).grants = rw e at h in
      let no : false ≡ true = sym (not-passed (is_of (family_of a.relayed)) g s.grants stayed) ∙ here in
      cc
  | inr e ↦ alive_in (family_of a.relayed) given purposes now s (rw e at none) g (rw e at h) here
]

outlives : (given : Option ℕ) (purposes : List Purpose) (now : ℕ) (relays : List Relay) (s : State) → (fold (expired_allocation given purposes now) s relays).events ≡ [] → (a : Relay) → Has a relays
    → (g : Grant) → Has g (fold (expired_allocation given purposes now) s relays).grants → is_of (family_of a.relayed) g ≡ true → Outlives now g
outlives given purposes now [] s none a inside g h here = absurd inside
outlives given purposes now (b ∷ bs) s none a (inr inside) g h here = outlives given purposes now bs (expired_allocation given purposes now s b) none a inside g h here
outlives given purposes now (b ∷ bs) s none a (inl e) g h here =
    let later = each-shrinks given purposes now bs (expired_allocation given purposes now s b) in
    elim (later.grants g h) [
      | inl there ↦ after-step given purposes now s b g (later.events none) there (rw e at here)
      | inr is ↦ reserved-outlives now g is
    ]

-- an allocation in use is removed at its expiry
stays-alive : (given : Option ℕ) (purposes : List Purpose) (now : ℕ) (s : State) (a : Relay) → Has (Allocation a) (expired_allocation given purposes now s a).grants → a.is_expired ≡ false
    → now < a.expiry
stays-alive given purposes now s a h used = elim (cases_Bool (allocation_expires purposes now s a)) [
  | inl e ↦
      let stayed : Has (Allocation a) (without_grants (is_of (family_of a.relayed)) s).grants = rw e at h in
      let no : false ≡ true = sym (not-passed (is_of (family_of a.relayed)) (Allocation a) s.grants stayed) ∙ same_family-self (family_of a.relayed) (family_of a.relayed) refl in
      cc
  | inr e ↦ leb-false a.expiry now (past (is_past now a) (is_for_any purposes (Allocation a)) (not (has_request (Allocation a) s)) (not a.is_expired)
      (leb (final_expiry a) now && s.config.timed_from_send) (rw used refl) e)
]
  where
    past : (p x y n z : Bool) → n ≡ true → (p && (x || y || n || z)) ≡ false → p ≡ false
    past false x y n z e f = refl
    past true true y n z e f = cc
    past true false true n z e f = cc
    past true false false true z e f = cc
    past true false false false z e f = cc

allocation-alive : (given : Option ℕ) (purposes : List Purpose) (now : ℕ) (relays : List Relay) (s : State) (a : Relay) → Has a relays
    → Has (Allocation a) (fold (expired_allocation given purposes now) s relays).grants → a.is_expired ≡ false → now < a.expiry
allocation-alive given purposes now [] s a inside h used = absurd inside
allocation-alive given purposes now (b ∷ bs) s a (inr inside) h used = allocation-alive given purposes now bs (expired_allocation given purposes now s b) a inside h used
allocation-alive given purposes now (b ∷ bs) s a (inl e) h used =
    let post = expired_allocation given purposes now s b in
    let there = back post (fold (expired_allocation given purposes now) post bs) (each-shrinks given purposes now bs post) (Allocation a) (λ is. is) h in
    stays-alive given purposes now s a (subst (λ x. Has (Allocation a) (expired_allocation given purposes now s x).grants) (sym e) there) used

-- all that remains after time has passed without an event has not expired
pub expired_at-alive : (given : Option ℕ) (now : ℕ) (s : State) → All (HasAllocation s) s.grants
    → (expired_at given now s).events ≡ [] → (g : Grant) → Has g (expired_at given now s).grants → Alive now g
expired_at-alive given now s stand none g h = by g h ((each-shrinks given purposes now (allocations s) s).grants g h)
  where
    purposes : List Purpose
    purposes = timed_out_purposes given s

    t : State
    t = expired_at given now s

    -- its allocation was processed
    stays : (g : Grant) → Has g t.grants → Has g s.grants → Outlives now g
    stays g h there = elim (cases_Option (find_allocation (family_of_grant g) s)) [
      | inl e ↦ let no : false ≡ true = rw e at (has-all (HasAllocation s) g s.grants stand there) in cc
      | inr (a, e) ↦
          let (listed, is) = has-found (λ a. same_family (family_of a.relayed) (family_of_grant g)) a (allocations s) e in
          outlives given purposes now (allocations s) s none a listed g h (same_family-self _ _ (sym (same_family-true _ _ is)))
    ]

    by : (g : Grant) → Has g t.grants → Has g s.grants ⊎ IsReserved g → Alive now g
    by (Allocation a) h (inl there) =
        allocation-alive given purposes now (allocations s) s a (filter_map-has as_allocation (Allocation a) a s.grants there refl) h
    by (Allocation a) h (inr is) = absurd is
    by (Connect peer) h o = tt
    by (Offer offer) h o = tt
    by g h (inl there) = stays g h there
    by g h (inr is) = reserved-outlives now g is

-- no offer is added
pub expired_at-no_offer : (s t : State) → Shrinks s t → next_offer s ≡ None → next_offer t ≡ None
expired_at-no_offer s t shrinks none = by (is_allocated t.phase) refl
  where
    -- the first unreported offer of each allocation
    offers : State → List DataOffer
    offers u = filter_map (λ a. first_unreported (family_of a.relayed) u) (allocations u)

    empty : {X : Type 0} (xs : List X) → ((x : X) → Has x xs → ⊥) → slice_get xs 0 ≡ None
    empty [] nothing = refl
    empty (y ∷ ys) nothing = absurd (nothing y (inl refl))

    -- of a list that has one, there is a first
    has-first : {X : Type 0} (xs : List X) (x : X) → Has x xs → (y : X) × (slice_get xs 0 ≡ Some y)
    has-first [] x h = absurd h
    has-first (y ∷ ys) x h = (y, refl)

    is_offer : (family : AddressFamily) (g : Grant) (offer : DataOffer) → unreported_in family g ≡ Some offer → IsReserved g → ⊥
    is_offer family (Channel number peer (Reserved until)) offer e is = none-some offer e
    is_offer family g offer e is = is

    is_allocation : (g : Grant) (a : Relay) → as_allocation g ≡ Some a → IsReserved g → ⊥
    is_allocation (Channel number peer (Reserved until)) a e is = none-some a e
    is_allocation g a e is = is

    -- if an offer is pending, one was so before
    before : (x : DataOffer) → Has x (offers t) → (y : DataOffer) × Has y (offers s)
    before x h =
        let (a, inside, gives) = has-filter_map (λ (a : Relay). first_unreported (family_of a.relayed) t) x (allocations t) h in
        let relay = has-filter_map as_allocation a t.grants inside in
        let relay_before = filter_map-has as_allocation relay.0 a s.grants (back s t shrinks relay.0 (is_allocation relay.0 a relay.2) relay.1) relay.2 in
        let family = family_of a.relayed in
        let grant = has-filter_map (unreported_in family) x t.grants (first-has x (filter_map (unreported_in family) t.grants) gives) in
        let there = back s t shrinks grant.0 (is_offer family grant.0 x grant.2) grant.1 in
        let (y, one) = has-first (filter_map (unreported_in family) s.grants) x (filter_map-has (unreported_in family) grant.0 x s.grants there grant.2) in
        (y, filter_map-has (λ (a : Relay). first_unreported (family_of a.relayed) s) a y (allocations s) relay_before one)

    nothing : is_allocated s.phase ≡ true → (x : DataOffer) → Has x (offers t) → ⊥
    nothing is x h =
        let (y, there) = before x h in
        let (z, e) = has-first (offers s) y there in
        none-some z (sym (rw is at none) ∙ e)

    by : (b : Bool) → is_allocated t.phase ≡ b → next_offer t ≡ None
    by false e = rw e refl
    by true e = rw e (empty (offers t) (nothing (rw shrinks.phase at e)))
