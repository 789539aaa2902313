-- All grants have allocations, and so does what a reply may add.
use Rattle.turn_client_laws.proofs.Common.{◌≡◌, ℕ, Bool, true, false, eqb, ◌&&◌, List, [], ◌∷◌, ◌++◌, map, filter, filter_map, Option, Some, None, inl, inr, refl, sym, subst, ap, ◌∙◌, IfSome}
use Rattle.turn_client_laws.proofs.Common.{slice_get, and_from, and_parts, cond_some, none-some, same_Some, IpAddr, SocketAddr}
use Rattle.turn_client_laws.proofs.Machine.{TransportType, AddressFamily, same_address, Config, same_family, AllHaveAllocation, HasAllocation, State, initial, DataOffer, Grant, Allocation, Permission}
use Rattle.turn_client_laws.proofs.Machine.{Channel, Connect, Offer, Connection, Progress, Pending, Active, Reserved, Origin, OwnConnect, Purpose, ForAllocation, ForRefresh, ForPermission, ForChannel}
use Rattle.turn_client_laws.proofs.Machine.{ForConnect, ForBind, Listing, family_of, family_of_grant, family_of_ip, is_channel_of, is_connect_to, is_for, is_of, is_permission_of, as_offer}
use Rattle.turn_client_laws.proofs.Machine.{permission_state, permission_progress, purposes_of, same_ip, with_grant, without_grants, new_allocation, relayed_in, taken_addresses, is_offer_of}
use Rattle.turn_client_laws.proofs.Machine.{offer_origin, offer_taken, Leaves, Call, same_ip-true, Has, all-has, has-all, has-filter, has-filter_map, has-right, cases_Option, first-has}
use Rattle.std.specs.declared.net.socket_addr.SocketAddr.TheVariants.{V4, V6}
use Rattle.turn_client_laws.specs.LawsGrantAllocations.{asked_family, IsAskedIn, ReplyHasAllocation, GrantsHaveAllocations}
use Rattle.turn_client_laws.specs.LawsStates.{is_asked_by}
use Rattle.turn_client_laws.proofs.InAllocationLemmas.{Backed, AreInAllocations, KeepsInAllocations, Room, Spares, SparesAll, all-spared, any-has, asked-more, has-any, in_allocations-filter}
use Rattle.turn_client_laws.proofs.InAllocationLemmas.{in_allocations-grant, in_allocations-grants, in_allocations-listings, in_allocations-shaped, in_allocations-without, of-room, room-more, room-of}
use Rattle.turn_client_laws.proofs.InAllocationLemmas.{room-without, same_family-self, same_family-true, shape}
use Rattle.turn_client_laws.proofs.TakenOfferLemmas.{no-offer, stays-first, was-first}
use Rattle.turn_client_laws.proofs.GrantOriginLemmas.{has-mapped}
use Rattle.turn_client_laws.proofs.Edits.{IsAskable, KeepsAllEdits, KeepsEdits, aged-outlines, outline, rest-ignored}
use Rattle.turn_client_laws.proofs.EditsOfMessages.{purposes-listed}
use Rattle.turn_client_laws.proofs.EditsOfCalls.{leaves-walk}

-- ---- grants are added and removed

without-stays_in_allocations : (which : Grant → Bool) → Spares which → (s : State) → KeepsInAllocations s (without_grants which s)
without-stays_in_allocations which spares s h = in_allocations-without which spares s.grants s.listed h

with_grant-stays_in_allocations : (g : Grant) (s : State) → Room s.grants (family_of_grant g) → KeepsInAllocations s (with_grant g s)
with_grant-stays_in_allocations g s room h = in_allocations-grant s.grants g s.listed h room

-- one of a family that has an allocation replaces these
replaced-stays_in_allocations : (which : Grant → Bool) → SparesAll which → (g : Grant) (s : State)
    → (AreInAllocations s.grants s.listed → Room s.grants (family_of_grant g)) → KeepsInAllocations s (with_grant g (without_grants which s))
replaced-stays_in_allocations which spares g s room h =
    with_grant-stays_in_allocations g (without_grants which s) (room-without which spares s.grants (family_of_grant g) (room h)) (without-stays_in_allocations which (all-spared which spares) s h)

family-spares : (family : AddressFamily) → Spares (is_of family)
family-spares family a g goes same = subst (λ (f : AddressFamily). same_family f family ≡ true) same goes

taken-room : (id : ℕ) (peer : SocketAddr) (s : State) (family : AddressFamily) → Room s.grants family → Room (offer_taken id peer s).grants family
taken-room id peer s = room-more s.grants _ (λ a there. stays-first (is_offer_of id peer) (Allocation a) s.grants there refl)

taken-stays_in_allocations : (id : ℕ) (peer : SocketAddr) (s : State) → KeepsInAllocations s (offer_taken id peer s)
taken-stays_in_allocations id peer s h = record {
  stands = λ g there. taken-room id peer s (family_of_grant g) (h.stands g (was-first (is_offer_of id peer) g s.grants there));
  backed = λ l there. asked-more s.grants _ l.purpose (λ g here for. stays-first (is_offer_of id peer) g s.grants here (no-offer id peer l.purpose g for)) (h.backed l there);
}

same_address-family : (a b : SocketAddr) → same_address a b ≡ true → family_of a ≡ family_of b
same_address-family (V4 a) (V6 b) e = cc
same_address-family (V6 a) (V4 b) e = cc
same_address-family a b e = refl

-- an offer that exists has an allocation
offer-room : (id : ℕ) (peer : SocketAddr) (origin : Origin) (s : State) → offer_origin id peer s ≡ Some origin → AreInAllocations s.grants s.listed → Room s.grants (family_of peer)
offer-room id peer origin s e h = elim (cases_Option (slice_get (filter_map as_offer (filter (is_offer_of id peer) s.grants)) 0)) [
  | inl f ↦ absurd (none-some origin (rw f at e))
  | inr (offer, f) ↦
      let (g, there, reads) = has-filter_map as_offer offer (filter (is_offer_of id peer) s.grants) (first-has offer _ f) in
      let (was, is) = has-filter (is_offer_of id peer) g s.grants there in
      of offer g reads is (h.stands g was)
]
  where
    of : (offer : DataOffer) (g : Grant) → as_offer g ≡ Some offer → is_offer_of id peer g ≡ true → Room s.grants (family_of_grant g) → Room s.grants (family_of peer)
    of offer (Offer other) reads is room =
        subst (λ (f : AddressFamily). Room s.grants f) (same_address-family other.peer peer (and_parts (eqb other.connection_id id) (same_address other.peer peer) is).1) room
    of offer g reads is room = cc

-- a permission that exists has an allocation
permission-room : (ip : IpAddr) (p : Progress) (s : State) → permission_state ip s ≡ Some p → AreInAllocations s.grants s.listed → Room s.grants (family_of_ip ip)
permission-room ip p s e h =
    let (g, there, reads) = has-filter_map (permission_progress ip) p s.grants (first-has p (filter_map (permission_progress ip) s.grants) e) in
    of g reads (h.stands g there)
  where
    of : (g : Grant) → permission_progress ip g ≡ Some p → Room s.grants (family_of_grant g) → Room s.grants (family_of_ip ip)
    of (Permission other progress) reads room =
        subst (λ (x : IpAddr). Room s.grants (family_of_ip x)) (same_ip-true other ip (cond_some (same_ip other ip) progress p reads).0) room
    of g reads room = cc

-- ---- grants change

shape-outline : (g : Grant) → shape (outline g) ≡ shape g
shape-outline (Allocation a) = refl
shape-outline g = refl

shapes-outline : (gs : List Grant) → map shape (map outline gs) ≡ map shape gs
shapes-outline [] = refl
shapes-outline (g ∷ gs) = rw (shape-outline g, shapes-outline gs) refl

reshaped-stays_in_allocations : (grants : List Grant) (s : State) → map outline grants ≡ map outline s.grants → KeepsInAllocations s (record s { grants = grants })
reshaped-stays_in_allocations grants s e = in_allocations-shaped s.grants grants s.listed (sym (shapes-outline s.grants) ∙ (ap (map shape) (sym e) ∙ shapes-outline grants))

-- ---- requests

-- no channel and no connection is requested
unbacked : (gs : List Grant) (p : Purpose) → asked_family p ≡ None → Backed gs p
unbacked gs p e family asked = absurd (none-some family (sym e ∙ asked))

asked-backed : (gs : List Grant) (p : Purpose) (g : Grant) → Has g gs → is_asked_by p g ≡ true → Backed gs p
asked-backed gs ForAllocation g there is = unbacked gs ForAllocation refl
asked-backed gs (ForRefresh family lifetime) g there is = unbacked gs (ForRefresh family lifetime) refl
asked-backed gs (ForPermission ip) g there is = unbacked gs (ForPermission ip) refl
asked-backed gs (ForBind local peer id) g there is = unbacked gs (ForBind local peer id) refl
asked-backed gs (ForChannel number peer) (Channel other to progress) there is = λ family e.
    let (same, ends) = and_parts (eqb other number) (same_address to peer) is in
    (Channel other to progress, there, same, same_address-family to peer ends ∙ same_Some (family_of peer) family e)
asked-backed gs (ForConnect peer) (Connect to) there is = λ family e. (Connect to, there, is, same_address-family to peer is ∙ same_Some (family_of peer) family e)
asked-backed gs p g there is = cc

askable-backed : (s : State) (p : Purpose) → AreInAllocations s.grants s.listed → IsAskable s p → Backed s.grants p
askable-backed s p h (inl e) = subst (λ (x : Purpose). Backed s.grants x) (sym e) (unbacked s.grants ForAllocation refl)
askable-backed s p h (inr (inl asked)) = let (g, there, is) = any-has (is_asked_by p) s.grants asked in asked-backed s.grants p g there is
askable-backed s p h (inr (inr (l, there, e))) = subst (λ (x : Purpose). Backed s.grants x) e (h.backed l there)

-- the peer of a CONNECT that is listed has an allocation
connect-room : (id : ℕ) (peer : SocketAddr) (s : State) → Has (ForConnect peer) (purposes_of id s) → AreInAllocations s.grants s.listed → Room s.grants (family_of peer)
connect-room id peer s listed h =
    let (l, there, e) = purposes-listed id s (ForConnect peer) listed in
    let (g, here, for, is) = subst (λ (x : Purpose). Backed s.grants x) e (h.backed l there) (family_of peer) refl in
    subst (λ (f : AddressFamily). Room s.grants f) is (h.stands g here)

-- the server allocates
allocates-stays_in_allocations : (lifetime now : ℕ) (addresses : List SocketAddr) (s : State)
    → AreInAllocations s.grants s.listed → AreInAllocations (s.grants ++ map (new_allocation lifetime now) addresses) s.listed
allocates-stays_in_allocations lifetime now addresses s h = in_allocations-grants s.grants made s.listed h own
  where
    made : List Grant
    made = map (new_allocation lifetime now) addresses

    own : (g : Grant) → Has g made → Room (s.grants ++ made) (family_of_grant g)
    own g there =
        let (address, here, is) = has-mapped (new_allocation lifetime now) g addresses there in
        (_, has-right (new_allocation lifetime now address) s.grants made (subst (λ (x : Grant). Has x made) is there), ap family_of_grant (sym is))

-- ---- each edit

KeepsInAllocations-KeepsEdits : KeepsEdits KeepsInAllocations
KeepsInAllocations-KeepsEdits = record {
  rest = rest-ignored KeepsInAllocations (λ s t h. h) (λ s t u first second h. second (first h));
  asks = λ id text purposes now s begun askable spelled h. in_allocations-listings s.grants s.listed id purposes h (λ p there. askable-backed s p h (askable p there));
  unlists = λ which s. in_allocations-filter s.grants which s.listed;
  removes = λ which s spares. without-stays_in_allocations which (all-spared which spares) s;
  removes_family = λ family s. without-stays_in_allocations (is_of family) (family-spares family) s;
  takes_offer = taken-stays_in_allocations;
  ages = λ grants s e. reshaped-stays_in_allocations grants s (aged-outlines grants s.grants e);
  permission = λ ip s phase room none. with_grant-stays_in_allocations (Permission ip (Pending true)) s room;
  channel = λ number peer s phase room none within. with_grant-stays_in_allocations (Channel number peer (Pending true)) s room;
  connect = λ peer s phase room none. with_grant-stays_in_allocations (Connect peer) s room;
  connection = λ id c origin s phase offer none waits h.
      with_grant-stays_in_allocations (Connection c) (offer_taken id c.peer s)
      (taken-room id c.peer s (family_of c.peer) (offer-room id c.peer origin s offer h)) (taken-stays_in_allocations id c.peer s h);
  reserves = λ number peer was until s there. replaced-stays_in_allocations (is_channel_of number) (λ a. refl) (Channel number peer (Reserved until)) s (λ h. h.stands (Channel number peer was) there);
}

KeepsInAllocations-KeepsAllEdits : KeepsAllEdits KeepsInAllocations
KeepsInAllocations-KeepsAllEdits = record {
  edits = KeepsInAllocations-KeepsEdits;
  reshapes = reshaped-stays_in_allocations;
  rebinds = λ number peer was progress s there. replaced-stays_in_allocations (is_channel_of number) (λ a. refl) (Channel number peer progress) s (λ h. h.stands (Channel number peer was) there);
  holds = λ message d s e h. h;
  counts = λ s held few h. h;
  resets = λ accepted s h. h;
  empties = λ s. without-stays_in_allocations (λ g. true) (λ a g goes same. refl) s;
  allocates = λ message lifetime now s e none. allocates-stays_in_allocations lifetime now (taken_addresses s.families (relayed_in message)) s;
  permits = λ ip is_kept expiry s is. replaced-stays_in_allocations (is_permission_of ip) (λ a. refl) (Permission ip (Active expiry)) s (permission-room ip (Pending is_kept) s is);
  connects = λ id connection_id peer s t since stay granted listed h.
      replaced-stays_in_allocations (is_connect_to peer) (λ a. refl) (Offer (record { connection_id = connection_id; peer = peer; is_reported = false; origin = OwnConnect })) t
      (λ k. room-more s.grants t.grants stay (family_of peer) (connect-room id peer s listed h)) (since h);
  offers = λ id peer origin s room few. with_grant-stays_in_allocations (Offer (record { connection_id = id; peer = peer; is_reported = false; origin = origin })) s room;
}

-- ---- the statement of the law

if-some : {X : Type 0} (P : X → Type 0) (o : Option X) (x : X) → IfSome o P → o ≡ Some x → P x
if-some P None x p e = absurd (none-some x e)
if-some P (Some y) x p e = subst P (same_Some y x e) p

some-if : {X : Type 0} (P : X → Type 0) (o : Option X) → ((x : X) → o ≡ Some x → P x) → IfSome o P
some-if P None each = tt
some-if P (Some x) each = each x refl

GrantsHaveAllocations-in_allocations : (s : State) → GrantsHaveAllocations s → AreInAllocations s.grants s.listed
GrantsHaveAllocations-in_allocations s (stand, back) = record { stands = λ g there. room-of (family_of_grant g) s (has-all (HasAllocation s) g s.grants stand there); backed = backed }
  where
    backed : (l : Listing) → Has l s.listed → Backed s.grants l.purpose
    backed l there family e =
        let asked = if-some (IsAskedIn s l.purpose) (asked_family l.purpose) family (has-all (ReplyHasAllocation s) l s.listed back there) e in
        let (g, here, passes) = any-has (λ (x : Grant). is_for l.purpose x && is_of family x) s.grants asked in
        let (for, is) = and_parts (is_for l.purpose g) (is_of family g) passes in
        (g, here, for, same_family-true (family_of_grant g) family is)

in_allocations-GrantsHaveAllocations : (s : State) → AreInAllocations s.grants s.listed → GrantsHaveAllocations s
in_allocations-GrantsHaveAllocations s h = (
  all-has (HasAllocation s) s.grants (λ g there. of-room (family_of_grant g) s (h.stands g there)),
  all-has (ReplyHasAllocation s) s.listed (λ l there. some-if (IsAskedIn s l.purpose) (asked_family l.purpose) (backed l there)),
)
  where
    backed : (l : Listing) → Has l s.listed → (family : AddressFamily) → asked_family l.purpose ≡ Some family → IsAskedIn s l.purpose family
    backed l there family e =
        let (g, here, for, is) = h.backed l there family e in
        has-any (λ (x : Grant). is_for l.purpose x && is_of family x) g s.grants here
        (and_from (is_for l.purpose g) (is_of family g) for (same_family-self (family_of_grant g) family is))

pub initial-GrantsHaveAllocations : (transport : TransportType) (local remote : SocketAddr) (config : Config) (seed : List ℕ) → GrantsHaveAllocations (initial transport local remote config seed)
initial-GrantsHaveAllocations transport local remote config seed =
    let s = initial transport local remote config seed in
    in_allocations-GrantsHaveAllocations s (record { stands = λ g none. absurd none; backed = λ l none. absurd none })

pub leaves-GrantsHaveAllocations : (call : Call) (s t : State) → Leaves call s t → GrantsHaveAllocations s → GrantsHaveAllocations t
leaves-GrantsHaveAllocations call s t leaves h =
    in_allocations-GrantsHaveAllocations t (leaves-walk KeepsInAllocations KeepsInAllocations-KeepsAllEdits (λ s streams h. h) call s t leaves (GrantsHaveAllocations-in_allocations s h))

pub GrantsHaveAllocations-AllHaveAllocation : (s : State) → GrantsHaveAllocations s → AllHaveAllocation s
GrantsHaveAllocations-AllHaveAllocation s h = h.0
