-- Grants that have allocations: what happens to lists of grants and of listings.
use Rattle.turn_client_laws.proofs.Common.{◌≡◌, ℕ, Bool, true, false, not, ◌&&◌, List, [], ◌∷◌, ◌++◌, map, filter, find, Some, None, inl, inr, refl, sym, subst, ap, ◌∙◌, is_some, list_any, and_from}
use Rattle.turn_client_laws.proofs.Common.{not_from_false, or_left, or_right, cases_Bool, IpAddr}
use Rattle.turn_client_laws.proofs.Machine.{TransportType, AddressFamily, IPV4, IPV6, same_family, State, Grant, Allocation, Permission, Channel, Connect, Offer, Connection, Relay, Pending}
use Rattle.turn_client_laws.proofs.Machine.{OwnConnect, Purpose, ForAllocation, ForRefresh, ForPermission, ForChannel, ForConnect, ForBind, Listing, find_allocation_to, as_allocation, find_allocation}
use Rattle.turn_client_laws.proofs.Machine.{allocations, family_of, family_of_grant, family_of_ip, is_for, same_transport, listings, Has, has-left, has-append, has-filter, filter-has, map-has}
use Rattle.turn_client_laws.proofs.Machine.{filter_map-has, has-found, cases_Option, allocation-there}
use Rattle.turn_client_laws.specs.LawsGrantAllocations.{asked_family}
use Rattle.turn_client_laws.proofs.GrantOriginLemmas.{has-mapped}

-- ---- families and tests

pub same_family-true : (a b : AddressFamily) → same_family a b ≡ true → a ≡ b
same_family-true IPV4 IPV6 e = cc
same_family-true IPV6 IPV4 e = cc
same_family-true a b e = refl

pub same_family-self : (a b : AddressFamily) → a ≡ b → same_family a b ≡ true
same_family-self IPV4 IPV6 e = cc
same_family-self IPV6 IPV4 e = cc
same_family-self a b e = refl

pub not-both : (b : Bool) → b ≡ true → not b ≡ true → ⊥
not-both true e f = cc
not-both false e f = cc

-- one that passes
pub any-has : {X : Type 0} (p : X → Bool) (xs : List X) → list_any p xs ≡ true → (x : X) × Has x xs × (p x ≡ true)
any-has p [] e = cc
any-has p (y ∷ xs) e = elim (cases_Bool (p y)) [
  | inl here ↦ (y, inl refl, here)
  | inr fails ↦ let (x, there, passes) = any-has p xs (rw fails at e) in (x, inr there, passes)
]

pub has-any : {X : Type 0} (p : X → Bool) (x : X) (xs : List X) → Has x xs → p x ≡ true → list_any p xs ≡ true
has-any p x [] h passes = absurd h
has-any p x (y ∷ xs) (inl e) passes = or_left (p y) (list_any p xs) (rw e at passes)
has-any p x (y ∷ xs) (inr h) passes = or_right (p y) (list_any p xs) (has-any p x xs h passes)

-- ---- what is kept

-- an allocation of this family
abbrev pub Room : List Grant → AddressFamily → Type 0
Room gs family = (a : Relay) × Has (Allocation a) gs × (family_of a.relayed ≡ family)

-- a grant that the request is for, in an allocation of this family
abbrev pub Asked : List Grant → Purpose → AddressFamily → Type 0
Asked gs p family = (g : Grant) × Has g gs × (is_for p g ≡ true) × (family_of_grant g ≡ family)

-- what a reply may add is requested in an allocation
abbrev pub Backed : List Grant → Purpose → Type 0
Backed gs p = (family : AddressFamily) → asked_family p ≡ Some family → Asked gs p family

pub record AreInAllocations (gs : List Grant) (ls : List Listing) : Type 0 where
  pub stands : (g : Grant) → Has g gs → Room gs (family_of_grant g)
  pub backed : (l : Listing) → Has l ls → Backed gs l.purpose

-- what has an allocation keeps it
abbrev pub KeepsInAllocations : State → State → Type 0
KeepsInAllocations s t = AreInAllocations s.grants s.listed → AreInAllocations t.grants t.listed

pub room-of : (family : AddressFamily) (s : State) → is_some (find_allocation family s) ≡ true → Room s.grants family
room-of family s h = elim (cases_Option (find_allocation family s)) [
  | inl none ↦ let no : false ≡ true = rw none at h in cc
  | inr (a, e) ↦
      let (there, is) = has-found (λ (r : Relay). same_family (family_of r.relayed) family) a (allocations s) e in
      (a, allocation-there a s.grants there, same_family-true (family_of a.relayed) family is)
]

-- an allocation that relays to this address
pub allocation-room : (transport : TransportType) (ip : IpAddr) (s : State) → is_some (find_allocation_to transport ip s) ≡ true → Room s.grants (family_of_ip ip)
allocation-room transport ip s e = room-of (family_of_ip ip) s (elim (cases_Bool (same_transport transport s.config.allocation_transport)) [
  | inl is ↦ rw is at e
  | inr not ↦ let no : false ≡ true = rw not at e in cc
])

find-some : {X : Type 0} (p : X → Bool) (x : X) (xs : List X) → Has x xs → p x ≡ true → is_some (find p xs) ≡ true
find-some p x [] h passes = absurd h
find-some p x (y ∷ xs) (inl e) passes = rw (rw e at passes) refl
find-some p x (y ∷ xs) (inr h) passes = elim (cases_Bool (p y)) [ inl here ↦ rw here refl | inr fails ↦ rw fails (find-some p x xs h passes) ]

pub of-room : (family : AddressFamily) (s : State) → Room s.grants family → is_some (find_allocation family s) ≡ true
of-room family s (a, there, is) =
    find-some (λ (r : Relay). same_family (family_of r.relayed) family) a (allocations s)
    (filter_map-has as_allocation (Allocation a) a s.grants there refl) (same_family-self (family_of a.relayed) family is)

-- ---- grants that stay

pub room-more : (gs hs : List Grant) → ((a : Relay) → Has (Allocation a) gs → Has (Allocation a) hs) → (family : AddressFamily) → Room gs family → Room hs family
room-more gs hs more family (a, there, is) = (a, more a there, is)

pub asked-more : (gs hs : List Grant) (p : Purpose) → ((g : Grant) → Has g gs → is_for p g ≡ true → Has g hs) → Backed gs p → Backed hs p
asked-more gs hs p more backed family e = let (g, there, for, is) = backed family e in (g, more g there for, for, is)

-- ---- listings are added and removed

pub in_allocations-filter : (gs : List Grant) (which : Listing → Bool) (ls : List Listing) → AreInAllocations gs ls → AreInAllocations gs (filter which ls)
in_allocations-filter gs which ls h = record { stands = h.stands; backed = λ l there. h.backed l (has-filter which l ls there).0 }

pub in_allocations-listings : (gs : List Grant) (ls : List Listing) (id : ℕ) (ps : List Purpose)
    → AreInAllocations gs ls → ((p : Purpose) → Has p ps → Backed gs p) → AreInAllocations gs (ls ++ listings id ps)
in_allocations-listings gs ls id ps h each = record {
  stands = h.stands;
  backed = λ l there. elim (has-append l ls (listings id ps) there) [
    | inl old ↦ h.backed l old
    | inr made ↦
        let (p, here, e) = has-mapped (λ (p : Purpose). record { id = id; purpose = p }) l ps made in
        subst (λ (x : Listing). Backed gs x.purpose) (sym e) (each p here)
  ];
}

-- ---- grants are added

pub in_allocations-grants : (gs hs : List Grant) (ls : List Listing) → AreInAllocations gs ls → ((g : Grant) → Has g hs → Room (gs ++ hs) (family_of_grant g)) → AreInAllocations (gs ++ hs) ls
in_allocations-grants gs hs ls h each = record {
  stands = λ g there. elim (has-append g gs hs there) [
    | inl old ↦ room-more gs (gs ++ hs) (λ a there. has-left (Allocation a) gs hs there) (family_of_grant g) (h.stands g old)
    | inr new ↦ each g new
  ];
  backed = λ l there. asked-more gs (gs ++ hs) l.purpose (λ g here for. has-left g gs hs here) (h.backed l there);
}

-- one grant more, of a family that has an allocation
pub in_allocations-grant : (gs : List Grant) (g : Grant) (ls : List Listing) → AreInAllocations gs ls → Room gs (family_of_grant g) → AreInAllocations (gs ++ g ∷ []) ls
in_allocations-grant gs g ls h room = in_allocations-grants gs (g ∷ []) ls h (λ x there. elim there [
  | inl e ↦ subst (λ (y : Grant). Room (gs ++ g ∷ []) (family_of_grant y)) (sym e) (room-more gs (gs ++ g ∷ []) (λ a there. has-left (Allocation a) gs (g ∷ []) there) (family_of_grant g) room)
  | inr none ↦ absurd none
])

-- ---- grants are removed

-- an allocation is removed only with all grants in it
abbrev pub Spares : (Grant → Bool) → Type 0
Spares which = (a : Relay) (g : Grant) → which (Allocation a) ≡ true → family_of a.relayed ≡ family_of_grant g → which g ≡ true

-- no allocation is removed
abbrev pub SparesAll : (Grant → Bool) → Type 0
SparesAll which = (a : Relay) → which (Allocation a) ≡ false

pub all-spared : (which : Grant → Bool) → SparesAll which → Spares which
all-spared which spares a g goes same = absurd (not-both (which (Allocation a)) goes (not_from_false (which (Allocation a)) (spares a)))

pub stays : (which : Grant → Bool) (g : Grant) (gs : List Grant) → Has g gs → which g ≡ false → Has g (filter (λ x. not (which x)) gs)
stays which g gs there kept = filter-has (λ x. not (which x)) g gs there (not_from_false (which g) kept)

pub room-without : (which : Grant → Bool) → SparesAll which → (gs : List Grant) (family : AddressFamily) → Room gs family → Room (filter (λ x. not (which x)) gs) family
room-without which spares gs = room-more gs (filter (λ x. not (which x)) gs) (λ a there. stays which (Allocation a) gs there (spares a))

pub in_allocations-without : (which : Grant → Bool) → Spares which → (gs : List Grant) (ls : List Listing) → AreInAllocations gs ls
    → AreInAllocations (filter (λ g. not (which g)) gs) (filter (λ l. not (list_any (λ g. which g && is_for l.purpose g) gs)) ls)
in_allocations-without which spares gs ls h = record { stands = stands; backed = backed }
  where
    stands : (g : Grant) → Has g (filter (λ g. not (which g)) gs) → Room (filter (λ g. not (which g)) gs) (family_of_grant g)
    stands g there =
        let (was, keeps) = has-filter (λ g. not (which g)) g gs there in
        let (a, here, same) = h.stands g was in
        elim (cases_Bool (which (Allocation a))) [
          | inl e ↦ absurd (not-both (which g) (spares a g e same) keeps)
          | inr e ↦ (a, stays which (Allocation a) gs here e, same)
        ]

    backed : (l : Listing) → Has l (filter (λ l. not (list_any (λ g. which g && is_for l.purpose g) gs)) ls) → Backed (filter (λ g. not (which g)) gs) l.purpose
    backed l there =
        let of = λ (g : Grant). which g && is_for l.purpose g in
        let (was, keeps) = has-filter (λ l. not (list_any (λ g. which g && is_for l.purpose g) gs)) l ls there in
        asked-more gs (filter (λ g. not (which g)) gs) l.purpose
        (λ g here for. elim (cases_Bool (which g)) [
          | inl e ↦ absurd (not-both (list_any of gs) (has-any of g gs here (and_from (which g) (is_for l.purpose g) e for)) keeps)
          | inr e ↦ stays which g gs here e
        ])
        (h.backed l was)

-- ---- grants change

-- the relevant parts of a grant here: its kind, its addresses and its number
abbrev pub shape : Grant → Grant
shape (Allocation a) = Allocation (record { relayed = a.relayed; first_lifetime = 0; expiry = 0; is_expired = false })
shape (Permission ip progress) = Permission ip (Pending true)
shape (Channel number peer progress) = Channel number peer (Pending true)
shape (Connect peer) = Connect peer
shape (Offer offer) = Offer (record { connection_id = 0; peer = offer.peer; is_reported = false; origin = OwnConnect })
shape (Connection c) = Connection (record c { deadline = None })

shape-family : (g : Grant) → family_of_grant (shape g) ≡ family_of_grant g
shape-family (Allocation a) = refl
shape-family g = refl

shape-for : (p : Purpose) (family : AddressFamily) → asked_family p ≡ Some family → (g : Grant) → is_for p (shape g) ≡ is_for p g
shape-for ForAllocation family e g = cc
shape-for (ForRefresh of lifetime) family e g = cc
shape-for (ForPermission ip) family e g = cc
shape-for (ForBind local peer id) family e g = cc
shape-for (ForChannel number peer) family e (Allocation a) = refl
shape-for (ForConnect peer) family e (Allocation a) = refl
shape-for p family e g = refl

-- what has the shape of an allocation is one, of the same address
shape-allocation : (a : Relay) (g : Grant) → shape g ≡ shape (Allocation a) → (b : Relay) × (g ≡ Allocation b) × (family_of b.relayed ≡ family_of a.relayed)
shape-allocation a (Allocation b) e = (b, refl, ap family_of_grant e)
shape-allocation a g e = cc

shaped : (gs hs : List Grant) → map shape gs ≡ map shape hs → (g : Grant) → Has g gs → (h : Grant) × Has h hs × (shape h ≡ shape g)
shaped gs hs e g there =
    let (h, here, same) = has-mapped shape (shape g) hs (subst (λ (l : List Grant). Has (shape g) l) e (map-has shape g gs there)) in
    (h, here, sym same)

pub room-shaped : (gs hs : List Grant) → map shape gs ≡ map shape hs → (family : AddressFamily) → Room gs family → Room hs family
room-shaped gs hs e family (a, there, is) =
    let (h, here, same) = shaped gs hs e (Allocation a) there in
    let (b, it, as_was) = shape-allocation a h same in
    (b, subst (λ (x : Grant). Has x hs) it here, as_was ∙ is)

pub in_allocations-shaped : (gs hs : List Grant) (ls : List Listing) → map shape gs ≡ map shape hs → AreInAllocations gs ls → AreInAllocations hs ls
in_allocations-shaped gs hs ls e h = record { stands = stands; backed = backed }
  where
    like : (x g : Grant) → shape x ≡ shape g → family_of_grant x ≡ family_of_grant g
    like x g same = sym (shape-family x) ∙ (ap family_of_grant same ∙ shape-family g)

    stands : (g : Grant) → Has g hs → Room hs (family_of_grant g)
    stands g there =
        let (x, was, same) = shaped hs gs (sym e) g there in
        subst (λ (f : AddressFamily). Room hs f) (like x g same) (room-shaped gs hs e (family_of_grant x) (h.stands x was))

    backed : (l : Listing) → Has l ls → Backed hs l.purpose
    backed l there family asked =
        let (g, was, for, is) = h.backed l there family asked in
        let (x, here, same) = shaped gs hs e g was in
        (x, here, sym (shape-for l.purpose family asked x) ∙ (ap (is_for l.purpose) same ∙ (shape-for l.purpose family asked g ∙ for)), like x g same ∙ is)
