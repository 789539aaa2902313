-- Grants are for different things when they are added and removed.
use Rattle.turn_client_laws.proofs.Common.{◌≡◌, ℕ, Bool, true, false, List, [], ◌∷◌, ◌++◌, map, filter, filter_map, refl, sym, ◌∙◌, inr, inl, is_some, find, slice_get, list_any, IsDistinct}
use Rattle.turn_client_laws.proofs.Common.{AllByRecursion, or_parts, cases_Bool, IpAddr, SocketAddr}
use Rattle.turn_client_laws.proofs.Machine.{same_address, Grant, Allocation, Permission, Channel, Connect, Offer, Connection, Progress, DataConnection, DataOffer, as_connection, is_channel_of}
use Rattle.turn_client_laws.proofs.Machine.{is_connect_to, is_connection_from, is_permission_of, permission_progress, same_ip, without_first}
use Rattle.turn_client_laws.specs.LawsDoubles.{is_double}
use Rattle.turn_client_laws.proofs.NumberLemmas.{all-last}
use Rattle.turn_client_laws.proofs.Edits.{outline}

-- no two of them are for the same
abbrev pub AreSingle : List Grant → Type 0
AreSingle grants = IsDistinct is_double grants

-- the first has no double among the others
abbrev pub IsSingle : Grant → List Grant → Type 0
IsSingle g grants = AllByRecursion (λ h. is_double g h ≡ false) grants

all-filter : (P : Grant → Type 0) (p : Grant → Bool) (gs : List Grant) → AllByRecursion P gs → AllByRecursion P (filter p gs)
all-filter P p [] h = h
all-filter P p (g ∷ gs) h = elim (cases_Bool (p g)) [ inl e ↦ rw e (h.0, all-filter P p gs h.1) | inr e ↦ rw e (all-filter P p gs h.1) ]

pub single-filter : (p : Grant → Bool) (gs : List Grant) → AreSingle gs → AreSingle (filter p gs)
unfolding IsDistinct
single-filter p [] h = h
single-filter p (g ∷ gs) h = elim (cases_Bool (p g)) [
  | inl e ↦ rw e (all-filter (λ x. is_double g x ≡ false) p gs h.0, single-filter p gs h.1)
  | inr e ↦ rw e (single-filter p gs h.1)
]

-- ---- changes that leave what a grant is for

pub record IsAlike (g h : Grant) : Type 0 where
  pub front : (x : Grant) → is_double g x ≡ is_double h x
  pub behind : (x : Grant) → is_double x g ≡ is_double x h

-- an offer has no double
pub offer-single : (offer : DataOffer) (x : Grant) → is_double x (Offer offer) ≡ false
offer-single offer (Allocation a) = refl
offer-single offer x = refl

-- no time, and not whether it was reported
pub outline-alike : (g : Grant) → IsAlike (outline g) g
outline-alike g = record { front = front g; behind = behind g }
  where
    front : (g x : Grant) → is_double (outline g) x ≡ is_double g x
    front (Allocation a) (Allocation b) = refl
    front (Permission ip progress) (Allocation b) = refl
    front (Channel number peer progress) (Allocation b) = refl
    front (Connection c) (Allocation b) = refl
    front g x = refl

    behind : (g x : Grant) → is_double x (outline g) ≡ is_double x g
    behind (Offer offer) x = offer-single _ x ∙ sym (offer-single offer x)
    behind (Allocation a) (Allocation b) = refl
    behind (Permission ip progress) (Allocation b) = refl
    behind (Channel number peer progress) (Allocation b) = refl
    behind (Connection c) (Allocation b) = refl
    behind g x = refl

single-mapped : (f : Grant → Grant) → ((g : Grant) → IsAlike (f g) g) → (g : Grant) (gs : List Grant) → IsSingle g gs → IsSingle (f g) (map f gs)
single-mapped f alike g [] h = h
single-mapped f alike g (x ∷ gs) h = ((alike g).front (f x) ∙ (alike x).behind g ∙ h.0, single-mapped f alike g gs h.1)

pub single-map : (f : Grant → Grant) → ((g : Grant) → IsAlike (f g) g) → (gs : List Grant) → AreSingle gs → AreSingle (map f gs)
unfolding IsDistinct
single-map f alike [] h = h
single-map f alike (g ∷ gs) h = (single-mapped f alike g gs h.0, single-map f alike gs h.1)

single-unmapped : (f : Grant → Grant) → ((g : Grant) → IsAlike (f g) g) → (g : Grant) (gs : List Grant) → IsSingle (f g) (map f gs) → IsSingle g gs
single-unmapped f alike g [] h = h
single-unmapped f alike g (x ∷ gs) h = (sym ((alike g).front x) ∙ (sym ((alike x).behind (f g)) ∙ h.0), single-unmapped f alike g gs h.1)

pub single-unmap : (f : Grant → Grant) → ((g : Grant) → IsAlike (f g) g) → (gs : List Grant) → AreSingle (map f gs) → AreSingle gs
unfolding IsDistinct
single-unmap f alike [] h = h
single-unmap f alike (g ∷ gs) h = (single-unmapped f alike g gs h.0, single-unmap f alike gs h.1)

-- ---- one more

-- the last has no double before it
abbrev pub IsNew : Grant → List Grant → Type 0
IsNew g grants = AllByRecursion (λ x. is_double x g ≡ false) grants

pub single-last : (g : Grant) (gs : List Grant) → IsNew g gs → AreSingle gs → AreSingle (gs ++ g ∷ [])
unfolding IsDistinct
single-last g [] new h = (tt, tt)
single-last g (x ∷ gs) new h = (all-last (λ y. is_double x y ≡ false) g gs new.0 h.0, single-last g gs new.1 h.1)

-- no grant of the kind of this one exists
pub none-IsNew : (which : Grant → Bool) (g : Grant) → ((x : Grant) → is_double x g ≡ which x) → (gs : List Grant) → list_any which gs ≡ false → IsNew g gs
none-IsNew which g is [] none = tt
none-IsNew which g is (x ∷ gs) none = let parts = or_parts (which x) (list_any which gs) none in (is x ∙ parts.0, none-IsNew which g is gs parts.1)

pub offer-IsNew : (offer : DataOffer) (gs : List Grant) → IsNew (Offer offer) gs
offer-IsNew offer [] = tt
offer-IsNew offer (x ∷ gs) = (offer-single offer x, offer-IsNew offer gs)

pub permission-which : (ip : IpAddr) (p : Progress) (x : Grant) → is_double x (Permission ip p) ≡ is_permission_of ip x
permission-which ip p (Allocation a) = refl
permission-which ip p x = refl

pub channel-which : (n : ℕ) (to : SocketAddr) (p : Progress) (x : Grant) → is_double x (Channel n to p) ≡ is_channel_of n x
channel-which n to p (Allocation a) = refl
channel-which n to p x = refl

pub connect-which : (peer : SocketAddr) (x : Grant) → is_double x (Connect peer) ≡ is_connect_to peer x
connect-which peer (Allocation a) = refl
connect-which peer x = refl

pub connection-which : (d : DataConnection) (x : Grant) → is_double x (Connection d) ≡ is_connection_from d.local x
connection-which d (Allocation a) = refl
connection-which d x = refl

-- ---- what a look-up did not find

pub no-permission : (ip : IpAddr) (gs : List Grant) → is_some (slice_get (filter_map (permission_progress ip) gs) 0) ≡ false → list_any (is_permission_of ip) gs ≡ false
no-permission ip [] none = refl
no-permission ip (Permission other progress ∷ gs) none = elim (cases_Bool (same_ip other ip)) [
  | inl e ↦ let no : true ≡ false = rw e at none in cc
  | inr e ↦ rw e (no-permission ip gs (rw e at none))
]
no-permission ip (_ ∷ gs) none = no-permission ip gs none

pub no-connection : (local : SocketAddr) (gs : List Grant) → is_some (find (λ c. same_address c.local local) (filter_map as_connection gs)) ≡ false → list_any (is_connection_from local) gs ≡ false
no-connection local [] none = refl
no-connection local (Connection c ∷ gs) none = elim (cases_Bool (same_address c.local local)) [
  | inl e ↦ let no : true ≡ false = rw e at none in cc
  | inr e ↦ rw e (no-connection local gs (rw e at none))
]
no-connection local (_ ∷ gs) none = no-connection local gs none

-- ---- offers are removed

all-without_first : (P : Grant → Type 0) (which : Grant → Bool) (gs : List Grant) → AllByRecursion P gs → AllByRecursion P (without_first which gs)
all-without_first P which [] h = h
all-without_first P which (g ∷ gs) h = elim (cases_Bool (which g)) [ inl e ↦ rw e h.1 | inr e ↦ rw e (h.0, all-without_first P which gs h.1) ]

pub single-without_first : (which : Grant → Bool) (gs : List Grant) → AreSingle gs → AreSingle (without_first which gs)
unfolding IsDistinct
single-without_first which [] h = h
single-without_first which (g ∷ gs) h = elim (cases_Bool (which g)) [
  | inl e ↦ rw e h.1
  | inr e ↦ rw e (all-without_first (λ x. is_double g x ≡ false) which gs h.0, single-without_first which gs h.1)
]

pub none-without_first : (p which : Grant → Bool) (gs : List Grant) → list_any p gs ≡ false → list_any p (without_first which gs) ≡ false
none-without_first p which [] none = refl
none-without_first p which (g ∷ gs) none =
    let (here, later) = or_parts (p g) (list_any p gs) none in
    elim (cases_Bool (which g)) [ inl e ↦ rw e later | inr e ↦ rw (e, here, none-without_first p which gs later) refl ]
