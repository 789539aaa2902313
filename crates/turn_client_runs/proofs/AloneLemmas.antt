-- The first grant of a kind is the only one.
use Rattle.turn_client_laws.proofs.Common.{◌≡◌, ℕ, Bool, true, false, eqb, List, [], ◌∷◌, filter_map, find, slice_get, Option, Some, None, refl, sym, subst, ◌∙◌, inl, inr, IsDistinct, AllByRecursion, none-some}
use Rattle.turn_client_laws.proofs.Common.{Contains, cases_Bool, eq-eqb, IpAddr, SocketAddr}
use Rattle.turn_client_laws.proofs.Machine.{AddressFamily, same_family, State, Grant, Allocation, Permission, Channel, Active, Lease, Progress, Relay, Has, cases_Option, as_allocation, channel_peer, first-has, has-filter_map}
use Rattle.turn_client_laws.proofs.Machine.{family_of, find_allocation, first_in, has_active_permission, is_active, permission_progress, permission_state, same_ip, same_ip-true}
use Rattle.turn_client_laws.specs.LawsDoubles.{HasNoDoubles, is_double}
use Rattle.turn_client_laws.specs.LawsPeers.{HasChannel, HasPermission}
use Rattle.turn_client_laws.proofs.GrantOriginEffectLemmas.{same_ip-same}
use Rattle.turn_client_laws.proofs.InAllocationLemmas.{same_family-self, same_family-true}
use Rattle.turn_client_laws.proofs.StandLemmas.{contains-has, has-contains}

-- a grant before the one that is read is no double of it
no-double : (g h : Grant) (gs : List Grant) → Has g gs → AllByRecursion (λ x. is_double h x ≡ false) gs → is_double h g ≡ true → ⊥
no-double g h [] there none same = absurd there
no-double g h (x ∷ gs) (inl e) none same = let no : is_double h g ≡ false = rw e none.0 in cc
no-double g h (x ∷ gs) (inr there) none same = no-double g h gs there none.1 same

-- what reads a grant reads doubles of it alone
module _ {X : Type 0} (reader : Grant → Option X) (g : Grant) (x : X) (reads : reader g ≡ Some x) (only : (h : Grant) (y : X) → reader h ≡ Some y → is_double h g ≡ true) where
  pub first-alone : (gs : List Grant) → IsDistinct is_double gs → Has g gs → slice_get (filter_map reader gs) 0 ≡ Some x
  unfolding IsDistinct
  first-alone [] single there = absurd there
  first-alone (h ∷ gs) single (inl e) = let is : reader h ≡ Some x = subst (λ (k : Grant). reader k ≡ Some x) e reads in rw is refl
  first-alone (h ∷ gs) single (inr there) = elim (cases_Option (reader h)) [
    | inl none ↦ rw none (first-alone gs single.1 there)
    | inr (y, is) ↦ absurd (no-double g h gs there single.0 (only h y is))
  ]

-- ---- permissions

permission-only : (ip : IpAddr) (lease : Lease) (h : Grant) (p : Progress) → permission_progress ip h ≡ Some p → is_double h (Permission ip (Active lease)) ≡ true
permission-only ip lease (Permission other q) p e = elim (cases_Bool (same_ip other ip)) [
  | inl same ↦ same
  | inr not ↦ let none : None ≡ Some p = rw not at e in absurd (none-some p none)
]
permission-only ip lease (Allocation a) p e = cc
permission-only ip lease h p e = cc

-- an active permission is found
pub permission-found : (ip : IpAddr) (s : State) → HasNoDoubles s → HasPermission ip s → has_active_permission ip s ≡ true
permission-found ip s single (lease, there) =
    let g = Permission ip (Active lease) in
    let reads : permission_progress ip g ≡ Some (Active lease) = rw (same_ip-same ip) refl in
    let found : permission_state ip s ≡ Some (Active lease) =
    first-alone (permission_progress ip) g (Active lease) reads (permission-only ip lease) s.grants single (contains-has g s.grants there) in
    rw found refl

-- what is found is there
pub permission-there : (ip : IpAddr) (s : State) → has_active_permission ip s ≡ true → HasPermission ip s
permission-there ip s e = elim (cases_Option (permission_state ip s)) [
  | inl none ↦ absurd (let no : false ≡ true = rw none at e in cc)
  | inr (p, found) ↦
      let (g, there, reads) = has-filter_map (permission_progress ip) p s.grants (first-has p (filter_map (permission_progress ip) s.grants) found) in
      read g p there reads (rw found at e)
]
  where
    read : (g : Grant) (p : Progress) → Has g s.grants → permission_progress ip g ≡ Some p → is_active (Some p) ≡ true → HasPermission ip s
    read (Permission other (Active lease)) p there reads active = elim (cases_Bool (same_ip other ip)) [
      | inl same ↦ (lease, has-contains (Permission ip (Active lease)) s.grants (subst (λ (x : IpAddr). Has (Permission x (Active lease)) s.grants) (same_ip-true other ip same) there))
      | inr not ↦ absurd (none-some p (rw not at reads))
    ]
    read (Permission other q) p there reads active = elim (cases_Bool (same_ip other ip)) [
      | inl same ↦ absurd (let is : Some q ≡ Some p = rw same at reads in let no : is_active (Some q) ≡ true = subst (λ (o : Option Progress). is_active o ≡ true) (sym is) active in cc)
      | inr not ↦ absurd (none-some p (rw not at reads))
    ]
    read g p there reads active = cc

-- ---- channels

channel-only : (number : ℕ) (peer : SocketAddr) (lease : Lease) (h : Grant) (to : SocketAddr) → channel_peer number h ≡ Some to → is_double h (Channel number peer (Active lease)) ≡ true
channel-only number peer lease (Channel other at (Active was)) to e = elim (cases_Bool (eqb other number)) [
  | inl same ↦ same
  | inr not ↦ let none : None ≡ Some to = rw not at e in absurd (none-some to none)
]
channel-only number peer lease (Allocation a) to e = cc
channel-only number peer lease h to e = cc

-- an active channel is found
pub channel-found : (number : ℕ) (peer : SocketAddr) (s : State) → HasNoDoubles s → HasChannel number peer s → first_in (channel_peer number) s ≡ Some peer
channel-found number peer s single (lease, there) =
    let g = Channel number peer (Active lease) in
    let reads : channel_peer number g ≡ Some peer = rw (eq-eqb number number refl) refl in
    first-alone (channel_peer number) g peer reads (channel-only number peer lease) s.grants single (contains-has g s.grants there)

-- ---- allocations

allocation-alone : (family : AddressFamily) (a : Relay) → family_of a.relayed ≡ family → (gs : List Grant) → IsDistinct is_double gs → Has (Allocation a) gs
    → find (λ x. same_family (family_of x.relayed) family) (filter_map as_allocation gs) ≡ Some a
unfolding IsDistinct
allocation-alone family a of [] single there = absurd there
allocation-alone family a of (Allocation b ∷ gs) single there = elim (cases_Bool (same_family (family_of b.relayed) family)) [
  | inl is ↦ rw is (elim there [
    | inl e ↦ let same : a ≡ b = cc in rw same refl
    | inr later ↦
        absurd (no-double (Allocation a) (Allocation b) gs later single.0 (same_family-self (family_of b.relayed) (family_of a.relayed) (same_family-true (family_of b.relayed) family is ∙ sym of)))
  ])
  | inr not ↦ rw not (elim there [
    | inl e ↦
        let same : a ≡ b = cc in
        let is : same_family (family_of b.relayed) family ≡ true = rw (← same) (same_family-self (family_of a.relayed) family of) in
        absurd (false-true is not)
    | inr later ↦ allocation-alone family a of gs single.1 later
  ])
]
  where
    false-true : {b : Bool} → b ≡ true → b ≡ false → ⊥
    false-true e f = cc
allocation-alone family a of (g ∷ gs) single (inl e) = cc
allocation-alone family a of (g ∷ gs) single (inr there) = allocation-alone family a of gs single.1 there

-- the allocation of a family is found
pub allocation-found : (family : AddressFamily) (a : Relay) (s : State) → HasNoDoubles s → Contains s.grants (Allocation a) → family_of a.relayed ≡ family → find_allocation family s ≡ Some a
allocation-found family a s single there of = allocation-alone family a of s.grants single (contains-has (Allocation a) s.grants there)
