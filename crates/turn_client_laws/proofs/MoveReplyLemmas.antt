-- What signed replies remove: grants that their requests were made for.
use Rattle.turn_client_laws.proofs.Common.{◌≡◌, ◌⊎◌, ℕ, eqb, leb, Bool, true, false, cond, ◌||◌, List, [], ◌∷◌, ◌++◌, filter, fold, Option, Some, None, refl, sym, ap, ◌∙◌, inl, inr, arith}
use Rattle.turn_client_laws.proofs.Common.{option_map_or, and_parts, eqb-true, cases_Bool, IpAddr, SocketAddr}
use Rattle.turn_client_laws.proofs.Machine.{id_of, AddressFamily, State, Grant, Relay, Progress, Pending, Active, Listing, Purpose, ForRefresh, ForPermission, ForChannel, ForConnect}
use Rattle.turn_client_laws.proofs.Machine.{changed_allocation, channel_at, first_in, is_channel_of, is_connect_to, is_for, is_for_any, is_permission_of, permission_state, purposes_of, unlisted}
use Rattle.turn_client_laws.proofs.Machine.{without_grants, connection_id_in, lifetime_in, all_gone, allocation_mismatch, channel_answered, connect_answered, effect, transaction_ended}
use Rattle.turn_client_laws.proofs.Machine.{delete_answered, has_code, is_asked_permission, lasting, lasting_if, min_lifetime, listed_permissions_answered, pending_channel_answered}
use Rattle.turn_client_laws.proofs.Machine.{permission_answered, permission_answered_for, prolonged, refreshed, renewed, answered_purposes, response_step, Has, filter-has, has-filter, map-has}
use Rattle.turn_client_laws.specs.LawsGone.{GivesBack, grant_identity}
use Rattle.turn_client_laws.proofs.GrantOriginLemmas.{has-mapped}
use Rattle.turn_client_laws.proofs.MoveLemmas.{Adds, IsOfBare, Never, Settles, adds-filter, adds-same, loses-filter, loses-map, loses-more, loses-same, on_test, settles-same, settles-then}

-- one of these purposes is for the grant, or deletes all allocations
abbrev pub IsFor : List Purpose → Grant → Type 0
IsFor all g = (p : Purpose) × Has p all × ((is_for p g ≡ true) ⊎ GivesBack p)

-- ---- what a request is for does not depend on the progress of that

is_for-grant_identity : (p : Purpose) (g : Grant) → is_for p (grant_identity g) ≡ is_for p g
is_for-grant_identity p g = grind arith

pub is_for-whole : (p : Purpose) (g is : Grant) → grant_identity g ≡ grant_identity is → is_for p is ≡ true → is_for p g ≡ true
is_for-whole p g is same h = sym (is_for-grant_identity p g) ∙ (ap (is_for p) same ∙ (is_for-grant_identity p is ∙ h))

pub IsFor-whole : (all : List Purpose) → IsOfBare (IsFor all)
IsFor-whole all g is same (p, there, inl h) = (p, there, inl (is_for-whole p g is same h))
IsFor-whole all g is same (p, there, inr back) = (p, there, inr back)

-- ---- listings that stay are of the same purposes

pub purposes-stay : (id : ℕ) (s t : State) → Adds Never s.listed t.listed → (p : Purpose) → Has p (purposes_of id t) → Has p (purposes_of id s)
purposes-stay id s t within p there = by (has-mapped (λ (l : Listing). l.purpose) p (filter mine t.listed) there)
  where
    mine : Listing → Bool
    mine l = eqb l.id id

    was : (l : Listing) → Has l s.listed ⊎ ⊥ → Has l s.listed
    was l (inl h) = h
    was l (inr never) = absurd never

    by : (l : Listing) × Has l (filter mine t.listed) × (p ≡ l.purpose) → Has p (purposes_of id s)
    by (l, still, e) =
        let (later, same) = has-filter mine l t.listed still in
        rw e (map-has (λ (l : Listing). l.purpose) l (filter mine s.listed) (filter-has mine l s.listed (was l (within l later)) same))

-- ---- of the purposes of a request

lasting-grant_identity : (expiry : ℕ) (g : Grant) → grant_identity g ≡ grant_identity (lasting expiry g)
lasting-grant_identity expiry g = grind arith

renewed-grant_identity : (which : Grant → Bool) (expiry : ℕ) (g : Grant) → grant_identity g ≡ grant_identity (lasting_if which expiry g)
renewed-grant_identity which expiry g = grind (arith, lasting-grant_identity)

prolonged-grant_identity : (which : Relay → Bool) (lasts : ℕ) (g : Grant) → grant_identity g ≡ grant_identity (changed_allocation which (λ a. record a { expiry = lasts }) g)
prolonged-grant_identity which lasts g = grind arith

module _ (all : List Purpose) where
  -- a signed reply may do this
  abbrev pub Fits : State → State → Type 0
  Fits s t = Settles (IsFor all) s t

  fits-same : (s : State) → Fits s s
  fits-same s = settles-same (IsFor all) s

  pub fits-then : (s t u : State) → Fits s t → Fits t u → Fits s u
  fits-then s t u first later = settles-then (IsFor all) (IsFor-whole all) s t u first later

  -- grants of this kind are removed
  fits-without : (which : Grant → Bool) (s : State) → ((g : Grant) → which g ≡ true → IsFor all g) → Fits s (without_grants which s)
  fits-without which s takes = (adds-same Never s.transactions, adds-filter Never _ s.listed, loses-filter (IsFor all) which s.grants takes)

  -- and others are added
  fits-instead : (which : Grant → Bool) (more : List Grant) (s : State) → ((g : Grant) → which g ≡ true → IsFor all g)
      → Fits s (record (without_grants which s) { grants = (without_grants which s).grants ++ more })
  fits-instead which more s takes =
      (adds-same Never s.transactions, adds-filter Never _ s.listed, loses-more (IsFor all) s.grants _ more (loses-filter (IsFor all) which s.grants takes))

  fits-unlisted : (which other : Grant → Bool) (expiry : ℕ) (s : State) → Fits s (renewed which expiry (unlisted other s))
  fits-unlisted which other expiry s =
      (adds-same Never s.transactions, adds-filter Never _ s.listed, loses-map (IsFor all) (lasting_if which expiry) s.grants (renewed-grant_identity which expiry))

  of-one : (p : Purpose) → Has p all → (g : Grant) → is_for p g ≡ true → IsFor all g
  of-one p h g e = (p, h, inl e)

  permission-fits : (ip : IpAddr) (is_granted : Bool) (now : ℕ) (s : State) → Has (ForPermission ip) all → Fits s (permission_answered ip is_granted now s)
  permission-fits ip is_granted now s h = by (permission_state ip s) refl is_granted
    where
      takes : (g : Grant) → is_permission_of ip g ≡ true → IsFor all g
      takes g e = of-one (ForPermission ip) h g e

      by : (o : Option Progress) → permission_state ip s ≡ o → (g : Bool) → Fits s (permission_answered ip g now s)
      by (Some (Pending is_kept)) e true = rw e (fits-instead (is_permission_of ip) _ s takes)
      by (Some (Pending is_kept)) e false = rw e (fits-without (is_permission_of ip) s takes)
      by (Some (Active expiry)) e true = rw e (fits-unlisted (is_permission_of ip) (is_permission_of ip) _ s)
      by (Some (Active expiry)) e false = rw e (fits-without (is_permission_of ip) s takes)
      by o e g = rw e (fits-same s)

  permission_state-fits : (is_granted : Bool) (now : ℕ) (s : State) (p : Purpose) → Has p all → Fits s (permission_answered_for is_granted now s p)
  permission_state-fits is_granted now s (ForPermission ip) h = permission-fits ip is_granted now s h
  permission_state-fits is_granted now s p h = fits-same s

  -- one purpose after the other
  fits-fold : (f : State → Purpose → State) (start : State) → ((t : State) (p : Purpose) → Fits start t → Has p all → Fits t (f t p)) → (some : List Purpose)
      → ((p : Purpose) → Has p some → Has p all) → (t : State) → Fits start t → Fits start (fold f t some)
  fits-fold f start step [] each t fits = fits
  fits-fold f start step (p ∷ some) each t fits =
      fits-fold f start step some (λ q h. each q (inr h)) (f t p) (fits-then start t (f t p) fits (step t p fits (each p (inl refl))))

  -- the request with this ID has no other purposes
  abbrev pub AreOf : ℕ → State → Type 0
  AreOf id s = (p : Purpose) → Has p (purposes_of id s) → Has p all

  permissions-fit : (id : ℕ) (is_granted : Bool) (now : ℕ) (s : State) → AreOf id s → Fits s (listed_permissions_answered id is_granted now s)
  permissions-fit id is_granted now s are =
      fits-fold (permission_answered_for is_granted now) s (λ t p fits h. permission_state-fits is_granted now t p h) (purposes_of id s) are s (fits-same s)

  -- what is for any of some is for one of them
  any-IsFor : (some : List Purpose) (g : Grant) → ((p : Purpose) → Has p some → Has p all) → is_for_any some g ≡ true → IsFor all g
  any-IsFor [] g each e = cc
  any-IsFor (p ∷ some) g each e =
      elim (cases_Bool (is_for p g)) [ inl f ↦ (p, each p (inl refl), inl f) | inr f ↦ any-IsFor some g (λ q h. each q (inr h)) (rw f at e) ]

  pending_channel-fits : (number : ℕ) (peer to : SocketAddr) (is_kept : Bool) (id : ℕ) (is_granted : Bool) (now : ℕ) (s : State) → Has (ForChannel number peer) all → AreOf id s
      → Fits s (pending_channel_answered number to is_kept id is_granted now s)
  pending_channel-fits number peer to is_kept id true now s h are =
      let t = listed_permissions_answered id true now s in
      fits-then s t (pending_channel_answered number to is_kept id true now s) (permissions-fit id true now s are)
      (fits-instead (is_channel_of number) _ t (of-one (ForChannel number peer) h))
  pending_channel-fits number peer to is_kept id false now s h are =
      let t = without_grants (is_channel_of number) s in
      fits-then s t (pending_channel_answered number to is_kept id false now s)
      (fits-without (is_channel_of number) s (of-one (ForChannel number peer) h))
      (fits-without (is_asked_permission (purposes_of id s)) t (λ g e. any-IsFor (purposes_of id s) g are (and_parts _ _ e).1))

  channel-fits : (number : ℕ) (peer : SocketAddr) (id : ℕ) (is_granted : Bool) (now : ℕ) (s : State) → Has (ForChannel number peer) all → AreOf id s
      → Fits s (channel_answered number id is_granted now s)
  channel-fits number peer id is_granted now s h are = by (first_in (channel_at number) s) refl is_granted
    where
      takes : (g : Grant) → is_channel_of number g ≡ true → IsFor all g
      takes g e = of-one (ForChannel number peer) h g e

      by : (o : Option (SocketAddr × Progress)) → first_in (channel_at number) s ≡ o → (g : Bool) → Fits s (channel_answered number id g now s)
      by (Some (to, Pending is_kept)) e g = rw e (pending_channel-fits number peer to is_kept id g now s h are)
      by (Some (to, Active expiry)) e true = rw e (fits-unlisted (is_channel_of number) (is_channel_of number) _ s)
      by (Some (to, Active expiry)) e false = rw e (fits-instead (is_channel_of number) _ s takes)
      by o e g = rw e (fits-same s)

  connect-fits : (peer : SocketAddr) (o : Option ℕ) (s : State) → Has (ForConnect peer) all → Fits s (connect_answered peer o s)
  connect-fits peer (Some id) s h = fits-instead (is_connect_to peer) _ s (of-one (ForConnect peer) h)
  connect-fits peer None s h = fits-without (is_connect_to peer) s (of-one (ForConnect peer) h)

  gone-fits : (family : AddressFamily) (lifetime : ℕ) (s : State) → Has (ForRefresh family lifetime) all → lifetime ≡ 0 → Fits s (all_gone s)
  gone-fits family lifetime s h e =
      let t = without_grants (λ g. true) s in
      fits-then s t (all_gone s)
      (fits-without (λ g. true) s (λ g is. (ForRefresh family lifetime, h, inr e)))
      (adds-same Never t.transactions, adds-filter Never _ t.listed, loses-same (IsFor all) t.grants)

  prolonged-fits : (family : AddressFamily) (granted now : ℕ) (s : State) → Fits s (prolonged family granted now s)
  prolonged-fits family granted now s =
      on_test (Fits s) (leb min_lifetime granted) _ s
      (adds-same Never s.transactions, adds-filter Never _ s.listed, loses-map (IsFor all) _ s.grants (prolonged-grant_identity _ _))
      (fits-same s)

  refreshed-fits : (family : AddressFamily) (lifetime : ℕ) (is_granted : Bool) (message : List ℕ) (now : ℕ) (s : State) → Has (ForRefresh family lifetime) all
      → Fits s (refreshed family lifetime is_granted message now s)
  refreshed-fits family lifetime is_granted message now s h = by (eqb lifetime 0) refl
    where
      granted : (o : Option ℕ) → Fits s (option_map_or (λ granted. prolonged family granted now s) o s)
      granted None = fits-same s
      granted (Some n) = prolonged-fits family n now s

      more : State
      more = cond is_granted (option_map_or (λ granted. prolonged family granted now s) (lifetime_in message) s) s

      by : (b : Bool) → eqb lifetime 0 ≡ b → Fits s (cond b (delete_answered is_granted message s) more)
      by true e = on_test (Fits s) (is_granted || has_code allocation_mismatch message) _ s (gone-fits family lifetime s h (eqb-true lifetime 0 e)) (fits-same s)
      by false e = on_test (Fits s) is_granted _ s (granted (lifetime_in message)) (fits-same s)

  effect-fits : (id : ℕ) (is_granted : Bool) (message : List ℕ) (now : ℕ) (s : State) (p : Purpose) → Has p all → AreOf id s → Fits s (effect id is_granted message now s p)
  effect-fits id is_granted message now s (ForRefresh family lifetime) h are = refreshed-fits family lifetime is_granted message now s h
  effect-fits id is_granted message now s (ForPermission ip) h are = permission-fits ip is_granted now s h
  effect-fits id is_granted message now s (ForChannel number peer) h are = channel-fits number peer id is_granted now s h are
  effect-fits id is_granted message now s (ForConnect peer) h are = connect-fits peer (cond is_granted (connection_id_in message) None) s h
  effect-fits id is_granted message now s p h are = fits-same s

-- a signed reply removes only what its request was made for, and requests nothing
pub response-fits : (is_granted : Bool) (message : List ℕ) (now : ℕ) (s : State) → Settles (IsFor (purposes_of (id_of message) s)) s (response_step is_granted message now s).1
response-fits is_granted message now s =
    fits-then all s start (response_step is_granted message now s).1
    (adds-filter Never _ s.transactions, adds-same Never s.listed, loses-same (IsFor all) s.grants)
    (fits-fold all (effect (id_of message) is_granted message now) start
    (λ t p fits h. effect-fits all (id_of message) is_granted message now t p h (purposes-stay (id_of message) start t fits.1))
    (answered_purposes message s) (λ p h. (has-filter _ p all h).0) start (settles-same (IsFor all) start))
  where
    all : List Purpose
    all = purposes_of (id_of message) s

    start : State
    start = transaction_ended (id_of message) s
