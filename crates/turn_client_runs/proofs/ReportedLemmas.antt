-- How many events like one wait or may still come, as the parts of a step change the state.
use Rattle.turn_client_laws.proofs.Common.{◌≡◌, ℕ, ◌+◌, ◌≤◌, Bool, true, cond, not, ◌&&◌, List, [], ◌∷◌, ◌++◌, map, filter, fold, reverse, Some, refl, arith, inl, inr, ⊤, is_some, cases_Bool, IpAddr}
use Rattle.turn_client_laws.proofs.Common.{SocketAddr}
use Rattle.turn_client_laws.proofs.Machine.{TransportType, State, TurnEvent, PermissionCreated, PermissionCreateFailed, ChannelCreated, ChannelCreateFailed, TcpConnected, TcpConnectFailed, Grant}
use Rattle.turn_client_laws.proofs.Machine.{DataConnection, DataOffer, Permission, Channel, Connect, Offer, Connection, Lease, Progress, Pending, Active, Reserved, failure_of, failures_among, wait}
use Rattle.turn_client_laws.proofs.Machine.{without_grants, failed, Has, has-filter}
use Rattle.turn_client_runs.specs.Reported.{is_awaited_by, is_like, is_to_come}
use Rattle.turn_client_runs.proofs.LastingCounts.{passes, passes-append, passes-filter}
use Rattle.turn_client_runs.proofs.ReportedCounts.{passes-both, passes-kept, passes-made, passes-reverse, passes-without}

-- ---- a grant that fails

-- its failure tells that it is lost: not if the channel is reserved, or the connection is bound
abbrev pub IsLosable : Grant → Type 0
IsLosable (Channel number peer (Reserved until)) = ⊥
IsLosable (Connection c) = is_some c.deadline ≡ true
IsLosable g = ⊤

-- it was to come of the grant
fails-to-come : (e : TurnEvent) (transport : TransportType) (g : Grant) → IsLosable g → (x : TurnEvent) → failure_of transport g ≡ Some x → is_like e x ≡ true → is_to_come e g ≡ true
fails-to-come e transport g losable x made like = grind arith

module _ (e : TurnEvent) where
  -- so many wait, or may still come
  abbrev pub load : State → ℕ
  load s = passes (is_like e) s.events + passes (is_to_come e) s.grants + passes (is_awaited_by e) s.families

  -- no more than before
  abbrev pub Spends : State → State → Type 0
  Spends s t = load t ≤ load s

  pub spends-same : (s t : State) → t.events ≡ s.events → t.grants ≡ s.grants → t.families ≡ s.families → Spends s t
  spends-same s t events grants families = rw (events, grants, families) (omega arith)

  pub spends-trans : (s t u : State) → Spends s t → Spends t u → Spends s u
  spends-trans s t u first second = omega (arith, first, second)

  pub spends-fold : {X : Type 0} (f : State → X → State) (xs : List X) → ((t : State) (x : X) → Has x xs → Spends t (f t x)) → (s : State) → Spends s (fold f s xs)
  spends-fold f [] each s = omega arith
  spends-fold f (x ∷ xs) each s = spends-trans s (f s x) (fold f (f s x) xs) (each s x (inl refl)) (spends-fold f xs (λ t y there. each t y (inr there)) (f s x))

  -- grants are removed
  pub spends-removed : (which : Grant → Bool) (s t : State) → t.events ≡ s.events → t.grants ≡ filter (λ g. not (which g)) s.grants → t.families ≡ s.families → Spends s t
  spends-removed which s t events grants families = rw (events, grants, families) (omega (arith, passes-filter (is_to_come e) (λ g. not (which g)) s.grants))

  -- grants change, and what may come of them does not
  pub spends-mapped : (f : Grant → Grant) → ((g : Grant) → is_to_come e (f g) ≡ is_to_come e g) → (s t : State) → t.events ≡ s.events → t.grants ≡ map f s.grants → t.families ≡ s.families → Spends s t
  spends-mapped f each s t events grants families = rw (events, grants, families) (omega (arith, passes-kept (is_to_come e) f each s.grants))

  -- the failures of grants that are removed
  failures : (which : Grant → Bool) → ((g : Grant) → which g ≡ true → IsLosable g) → (s : State)
      → passes (is_like e) (failures_among which s) + passes (is_to_come e) (filter (λ g. not (which g)) s.grants) ≤ passes (is_to_come e) s.grants
  failures which loses s =
      let transport = s.config.allocation_transport in
      omega (
        arith,
        passes-both (is_to_come e) which s.grants,
        passes-made (is_to_come e) (is_like e) (failure_of transport) (filter which s.grants)
            (λ g x there made like. fails-to-come e transport g (loses g (has-filter which g s.grants there).1) x made like),
      )

  pub spends-failed : (which : Grant → Bool) → ((g : Grant) → which g ≡ true → IsLosable g) → (s : State) → Spends s (failed which s)
  spends-failed which loses s = omega (
    arith,
    failures which loses s,
    passes-append (is_like e) (reverse (failures_among which s)) s.events,
    passes-reverse (is_like e) (failures_among which s),
  )

  pub spends-failed-later : (which : Grant → Bool) → ((g : Grant) → which g ≡ true → IsLosable g) → (s : State) → Spends s (wait (failures_among which s) (without_grants which s))
  spends-failed-later which loses s = omega (arith, failures which loses s, passes-append (is_like e) s.events (failures_among which s))

  -- One event more, and grants are removed, of which one is known, and another comes in their place. Of the
  -- one that is known so much may come as is reported, and may come of the other.
  module _ (which : Grant → Bool) (x : TurnEvent) (g : Grant) (s : State) (there : Has g s.grants) (is : which g ≡ true) where
    left : passes (is_to_come e) (filter (λ h. not (which h)) s.grants) + cond (is_to_come e g) 1 0 ≤ passes (is_to_come e) s.grants
    left = passes-without (is_to_come e) which g s.grants there is

    pub spends-reported : cond (is_like e x) 1 0 ≤ cond (is_to_come e g) 1 0
        → (t : State) → t.events ≡ s.events ++ x ∷ [] → t.grants ≡ filter (λ h. not (which h)) s.grants → t.families ≡ s.families → Spends s t
    spends-reported fits t events grants families = rw (events, grants, families) (omega (arith, fits, left, passes-append (is_like e) s.events (x ∷ [])))

    pub spends-reported-first : cond (is_like e x) 1 0 ≤ cond (is_to_come e g) 1 0
        → (t : State) → t.events ≡ x ∷ s.events → t.grants ≡ filter (λ h. not (which h)) s.grants → t.families ≡ s.families → Spends s t
    spends-reported-first fits t events grants families = rw (events, grants, families) (omega (arith, fits, left))

    pub spends-replaced : (new : Grant) → cond (is_like e x) 1 0 + cond (is_to_come e new) 1 0 ≤ cond (is_to_come e g) 1 0
        → (t : State) → t.events ≡ s.events ++ x ∷ [] → t.grants ≡ filter (λ h. not (which h)) s.grants ++ new ∷ [] → t.families ≡ s.families → Spends s t
    spends-replaced new fits t events grants families = rw (events, grants, families) (omega (
      arith,
      fits,
      left,
      passes-append (is_like e) s.events (x ∷ []),
      passes-append (is_to_come e) (filter (λ h. not (which h)) s.grants) (new ∷ []),
    ))

    -- no event, but another grant in their place
    pub spends-exchanged : (new : Grant) → cond (is_to_come e new) 1 0 ≤ cond (is_to_come e g) 1 0
        → (t : State) → t.events ≡ s.events → t.grants ≡ filter (λ h. not (which h)) s.grants ++ new ∷ [] → t.families ≡ s.families → Spends s t
    spends-exchanged new fits t events grants families =
        rw (events, grants, families) (omega (arith, fits, left, passes-append (is_to_come e) (filter (λ h. not (which h)) s.grants) (new ∷ [])))

    pub spends-replaced-first : (new : Grant) → cond (is_like e x) 1 0 + cond (is_to_come e new) 1 0 ≤ cond (is_to_come e g) 1 0
        → (t : State) → t.events ≡ x ∷ s.events → t.grants ≡ filter (λ h. not (which h)) s.grants ++ new ∷ [] → t.families ≡ s.families → Spends s t
    spends-replaced-first new fits t events grants families =
        rw (events, grants, families) (omega (arith, fits, left, passes-append (is_to_come e) (filter (λ h. not (which h)) s.grants) (new ∷ [])))

-- ---- what may come of a grant

pub permission-created : (e : TurnEvent) (transport : TransportType) (ip : IpAddr) (was is : Bool) (expiry : ℕ)
    → cond (is_like e (PermissionCreated transport ip)) 1 0 + cond (is_to_come e (Permission ip (Active (record { expiry = expiry; is_kept = is })))) 1 0
    ≤ cond (is_to_come e (Permission ip (Pending was))) 1 0
permission-created (PermissionCreated over other) transport ip was is expiry = omega arith
permission-created (PermissionCreateFailed over other) transport ip was is expiry = omega arith
permission-created e transport ip was is expiry = omega arith

pub permission-failed : (e : TurnEvent) (transport : TransportType) (ip : IpAddr) (progress : Progress)
    → cond (is_like e (PermissionCreateFailed transport ip)) 1 0 ≤ cond (is_to_come e (Permission ip progress)) 1 0
permission-failed (PermissionCreated over other) transport ip (Pending is_kept) = omega arith
permission-failed (PermissionCreateFailed over other) transport ip progress = omega arith
permission-failed e transport ip progress = omega arith

pub channel-created : (e : TurnEvent) (transport : TransportType) (number : ℕ) (peer : SocketAddr) (was is : Bool) (expiry : ℕ)
    → cond (is_like e (ChannelCreated transport peer)) 1 0 + cond (is_to_come e (Channel number peer (Active (record { expiry = expiry; is_kept = is })))) 1 0
    ≤ cond (is_to_come e (Channel number peer (Pending was))) 1 0
channel-created (ChannelCreated over other) transport number peer was is expiry = omega arith
channel-created (ChannelCreateFailed over other) transport number peer was is expiry = omega arith
channel-created e transport number peer was is expiry = omega arith

pub channel-failed : (e : TurnEvent) (transport : TransportType) (number : ℕ) (peer : SocketAddr) (progress : Progress) → IsLosable (Channel number peer progress)
    → cond (is_like e (ChannelCreateFailed transport peer)) 1 0 ≤ cond (is_to_come e (Channel number peer progress)) 1 0
channel-failed (ChannelCreateFailed over other) transport number peer (Pending is_kept) losable = omega arith
channel-failed (ChannelCreateFailed over other) transport number peer (Active lease) losable = omega arith
channel-failed (ChannelCreateFailed over other) transport number peer (Reserved until) losable = absurd losable
channel-failed e transport number peer progress losable = omega arith

pub channel-reserved : (e : TurnEvent) (transport : TransportType) (number : ℕ) (peer : SocketAddr) (was : Lease) (until : ℕ)
    → cond (is_like e (ChannelCreateFailed transport peer)) 1 0 + cond (is_to_come e (Channel number peer (Reserved until))) 1 0
    ≤ cond (is_to_come e (Channel number peer (Active was))) 1 0
channel-reserved (ChannelCreateFailed over other) transport number peer was until = omega arith
channel-reserved e transport number peer was until = omega arith

-- ---- what may come of a data connection

-- the event is of one to this peer
abbrev pub is_of_connection : TurnEvent → SocketAddr → Bool
is_of_connection e peer = is_like e (TcpConnectFailed peer)

pub connected-like : (e : TurnEvent) (peer : SocketAddr) → is_like e (TcpConnected peer) ≡ is_of_connection e peer
connected-like (TcpConnected to) peer = refl
connected-like (TcpConnectFailed to) peer = refl
connected-like e peer = refl

pub connect-comes : (e : TurnEvent) (peer : SocketAddr) → is_to_come e (Connect peer) ≡ is_of_connection e peer
connect-comes (TcpConnected to) peer = refl
connect-comes (TcpConnectFailed to) peer = refl
connect-comes e peer = refl

pub offer-comes : (e : TurnEvent) (offer : DataOffer) → is_to_come e (Offer offer) ≡ is_of_connection e offer.peer
offer-comes (TcpConnected to) offer = refl
offer-comes (TcpConnectFailed to) offer = refl
offer-comes e offer = refl

pub connection-comes : (e : TurnEvent) (c : DataConnection) → is_to_come e (Connection c) ≡ (is_some c.deadline && is_of_connection e c.peer)
connection-comes (TcpConnected to) c = refl
connection-comes (TcpConnectFailed to) c = refl
connection-comes e c = elim (cases_Bool (is_some c.deadline)) [ inl f ↦ rw f refl | inr f ↦ rw f refl ]
