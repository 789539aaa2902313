-- In a run data for a peer that can be reached is sent.
use Rattle.turn_client_laws.proofs.Common.{◌≡◌, ◌∙◌, ℕ, true, false, not, leb, List, [], ◌∷◌, filter_map, find, Option, Some, None, Result, Ok, Err, refl, sym, subst, inl, inr}
use Rattle.turn_client_laws.proofs.Common.{none-some, Contains, socket_ip, and_parts, cases_Bool, not-true, IpAddr, SocketAddr}
use Rattle.turn_client_laws.proofs.Machine.{TransportType, Udp, Tcp, Transmit, Config, State, initial, Call, DataConnection, Allocation, Connection, Relay, bound_to, can_send_to, on_channel, on_connection}
use Rattle.turn_client_laws.proofs.Machine.{active_channel, send_over, send_to_step, as_connection, find_allocation, family_of, family_of_ip, has_active_permission, same_transport}
use Rattle.turn_client_laws.proofs.Machine.{same_family, allocations, state_after_all, same_address-self, allocation-there, Has, cases_Option, filter_map-has, has-found}
use Rattle.turn_client_laws.proofs.Laws.{HasNoDoubles, by_test, contains-has, has-contains, same_family-true, send_to-by}
use Rattle.turn_client_api.specs.declared.error.SendError.{SendError}
use Rattle.turn_client_api.specs.declared.error.SendError.TheVariants.{NoPermission, NoTcpSocket}
use Rattle.turn_client_runs.specs.Sends.{HasWay, IsReachable, IsTrueOf, ReachablePeersAreSentTo, SendsToReachable, TellsWhoIsReachable}
use Rattle.turn_client_runs.proofs.AloneLemmas.{allocation-found, permission-found, permission-there}
use Rattle.turn_client_runs.proofs.QuietLemmas.{calls-keep}
use Rattle.turn_client_runs.proofs.RunGrants.{Keeps, call-keeps, first-keeps}
use Rattle.turn_client_runs.proofs.SentRuns.{run-gives}

-- ---- who can be reached

same_transport-self : (a : TransportType) → same_transport a a ≡ true
same_transport-self Udp = refl
same_transport-self Tcp = refl

same_transport-true : (a b : TransportType) → same_transport a b ≡ true → a ≡ b
same_transport-true Udp Udp e = refl
same_transport-true Tcp Tcp e = refl
same_transport-true Udp Tcp e = cc
same_transport-true Tcp Udp e = cc

module _ (transport : TransportType) (ip : IpAddr) (s : State) where
  tells : HasNoDoubles s → IsReachable transport ip s → can_send_to transport ip s ≡ true
  tells single is =
      let same : same_transport transport s.config.allocation_transport ≡ true =
      subst (λ (t : TransportType). same_transport transport t ≡ true) is.over (same_transport-self transport) in
      let found : find_allocation (family_of_ip ip) s ≡ Some is.relay = allocation-found (family_of_ip ip) is.relay s single is.allocation is.family in
      let permitted : has_active_permission ip s ≡ true = permission-found ip s single is.permitted in
      rw (same, found, is.in_use, permitted) refl

  allocation-at : (a : Relay) → find_allocation (family_of_ip ip) s ≡ Some a → Contains s.grants (Allocation a) × (family_of a.relayed ≡ family_of_ip ip)
  allocation-at a e =
      let (there, of) = has-found (λ x. same_family (family_of x.relayed) (family_of_ip ip)) a (allocations s) e in
      (has-contains (Allocation a) s.grants (allocation-there a s.grants there), same_family-true (family_of a.relayed) (family_of_ip ip) of)

  told : can_send_to transport ip s ≡ true → IsReachable transport ip s
  told e = elim (cases_Bool (same_transport transport s.config.allocation_transport)) [
    | inl same ↦ elim (cases_Option (find_allocation (family_of_ip ip) s)) [
      | inl none ↦ absurd (let no : false ≡ true = rw (same, none) at e in cc)
      | inr (a, found) ↦
          let both = and_parts (not a.is_expired) (has_active_permission ip s) (rw (same, found) at e) in
          let (there, of) = allocation-at a found in
          record {
            over = same_transport-true transport s.config.allocation_transport same;
            relay = a;
            allocation = there;
            family = of;
            in_use = not-true a.is_expired both.0;
            permitted = permission-there ip s both.1;
          }
    ]
    | inr other ↦ absurd (let no : false ≡ true = rw other at e in cc)
  ]

-- ---- data for a peer

-- a bound connection is found
connection-found : (peer : SocketAddr) (s : State) → HasWay Tcp peer s → (d : DataConnection) × (find (bound_to peer) (filter_map as_connection s.grants) ≡ Some d)
connection-found peer s (c, there, to, bound) = elim (cases_Option (find (bound_to peer) (filter_map as_connection s.grants))) [
  | inl none ↦ absurd (missing (filter_map as_connection s.grants) (filter_map-has as_connection (Connection c) c s.grants (contains-has (Connection c) s.grants there) refl) none)
  | inr (d, found) ↦ (d, found)
]
  where
    is : bound_to peer c ≡ true
    is = rw (bound, to) (same_address-self peer)

    missing : (cs : List DataConnection) → Has c cs → find (bound_to peer) cs ≡ None → ⊥
    missing [] here none = here
    missing (d ∷ cs) (inl e) none = let found : find (bound_to peer) (d ∷ cs) ≡ Some d = subst (λ (x : DataConnection). find (bound_to peer) (x ∷ cs) ≡ Some x) e (rw is refl) in cc
    missing (d ∷ cs) (inr later) none = elim (cases_Bool (bound_to peer d)) [
      | inl here ↦ let found : find (bound_to peer) (d ∷ cs) ≡ Some d = rw here refl in cc
      | inr not ↦ missing cs later (rw not at none)
    ]

module _ (peer : SocketAddr) (bytes : List ℕ) (now : ℕ) (s : State) where
  -- a packet is given
  abbrev Gives : Result (Transmit (List ℕ)) SendError × State → Type 0
  Gives x = (packet : Transmit (List ℕ)) × (x.0 ≡ Ok packet)

  channel-gives : (channels : List (ℕ × ℕ)) → Gives (on_channel channels peer bytes now s)
  channel-gives [] = (_, refl)
  channel-gives ((number, expiry) ∷ others) = by_test Gives (leb now expiry) _ _ (λ e. (_, refl)) (λ e. (_, refl))

  over-gives : (transport : TransportType) → HasWay transport peer s → Gives (send_over transport peer bytes now s)
  over-gives Tcp way = let (d, found) = connection-found peer s way in rw found (_, refl)
  over-gives Udp way = channel-gives (filter_map (active_channel peer) s.grants)

  step-gives : (transport : TransportType) → can_send_to transport (socket_ip peer) s ≡ true → HasWay transport peer s → Gives (send_to_step transport peer bytes now s)
  step-gives transport can way = rw can (over-gives transport way)

  -- a refusal
  abbrev Refuses : (SendError → Type 0) → Result (Transmit (List ℕ)) SendError × State → Type 0
  Refuses P x = (why : SendError) → x.0 ≡ Err why → P why

  channel-refuses : (P : SendError → Type 0) (channels : List (ℕ × ℕ)) → Refuses P (on_channel channels peer bytes now s)
  channel-refuses P [] = λ why e. cc
  channel-refuses P ((number, expiry) ∷ others) = by_test (Refuses P) (leb now expiry) _ _ (λ e why f. cc) (λ e why f. cc)

  over-refuses : (transport : TransportType) → can_send_to transport (socket_ip peer) s ≡ true → Refuses (λ why. IsTrueOf why transport peer s) (send_over transport peer bytes now s)
  over-refuses Udp can = channel-refuses (λ why. IsTrueOf why Udp peer s) (filter_map (active_channel peer) s.grants)
  over-refuses Tcp can = by (find (bound_to peer) (filter_map as_connection s.grants)) refl
    where
      by : (o : Option DataConnection) → find (bound_to peer) (filter_map as_connection s.grants) ≡ o → Refuses (λ why. IsTrueOf why Tcp peer s) (on_connection o bytes s)
      by (Some c) e why f = cc
      by None e why f =
          let same : NoTcpSocket ≡ why = cc in
          subst (λ (x : SendError). IsTrueOf x Tcp peer s) same (told Tcp (socket_ip peer) s can, λ way. let (d, found) = connection-found peer s way in none-some d (sym e ∙ found))

  step-refuses : (transport : TransportType) → HasNoDoubles s → Refuses (λ why. IsTrueOf why transport peer s) (send_to_step transport peer bytes now s)
  step-refuses transport single =
      by_test (Refuses (λ why. IsTrueOf why transport peer s)) (can_send_to transport (socket_ip peer) s) _ _ (over-refuses transport)
      (λ e why f.
      let same : NoPermission ≡ why = cc in
      subst (λ (x : SendError). IsTrueOf x transport peer s) same (λ is. let yes = tells transport (socket_ip peer) s single is in cc))

-- ---- a run

module _ (transport : TransportType) (local remote : SocketAddr) (config : Config) (seed : List ℕ) (calls : List Call) where
  abbrev first : State
  first = initial transport local remote config seed

  single : (earlier : List Call) → HasNoDoubles (state_after_all first earlier)
  single earlier = (calls-keep Keeps call-keeps earlier first (first-keeps transport local remote config seed)).2

  pub run-reaches : SendsToReachable first calls
  run-reaches earlier relays peer bytes now later e =
      let s = state_after_all first earlier in
      record {
        gives = λ is way.
            let (packet, given) = step-gives peer bytes now s relays (tells relays (socket_ip peer) s (single earlier) is) way in
            (packet, given, run-gives transport local remote config seed calls earlier relays peer bytes now later packet e given);
        refuses = step-refuses peer bytes now s relays (single earlier);
        leaves = send_to-by (λ t. t ≡ record s { ids = t.ids }) relays peer bytes now s (λ ids. refl);
      }

  pub run-tells : TellsWhoIsReachable first calls
  run-tells earlier relays ip later e =
      let s = state_after_all first earlier in
      record { told = told relays ip s; tells = tells relays ip s (single earlier) }

  pub run-sends_to : ReachablePeersAreSentTo first calls
  run-sends_to = (run-reaches, run-tells)
