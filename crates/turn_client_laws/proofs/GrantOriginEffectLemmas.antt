-- What is active after a signed reply, effect by effect.
use Rattle.turn_client_laws.proofs.Common.{◌≡◌, ◌≤◌, ℕ, zero, suc, Bool, true, false, cond, ◌||◌, eqb, leb, List, map, Option, Some, None, ◌⊎◌, inl, inr, refl, sym, arith, option_map_or, IpAddr}
use Rattle.turn_client_laws.proofs.Common.{SocketAddr, eqb-true, leb-true}
use Rattle.turn_client_laws.proofs.Machine.{AddressFamily, State, later_by, seconds, Grant, Allocation, Permission, Channel, Connect, Offer, DataOffer, Progress, Pending, Active, Reserved, Purpose}
use Rattle.turn_client_laws.proofs.Machine.{ForRefresh, ForPermission, ForChannel, ForConnect, OwnConnect, changed_allocation, channel_at, first_in, is_channel_of, is_connect_to, is_of_family}
use Rattle.turn_client_laws.proofs.Machine.{is_permission_of, permission_state, purposes_of, same_ip, unlisted, with_grant, without_grants, connection_id_in, lifetime_in, lasting, lasting_if}
use Rattle.turn_client_laws.proofs.Machine.{all_gone, allocation_mismatch, channel_answered, channel_lifetime, connect_answered, effect, has_code, challenges_reset, min_lifetime, permission_answered}
use Rattle.turn_client_laws.proofs.Machine.{permission_answered_for, permission_lifetime, permission_refused_too, listed_permissions_answered, prolonged, refreshed, reserved_time, Has, granted_until}
use Rattle.std.specs.Cmp.Lexicographic.{nat_list_eq_equiv}
use Rattle.std.specs.Net.Addr.{ipv4_octets, ipv6_segments}
use Rattle.std.specs.declared.net.ip_addr.IpAddr.TheVariants.{V4, V6}
use Rattle.turn_client_laws.specs.LawsGranted.{HasChannelTo, IsActiveGrant, IsSameGrant}
use Rattle.turn_client_laws.proofs.StandLemmas.{has-contains, kept-same, left-filter}
use Rattle.turn_client_laws.proofs.GrantOriginLemmas.{ChannelsWithin, IsChannelIn, IsGivenOf, KeepsChannels, Takes, channels-append, channels-filter, channels-map, gives-left, gives-map, gives-one}
use Rattle.turn_client_laws.proofs.GrantOriginLemmas.{gives-trans, takes-fold, takes-same, takes-trans, within-filter}
use Rattle.turn_client_laws.proofs.CaseLemmas.{by_test, by_found}
use Rattle.turn_client_laws.proofs.EditsOfReplies.{channel-there}

pub same_ip-same : (ip : IpAddr) → same_ip ip ip ≡ true
same_ip-same (V4 a) = nat_list_eq_equiv.refl (ipv4_octets a)
same_ip-same (V6 a) = nat_list_eq_equiv.refl (ipv6_segments a)

-- a lifetime that is not 0
eqb-positive : (n : ℕ) → eqb n 0 ≡ false → 1 ≤ n
eqb-positive zero e = cc
eqb-positive (suc n) e = omega arith

-- two ways to name one channel
same-channel : (n number : ℕ) (to peer : SocketAddr) (p q : Progress) (grants : List Grant) → Channel n to p ≡ Channel number peer q → IsChannelIn number peer grants → IsChannelIn n to grants
same-channel n number to peer p q grants e there =
    let same : n ≡ number = cc in
    let ends : to ≡ peer = cc in
    rw (same, ends) there

module _ (purposes : List Purpose) (message : List ℕ) (now : ℕ) (before : State) where
  abbrev Is : Grant → Grant → Type 0
  Is was is = IsActiveGrant is → IsSameGrant was is ⊎ IsGivenOf purposes message now before is

  abbrev Taken : State → State → Type 0
  Taken s t = Takes purposes message now before s t

  -- if the reply is a success, the purpose is one of these
  abbrev Names : Bool → Purpose → Type 0
  Names is_granted p = is_granted ≡ true → Has p purposes

  -- and so is each that the request with this ID was made for
  abbrev NamesAll : Bool → ℕ → State → Type 0
  NamesAll is_granted id s = is_granted ≡ true → (p : Purpose) → Has p (purposes_of id s) → Has p purposes

  same : (s : State) → Taken s s
  same s = takes-same purposes message now before s

  trans : (s t u : State) → Taken s t → Taken t u → Taken s u
  trans s t u first second = takes-trans purposes message now before s t u first second

  without-takes : (which : Grant → Bool) (s : State) → Taken s (without_grants which s)
  without-takes which s = ((within-filter _ s.listed, channels-filter _ s.grants), gives-left purposes message now before s.grants _ (left-filter _ s.grants))

  -- if it is a channel, it existed already
  abbrev IsKnown : Grant → State → Type 0
  IsKnown one s = (number : ℕ) (peer : SocketAddr) (progress : Progress) → Channel number peer progress ≡ one → IsChannelIn number peer s.grants

  -- all channels existed before the message
  abbrev AreKnown : State → Type 0
  AreKnown s = ChannelsWithin before.grants s.grants

  -- a grant is added
  more-takes : (one : Grant) (s t : State) → Taken s t → (IsActiveGrant one → IsGivenOf purposes message now before one) → IsKnown one s → Taken s (with_grant one t)
  more-takes one s t taken gives known = (
    (taken.0.0, channels-append s.grants t.grants one taken.0.1 known),
    gives-trans purposes message now before s.grants t.grants _ taken.1
        (gives-one purposes message now before t.grants one gives),
  )

  -- a grant replaces those that are removed
  replaced-takes : (which : Grant → Bool) (one : Grant) (s : State) → (IsActiveGrant one → IsGivenOf purposes message now before one) → IsKnown one s
      → Taken s (with_grant one (without_grants which s))
  replaced-takes which one s gives known = more-takes one s (without_grants which s) (without-takes which s) gives known

  -- what exists is extended, with nothing listed for it any more
  lasting-takes : (which : Grant → Bool) (f : Grant → Grant) (s : State) → KeepsChannels f → ((g : Grant) → Has g s.grants → Is g (f g))
      → Taken s (record (unlisted which s) { grants = map f s.grants })
  lasting-takes which f s channels keeps = ((within-filter _ s.listed, channels-map f channels s.grants), gives-map purposes message now before f s.grants keeps)

  -- what is pending or reserved is not renewed
  untouched : (b : Bool) (g : Grant) → Is g (cond b g g)
  untouched true g stands = inl (kept-same g stands)
  untouched false g stands = inl (kept-same g stands)

  -- a permission of this IP address is granted anew
  permission_lasts : (ip : IpAddr) → Has (ForPermission ip) purposes → (g : Grant) → Is g (lasting_if (is_permission_of ip) (later_by permission_lifetime now) g)
  permission_lasts ip one (Permission other (Active was)) =
      by_test (Is (Permission other (Active was))) (same_ip other ip) (Permission other (Active (record was { expiry = later_by permission_lifetime now }))) (Permission other (Active was))
      (λ e stands. inr (record { purpose = ForPermission ip; one = one; given = (e, refl) })) (λ e stands. inl (kept-same (Permission other (Active was)) stands))
  permission_lasts ip one (Connect peer) = λ stands. absurd stands
  permission_lasts ip one (Offer offer) = λ stands. absurd stands
  permission_lasts ip one (Permission other x) = untouched (same_ip other ip) (Permission other x)
  permission_lasts ip one g = λ stands. inl (kept-same g stands)

  -- a channel of this number is granted anew
  channel_lasts : (number : ℕ) (peer : SocketAddr) → Has (ForChannel number peer) purposes → (s : State) → AreKnown s → (g : Grant) → Has g s.grants
      → Is g (lasting_if (is_channel_of number) (later_by channel_lifetime now) g)
  channel_lasts number peer one s known (Channel other to (Active was)) there =
      by_test (Is (Channel other to (Active was))) (eqb other number) (Channel other to (Active (record was { expiry = later_by channel_lifetime now }))) (Channel other to (Active was))
      (λ e stands. inr (record { purpose = ForChannel number peer; one = one; given = (eqb-true other number e, refl, held) })) (λ e stands. inl (kept-same (Channel other to (Active was)) stands))
    where
      held : HasChannelTo other to before
      held = let (progress, here) = known other to (Active was, there) in (progress, has-contains (Channel other to progress) before.grants here)
  channel_lasts number peer one s known (Connect to) there = λ stands. absurd stands
  channel_lasts number peer one s known (Offer offer) there = λ stands. absurd stands
  channel_lasts number peer one s known (Channel other to x) there = untouched (eqb other number) (Channel other to x)
  channel_lasts number peer one s known g there = λ stands. inl (kept-same g stands)

  lasting-channels : (which : Grant → Bool) (expiry : ℕ) → KeepsChannels (lasting_if which expiry)
  lasting-channels which expiry g number peer progress e = by (which g) g e
    where
      Was : Grant → Type 0
      Was h = (was : Progress) × (h ≡ Channel number peer was)

      by : (b : Bool) (h : Grant) → Channel number peer progress ≡ cond b (lasting expiry h) h → Was h
      by false h f = (progress, sym f)
      by true (Channel other to (Active was)) f = (Active was, same f)
        where
          same : Channel number peer progress ≡ Channel other to (Active (record was { expiry = expiry })) → Channel other to (Active was) ≡ Channel number peer (Active was)
          same i = let a : number ≡ other = cc in let c : peer ≡ to = cc in rw (a, c) refl
      by true (Channel other to (Pending is_kept)) f = (progress, sym f)
      by true (Channel other to (Reserved until)) f = (progress, sym f)
      by true (Permission ip (Active was)) f = cc
      by true h f = cc

  permission-takes : (ip : IpAddr) (is_granted : Bool) (s : State) → Names is_granted (ForPermission ip) → Taken s (permission_answered ip is_granted now s)
  permission-takes ip is_granted s = by (permission_state ip s) refl is_granted
    where
      by : (o : Option Progress) → permission_state ip s ≡ o → (g : Bool) → Names g (ForPermission ip) → Taken s (permission_answered ip g now s)
      by (Some (Pending is_kept)) e true one =
          rw e (replaced-takes (is_permission_of ip) (Permission ip (granted_until (later_by permission_lifetime now) is_kept)) s
          (λ stands. record { purpose = ForPermission ip; one = one refl; given = (same_ip-same ip, refl) }) (λ number peer progress f. cc))
      by (Some (Pending is_kept)) e false one = rw e (without-takes (is_permission_of ip) s)
      by (Some (Active expiry)) e true one =
          rw e (lasting-takes (is_permission_of ip) (lasting_if (is_permission_of ip) (later_by permission_lifetime now)) s (lasting-channels (is_permission_of ip) (later_by permission_lifetime now))
          (λ g there. permission_lasts ip (one refl) g))
      by (Some (Active expiry)) e false one = rw e (without-takes (is_permission_of ip) s)
      by o e g one = rw e (same s)

  permission_state-takes : (is_granted : Bool) (t : State) (p : Purpose) → Names is_granted p → Taken t (permission_answered_for is_granted now t p)
  permission_state-takes is_granted t (ForPermission ip) one = permission-takes ip is_granted t one
  permission_state-takes is_granted t p one = same t

  permissions-takes : (id : ℕ) (is_granted : Bool) (s : State) → NamesAll is_granted id s → Taken s (listed_permissions_answered id is_granted now s)
  permissions-takes id is_granted s all =
      takes-fold purposes message now before (permission_answered_for is_granted now) s (purposes_of id s)
      (λ t p within there. permission_state-takes is_granted t p (λ granted. all granted p there))
      (purposes_of id s) (λ p there. there) s (λ l there. there, λ number peer h. h)

  channel-takes : (number : ℕ) (asked : SocketAddr) (id : ℕ) (is_granted : Bool) (s : State) → AreKnown s → Names is_granted (ForChannel number asked) → NamesAll is_granted id s
      → Taken s (channel_answered number id is_granted now s)
  channel-takes number asked id is_granted s known = by (first_in (channel_at number) s) refl is_granted
    where
      held : (peer : SocketAddr) (progress : Progress) → Has (Channel number peer progress) s.grants → HasChannelTo number peer before
      held peer progress there = let (was, here) = known number peer (progress, there) in (was, has-contains (Channel number peer was) before.grants here)

      by : (o : Option (SocketAddr × Progress)) → first_in (channel_at number) s ≡ o → (g : Bool) → Names g (ForChannel number asked) → NamesAll g id s → Taken s (channel_answered number id g now s)
      by (Some (peer, Pending is_kept)) e true one all =
          let t = listed_permissions_answered id true now s in
          let new = Channel number peer (granted_until (later_by channel_lifetime now) is_kept) in
          let less = without_grants (is_channel_of number) t in
          let taken = trans s t less (permissions-takes id true s all) (without-takes (is_channel_of number) t) in
          let here = channel-there number peer (Pending is_kept) s e in
          rw e (more-takes new s less taken (λ stands. record { purpose = ForChannel number asked; one = one refl; given = (refl, refl, held peer (Pending is_kept) here) })
          (λ n to progress f. same-channel n number to peer progress (granted_until (later_by channel_lifetime now) is_kept) s.grants f (Pending is_kept, here)))
      by (Some (peer, Pending is_kept)) e false one all =
          let t = without_grants (is_channel_of number) s in
          rw e (trans s t (permission_refused_too (purposes_of id s) t) (without-takes (is_channel_of number) s) (without-takes _ t))
      by (Some (peer, Active expiry)) e true one all =
          rw e (lasting-takes (is_channel_of number) (lasting_if (is_channel_of number) (later_by channel_lifetime now)) s (lasting-channels (is_channel_of number) (later_by channel_lifetime now))
          (channel_lasts number asked (one refl) s known))
      by (Some (peer, Active expiry)) e false one all =
          let here = channel-there number peer (Active expiry) s e in
          rw e (replaced-takes (is_channel_of number) (Channel number peer (Reserved (later_by reserved_time expiry.expiry))) s (λ stands. absurd stands)
          (λ n to progress f. same-channel n number to peer progress (Reserved (later_by reserved_time expiry.expiry)) s.grants f (Active expiry, here)))
      by o e g one all = rw e (same s)

  connect-takes : (peer : SocketAddr) (o : Option ℕ) (s : State) → Taken s (connect_answered peer o s)
  connect-takes peer (Some id) s =
      let offer : DataOffer = record { connection_id = id; peer = peer; is_reported = false; origin = OwnConnect } in
      replaced-takes (is_connect_to peer) (Offer offer) s (λ stands. absurd stands) (λ number to progress f. cc)
  connect-takes peer None s = without-takes (is_connect_to peer) s

  abbrev prolonged_by : AddressFamily → ℕ → Grant → Grant
  prolonged_by family n g = changed_allocation (λ a. is_of_family family a.relayed) (λ a. record a { expiry = later_by (seconds n) now }) g

  prolonged-channels : (family : AddressFamily) (n : ℕ) → KeepsChannels (prolonged_by family n)
  prolonged-channels family n (Allocation a) number peer progress f =
      by_test (λ (g : Grant). Channel number peer progress ≡ g → (was : Progress) × (Allocation a ≡ Channel number peer was)) (is_of_family family a.relayed)
      (Allocation (record a { expiry = later_by (seconds n) now })) (Allocation a) (λ e h. cc) (λ e h. cc) f
  prolonged-channels family n g number peer progress f = (progress, sym f)

  -- a lifetime of so many seconds was requested and is granted
  abbrev Lengthens : AddressFamily → ℕ → ℕ → Type 0
  Lengthens family lifetime n = Has (ForRefresh family lifetime) purposes × (1 ≤ lifetime) × (lifetime_in message ≡ Some n) × (min_lifetime ≤ n)

  -- an allocation of this family is granted anew
  allocation_lasts : (family : AddressFamily) (lifetime n : ℕ) → Lengthens family lifetime n → (g : Grant) → Is g (prolonged_by family n g)
  allocation_lasts family lifetime n (one, asked, said, enough) (Allocation a) =
      by_test (Is (Allocation a)) (is_of_family family a.relayed) (Allocation (record a { expiry = later_by (seconds n) now })) (Allocation a)
      (λ e stands. inr (record { purpose = ForRefresh family lifetime; one = one; given = (asked, e, (n, said, enough, refl)) })) (λ e stands. inl (kept-same (Allocation a) stands))
  allocation_lasts family lifetime n lengthens (Connect peer) = λ stands. absurd stands
  allocation_lasts family lifetime n lengthens (Offer offer) = λ stands. absurd stands
  allocation_lasts family lifetime n lengthens g = λ stands. inl (kept-same g stands)

  refreshed-takes : (family : AddressFamily) (lifetime : ℕ) (is_granted : Bool) (s : State) → Names is_granted (ForRefresh family lifetime)
      → Taken s (refreshed family lifetime is_granted message now s)
  refreshed-takes family lifetime is_granted s = by (eqb lifetime 0) refl is_granted
    where
      gone : Taken s (challenges_reset (all_gone s))
      gone =
          let t = without_grants (λ g. true) s in
          trans s t (challenges_reset (all_gone s)) (without-takes (λ g. true) s) ((within-filter _ t.listed, λ number peer h. h), (same t).1)

      longer : Has (ForRefresh family lifetime) purposes → 1 ≤ lifetime → Taken s (option_map_or (λ granted. prolonged family granted now s) (lifetime_in message) s)
      longer one asked =
          by_found (Taken s) _ (lifetime_in message) s (λ n said. by_test (Taken s) (leb min_lifetime n) _ s
          (λ e. lasting-takes _ (prolonged_by family n) s (prolonged-channels family n) (λ g there. allocation_lasts family lifetime n (one, asked, said, leb-true min_lifetime n e) g))
          (λ no. same s)) (same s)

      by : (b : Bool) → eqb lifetime 0 ≡ b → (g : Bool) → Names g (ForRefresh family lifetime) → Taken s (refreshed family lifetime g message now s)
      by true e g one = rw e (by_test (Taken s) (g || has_code allocation_mismatch message) _ _ (λ is. gone) (λ no. same s))
      by false e false one = rw e (same s)
      by false e true one = rw e (longer (one refl) (eqb-positive lifetime e))

  -- ---- a whole effect

  pub effect-takes : (id : ℕ) (is_granted : Bool) (s : State) (p : Purpose) → AreKnown s → Names is_granted p → NamesAll is_granted id s → Taken s (effect id is_granted message now s p)
  effect-takes id is_granted s (ForRefresh family lifetime) known one all = refreshed-takes family lifetime is_granted s one
  effect-takes id is_granted s (ForPermission ip) known one all = permission-takes ip is_granted s one
  effect-takes id is_granted s (ForChannel number peer) known one all = channel-takes number peer id is_granted s known one all
  effect-takes id is_granted s (ForConnect peer) known one all = connect-takes peer (cond is_granted (connection_id_in message) None) s
  effect-takes id is_granted s p known one all = same s
