-- A client with 4,096 peers, each with a channel and a permission, begins as no grant is lost.
use Rattle.turn_client_laws.proofs.Common.{◌≡◌, ℕ, ◌+◌, ◌<◌, ◌≤◌, true, false, List, [], ◌∷◌, arith, inl, inr, length, refl, subst, sym, ◌⊎◌, All, AllByRecursion, IsDistinct, socket_ip, SocketAddr}
use Rattle.turn_client_laws.proofs.Common.{ne_eqb}
use Rattle.turn_client_laws.proofs.Machine.{IPV4, HasAllocation, granted_until, new_allocation, family_of, same_ip, State, seconds, Grant, Allocation, Channel, Connect, Connection, Offer, Permission}
use Rattle.turn_client_laws.proofs.Machine.{Has, all-has, has-all}
use Rattle.turn_client_laws.specs.LawsRows.{refreshing_ahead}
use Rattle.turn_client_laws.proofs.Laws.{is_double, relayed_v4, contains-has}
use Rattle.turn_client_runs.specs.History.{no_history, was_let_go}
use Rattle.turn_client_runs.specs.Lasting.{HasRoom, IsInForce, IsSteady, ahead_of, expiry_of}
use Rattle.turn_client_runs.specs.LastingPeers.{HasRoomAt5Ms, HaveOwnIps, PeersLast, PeersLastFarAhead, grants_for, with_peers, HasRoomLateAt5Ms}
use Rattle.turn_client_runs.specs.Late.{HasRoomBehind, IsSteadyBehind}
use Rattle.turn_client_runs.proofs.LastingParts.{behind-of}
use Rattle.turn_client_runs.proofs.LastingSeen.{grants-last-behind}
use Rattle.turn_client_runs.proofs.LastingParts.{grants-last}

-- ---- the formula

pub room-at-5-ms : HasRoomAt5Ms
room-at-5-ms ahead (Allocation a) more long = omega (arith, more, long)
room-at-5-ms ahead (Permission ip progress) more long = omega (arith, more)
room-at-5-ms ahead (Channel number peer progress) more long = omega (arith, more)
room-at-5-ms ahead (Connect peer) more long = omega (arith, more)
room-at-5-ms ahead (Offer offer) more long = omega (arith, more)
room-at-5-ms ahead (Connection c) more long = omega (arith, more)

pub room-late-at-5-ms : HasRoomLateAt5Ms
room-late-at-5-ms ahead (Allocation a) more long = omega (arith, more, long)
room-late-at-5-ms ahead (Permission ip progress) more long = omega (arith, more)
room-late-at-5-ms ahead (Channel number peer progress) more long = omega (arith, more)
room-late-at-5-ms ahead (Connect peer) more long = omega (arith, more)
room-late-at-5-ms ahead (Offer offer) more long = omega (arith, more)
room-late-at-5-ms ahead (Connection c) more long = omega (arith, more)

-- ---- what the client has

abbrev channel : ℕ → SocketAddr → Grant
channel number peer = Channel number peer (granted_until (seconds 600) true)

abbrev permission : SocketAddr → Grant
permission peer = Permission (socket_ip peer) (granted_until (seconds 300) true)

-- for one of these peers
abbrev IsForOne : List SocketAddr → Grant → Type 0
IsForOne peers g = (peer : SocketAddr) × Has peer peers × (((number : ℕ) × (g ≡ channel number peer)) ⊎ (g ≡ permission peer))

for-one : (number : ℕ) (peers : List SocketAddr) (g : Grant) → Has g (grants_for number peers) → IsForOne peers g
for-one number [] g none = absurd none
for-one number (peer ∷ others) g (inl e) = (peer, inl refl, inl (number, e))
for-one number (peer ∷ others) g (inr (inl e)) = (peer, inl refl, inr e)
for-one number (peer ∷ others) g (inr (inr there)) = let (other, here, is) = for-one (number + 1) others g there in (other, inr here, is)

length-for : (number : ℕ) (peers : List SocketAddr) → length (grants_for number peers) ≡ length peers + length peers
length-for number [] = refl
length-for number (peer ∷ others) = let later = length-for (number + 1) others in omega (arith, later)

-- what holds of the allocation, of each channel and of each permission
all-of : (P : Grant → Type 0) (number : ℕ) (peers : List SocketAddr) → P (new_allocation 600 0 relayed_v4)
    → ((n : ℕ) (peer : SocketAddr) → Has peer peers → P (channel n peer)) → ((peer : SocketAddr) → Has peer peers → P (permission peer))
    → All P (new_allocation 600 0 relayed_v4 ∷ grants_for number peers)
all-of P number peers first channels permissions = all-has P (new_allocation 600 0 relayed_v4 ∷ grants_for number peers) by
  where
    one : (g : Grant) → IsForOne peers g → P g
    one g (peer, there, inl (n, e)) = subst P (sym e) (channels n peer there)
    one g (peer, there, inr e) = subst P (sym e) (permissions peer there)

    by : (g : Grant) → Has g (new_allocation 600 0 relayed_v4 ∷ grants_for number peers) → P g
    by g (inl e) = subst P (sym e) first
    by g (inr there) = one g (for-one number peers g there)

-- ---- none is double

allocation-single : (number : ℕ) (peers : List SocketAddr) → AllByRecursion (λ h. is_double (new_allocation 600 0 relayed_v4) h ≡ false) (grants_for number peers)
allocation-single number [] = tt
allocation-single number (peer ∷ others) = (refl, (refl, allocation-single (number + 1) others))

-- later channels have greater numbers
channel-single : (low number : ℕ) (one : SocketAddr) (peers : List SocketAddr) → low < number → AllByRecursion (λ h. is_double (channel low one) h ≡ false) (grants_for number peers)
channel-single low number one [] less = tt
channel-single low number one (peer ∷ others) less =
    (ne_eqb low number (λ e. absurd (omega (arith, e, less))), (refl, channel-single low (number + 1) one others (omega (arith, less))))

permission-single : (number : ℕ) (one : SocketAddr) (peers : List SocketAddr) → AllByRecursion (λ other. same_ip (socket_ip one) (socket_ip other) ≡ false) peers
    → AllByRecursion (λ h. is_double (permission one) h ≡ false) (grants_for number peers)
permission-single number one [] own = tt
permission-single number one (peer ∷ others) (here, later) = (refl, (here, permission-single (number + 1) one others later))

peers-single : (number : ℕ) (peers : List SocketAddr) → HaveOwnIps peers → IsDistinct is_double (grants_for number peers)
unfolding IsDistinct
peers-single number [] own = tt
peers-single number (peer ∷ others) (here, later) = (
  (refl, channel-single number (number + 1) peer others (omega arith)),
  (permission-single (number + 1) peer others here, peers-single (number + 1) others later),
)

-- ---- the first state

module _ (peers : List SocketAddr) (s : State) (many : length peers ≡ 4096) (over_v4 : All (λ peer. family_of peer ≡ IPV4) peers) (own : HaveOwnIps peers) where
  abbrev t : State
  t = with_peers peers s

  count : length t.grants ≡ 8193
  count = let e = length-for 0x4000 peers in omega (arith, e, many)

  of-family : (peer : SocketAddr) → Has peer peers → family_of peer ≡ IPV4
  of-family peer there = has-all (λ p. family_of p ≡ IPV4) peer peers over_v4 there

  begins : IsSteady 8193 100 1000 5_000_000_000 0 t
  unfolding IsDistinct
  begins = record {
    allocated = refl;
    none_queued = refl;
    none_outstanding = refl;
    none_listed = refl;
    sent_before = omega arith;
    in_force = all-of (IsInForce 0) 0x4000 peers (refl, omega arith) (λ n peer there. (refl, omega arith)) (λ peer there. (refl, omega arith));
    none_late = all-of (λ g. 0 + ahead_of 60_000_000_000 g ≤ expiry_of g) 0x4000 peers (omega arith) (λ n peer there. omega arith) (λ peer there. omega arith);
    room = all-of (λ g. HasRoom 8193 100 1000 5_000_000 5_000_000_000 (ahead_of 60_000_000_000 g)) 0x4000 peers (omega arith) (λ n peer there. omega arith) (λ peer there. omega arith);
    room_for_more = omega arith;
    within = (omega (arith, count), omega arith);
    distinct = (allocation-single 0x4000 peers, peers-single 0x4000 peers own);
    in_allocations = all-of (HasAllocation t) 0x4000 peers refl (λ n peer there. rw (of-family peer there) refl) (λ peer there. rw (of-family peer there) refl);
    prompt = omega arith;
    in_range = omega arith;
  }

  begins-late : IsSteadyBehind 8193 100 1000 900_000 5_000_000_000 0 t
  begins-late = behind-of 8193 100 1000 900_000 5_000_000_000 0 t begins
      (all-of (λ g. HasRoomBehind 8193 100 1000 900_000 5_000_000 5_000_000_000 (ahead_of 60_000_000_000 g)) 0x4000 peers (omega arith) (λ n peer there. omega arith) (λ peer there. omega arith))
      (omega arith)

  abbrev far : State
  far = refreshing_ahead 150_000_000_000 t

  begins-far : IsSteady 8193 100 8193 5_000_000_000 0 far
  unfolding IsDistinct
  begins-far = record {
    allocated = refl;
    none_queued = refl;
    none_outstanding = refl;
    none_listed = refl;
    sent_before = omega arith;
    in_force = begins.in_force;
    none_late = all-of (λ g. 0 + ahead_of 150_000_000_000 g ≤ expiry_of g) 0x4000 peers (omega arith) (λ n peer there. omega arith) (λ peer there. omega arith);
    room = all-of (λ g. HasRoom 8193 100 8193 5_000_000 5_000_000_000 (ahead_of 150_000_000_000 g)) 0x4000 peers (omega arith) (λ n peer there. omega arith) (λ peer there. omega arith);
    room_for_more = omega arith;
    within = begins.within;
    distinct = begins.distinct;
    in_allocations = begins.in_allocations;
    prompt = omega arith;
    in_range = omega arith;
  }

  far-late : IsSteadyBehind 8193 100 8193 2_000_000 5_000_000_000 0 far
  far-late = behind-of 8193 100 8193 2_000_000 5_000_000_000 0 far begins-far
      (all-of (λ g. HasRoomBehind 8193 100 8193 2_000_000 5_000_000 5_000_000_000 (ahead_of 150_000_000_000 g)) 0x4000 peers (omega arith) (λ n peer there. omega arith) (λ peer there. omega arith))
      (omega arith)

  in-force : (g : Grant) → Has g t.grants → IsInForce 0 g
  in-force g there = has-all (IsInForce 0) g t.grants begins.in_force there

-- nothing was let go yet
none-let_go : (s : State) (g : Grant) → was_let_go (no_history s) g ≡ false
none-let_go s (Permission ip progress) = refl
none-let_go s (Channel number peer progress) = refl
none-let_go s g = refl

pub peers-last : PeersLast
peers-last peers s many over_v4 own = record {
  count = count peers s many over_v4 own;
  begins = begins peers s many over_v4 own;
  lasts = λ calls run g there kept.
      grants-last 8193 100 1000 5_000_000_000 0 (with_peers peers s) [] calls (begins peers s many over_v4 own) run g there
      (in-force peers s many over_v4 own g (contains-has g (with_peers peers s).grants there)) (inl (none-let_go (with_peers peers s) g)) kept;
  begins_late = begins-late peers s many over_v4 own;
  lasts_late = λ calls run g there kept.
      ((grants-last-behind 8193 100 1000 900_000 5_000_000_000 0 (with_peers peers s) [] calls (begins-late peers s many over_v4 own) run).grants g there kept).0
      (in-force peers s many over_v4 own g (contains-has g (with_peers peers s).grants there)) (inl (none-let_go (with_peers peers s) g));
}

pub peers-last-far-ahead : PeersLastFarAhead
peers-last-far-ahead peers s many over_v4 own = record {
  begins = far-late peers s many over_v4 own;
  lasts = λ calls run g there kept.
      ((grants-last-behind 8193 100 8193 2_000_000 5_000_000_000 0 (far peers s many over_v4 own) [] calls (far-late peers s many over_v4 own) run).grants g there kept).0
      (in-force peers s many over_v4 own g (contains-has g (with_peers peers s).grants there)) (inl (none-let_go (with_peers peers s) g));
}
