-- A client with ten permissions begins as no grant is lost though 3,000 more are requested at one time.
use Rattle.turn_client_laws.proofs.Common.{◌≡◌, ◌∙◌, ◌+◌, ◌-◌, ◌^◌, ◌≤◌, false, List, [], ◌∷◌, arith, inl, inr, length, map, refl, subst, sym, All, AllByRecursion, IsDistinct, IpAddr}
use Rattle.turn_client_laws.proofs.Common.{and_parts, leb, leb-true, ltb}
use Rattle.turn_client_laws.proofs.Machine.{IPV4, HasAllocation, family_of_ip, same_ip, new_allocation, is_due, resends_of, transaction_timeout, timers_of, State, Grant, Channel}
use Rattle.turn_client_laws.proofs.Machine.{Permission, Has, all-has, has-all, has-found}
use Rattle.turn_client_laws.proofs.Laws.{is_double, relayed_v4, contains-has, has-mapped}
use Rattle.turn_client_runs.specs.History.{no_history, was_let_go}
use Rattle.turn_client_runs.specs.Lasting.{HasRoom, IsInForce, IsSteady, ahead_of, expiry_of}
use Rattle.turn_client_runs.specs.LastingBursts.{AreDistinct, BurstsCostNothing, QueuedAreNotExtra, QueuesNeedNoRoom, QueuesNeedRoom, permitted, with_permissions}
use Rattle.turn_client_runs.proofs.LastingParts.{grants-last}

pub queued-not-extra : QueuedAreNotExtra
queued-not-extra made now s x timed range e unsent =
    let last : x.last_send ≡ 2 ^ 63 - 1 = unsent ∙ rw timed refl in
    let (there, is) = has-found (is_due (timers_of s.config) s.transport now) x s.transactions e in
    let over : transaction_timeout (timers_of s.config) s.transport x ≤ now =
    leb-true (transaction_timeout (timers_of s.config) s.transport x) now
    (and_parts (ltb x.resends (resends_of (timers_of s.config) s.transport)) (leb (transaction_timeout (timers_of s.config) s.transport x) now) is).1 in
    omega (arith, last, range, over)

pub queues-need-no-room : QueuesNeedNoRoom
queues-need-no-room count s timed few = (few, rw timed (omega arith))

pub queues-need-room : QueuesNeedRoom
queues-need-room count slots s untimed within = rw untimed at within.1

-- ---- what the client has

abbrev grants_of : List IpAddr → List Grant
grants_of ips = new_allocation 600 0 relayed_v4 ∷ map permitted ips

length-permitted : (ips : List IpAddr) → length (map permitted ips) ≡ length ips
length-permitted [] = refl
length-permitted (ip ∷ others) = let later = length-permitted others in omega (arith, later)

-- what holds of the allocation and of each permission
all-of : (P : Grant → Type 0) (ips : List IpAddr) → P (new_allocation 600 0 relayed_v4) → ((ip : IpAddr) → Has ip ips → P (permitted ip)) → All P (grants_of ips)
all-of P ips first permissions = all-has P (grants_of ips) by
  where
    by : (g : Grant) → Has g (grants_of ips) → P g
    by g (inl e) = subst P (sym e) first
    by g (inr there) = let (ip, here, e) = has-mapped permitted g ips there in subst P (sym e) (permissions ip here)

-- ---- none is double

allocation-single : (ips : List IpAddr) → AllByRecursion (λ h. is_double (new_allocation 600 0 relayed_v4) h ≡ false) (map permitted ips)
allocation-single [] = tt
allocation-single (ip ∷ others) = (refl, allocation-single others)

permission-single : (one : IpAddr) (ips : List IpAddr) → AllByRecursion (λ other. same_ip one other ≡ false) ips
    → AllByRecursion (λ h. is_double (permitted one) h ≡ false) (map permitted ips)
permission-single one [] own = tt
permission-single one (ip ∷ others) (here, later) = (here, permission-single one others later)

all-single : (ips : List IpAddr) → AreDistinct ips → IsDistinct is_double (map permitted ips)
unfolding IsDistinct
all-single [] own = tt
all-single (ip ∷ others) (here, later) = (permission-single ip others here, all-single others later)

-- ---- the first state

module _ (ips : List IpAddr) (s : State) (ten : length ips ≡ 10) (over_v4 : All (λ ip. family_of_ip ip ≡ IPV4) ips) (own : AreDistinct ips) where
  abbrev t : State
  t = with_permissions ips s

  of-family : (ip : IpAddr) → Has ip ips → family_of_ip ip ≡ IPV4
  of-family ip there = has-all (λ x. family_of_ip x ≡ IPV4) ip ips over_v4 there

  begins : IsSteady 3011 0 1000 35_000_000_000 0 t
  unfolding IsDistinct
  begins = record {
    allocated = refl;
    none_queued = refl;
    none_outstanding = refl;
    none_listed = refl;
    sent_before = omega arith;
    in_force = all-of (IsInForce 0) ips (refl, omega arith) (λ ip there. (refl, omega arith));
    none_late = all-of (λ g. 0 + ahead_of 60_000_000_000 g ≤ expiry_of g) ips (omega arith) (λ ip there. omega arith);
    room = all-of (λ g. HasRoom 3011 0 1000 5_000_000 35_000_000_000 (ahead_of 60_000_000_000 g)) ips (omega arith) (λ ip there. omega arith);
    room_for_more = omega arith;
    within = (let e = length-permitted ips in omega (arith, e, ten), omega arith);
    distinct = (allocation-single ips, all-single ips own);
    in_allocations = all-of (HasAllocation t) ips refl (λ ip there. rw (of-family ip there) refl);
    prompt = omega arith;
    in_range = omega arith;
  }

  in-force : (g : Grant) → Has g t.grants → IsInForce 0 g
  in-force g there = has-all (IsInForce 0) g t.grants begins.in_force there

-- nothing was let go yet
none-let_go : (s : State) (g : Grant) → was_let_go (no_history s) g ≡ false
none-let_go s (Permission ip progress) = refl
none-let_go s (Channel number peer progress) = refl
none-let_go s g = refl

pub bursts-cost-nothing : BurstsCostNothing
bursts-cost-nothing ips s ten over_v4 own = record {
  begins = begins ips s ten over_v4 own;
  lasts = λ calls run g there kept.
      grants-last 3011 0 1000 35_000_000_000 0 (with_permissions ips s) [] calls (begins ips s ten over_v4 own) run g there
      (in-force ips s ten over_v4 own g (contains-has g (with_permissions ips s).grants there)) (inl (none-let_go (with_permissions ips s) g)) kept;
}
