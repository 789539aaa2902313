-- As time passes, a grant is removed only when it has expired.
use Rattle.turn_client_laws.proofs.Common.{◌≡◌, ◌⊎◌, ◌≤◌, ℕ, ap, eqb, leb, Bool, true, false, not, cond, ◌&&◌, ◌||◌, List, [], ◌∷◌, ◌++◌, filter, find, fold, reverse, Option, Some, None}
use Rattle.turn_client_laws.proofs.Common.{refl, sym, subst, ◌∙◌, inl, inr, arith, option_map_or, Contains, IsDistinct, AllByRecursion, and_parts, eqb-true, eq-eqb, leb-true, ltb-true}
use Rattle.turn_client_laws.proofs.Common.{cases_Bool, none-some, same_Some, SocketAddr}
use Rattle.turn_client_laws.proofs.Machine.{AddressFamily, timed_out_transaction, Transaction, State, agent_of, later_by, DataOffer, Grant, Allocation, Permission, Channel, Offer}
use Rattle.turn_client_laws.proofs.Machine.{Connection, DataConnection, Relay, Progress, Active, Reserved, Purpose, Phase, Requesting, Authenticating, Allocated, as_allocation, allocations}
use Rattle.turn_client_laws.proofs.Machine.{family_of, family_of_grant, is_channel_of, is_connect, is_for_any, is_of, is_of_request, is_pending_channel, is_pending_permission, closed}
use Rattle.turn_client_laws.proofs.Machine.{transaction_ended, reserved_time, has_event, has_reply, answer_step, channel_expired, connections_unbound, timed_out_purposes, timed_out_step}
use Rattle.turn_client_laws.proofs.Machine.{allocation_expires, failed_by_timeout, is_timed_out_offer, is_expired_channel, is_expired_permission, is_listed_for_allocation, is_over}
use Rattle.turn_client_laws.proofs.Machine.{is_unbound, expired_at, expired_allocation, expired_in, last_channel_expired, next_offer, offer_step, offers_timed_out, permissions_expired}
use Rattle.turn_client_laws.proofs.Machine.{poll_step, timed_step, Leaves, Poll, Has, filter-has, has-append, has-filter, has-filter_map, has-found, has-left, has-right, filter_map-has}
use Rattle.turn_client_laws.proofs.Machine.{cases_Option, has-unreversed, Lease}
use Rattle.turn_client_laws.specs.LawsNumbers.{HasDistinctNumbers, number_of_channel}
use Rattle.turn_client_laws.specs.LawsGone.{IsGivenUp, IsNowReserved, IsOver, IsPastWith, IsThereOrOver, HasExpiredOrFailed, grant_identity}
use Rattle.turn_client_laws.proofs.InAllocationLemmas.{same_family-true}
use Rattle.turn_client_laws.proofs.MoveLemmas.{Never, Remains, by_test, remains-here}
use Rattle.turn_client_laws.proofs.MovePollLemmas.{reported-loses}
use Rattle.turn_client_laws.proofs.NumberLemmas.{AreApart, all-of, numbers}
use Rattle.turn_client_laws.proofs.StandLemmas.{contains-has, has-contains}

-- ---- channels of one number are one

number-free : (n : ℕ) (peer : SocketAddr) (progress : Progress) (gs : List Grant) → AllByRecursion (λ m. eqb n m ≡ false) (numbers gs) → Has (Channel n peer progress) gs → ⊥
number-free n peer progress gs free there =
    let no : eqb n n ≡ false = all-of (λ m. eqb n m ≡ false) n (numbers gs) free (filter_map-has number_of_channel (Channel n peer progress) n gs there refl) in
    let clash : true ≡ false = sym (eq-eqb n n refl) ∙ no in cc

one-channel : (n : ℕ) (p q : SocketAddr) (a b : Progress) (gs : List Grant) → AreApart gs → Has (Channel n p a) gs → Has (Channel n q b) gs → Channel n p a ≡ Channel n q b
unfolding IsDistinct
one-channel n p q a b [] apart first second = absurd first
one-channel n p q a b (g ∷ gs) apart (inl e) (inl f) = e ∙ sym f
one-channel n p q a b (g ∷ gs) apart (inl e) (inr later) = absurd (number-free n q b gs (rw (sym e) at apart).0 later)
one-channel n p q a b (g ∷ gs) apart (inr later) (inl f) = absurd (number-free n p a gs (rw (sym f) at apart).0 later)
one-channel n p q a b (g ∷ gs) apart (inr first) (inr second) =
    let later : AreApart gs = elim (cases_Option (number_of_channel g)) [ inl e ↦ rw e at apart | inr (m, e) ↦ (rw e at apart).1 ] in
    one-channel n p q a b gs later first second

-- ---- how time leaves a grant

-- unchanged, or as the reserved channel that it becomes at its expiry
abbrev Ages : ℕ → Grant → Grant → Type 0
Ages now g is =
    (is ≡ g)
    ⊎ ((n : ℕ) × (peer : SocketAddr) × (expiry : Lease) × (g ≡ Channel n peer (Active expiry)) × (is ≡ Channel n peer (Reserved (later_by reserved_time expiry.expiry)))
    × (expiry.expiry ≤ now))

ages-family : (now : ℕ) (g is : Grant) → Ages now g is → family_of_grant is ≡ family_of_grant g
ages-family now g is ages = grind arith

ages-number : (now n : ℕ) (g is : Grant) → Ages now g is → is_channel_of n is ≡ true → is_channel_of n g ≡ true
ages-number now n g is ages of = grind arith

-- a channel of the number
channel-of : (n : ℕ) (g : Grant) → is_channel_of n g ≡ true → (peer : SocketAddr) × (progress : Progress) × (g ≡ Channel n peer progress)
channel-of n (Channel other peer progress) e = (peer, progress, rw (eqb-true other n e) refl)
channel-of n g e = cc

module _ (now : ℕ) (s : State) (apart : HasDistinctNumbers s) where
  -- it has expired
  abbrev Over : Grant → Type 0
  Over g = HasExpiredOrFailed now s g ⊎ IsPastWith now s g

  -- it is among these, or has expired
  abbrev Stays : List Grant → Grant → Type 0
  Stays gs g = ((is : Grant) × Has is gs × Ages now g is) ⊎ Over g

  -- from the grants of the state these remain, and those that do not have expired
  record Traces (gs : List Grant) : Type 0 where
    pub left : (g : Grant) → Has g s.grants → Stays gs g
    pub came : (is : Grant) → Has is gs → (g : Grant) × Has g s.grants × Ages now g is

  traces-same : Traces s.grants
  traces-same = record { left = λ g there. inl (g, there, inl refl); came = λ is there. (is, there, inl refl) }

  -- these are removed, which have expired
  abbrev TakesOver : (Grant → Bool) → Type 0
  TakesOver which = (g is : Grant) → Ages now g is → which is ≡ true → Over g

  filtered : (which : Grant → Bool) (gs : List Grant) → TakesOver which → Traces gs → Traces (filter (λ g. not (which g)) gs)
  filtered which gs over t = record {
    left = λ g there. by g (t.left g there);
    came = λ is there. t.came is (has-filter (λ g. not (which g)) is gs there).0;
  }
    where
      by : (g : Grant) → Stays gs g → Stays (filter (λ g. not (which g)) gs) g
      by g (inl (is, here, ages)) = elim (cases_Bool (which is)) [
        | inl e ↦ inr (over g is ages e)
        | inr e ↦ inl (is, filter-has (λ g. not (which g)) is gs here (rw e refl), ages)
      ]
      by g (inr gone) = inr gone

  -- the channel expires, and is reserved
  reserved-traces : (n : ℕ) (peer : SocketAddr) (expiry : Lease) (gs : List Grant) → expiry.expiry ≤ now → Has (Channel n peer (Active expiry)) gs → Traces gs
      → Traces (filter (λ g. not (is_channel_of n g)) gs ++ Channel n peer (Reserved (later_by reserved_time expiry.expiry)) ∷ [])
  reserved-traces n peer expiry gs passed here t = record { left = λ g there. by g there (t.left g there); came = λ is there. from is (has-append is kept (held ∷ []) there) }
    where
      kept : List Grant
      kept = filter (λ g. not (is_channel_of n g)) gs

      was : Grant
      was = Channel n peer (Active expiry)

      held : Grant
      held = Channel n peer (Reserved (later_by reserved_time expiry.expiry))

      -- it existed from the start
      first : Has was s.grants
      first = of (t.came was here)
        where
          of : (g : Grant) × Has g s.grants × Ages now g was → Has was s.grants
          of (g, there, inl e) = rw e there
          of (g, there, inr (m, to, end, e, f, past)) = cc

      last : Has held (kept ++ held ∷ [])
      last = has-right held kept (held ∷ []) (inl refl)

      one : (g : Grant) → Has g s.grants → is_channel_of n g ≡ true → Stays (kept ++ held ∷ []) g
      one g there of = let (to, progress, e) = channel-of n g of in
          inl (held, last, inr (n, peer, expiry, e ∙ one-channel n to peer progress (Active expiry) s.grants apart (rw e at there) first, refl, passed))

      by : (g : Grant) → Has g s.grants → Stays gs g → Stays (kept ++ held ∷ []) g
      by g there (inl (is, within, ages)) = elim (cases_Bool (is_channel_of n is)) [
        | inl e ↦ one g there (ages-number now n g is ages e)
        | inr e ↦ inl (is, has-left is kept (held ∷ []) (filter-has (λ g. not (is_channel_of n g)) is gs within (rw e refl)), ages)
      ]
      by g there (inr gone) = inr gone

      from : (is : Grant) → Has is kept ⊎ Has is (held ∷ []) → (g : Grant) × Has g s.grants × Ages now g is
      from is (inl within) = t.came is (has-filter (λ g. not (is_channel_of n g)) is gs within).0
      from is (inr (inl e)) = (was, first, inr (n, peer, expiry, refl, e, passed))
      from is (inr (inr none)) = absurd none

  channel-traces : (o : Option Grant) (t : State) → ((g : Grant) → o ≡ Some g → Has g t.grants × (is_expired_channel now g ≡ true)) → Traces t.grants → Traces (channel_expired o t).grants
  channel-traces (Some (Channel n peer (Active expiry))) t there traces =
      let (here, passed) = there (Channel n peer (Active expiry)) refl in reserved-traces n peer expiry t.grants (leb-true expiry.expiry now passed) here traces
  channel-traces o t there traces = traces

  -- ---- what is removed has expired

  -- the expiry of a permission
  permission-over : (family : AddressFamily) → TakesOver (λ g. is_of family g && is_expired_permission now g)
  permission-over family g is ages e = by is ages (and_parts (is_of family is) (is_expired_permission now is) e).1
    where
      by : (is : Grant) → Ages now g is → is_expired_permission now is ≡ true → Over g
      by (Permission ip (Active expiry)) (inl e) expired_at = inl (rw (sym e) (leb-true expiry.expiry now expired_at))
      by (Permission ip (Active expiry)) (inr (n, peer, end, e, f, passed)) expired_at = cc
      by is _ expired_at = cc

  -- what was reserved long enough
  free-over : (family : AddressFamily) → TakesOver (λ g. is_of family g && is_over now g)
  free-over family g is ages e = by is ages (and_parts (is_of family is) (is_over now is) e).1
    where
      by : (is : Grant) → Ages now g is → is_over now is ≡ true → Over g
      by (Channel n peer (Reserved until)) (inl e) over = inl (rw (sym e) (ltb-true until now over))
      by (Channel n peer (Reserved until)) (inr (m, to, expiry, e, f, passed)) over =
          let same : until ≡ later_by reserved_time expiry.expiry = cc in
          inl (rw e (ltb-true (later_by reserved_time expiry.expiry) now (rw same at over)))
      by is a over = cc

  -- all grants in an allocation whose expiry has passed
  family-over : (a : Relay) → Has (Allocation a) s.grants → a.expiry ≤ now → TakesOver (is_of (family_of a.relayed))
  family-over a there past g is ages e =
      inr (a, has-contains (Allocation a) s.grants there, sym (ages-family now g is ages) ∙ same_family-true (family_of_grant is) (family_of a.relayed) e, past)

  module _ (x : Option Transaction) (e : timed_out_transaction (agent_of s) now ≡ x) where
    abbrev given : Option ℕ
    given = option_map_or (λ (t : Transaction). Some t.id) x None

    abbrev purposes : List Purpose
    purposes = timed_out_purposes given s

    asked-vain : (g : Grant) → is_for_any purposes g ≡ true → IsGivenUp now s g
    asked-vain g for = by x e for
      where
        by : (o : Option Transaction) → timed_out_transaction (agent_of s) now ≡ o → is_for_any (timed_out_purposes (option_map_or (λ (t : Transaction). Some t.id) o None) s) g ≡ true
            → IsGivenUp now s g
        by (Some t) f for = (t, f, for)
        by None f for = cc

    -- a kind of grant that is pending, and that is removed when its request times out
    abbrev IsVain : (Grant → Bool) → Type 0
    IsVain which = (is : Grant) → which is ≡ true → (IsGivenUp now s is → HasExpiredOrFailed now s is) × ((n : ℕ) (peer : SocketAddr) (until : ℕ) → is ≡ Channel n peer (Reserved until) → ⊥)

    vain-over : (family : AddressFamily) (which : Grant → Bool) → IsVain which → TakesOver (λ g. is_of family g && which g && is_for_any purposes g)
    vain-over family which vain g is ages e =
        let (first, for) = and_parts (is_of family is && which is) (is_for_any purposes is) e in
        by ages (vain is (and_parts (is_of family is) (which is) first).1) (asked-vain is for)
      where
        by : Ages now g is → (IsGivenUp now s is → HasExpiredOrFailed now s is) × ((n : ℕ) (peer : SocketAddr) (until : ℕ) → is ≡ Channel n peer (Reserved until) → ⊥) → IsGivenUp now s is → Over g
        by (inl same) (spent, free) up = inl (subst (HasExpiredOrFailed now s) same (spent up))
        by (inr (n, peer, expiry, e, f, passed)) (spent, free) up = absurd (free n peer (later_by reserved_time expiry.expiry) f)

    channel-vain : IsVain is_pending_channel
    channel-vain g e = grind arith

    permission-vain : IsVain is_pending_permission
    permission-vain g e = grind arith

    connect-vain : IsVain is_connect
    connect-vain g e = grind arith

    -- a connection that is not bound in time, or whose request timed out
    unbound-over : (family : AddressFamily) → TakesOver (λ g. is_of family g && is_unbound purposes now g)
    unbound-over family g is ages passes = by is ages (and_parts (is_of family is) (is_unbound purposes now is) passes).1
      where
        spent : (c : DataConnection) (o : Option ℕ) → c.deadline ≡ o → option_map_or (λ deadline. leb deadline now || is_for_any purposes (Connection c)) o false ≡ true
            → HasExpiredOrFailed now s (Connection c)
        spent c None f unbound = cc
        spent c (Some deadline) f unbound =
            let up : (deadline ≤ now) ⊎ IsGivenUp now s (Connection c) = elim (cases_Bool (leb deadline now)) [
              | inl h ↦ inl (leb-true deadline now h)
              | inr h ↦ inr (asked-vain (Connection c) (rw h at unbound))
            ] in
            (deadline, f, up)

        by : (is : Grant) → Ages now g is → is_unbound purposes now is ≡ true → Over g
        by (Connection c) (inl same) unbound = inl (subst (HasExpiredOrFailed now s) same (spent c c.deadline refl unbound))
        by (Connection c) (inr (n, peer, expiry, e, f, passed)) unbound = cc
        by is _ unbound = cc

    -- an offer whose request timed out
    offer-over : (family : AddressFamily) → TakesOver (λ g. is_of family g && is_timed_out_offer given g)
    offer-over family g is ages passes = by is ages (and_parts (is_of family is) (is_timed_out_offer given is) passes).1
      where
        up : (offer : DataOffer) (o : Option Transaction) → timed_out_transaction (agent_of s) now ≡ o
            → is_timed_out_offer (option_map_or (λ (t : Transaction). Some t.id) o None) (Offer offer) ≡ true → HasExpiredOrFailed now s (Offer offer)
        up offer (Some t) f of = (t, f, of)
        up offer None f of = cc

        no : (is : Grant) (o : Option Transaction) → ((id : ℕ) → is_of_request id is ≡ false) → is_timed_out_offer (option_map_or (λ (t : Transaction). Some t.id) o None) is ≡ true → ⊥
        no is (Some t) none of = let clash : true ≡ false = sym of ∙ none t.id in cc
        no is None none of = cc

        by : (is : Grant) → Ages now g is → is_timed_out_offer given is ≡ true → Over g
        by (Offer offer) (inl same) of = inl (subst (HasExpiredOrFailed now s) same (up offer x e of))
        by (Offer offer) (inr (n, peer, expiry, e, f, passed)) of = cc
        by is a of = absurd (no is x (λ id. refl) of)

    -- ---- one allocation after the other

    expired_in-traces : (family : AddressFamily) (t : State) → Traces t.grants → Traces (expired_in family given purposes now t).grants
    expired_in-traces family t traces =
        let a = failed_by_timeout family purposes is_pending_channel t in
        let b = failed_by_timeout family purposes is_pending_permission a in
        let c = last_channel_expired family now b in
        let d = permissions_expired family now c in
        let f = failed_by_timeout family purposes is_connect d in
        let g = connections_unbound family purposes now f in
        let h = offers_timed_out family given g in
        let has_expired = λ (y : Grant). is_of family y && is_expired_channel now y in
        let in_a = filtered _ t.grants (vain-over family is_pending_channel channel-vain) traces in
        let in_b = filtered _ a.grants (vain-over family is_pending_permission permission-vain) in_a in
        let in_c = channel-traces (find has_expired (reverse b.grants)) b (λ y found.
        let (there, is) = has-found has_expired y (reverse b.grants) found in
        (has-unreversed y b.grants there, (and_parts (is_of family y) (is_expired_channel now y) is).1)) in_b in
        let in_d = filtered _ c.grants (permission-over family) in_c in
        let in_f = filtered _ d.grants (vain-over family is_connect connect-vain) in_d in
        let in_g = filtered _ f.grants (unbound-over family) in_f in
        let in_h = filtered _ g.grants (offer-over family) in_g in
        filtered _ h.grants (free-over family) in_h

    allocation-traces : (a : Relay) → Has (Allocation a) s.grants → (t : State) → Traces t.grants → Traces (expired_allocation given purposes now t a).grants
    allocation-traces a there t traces = by (allocation_expires purposes now t a) refl
      where
        by : (b : Bool) → allocation_expires purposes now t a ≡ b → Traces (expired_allocation given purposes now t a).grants
        by true f = rw f (filtered (is_of (family_of a.relayed)) t.grants (family-over a there (leb-true a.expiry now (and_parts (leb a.expiry now) _ f).0)) traces)
        by false f = rw f (expired_in-traces (family_of a.relayed) t traces)

    all-trace : (relays : List Relay) → ((a : Relay) → Has a relays → Has (Allocation a) s.grants) → (t : State) → Traces t.grants
        → Traces (fold (expired_allocation given purposes now) t relays).grants
    all-trace [] there t traces = traces
    all-trace (a ∷ relays) there t traces =
        all-trace relays (λ b here. there b (inr here)) (expired_allocation given purposes now t a) (allocation-traces a (there a (inl refl)) t traces)

    allocation-there : (a : Relay) → Has a (allocations s) → Has (Allocation a) s.grants
    allocation-there a here = let (g, there, reads) = has-filter_map as_allocation a s.grants here in of g reads there
      where
        of : (g : Grant) → as_allocation g ≡ Some a → Has g s.grants → Has (Allocation a) s.grants
        of (Allocation b) reads there = rw (sym (same_Some b a reads)) there
        of g reads there = absurd (none-some a reads)

    -- whatever is outstanding
    expired_at-traces : (t : State) → t.grants ≡ s.grants → t.listed ≡ s.listed → Traces (fold (expired_allocation given purposes now) t (allocations s)).grants
    expired_at-traces t same listed = all-trace (allocations s) allocation-there t (rw same traces-same)

  -- ---- a poll

  -- it was an active channel that expired, and is reserved
  abbrev IsHeld : List Grant → Grant → Type 0
  IsHeld gs (Channel n peer (Active lease)) = (lease.expiry ≤ now) × Has (Channel n peer (Reserved (later_by reserved_time lease.expiry))) gs
  IsHeld gs g = ⊥

  -- what no longer exists has expired
  abbrev Spares : List Grant → Type 0
  Spares gs = (g : Grant) → Has g s.grants → Remains g gs ⊎ IsHeld gs g ⊎ IsOver now s g

  spares-same : Spares s.grants
  spares-same g there = inl (remains-here g s.grants there)

  traces-spare : (gs : List Grant) → s.phase ≡ Allocated → Traces gs → Spares gs
  traces-spare gs phase t g there =
      elim (t.left g there) [ inl (is, here, ages) ↦ aged is here ages | inr over ↦ inr (inr (phase, over)) ]
    where
      aged : (is : Grant) → Has is gs → Ages now g is → Remains g gs ⊎ IsHeld gs g ⊎ IsOver now s g
      aged is here (inl e) = inl (is, here, ap grant_identity (sym e))
      aged is here (inr (n, peer, lease, e, f, passed)) = inr (inl (subst (IsHeld gs) (sym e) (passed, subst (λ (x : Grant). Has x gs) f here)))

  answer-grants : (given : Option ℕ) (t : State) → (answer_step given now t).1.grants ≡ t.grants
  answer-grants given t = grind arith

  none-spares : timed_out_transaction (agent_of s) now ≡ None → (p : Phase) → s.phase ≡ p → Spares (timed_step p None now s).1.grants
  none-spares e Requesting f = subst Spares (sym (answer-grants None s)) spares-same
  none-spares e Authenticating f = subst Spares (sym (answer-grants None s)) spares-same
  none-spares e Allocated f = subst Spares (sym (answer-grants None (expired_at None now s))) (traces-spare (expired_at None now s).grants f (expired_at-traces None e s refl refl))
  none-spares e p f = spares-same

  given-spares : (x : Transaction) → timed_out_transaction (agent_of s) now ≡ Some x → (p : Phase) → s.phase ≡ p → Spares (timed_step p (Some x.id) now (transaction_ended x.id s)).1.grants
  given-spares x e Authenticating f = by (is_listed_for_allocation x.id u)
    where
      u : State
      u = transaction_ended x.id s

      by : (b : Bool) → Spares (answer_step (Some x.id) now (cond b (closed u) u)).1.grants
      by true = subst Spares (sym (answer-grants (Some x.id) (closed u))) spares-same
      by false = subst Spares (sym (answer-grants (Some x.id) u)) spares-same
  given-spares x e Allocated f =
      let u = transaction_ended x.id s in
      subst Spares (sym (answer-grants (Some x.id) (expired_at (Some x.id) now u))) (traces-spare (expired_at (Some x.id) now u).grants f (expired_at-traces (Some x) e u refl refl))
  given-spares x e p f = spares-same

  timed-spares : (o : Option Transaction) → timed_out_transaction (agent_of s) now ≡ o
      → Spares (option_map_or (λ (t : Transaction). timed_step s.phase (Some t.id) now (transaction_ended t.id s)) o (timed_step s.phase None now s)).1.grants
  timed-spares None e = none-spares e s.phase refl
  timed-spares (Some x) e = given-spares x e s.phase refl

  poll-spares : Spares (poll_step now s).1.grants
  poll-spares =
      by_test (λ t. Spares t.grants) (has_event s || has_reply s) _ _ spares-same (offered (next_offer s))
    where
      reported : (offer : DataOffer) → Spares (offer_step offer s).1.grants
      reported offer g there = elim (reported-loses Never (family_of offer.peer) s.grants g there) [ inl remains ↦ inl remains | inr never ↦ absurd never ]

      offered : (o : Option DataOffer) → Spares (option_map_or (λ offer. offer_step offer s) o (timed_out_step now s)).1.grants
      offered None = timed-spares (timed_out_transaction (agent_of s) now) refl
      offered (Some offer) = reported offer

-- even if memory allocation fails
pub poll-over : (now : ℕ) (s t : State) (g : Grant) → Leaves (Poll now) s t → HasDistinctNumbers s → Contains s.grants g → IsThereOrOver now s t g
poll-over now s t g leaves apart there = elim (of leaves) [
  | inl (is, h, same) ↦ inl (is, has-contains is t.grants h, same)
  | inr (inl held) ↦ inr (inl (reserved g held))
  | inr (inr over) ↦ inr (inr over)
]
  where
    here : Has g s.grants
    here = contains-has g s.grants there

    reserved : (g : Grant) → IsHeld now s apart t.grants g → IsNowReserved now t g
    reserved (Channel n peer (Active lease)) (passed, is) = (passed, has-contains (Channel n peer (Reserved (later_by reserved_time lease.expiry))) t.grants is)
    reserved g none = absurd none

    of : Leaves (Poll now) s t → Remains g t.grants ⊎ IsHeld now s apart t.grants g ⊎ IsOver now s g
    of (inl e) = subst (λ (u : State). Remains g u.grants ⊎ IsHeld now s apart u.grants g ⊎ IsOver now s g) (sym e) (poll-spares now s apart g here)
    of (inr e) = subst (λ (u : State). Remains g u.grants ⊎ IsHeld now s apart u.grants g ⊎ IsOver now s g) (sym e) (inl (remains-here g s.grants here))
