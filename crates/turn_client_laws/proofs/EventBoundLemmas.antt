-- Each event that a poll queues reports a grant that can fail no more.
use Rattle.turn_client_laws.proofs.Common.{◌≡◌, ◌≢◌, ℕ, ◌≤◌, ◌+◌, Bool, true, false, ◌&&◌, ◌||◌, not, cond, List, [], ◌∷◌, ◌++◌, map, length, filter, filter_map, find, reverse, Option, Some, None}
use Rattle.turn_client_laws.proofs.Common.{refl, sym, ◌∙◌, inl, inr, arith, is_some, cons_option, length-append, length-map, length-reverse, eq-eqb, cases_Bool, SocketAddr}
use Rattle.turn_client_laws.proofs.Machine.{TransportType, AddressFamily, timed_out_transaction, State, agent_of, DataOffer, Phase, Requesting, Authenticating, Allocated, Grant, Channel, Offer}
use Rattle.turn_client_laws.proofs.Machine.{Active, Reserved, Purpose, allocations, failure_of, failures_among, family_of, is_channel_of, is_connect, is_for_any, is_of, is_pending_channel}
use Rattle.turn_client_laws.proofs.Machine.{is_pending_permission, without_grants, closed, transaction_ended, reserved, has_event, has_reply, answer_step, channel_expired, connections_unbound, failed}
use Rattle.turn_client_laws.proofs.Machine.{timed_out_step, failed_by_timeout, is_expired_channel, is_listed_for_allocation, is_over, expired_at, expired_in, last_channel_expired, next_offer}
use Rattle.turn_client_laws.proofs.Machine.{offer_step, offers_timed_out, permissions_expired, poll_step, timed_step, as_reported, first_reported, unbound, unreported_in, timed_out_purposes}
use Rattle.turn_client_laws.proofs.Machine.{TurnEvent, AllocationCreateFailed, TurnPollRet, Has, has-found, has-unreversed, expired_in-does, Lease}
use Rattle.turn_client_laws.specs.LawsBodies.{ReportsOfFailed, can_fail, max_failures}
use Rattle.turn_client_laws.proofs.AfterExpiryLemmas.{IsReserved}
use Rattle.turn_client_laws.proofs.CaseLemmas.{all-expire, by_test, by_found, answer-by}
use Rattle.turn_client_laws.proofs.EditsOfReplies.{and-false}

reports-self : (s : State) → ReportsOfFailed s s
reports-self s = omega arith

reports-then : (s t u : State) → ReportsOfFailed s t → ReportsOfFailed t u → ReportsOfFailed s u
reports-then s t u first later = omega (arith, first, later)

-- ---- grants that can fail

-- how many of these can fail
count : List Grant → ℕ
count gs = length (filter can_fail gs)

-- as many as one grant counts for
one : Grant → ℕ
one g = cond (can_fail g) 1 0

count-cons : (g : Grant) (gs : List Grant) → count (g ∷ gs) ≡ one g + count gs
unfolding count one
count-cons g gs = elim (cases_Bool (can_fail g)) [ inl e ↦ rw e (omega arith) | inr e ↦ rw e (omega arith) ]

count-append : (xs ys : List Grant) → count (xs ++ ys) ≡ count xs + count ys
unfolding count
count-append [] ys = omega arith
count-append (g ∷ xs) ys = omega (arith, count-append xs ys, count-cons g (xs ++ ys), count-cons g xs)

count-filter : (p : Grant → Bool) (gs : List Grant) → count (filter p gs) ≤ count gs
unfolding count
count-filter p [] = omega arith
count-filter p (g ∷ gs) =
    let later = count-filter p gs in
    elim (cases_Bool (p g)) [ inl e ↦ rw e (omega (arith, later, count-cons g (filter p gs), count-cons g gs)) | inr e ↦ rw e (omega (arith, later, count-cons g gs)) ]

-- one that exists and does not stay
count-without : (p : Grant → Bool) (g : Grant) (gs : List Grant) → Has g gs → p g ≡ false → can_fail g ≡ true → count (filter p gs) + 1 ≤ count gs
unfolding count one
count-without p g [] h fails can = absurd h
count-without p g (x ∷ gs) (inl e) fails can =
    rw (rw e at fails)
    (let can_here : can_fail x ≡ true = rw e at can in
    let more : count (x ∷ gs) ≡ 1 + count gs = count-cons x gs ∙ rw can_here refl in
    omega (arith, more, count-filter p gs))
count-without p g (x ∷ gs) (inr h) fails can =
    let later = count-without p g gs h fails can in
    elim (cases_Bool (p x)) [ inl e ↦ rw e (omega (arith, later, count-cons x (filter p gs), count-cons x gs)) | inr e ↦ rw e (omega (arith, later, count-cons x gs)) ]

-- ---- failures

-- none that is reserved passes the test
abbrev Spares : (Grant → Bool) → Type 0
Spares which = (g : Grant) → which g ≡ true → IsReserved g → ⊥

-- so many events are queued for these
reported_of : TransportType → (Grant → Bool) → List Grant → ℕ
reported_of transport which gs = length (filter_map (failure_of transport) (filter which gs))

-- one that fails could fail
failure-one : (transport : TransportType) (g : Grant) (more : List TurnEvent) → (IsReserved g → ⊥) → length (cons_option (failure_of transport g) more) ≡ one g + length more
unfolding one
failure-one transport (Channel number peer (Reserved until)) more spared = absurd (spared tt)
failure-one transport g more spared = omega arith

-- those that are removed, and those that stay
reported-count : (transport : TransportType) (which : Grant → Bool) (gs : List Grant) → Spares which → reported_of transport which gs + count (filter (λ g. not (which g)) gs) ≤ count gs
unfolding reported_of
reported-count transport which [] spares = omega arith
reported-count transport which (g ∷ gs) spares = by (which g) refl (reported-count transport which gs spares)
  where
    Claim : List Grant → Type 0
    Claim list = length (filter_map (failure_of transport) (filter which list)) + count (filter (λ g. not (which g)) list) ≤ count list

    by : (b : Bool) → which g ≡ b → Claim gs → Claim (g ∷ gs)
    by true e later = rw e (omega (arith, later, failure-one transport g (filter_map (failure_of transport) (filter which gs)) (spares g e), count-cons g gs))
    by false e later = rw e (omega (arith, later, count-cons g (filter (λ g. not (which g)) gs), count-cons g gs))

failed-reports : (which : Grant → Bool) (s : State) → Spares which → ReportsOfFailed s (failed which s)
unfolding count reported_of
failed-reports which s spares =
    let as_reported = reported-count s.config.allocation_transport which s.grants spares in
    let front = length-append (reverse (failures_among which s)) s.events in
    let reversed = length-reverse (failures_among which s) in
    omega (arith, as_reported, front, reversed)

unbound-reports : (which : Grant → Bool) (s : State) → Spares which → ReportsOfFailed s (unbound which s)
unbound-reports which s spares = failed-reports which s spares

without-reports : (which : Grant → Bool) (s : State) → ReportsOfFailed s (without_grants which s)
unfolding count
without-reports which s = let fewer = count-filter (λ g. not (which g)) s.grants in omega (arith, fewer)

-- ---- one channel

active-reports : (number : ℕ) (peer : SocketAddr) (expiry : Lease) (s : State) → Has (Channel number peer (Active expiry)) s.grants
    → ReportsOfFailed s (channel_expired (Some (Channel number peer (Active expiry))) s)
unfolding count
active-reports number peer expiry s there =
    let kept = filter (λ g. not (is_channel_of number g)) s.grants in
    let fewer = count-without (λ g. not (is_channel_of number g)) (Channel number peer (Active expiry)) s.grants there (rw (eq-eqb number number refl) refl) refl in
    let more = count-append kept ((reserved number peer expiry.expiry (record s { grants = [] })).grants) in
    omega (arith, fewer, more)

channel-reports : (o : Option Grant) (s : State) → ((g : Grant) → o ≡ Some g → Has g s.grants) → ReportsOfFailed s (channel_expired o s)
channel-reports (Some (Channel number peer (Active expiry))) s there = active-reports number peer expiry s (there (Channel number peer (Active expiry)) refl)
channel-reports o s there = reports-self s

last-reports : (family : AddressFamily) (now : ℕ) (s : State) → ReportsOfFailed s (last_channel_expired family now s)
last-reports family now s =
    channel-reports (find test (reverse s.grants)) s (λ g e. has-unreversed g s.grants (has-found test g (reverse s.grants) e).0)
  where
    test : Grant → Bool
    test g = is_of family g && is_expired_channel now g

-- ---- what expires is not reserved

-- a reserved channel passes none of these tests
spared : (which : Grant → Bool) → ((number : ℕ) (peer : SocketAddr) (until : ℕ) → which (Channel number peer (Reserved until)) ≡ false) → Spares which
spared which none (Channel number peer (Reserved until)) e is = let no : true ≡ false = sym e ∙ none number peer until in cc
spared which none g e is = is

and-none-between : (a b : Bool) → (a && false && b) ≡ false
and-none-between true b = refl
and-none-between false b = refl

-- ---- an allocation

module _ (family : AddressFamily) (purposes : List Purpose) where
  vain-reports : (which : Grant → Bool) → ((number : ℕ) (peer : SocketAddr) (until : ℕ) → which (Channel number peer (Reserved until)) ≡ false) → (s : State)
      → ReportsOfFailed s (failed_by_timeout family purposes which s)
  vain-reports which none s =
      failed-reports _ s (spared _ (λ number peer until.
      let g = Channel number peer (Reserved until) in
      rw (none number peer until) (and-none-between (is_of family g) (is_for_any purposes g))))

  permissions-report : (now : ℕ) (s : State) → ReportsOfFailed s (permissions_expired family now s)
  permissions-report now s = failed-reports _ s (spared _ (λ number peer until. and-false (is_of family (Channel number peer (Reserved until)))))

  connections-report : (now : ℕ) (s : State) → ReportsOfFailed s (connections_unbound family purposes now s)
  connections-report now s = unbound-reports _ s (spared _ (λ number peer until. and-false (is_of family (Channel number peer (Reserved until)))))

  offers-report : (given : Option ℕ) (s : State) → ReportsOfFailed s (offers_timed_out family given s)
  offers-report None s = failed-reports _ s (spared _ (λ number peer until. and-false (is_of family (Channel number peer (Reserved until)))))
  offers-report (Some id) s = failed-reports _ s (spared _ (λ number peer until. and-false (is_of family (Channel number peer (Reserved until)))))

  expired_in-reports : (given : Option ℕ) (now : ℕ) (s : State) → ReportsOfFailed s (expired_in family given purposes now s)
  expired_in-reports given now = expired_in-does ReportsOfFailed family given purposes now (record {
    trans = reports-then;
    channels = vain-reports is_pending_channel (λ number peer until. refl);
    permissions = vain-reports is_pending_permission (λ number peer until. refl);
    last_channel = last-reports family now;
    expired_permissions = permissions-report now;
    connects = vain-reports is_connect (λ number peer until. refl);
    connections = connections-report now;
    offers = offers-report given;
    refreshes = reports-self;
    frees = without-reports (λ g. is_of family g && is_over now g);
  })

expired_at-reports : (given : Option ℕ) (now : ℕ) (s : State) → ReportsOfFailed s (expired_at given now s)
expired_at-reports given now s =
    all-expire ReportsOfFailed reports-self reports-then given (timed_out_purposes given s) now (λ family. without-reports (is_of family))
    (λ family. expired_in-reports family (timed_out_purposes given s) given now) (allocations s) s

-- ---- poll

reported-can_fail : (family : AddressFamily) (gs : List Grant) → count (first_reported family gs) ≡ count gs
unfolding count
reported-can_fail family [] = refl
reported-can_fail family (g ∷ gs) = by (is_some (unreported_in family g)) (reported-can_fail family gs)
  where
    same : (g : Grant) → count (as_reported g ∷ gs) ≡ count (g ∷ gs)
    same (Offer offer) = refl
    same g = refl

    by : (b : Bool) → count (first_reported family gs) ≡ count gs → count (cond b (as_reported g ∷ gs) (g ∷ first_reported family gs)) ≡ count (g ∷ gs)
    by true later = same g
    by false later = omega (arith, later, count-cons g (first_reported family gs), count-cons g gs)

answer-reports : (given : Option ℕ) (now : ℕ) (s : State) → ReportsOfFailed s (answer_step given now s).1
answer-reports given now s = answer-by (ReportsOfFailed s) given now s (λ closes. reports-self s)

timed-reports : (p : Phase) (given : Option ℕ) (now : ℕ) (s : State) → p ≢ Requesting → ReportsOfFailed s (timed_step p given now s).1
timed-reports Requesting given now s other = absurd (other refl)
timed-reports Authenticating None now s other = answer-reports None now s
timed-reports Authenticating (Some id) now s other =
    by_test (λ (t : State). ReportsOfFailed s (answer_step (Some id) now t).1) (is_listed_for_allocation id s) (closed s) s
    (λ e. reports-then s (closed s) (answer_step (Some id) now (closed s)).1 (reports-self s) (answer-reports (Some id) now (closed s))) (λ e. answer-reports (Some id) now s)
timed-reports Allocated given now s other =
    reports-then s (expired_at given now s) (answer_step given now (expired_at given now s)).1 (expired_at-reports given now s) (answer-reports given now (expired_at given now s))
timed-reports p given now s other = reports-self s

offer-reports : (offer : DataOffer) (s : State) → ReportsOfFailed s (offer_step offer s).1
unfolding count
offer-reports offer s = let same = reported-can_fail (family_of offer.peer) s.grants in omega (arith, same)

pub poll-reports : (now : ℕ) (s : State) → s.phase ≢ Requesting → ReportsOfFailed s (poll_step now s).1
poll-reports now s other =
    let reported = λ (p : TurnPollRet × State). ReportsOfFailed s p.1 in
    by_test reported (has_event s || has_reply s) _ _ (λ e. reports-self s)
    (λ e. by_found reported (λ offer. offer_step offer s) (next_offer s) (timed_out_step now s) (λ offer is. offer-reports offer s)
    (by_found reported (λ t. timed_step s.phase (Some t.id) now (transaction_ended t.id s)) (timed_out_transaction (agent_of s) now) (timed_step s.phase None now s)
    (λ t is. timed-reports s.phase (Some t.id) now (transaction_ended t.id s) other) (timed-reports s.phase None now s other)))

-- ---- families

-- at most one event more for each requested family
abbrev ReportsOfFamilies : State → State → Type 0
ReportsOfFamilies s t = length t.events ≤ length s.events + length s.families

answer-families : (given : Option ℕ) (now : ℕ) (s : State) → ReportsOfFamilies s (answer_step given now s).1
answer-families given now s = answer-by (ReportsOfFamilies s) given now s (λ closes. omega arith)

timed-families : (p : Phase) (given : Option ℕ) (now : ℕ) (s : State) → p ≡ Requesting → ReportsOfFamilies s (timed_step p given now s).1
timed-families Requesting None now s e = answer-families None now s
timed-families Requesting (Some id) now s e =
    let events = map AllocationCreateFailed s.families in
    let more = length-append (reverse events) s.events in
    omega (arith, more, length-reverse events, length-map s.families AllocationCreateFailed)
timed-families p given now s e = cc

pub poll-reports_families : (now : ℕ) (s : State) → s.phase ≡ Requesting → ReportsOfFamilies s (poll_step now s).1
poll-reports_families now s e =
    let reported = λ (p : TurnPollRet × State). ReportsOfFamilies s p.1 in
    by_test reported (has_event s || has_reply s) _ _ (λ i. omega arith)
    (λ i. by_found reported (λ offer. offer_step offer s) (next_offer s) (timed_out_step now s) (λ offer is. omega arith)
    (by_found reported (λ t. timed_step s.phase (Some t.id) now (transaction_ended t.id s)) (timed_out_transaction (agent_of s) now) (timed_step s.phase None now s)
    (λ t is. timed-families s.phase (Some t.id) now (transaction_ended t.id s) e) (timed-families s.phase None now s e)))

pub most-failures : (s : State) → max_failures s ≤ length s.grants
most-failures s = by s.grants
  where
    by : (gs : List Grant) → length (filter can_fail gs) ≤ length gs
    by [] = omega arith
    by (g ∷ gs) = let later = by gs in elim (cases_Bool (can_fail g)) [ inl e ↦ rw e (omega (arith, later)) | inr e ↦ rw e (omega (arith, later)) ]
