-- A `poll` tells of what may be reported, once.
use Rattle.turn_client_laws.proofs.Common.{◌≡◌, ℕ, Bool, true, false, ◌&&◌, ◌||◌, List, [], ◌∷◌, ◌++◌, map, find, fold, reverse, Option, Some, None, refl, arith, inl, inr, is_some, and_parts}
use Rattle.turn_client_laws.proofs.Common.{cases_Bool, eq-eqb}
use Rattle.turn_client_laws.proofs.Machine.{AddressFamily, timed_out_transaction, State, agent_of, later_by, TurnEvent, AllocationCreateFailed, ChannelCreateFailed, Grant, Channel, Connection, Active}
use Rattle.turn_client_laws.proofs.Machine.{Reserved, Purpose, Relay, TurnPollRet, Phase, Requesting, Authenticating, Allocated, has_event, has_reply, closed, reserved_time, transaction_ended}
use Rattle.turn_client_laws.proofs.Machine.{allocations, family_of, is_channel_of, is_connect, is_for_any, is_of, is_pending_channel, is_pending_permission, without_grants, allocation_expires}
use Rattle.turn_client_laws.proofs.Machine.{answer_step, as_reported, channel_expired, first_reported, is_expired_channel, is_expired_permission, is_listed_for_allocation, is_over, is_timed_out_offer}
use Rattle.turn_client_laws.proofs.Machine.{is_unbound, expired_at, expired_allocation, expired_in, next_offer, offer_step, poll_step, refreshes_timed_out, set_free, silent_step, timed_out_purposes}
use Rattle.turn_client_laws.proofs.Machine.{timed_out_step, timed_step, unreported_in, Has, cases_Option, has-found, has-unreversed, expired_in-does}
use Rattle.turn_client_laws.proofs.Laws.{answer-by, by_found, by_test}
use Rattle.turn_client_runs.specs.Reported.{is_like, is_to_come}
use Rattle.turn_client_runs.proofs.LastingCounts.{passes, passes-append}
use Rattle.turn_client_runs.proofs.ReportedCounts.{passes-reverse}
use Rattle.turn_client_runs.proofs.ReportedLemmas.{IsLosable, Spends, channel-reserved, spends-failed, spends-fold, spends-removed, spends-replaced-first, spends-same, spends-trans}
use Rattle.turn_client_runs.proofs.ReportedAllocates.{all-failed}

-- ---- what fails is no reserved channel

pending-channel : (g : Grant) → is_pending_channel g ≡ true → IsLosable g
pending-channel (Channel number peer (Reserved until)) is = cc
pending-channel (Connection c) is = cc
pending-channel g is = tt

pending-permission : (g : Grant) → is_pending_permission g ≡ true → IsLosable g
pending-permission (Channel number peer (Reserved until)) is = cc
pending-permission (Connection c) is = cc
pending-permission g is = tt

pending-connect : (g : Grant) → is_connect g ≡ true → IsLosable g
pending-connect (Channel number peer (Reserved until)) is = cc
pending-connect (Connection c) is = cc
pending-connect g is = tt

module _ (given : Option ℕ) (purposes : List Purpose) (now : ℕ) where
  expired-permission : (g : Grant) → is_expired_permission now g ≡ true → IsLosable g
  expired-permission (Channel number peer (Reserved until)) is = cc
  expired-permission (Connection c) is = cc
  expired-permission g is = tt

  unbound-connection : (g : Grant) → is_unbound purposes now g ≡ true → IsLosable g
  unbound-connection (Channel number peer (Reserved until)) is = cc
  unbound-connection (Connection c) is = elim (cases_Option c.deadline) [
    | inl none ↦ let no : false ≡ true = rw none at is in cc
    | inr (deadline, f) ↦ rw f refl
  ]
  unbound-connection g is = tt

  timed_out-offer : (o : Option ℕ) (g : Grant) → is_timed_out_offer o g ≡ true → IsLosable g
  timed_out-offer None (Channel number peer (Reserved until)) is = cc
  timed_out-offer (Some id) (Channel number peer (Reserved until)) is = cc
  timed_out-offer None (Connection c) is = cc
  timed_out-offer (Some id) (Connection c) is = cc
  timed_out-offer o g is = tt

  asked-for : (family : AddressFamily) (which : Grant → Bool) → ((g : Grant) → which g ≡ true → IsLosable g) → (g : Grant) → (is_of family g && which g && is_for_any purposes g) ≡ true → IsLosable g
  asked-for family which loses g is =
      let (first, for) = and_parts (is_of family g && which g) (is_for_any purposes g) is in
      loses g (and_parts (is_of family g) (which g) first).1

  of-kind : (family : AddressFamily) (which : Grant → Bool) → ((g : Grant) → which g ≡ true → IsLosable g) → (g : Grant) → (is_of family g && which g) ≡ true → IsLosable g
  of-kind family which loses g is = loses g (and_parts (is_of family g) (which g) is).1

  module _ (e : TurnEvent) where
    same : (s : State) → Spends e s s
    same s = spends-same e s s refl refl refl

    channel-expires : (o : Option Grant) (s : State) → ((g : Grant) → o ≡ Some g → Has g s.grants) → Spends e s (channel_expired o s)
    channel-expires (Some (Channel number peer (Active lease))) s found =
        spends-replaced-first e (is_channel_of number) (ChannelCreateFailed s.config.allocation_transport peer) (Channel number peer (Active lease)) s
        (found (Channel number peer (Active lease)) refl) (eq-eqb number number refl) (Channel number peer (Reserved (later_by reserved_time lease.expiry)))
        (channel-reserved e s.config.allocation_transport number peer lease (later_by reserved_time lease.expiry)) (channel_expired (Some (Channel number peer (Active lease))) s) refl refl refl
    channel-expires o s found = same s

    -- ---- an allocation that stays, and all of them

    expired_in-spends : (family : AddressFamily) (s : State) → Spends e s (expired_in family given purposes now s)
    expired_in-spends family = expired_in-does (Spends e) family given purposes now (record {
      trans = spends-trans e;
      channels = spends-failed e _ (asked-for family is_pending_channel pending-channel);
      permissions = spends-failed e _ (asked-for family is_pending_permission pending-permission);
      last_channel = λ s. channel-expires (find (λ g. is_of family g && is_expired_channel now g) (reverse s.grants)) s
          (λ g found. has-unreversed g s.grants (has-found (λ h. is_of family h && is_expired_channel now h) g (reverse s.grants) found).0);
      expired_permissions = spends-failed e _ (of-kind family (is_expired_permission now) expired-permission);
      connects = spends-failed e _ (asked-for family is_connect pending-connect);
      connections = spends-failed e _ (of-kind family (is_unbound purposes now) unbound-connection);
      offers = spends-failed e _ (of-kind family (is_timed_out_offer given) (timed_out-offer given));
      refreshes = λ s. spends-same e s (refreshes_timed_out family purposes s) refl refl refl;
      frees = λ s. spends-removed e (λ g. is_of family g && is_over now g) s (set_free family now s) refl refl refl;
    })

    expired_at-spends : (relays : List Relay) (s : State) → Spends e s (fold (expired_allocation given purposes now) s relays)
    expired_at-spends relays = spends-fold e (expired_allocation given purposes now) relays (λ t a there.
        by_test (Spends e t) (allocation_expires purposes now t a) (without_grants (is_of (family_of a.relayed)) t) (expired_in (family_of a.relayed) given purposes now t)
        (λ is. spends-removed e (is_of (family_of a.relayed)) t (without_grants (is_of (family_of a.relayed)) t) refl refl refl) (λ other. expired_in-spends (family_of a.relayed) t))

-- ---- offers are reported, of which as much may come

reported-comes : (e : TurnEvent) (g : Grant) → is_to_come e (as_reported g) ≡ is_to_come e g
reported-comes e g = grind arith

first-reported : (e : TurnEvent) (family : AddressFamily) (gs : List Grant) → passes (is_to_come e) (first_reported family gs) ≡ passes (is_to_come e) gs
first-reported e family [] = refl
first-reported e family (g ∷ gs) = elim (cases_Bool (is_some (unreported_in family g))) [
  | inl f ↦ rw (f, reported-comes e g) refl
  | inr f ↦ rw f (omega (arith, first-reported e family gs))
]

-- ---- a `poll`

module _ (e : TurnEvent) (now : ℕ) where
  untouched : (s : State) → Spends e s s
  untouched s = spends-same e s s refl refl refl

  answer-spends : (given : Option ℕ) (s t : State) → Spends e s t → Spends e s (answer_step given now t).1
  answer-spends given s t spends = answer-by (Spends e s) given now t (λ closes. spends)

  -- each family that is still requested fails
  silent-spends : (s t : State) → t.events ≡ reverse (map AllocationCreateFailed s.families) ++ s.events → t.grants ≡ s.grants → t.families ≡ [] → Spends e s t
  silent-spends s t events grants families = rw (events, grants, families) (omega (
    arith,
    passes-append (is_like e) (reverse (map AllocationCreateFailed s.families)) s.events,
    passes-reverse (is_like e) (map AllocationCreateFailed s.families),
    all-failed e s.families,
  ))

  timed-spends : (p : Phase) (given : Option ℕ) (s : State) → Spends e s (timed_step p given now s).1
  timed-spends Requesting None s = answer-spends None s s (untouched s)
  timed-spends Requesting (Some id) s = silent-spends s (silent_step s).1 refl refl refl
  timed-spends Authenticating None s = answer-spends None s s (untouched s)
  timed-spends Authenticating (Some id) s =
      by_test (λ (u : State). Spends e s (answer_step (Some id) now u).1) (is_listed_for_allocation id s) (closed s) s
      (λ f. answer-spends (Some id) s (closed s) (spends-same e s (closed s) refl refl refl)) (λ f. answer-spends (Some id) s s (untouched s))
  timed-spends Allocated given s = answer-spends given s (expired_at given now s) (expired_at-spends given (timed_out_purposes given s) now e (allocations s) s)
  timed-spends p given s = untouched s

  pub poll-spends : (s : State) → Spends e s (poll_step now s).1
  poll-spends s =
      let Claim = λ (x : TurnPollRet × State). Spends e s x.1 in
      by_test Claim (has_event s || has_reply s) _ _ (λ f. untouched s)
      (λ f. by_found Claim (λ offer. offer_step offer s) (next_offer s) (timed_out_step now s) (λ offer is. omega (arith, first-reported e (family_of offer.peer) s.grants))
      (by_found Claim (λ x. timed_step s.phase (Some x.id) now (transaction_ended x.id s)) (timed_out_transaction (agent_of s) now) (timed_step s.phase None now s)
      (λ x is. timed-spends s.phase (Some x.id) (transaction_ended x.id s)) (timed-spends s.phase None s)))
