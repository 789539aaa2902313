-- Which events a `poll` adds.
use Rattle.turn_client_laws.proofs.Common.{◌≡◌, ◌⊎◌, ◌∙◌, ◌≤◌, ℕ, Bool, true, false, not, ◌&&◌, ◌||◌, leb, List, [], ◌∷◌, map, filter, find, fold, reverse, Option, Some, None, refl, subst, sym, ap}
use Rattle.turn_client_laws.proofs.Common.{inl, inr, IsSome, option_map_or, and_parts, leb-true, or_cases}
use Rattle.turn_client_laws.proofs.Machine.{AddressFamily, timed_out_transaction, Transaction, State, agent_of, TurnEvent, AllocationCreateFailed, ChannelCreateFailed, Grant, Permission, Channel}
use Rattle.turn_client_laws.proofs.Machine.{Connect, Offer, Connection, Pending, Active, Reserved, Purpose, Relay, TurnPollRet, Phase, Requesting, Authenticating, Allocated, has_event, has_reply}
use Rattle.turn_client_laws.proofs.Machine.{closed, reserved, transaction_ended, allocations, failure_of, failures_among, family_of, is_channel_of, is_connect, is_for_any, is_of, is_of_request}
use Rattle.turn_client_laws.proofs.Machine.{is_pending_channel, is_pending_permission, purposes_of, without_grants, allocation_expires, answer_step, channel_expired, failed, is_expired_channel}
use Rattle.turn_client_laws.proofs.Machine.{is_expired_permission, is_listed_for_allocation, is_timed_out_offer, is_unbound, expired_at, expired_allocation, expired_in, next_offer, offer_step}
use Rattle.turn_client_laws.proofs.Machine.{poll_step, silent_step, timed_out_purposes, timed_out_step, timed_step, Has, has-append, has-filter, has-filter_map, has-found, has-unreversed}
use Rattle.turn_client_laws.proofs.Machine.{expired_in-does}
use Rattle.turn_client_laws.proofs.Laws.{answer-by, by_found, by_test, has-mapped, IsReserved, has-contains}
use Rattle.turn_client_runs.specs.Events.{FailsInTime, HasFailed}
use Rattle.turn_client_runs.proofs.AppendLemmas.{has-last}
use Rattle.turn_client_runs.proofs.EventLemmas.{AddsReported, adds-before, adds-none, reported-one, reports-fold, reports-same, reports-trans}

-- the last channel that expires is there, and has expired
pub expired_channel-there : (family : AddressFamily) (now : ℕ) (s : State) (g : Grant) → find (λ g. is_of family g && is_expired_channel now g) (reverse s.grants) ≡ Some g
    → Has g s.grants × (is_expired_channel now g ≡ true)
expired_channel-there family now s g e =
    let (there, is) = has-found (λ g. is_of family g && is_expired_channel now g) g (reverse s.grants) e in
    (has-unreversed g s.grants there, (and_parts (is_of family g) (is_expired_channel now g) is).1)

-- ---- what fails, where a request that was made for these purposes may have timed out

module _ (given : Option ℕ) (purposes : List Purpose) (now : ℕ) (before : State) where
  abbrev pub IsLost : Grant → Type 0
  IsLost (Permission ip (Active lease)) = lease.expiry ≤ now
  IsLost (Permission ip (Pending is_kept)) = is_for_any purposes (Permission ip (Pending is_kept)) ≡ true
  IsLost (Channel number peer (Active lease)) = lease.expiry ≤ now
  IsLost (Channel number peer (Pending is_kept)) = is_for_any purposes (Channel number peer (Pending is_kept)) ≡ true
  IsLost (Connect peer) = is_for_any purposes (Connect peer) ≡ true
  IsLost (Offer offer) = (id : ℕ) × (given ≡ Some id) × (is_of_request id (Offer offer) ≡ true)
  IsLost (Connection c) = (deadline : ℕ) × (c.deadline ≡ Some deadline) × ((deadline ≤ now) ⊎ (is_for_any purposes (Connection c) ≡ true))
  IsLost _ = ⊥

  -- the event reports a grant that is lost
  abbrev pub Lost : TurnEvent → Type 0
  Lost e = (g : Grant) × Has g before.grants × (failure_of before.config.allocation_transport g ≡ Some e) × IsLost g

  -- no grant is new, apart from reserved channels
  abbrev pub Keeps : State → Type 0
  Keeps t = (t.config ≡ before.config) × ((g : Grant) → Has g t.grants → Has g before.grants ⊎ IsReserved g)

  abbrev Say : State → State → Type 0
  Say s t = AddsReported Keeps Lost s t

  unreserved : (g : Grant) → IsReserved g → IsLost g → ⊥
  unreserved (Channel number peer (Reserved until)) is lost = lost
  unreserved g is lost = is

  was-there : (s : State) → Keeps s → (g : Grant) → Has g s.grants → IsLost g → Has g before.grants
  was-there s keeps g there lost = elim (keeps.1 g there) [ inl old ↦ old | inr is ↦ absurd (unreserved g is lost) ]

  without-keeps : (which : Grant → Bool) (s : State) → Keeps s → Keeps (without_grants which s)
  without-keeps which s keeps = (keeps.0, λ g there. keeps.1 g (has-filter (λ g. not (which g)) g s.grants there).0)

  without-says : (which : Grant → Bool) (s : State) → Say s (without_grants which s)
  without-says which s keeps = (without-keeps which s keeps, adds-none Keeps Lost s (without_grants which s) refl)

  failed-says : (which : Grant → Bool) → ((g : Grant) → which g ≡ true → IsLost g) → (s : State) → Say s (failed which s)
  failed-says which loses s keeps = (without-keeps which s keeps, adds-before Keeps Lost s (failed which s) (failures_among which s) refl each)
    where
      each : (e : TurnEvent) → Has e (failures_among which s) → Lost e
      each e there =
          let (g, kept, reported) = has-filter_map (failure_of s.config.allocation_transport) e (filter which s.grants) there in
          let (here, is) = has-filter which g s.grants kept in
          (g, was-there s keeps g here (loses g is), ap (λ c. failure_of c.allocation_transport g) (sym keeps.0) ∙ reported, loses g is)

  channel-says : (o : Option Grant) (s : State) → ((g : Grant) → o ≡ Some g → Has g s.grants × (is_expired_channel now g ≡ true)) → Say s (channel_expired o s)
  channel-says (Some (Channel number peer (Active expiry))) s found =
      let g = Channel number peer (Active expiry) in
      let end = channel_expired (Some g) s in
      let (there, is) = found g refl in
      let lost : IsLost g = leb-true expiry.expiry now is in
      λ keeps. (
        (keeps.0, grants keeps),
        adds-before Keeps Lost s end (ChannelCreateFailed s.config.allocation_transport peer ∷ []) refl
            (reported-one Keeps Lost (ChannelCreateFailed s.config.allocation_transport peer)
            (g, was-there s keeps g there lost, ap (λ c. failure_of c.allocation_transport g) (sym keeps.0), lost)),
      )
    where
      grants : Keeps s → (g : Grant) → Has g (reserved number peer expiry.expiry s).grants → Has g before.grants ⊎ IsReserved g
      grants keeps g there = elim (has-last g (without_grants (is_channel_of number) s).grants _ there) [
        | inl old ↦ (without-keeps (is_channel_of number) s keeps).1 g old
        | inr is ↦ inr (subst IsReserved (sym is) tt)
      ]
  channel-says o s found = reports-same Keeps Lost s

  -- ---- each kind

  asked-for : (family : AddressFamily) (which : Grant → Bool) → ((g : Grant) → which g ≡ true → is_for_any purposes g ≡ true → IsLost g) → (g : Grant)
      → (is_of family g && which g && is_for_any purposes g) ≡ true → IsLost g
  asked-for family which loses g is =
      let (first, for) = and_parts (is_of family g && which g) (is_for_any purposes g) is in
      loses g (and_parts (is_of family g) (which g) first).1 for

  lost-channel : (g : Grant) → is_pending_channel g ≡ true → is_for_any purposes g ≡ true → IsLost g
  lost-channel (Channel number peer (Pending is_kept)) is for = for
  lost-channel g is for = cc

  lost-permission : (g : Grant) → is_pending_permission g ≡ true → is_for_any purposes g ≡ true → IsLost g
  lost-permission (Permission ip (Pending is_kept)) is for = for
  lost-permission g is for = cc

  lost-connect : (g : Grant) → is_connect g ≡ true → is_for_any purposes g ≡ true → IsLost g
  lost-connect (Connect peer) is for = for
  lost-connect g is for = cc

  expired-permission : (g : Grant) → is_expired_permission now g ≡ true → IsLost g
  expired-permission (Permission ip (Active expiry)) is = leb-true expiry.expiry now is
  expired-permission g is = cc

  unbound-connection : (g : Grant) → is_unbound purposes now g ≡ true → IsLost g
  unbound-connection (Connection c) is = by c.deadline refl is
    where
      by : (o : Option ℕ) → c.deadline ≡ o → option_map_or (λ deadline. leb deadline now || is_for_any purposes (Connection c)) o false ≡ true → IsLost (Connection c)
      by (Some deadline) e is = (deadline, e, elim (or_cases (leb deadline now) (is_for_any purposes (Connection c)) is) [ inl past ↦ inl (leb-true deadline now past) | inr for ↦ inr for ])
      by None e is = cc
  unbound-connection g is = cc

  timed_out-offer : (g : Grant) → is_timed_out_offer given g ≡ true → IsLost g
  timed_out-offer g is = by given refl g is
    where
      by : (o : Option ℕ) → given ≡ o → (g : Grant) → is_timed_out_offer o g ≡ true → IsLost g
      by (Some id) e (Offer offer) is = (id, e, is)
      by (Some id) e g is = cc
      by None e g is = cc

  of-kind : (family : AddressFamily) (which : Grant → Bool) → ((g : Grant) → which g ≡ true → IsLost g) → (g : Grant) → (is_of family g && which g) ≡ true → IsLost g
  of-kind family which loses g is = loses g (and_parts (is_of family g) (which g) is).1

  -- ---- an allocation that stays, and all of them

  expired_in-says : (family : AddressFamily) (s : State) → Say s (expired_in family given purposes now s)
  expired_in-says family = expired_in-does Say family given purposes now (record {
    trans = reports-trans Keeps Lost;
    channels = failed-says _ (asked-for family is_pending_channel lost-channel);
    permissions = failed-says _ (asked-for family is_pending_permission lost-permission);
    last_channel = λ s. channel-says (find (λ g. is_of family g && is_expired_channel now g) (reverse s.grants)) s (expired_channel-there family now s);
    expired_permissions = failed-says _ (of-kind family (is_expired_permission now) expired-permission);
    connects = failed-says _ (asked-for family is_connect lost-connect);
    connections = failed-says _ (of-kind family (is_unbound purposes now) unbound-connection);
    offers = failed-says _ (of-kind family (is_timed_out_offer given) timed_out-offer);
    refreshes = λ s keeps. (keeps, λ e there. inl there);
    frees = λ s. without-says _ s;
  })

  expired_at-says : (relays : List Relay) (s : State) → Say s (fold (expired_allocation given purposes now) s relays)
  expired_at-says relays = reports-fold Keeps Lost (expired_allocation given purposes now) relays
      (λ t a there. by_test (Say t) (allocation_expires purposes now t a) (without_grants (is_of (family_of a.relayed)) t) (expired_in (family_of a.relayed) given purposes now t)
      (λ e. without-says (is_of (family_of a.relayed)) t) (λ e. expired_in-says (family_of a.relayed) t))

-- ---- a `poll`

module _ (now : ℕ) (s : State) where
  abbrev pub TimeAdds : State → Type 0
  TimeAdds t = (e : TurnEvent) → Has e t.events → Has e s.events ⊎ FailsInTime e now s

  none-adds : (t : State) → t.events ≡ s.events → TimeAdds t
  none-adds t same e there = inl (subst (Has e) same there)

  -- the request that timed out, if there is one
  abbrev GivenBy : Option ℕ → List Purpose → Type 0
  GivenBy None purposes = purposes ≡ []
  GivenBy (Some id) purposes = (x : Transaction) × (timed_out_transaction (agent_of s) now ≡ Some x) × (x.id ≡ id) × (purposes ≡ purposes_of id s)

  lost-fails : (given : Option ℕ) (purposes : List Purpose) → GivenBy given purposes → (g : Grant) → IsLost given purposes now s g → HasFailed now s g
  lost-fails None purposes none g lost = by g (subst (λ (l : List Purpose). IsLost None l now s g) none lost)
    where
      by : (g : Grant) → IsLost None [] now s g → HasFailed now s g
      by (Permission ip (Active expiry)) lost = lost
      by (Channel number peer (Active expiry)) lost = lost
      by (Connection c) (deadline, is, inl past) = (deadline, is, inl past)
      by (Connection c) (deadline, is, inr for) = cc
      by (Offer offer) (id, is, of) = cc
      by (Permission ip (Pending is_kept)) lost = cc
      by (Channel number peer (Pending is_kept)) lost = cc
      by (Connect peer) lost = cc
      by g lost = absurd lost
  lost-fails (Some id) purposes (x, timed, same, all) g lost =
      by g (subst (λ (l : List Purpose). IsLost (Some x.id) l now s g) (all ∙ ap (λ (n : ℕ). purposes_of n s) (sym same)) (subst (λ (n : ℕ). IsLost (Some n) purposes now s g) (sym same) lost))
    where
      same_id : (id n : ℕ) → Some id ≡ Some n → id ≡ n
      same_id id n e = cc

      by : (g : Grant) → IsLost (Some x.id) (purposes_of x.id s) now s g → HasFailed now s g
      by (Permission ip (Active expiry)) lost = lost
      by (Permission ip (Pending is_kept)) lost = (x, timed, lost)
      by (Channel number peer (Active expiry)) lost = lost
      by (Channel number peer (Pending is_kept)) lost = (x, timed, lost)
      by (Connect peer) lost = (x, timed, lost)
      by (Offer offer) (n, is, of) = (x, timed, subst (λ (m : ℕ). is_of_request m (Offer offer) ≡ true) (sym (same_id x.id n is)) of)
      by (Connection c) (deadline, is, inl past) = (deadline, is, inl past)
      by (Connection c) (deadline, is, inr for) = (deadline, is, inr (x, timed, for))
      by g lost = absurd lost

  expired_at-adds : (given : Option ℕ) (t : State) → t.config ≡ s.config → t.grants ≡ s.grants → t.events ≡ s.events → GivenBy given (timed_out_purposes given t) → TimeAdds (expired_at given now t)
  expired_at-adds given t config grants events by e there =
      let keeps : Keeps given (timed_out_purposes given t) now s t = (config, λ g has. inl (subst (Has g) grants has)) in
      elim ((expired_at-says given (timed_out_purposes given t) now s (allocations t) t keeps).1 e there) [
        | inl old ↦ inl (subst (Has e) events old)
        | inr (g, has, reported, lost) ↦ inr (inr (g, has-contains g s.grants has, reported, lost-fails given (timed_out_purposes given t) by g lost))
      ]

  answer-adds : (given : Option ℕ) (t : State) → TimeAdds t → TimeAdds (answer_step given now t).1
  answer-adds given t adds = answer-by TimeAdds given now t (λ closes. adds)

  -- the first ALLOCATE timed out
  silent-adds : s.phase ≡ Requesting → IsSome (timed_out_transaction (agent_of s) now) → (t : State) → t.families ≡ s.families → t.events ≡ s.events → TimeAdds (silent_step t).1
  silent-adds phase timed t families events e there =
      elim (has-append e (reverse (map AllocationCreateFailed t.families)) t.events there) [
        | inl failed ↦
            let (family, wanted, named) = has-mapped AllocationCreateFailed e t.families (has-unreversed e (map AllocationCreateFailed t.families) failed) in
            inr (inl (phase, timed, (family, named, has-contains family s.families (subst (Has family) families wanted))))
        | inr old ↦ inl (subst (Has e) events old)
      ]

  timed-adds : (x : Transaction) → timed_out_transaction (agent_of s) now ≡ Some x → TimeAdds (timed_step s.phase (Some x.id) now (transaction_ended x.id s)).1
  timed-adds x is = by s.phase refl
    where
      t : State
      t = transaction_ended x.id s

      by : (p : Phase) → s.phase ≡ p → TimeAdds (timed_step p (Some x.id) now t).1
      by Requesting phase = silent-adds phase (rw is refl) t refl refl
      by Authenticating phase =
          by_test (λ (u : State). TimeAdds (answer_step (Some x.id) now u).1) (is_listed_for_allocation x.id t) (closed t) t
          (λ e. answer-adds (Some x.id) (closed t) (none-adds (closed t) refl)) (λ e. answer-adds (Some x.id) t (none-adds t refl))
      by Allocated phase = answer-adds (Some x.id) (expired_at (Some x.id) now t) (expired_at-adds (Some x.id) t refl refl refl (x, is, refl, refl))
      by p phase = none-adds t refl

  untimed-adds : (p : Phase) → TimeAdds (timed_step p None now s).1
  untimed-adds Requesting = answer-adds None s (none-adds s refl)
  untimed-adds Authenticating = answer-adds None s (none-adds s refl)
  untimed-adds Allocated = answer-adds None (expired_at None now s) (expired_at-adds None s refl refl refl refl)
  untimed-adds p = none-adds s refl

  pub poll-adds : TimeAdds (poll_step now s).1
  poll-adds =
      let Claim = λ (x : TurnPollRet × State). TimeAdds x.1 in
      by_test Claim (has_event s || has_reply s) _ _ (λ e. none-adds s refl)
      (λ e. by_found Claim (λ offer. offer_step offer s) (next_offer s) (timed_out_step now s) (λ offer is. none-adds (offer_step offer s).1 refl)
      (by_found Claim (λ x. timed_step s.phase (Some x.id) now (transaction_ended x.id s)) (timed_out_transaction (agent_of s) now) (timed_step s.phase None now s)
      timed-adds (untimed-adds s.phase)))
