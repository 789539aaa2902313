-- What time removes, and what is requested as it passes.
use Rattle.turn_client_laws.proofs.Common.{◌≡◌, ◌⊎◌, ℕ, ◌<◌, ◌≤◌, eqb, leb, Bool, true, false, cond, ◌&&◌, ◌||◌, List, [], ◌∷◌, fold, Option, Some, None, refl, sym, subst, inl, inr, arith, All}
use Rattle.turn_client_laws.proofs.Common.{IsSome, drop, find, flat_map, is_some, nat_le, reverse, slice_get, Contains, list_any, leb-false, leb-true, SocketAddr, option_map_or}
use Rattle.turn_client_laws.proofs.Machine.{AddressFamily, due, first_sent, timed_out_transaction, resent, sent_again, Transaction, State, agent_of, DataOffer, Grant, Channel, Relay, Active, Purpose}
use Rattle.turn_client_laws.proofs.Machine.{ForAllocation, Phase, New, Requesting, Authenticating, Allocated, allocations, family_of, is_of, first_allocate, fresh_id, id_used, request_for, to_server}
use Rattle.turn_client_laws.proofs.Machine.{closed, transaction_ended, has_event, has_reply, is_paused, keepalive_times, expiry_times, answer_by, answer_step, channel_expired, timed_out_purposes}
use Rattle.turn_client_laws.proofs.Machine.{timed_out_step, is_expired_channel, is_listed_for_allocation, expired_at, expired_allocation, expired_in, next_offer, offer_step, poll_step, timed_step}
use Rattle.turn_client_laws.proofs.Machine.{as_reported, first_reported, unreported_in, idle_step, keepalive_step, queue_step, refreshes_in, reply_step, sent, sent_at_once, transmit_step, Call, Poll}
use Rattle.turn_client_laws.proofs.Machine.{Queued, front_sent, settled, id_in_header, next_queued, waiting_from, waits_begun, PollTransmit, Has, all-has, has-found, expired_in-does}
use Rattle.turn_client_laws.specs.LawsRequests.{AsksFor, IsMade}
use Rattle.turn_client_laws.specs.LawsGone.{IsTakenBy, IsTimeUp, grant_identity}
use Rattle.turn_client_api.proofs.EarlyExpiryLemmas.{expired_at-none}
use Rattle.turn_client_laws.proofs.AfterExpiryLemmas.{expired_at-shrinks}
use Rattle.turn_client_laws.proofs.MoveCallLemmas.{Does, ListedAt, MadeAt, does-same, does-settled}
use Rattle.turn_client_laws.proofs.CaseLemmas.{all-expire}
use Rattle.turn_client_laws.proofs.MoveLemmas.{Adds, Loses, Never, Settles, adds-filter, adds-never, adds-one, adds-same, adds-then, by_test, loses-same, none-found, on_choice, settles-same}
use Rattle.turn_client_laws.proofs.MoveLemmas.{loses-cons}
use Rattle.turn_client_laws.proofs.GrantOriginLemmas.{has-mapped}
use Rattle.turn_client_laws.proofs.MoveMessageLemmas.{made-of}
use Rattle.turn_client_laws.proofs.MoveSocketLemmas.{by_found}
use Rattle.turn_client_laws.proofs.QueuedLemmas.{settled-has}
use Rattle.turn_client_laws.proofs.StandLemmas.{has-contains}

-- ---- what is listed as time passes

-- nothing is listed anew
abbrev Fewer : State → State → Type 0
Fewer s t = Adds Never s.listed t.listed

fewer-same : (s : State) → Fewer s s
fewer-same s = adds-same Never s.listed

fewer-then : (s t u : State) → Fewer s t → Fewer t u → Fewer s u
fewer-then s t u first later = adds-then Never s.listed t.listed u.listed first later

channel-fewer : (o : Option Grant) (s : State) → Fewer s (channel_expired o s)
channel-fewer (Some (Channel number peer (Active expiry))) s = adds-filter Never _ s.listed
channel-fewer o s = fewer-same s

expired_in-fewer : (family : AddressFamily) (given : Option ℕ) (purposes : List Purpose) (now : ℕ) (s : State) → Fewer s (expired_in family given purposes now s)
expired_in-fewer family given purposes now = expired_in-does Fewer family given purposes now (record {
  trans = fewer-then;
  channels = λ t. adds-filter Never _ t.listed;
  permissions = λ t. adds-filter Never _ t.listed;
  last_channel = λ t. channel-fewer (find (λ g. is_of family g && is_expired_channel now g) (reverse t.grants)) t;
  expired_permissions = λ t. adds-filter Never _ t.listed;
  connects = λ t. adds-filter Never _ t.listed;
  connections = λ t. adds-filter Never _ t.listed;
  offers = λ t. adds-filter Never _ t.listed;
  refreshes = λ t. adds-filter Never _ t.listed;
  frees = λ t. adds-filter Never _ t.listed;
})

expired_at-fewer : (given : Option ℕ) (purposes : List Purpose) (now : ℕ) (relays : List Relay) (s : State) → Fewer s (fold (expired_allocation given purposes now) s relays)
expired_at-fewer given purposes now =
    all-expire Fewer fewer-same fewer-then given purposes now (λ family t. adds-filter Never _ t.listed) (λ family. expired_in-fewer family given purposes now)

-- ---- what time removes

-- nothing has expired yet, or something has
early-or : (now : ℕ) (ms : List ℕ) → All (λ m. now < m) ms ⊎ ((m : ℕ) × Contains ms m × (m ≤ now))
early-or now ms = by (find (λ m. leb m now) ms) refl
  where
    by : (o : Option ℕ) → find (λ m. leb m now) ms ≡ o → All (λ m. now < m) ms ⊎ ((m : ℕ) × Contains ms m × (m ≤ now))
    by None e = inl (all-has (λ m. now < m) ms (λ m h. leb-false m now (none-found (λ m. leb m now) m ms e h)))
    by (Some m) e = let (there, le) = has-found (λ m. leb m now) m ms e in inr (m, has-contains m ms there, leb-true m now le)

module _ (now : ℕ) (s : State) where
  -- this remains
  abbrev Ends : State → Type 0
  Ends t = Settles (IsTakenBy (Poll now) s) s t

  -- with the same requests and listings, and the grants are removed so
  answer-ends : (given : Option ℕ) (t : State) → Ends t → Ends (answer_step given now t).1
  answer-ends given t ends = by t.closes t.phase (allocations t)
    where
      by : (closes : List SocketAddr) (p : Phase) (relays : List Relay) → Ends (answer_by closes p relays given now t).1
      by (local ∷ others) p relays = ends
      by [] Allocated [] = ends
      by [] Allocated (a ∷ relays) = ends
      by closes p relays = ends

  up-loses : IsTimeUp now s → (gs : List Grant) → Loses (IsTakenBy (Poll now) s) s.grants gs
  up-loses up gs g h = inr up

  same-ends : Ends s
  same-ends = settles-same (IsTakenBy (Poll now) s) s

  -- no transaction timed out
  none-ends : (p : Phase) → s.phase ≡ p → Ends (timed_step p None now s).1
  none-ends Requesting e = answer-ends None s same-ends
  none-ends Authenticating e = answer-ends None s same-ends
  none-ends Allocated e = answer-ends None (expired_at None now s) (by (early-or now (expiry_times s)))
    where
      by : All (λ m. now < m) (expiry_times s) ⊎ ((m : ℕ) × Contains (expiry_times s) m × (m ≤ now)) → Ends (expired_at None now s)
      by (inl early) = rw (expired_at-none now s early) same-ends
      by (inr come) = (
        subst (λ ts. Adds Never s.transactions ts) (sym (expired_at-shrinks None now s).transactions) (adds-same Never s.transactions),
        expired_at-fewer None (timed_out_purposes None s) now (allocations s) s,
        up-loses (inr (e, come)) (expired_at None now s).grants,
      )
  none-ends p e = same-ends

  -- the transaction timed out
  given-ends : (x : Transaction) → IsTimeUp now s → (p : Phase) → Ends (timed_step p (Some x.id) now (transaction_ended x.id s)).1
  given-ends x up p = by p
    where
      u : State
      u = transaction_ended x.id s

      over : Ends u
      over = (adds-filter Never _ s.transactions, adds-same Never s.listed, up-loses up s.grants)

      shut : Ends (closed u)
      shut = (adds-filter Never _ s.transactions, adds-filter Never _ s.listed, up-loses up s.grants)

      by : (p : Phase) → Ends (timed_step p (Some x.id) now u).1
      by Requesting = shut
      by Authenticating = at (is_listed_for_allocation x.id u)
        where
          at : (b : Bool) → Ends (answer_step (Some x.id) now (cond b (closed u) u)).1
          at true = answer-ends (Some x.id) (closed u) shut
          at false = answer-ends (Some x.id) u over
      by Allocated = answer-ends (Some x.id) (expired_at (Some x.id) now u) (
        subst (λ ts. Adds Never s.transactions ts) (sym (expired_at-shrinks (Some x.id) now u).transactions) (adds-filter Never _ s.transactions),
        expired_at-fewer (Some x.id) (timed_out_purposes (Some x.id) u) now (allocations u) u,
        up-loses up (expired_at (Some x.id) now u).grants,
      )
      by p = over

reported-grant_identity : (g : Grant) → grant_identity g ≡ grant_identity (as_reported g)
reported-grant_identity g = grind arith

pub reported-loses : (Taken : Grant → Type 0) (family : AddressFamily) (gs : List Grant) → Loses Taken gs (first_reported family gs)
reported-loses Taken family [] = loses-same Taken []
reported-loses Taken family (x ∷ gs) =
    on_choice (Loses Taken (x ∷ gs)) (is_some (unreported_in family x)) (as_reported x ∷ gs) (x ∷ first_reported family gs)
    (loses-cons Taken x (as_reported x) gs gs (reported-grant_identity x) (loses-same Taken gs))
    (loses-cons Taken x x gs (first_reported family gs) refl (reported-loses Taken family gs))

pub poll-does : (now : ℕ) (s : State) → Does (Poll now) s (poll_step now s).1
poll-does now s =
    by_test (Does (Poll now) s) (has_event s || has_reply s) _ _ (does-same (Poll now) s)
    (by_found (Does (Poll now) s) (λ offer. offer_step offer s) (next_offer s) (timed_out_step now s) (λ offer e. offered offer)
    (by_found (Does (Poll now) s) (λ t. timed_step s.phase (Some t.id) now (transaction_ended t.id s)) (timed_out_transaction (agent_of s) now) (timed_step s.phase None now s)
    (λ x e. does-settled (Poll now) s _ (given-ends now s x (inl (some x e)) s.phase)) (does-settled (Poll now) s _ (none-ends now s s.phase refl))))
  where
    some : (x : Transaction) → timed_out_transaction (agent_of s) now ≡ Some x → IsSome (timed_out_transaction (agent_of s) now)
    some x e = rw e refl

    offered : (offer : DataOffer) → Does (Poll now) s (offer_step offer s).1
    offered offer = does-settled (Poll now) s (offer_step offer s).1
        (adds-same Never s.transactions, adds-same Never s.listed, reported-loses (IsTakenBy (Poll now) s) (family_of offer.peer) s.grants)

-- ---- what is sent

module _ (now : ℕ) (s : State) where
  abbrev sending : Call
  sending = PollTransmit now

  resent-does : (x : Transaction) → Does sending s (sent now (record s { transactions = resent x.id now s.transactions }))
  resent-does x = (again, adds-same _ s.listed, loses-same (IsTakenBy sending s) s.grants)
    where
      t : State
      t = sent now (record s { transactions = resent x.id now s.transactions })

      again : Adds (MadeAt sending s t) s.transactions t.transactions
      again y h = by (has-mapped (λ (z : Transaction). cond (eqb z.id x.id) (sent_again now z) z) y s.transactions h)
        where
          by : (z : Transaction) × Has z s.transactions × (y ≡ cond (eqb z.id x.id) (sent_again now z) z) → Has y s.transactions ⊎ MadeAt sending s t y
          by (z, there, e) = at (eqb z.id x.id) e
            where
              at : (b : Bool) → y ≡ cond b (sent_again now z) z → Has y s.transactions ⊎ MadeAt sending s t y
              at true f = inr (inl (z, has-contains z s.transactions there, inl f))
              at false f = inl (rw f there)

  -- what is left of the requests
  abbrev left : List Transaction
  left = (settled s).transactions

  -- the first copy of a queued request is given out
  begun-does : (id : ℕ) (queue : List Queued) → s.config.timed_from_send ≡ true → Does sending s (sent now (record s { queue = queue; transactions = waits_begun id now left }))
  begun-does id queue timed = (begun, adds-same _ s.listed, loses-same (IsTakenBy sending s) s.grants)
    where
      t : State
      t = sent now (record s { queue = queue; transactions = waits_begun id now left })

      begun : Adds (MadeAt sending s t) s.transactions t.transactions
      begun y h = by (has-mapped (λ (z : Transaction). cond (eqb z.id id) (waiting_from now z) z) y left h)
        where
          by : (z : Transaction) × Has z left × (y ≡ cond (eqb z.id id) (waiting_from now z) z) → Has y s.transactions ⊎ MadeAt sending s t y
          by (z, inside, e) = at (eqb z.id id) e
            where
              there : Has z s.transactions
              there = settled-has s z inside

              at : (b : Bool) → y ≡ cond b (waiting_from now z) z → Has y s.transactions ⊎ MadeAt sending s t y
              at true f = inr (inl (z, has-contains z s.transactions there, inr (timed, f)))
              at false f = inl (rw f there)

  front-does : (q : Queued) → Does sending s (front_sent now q (settled s))
  front-does q = by s.config.timed_from_send refl q.is_request (id_in_header q.packet.payload)
    where
      queue : List Queued
      queue = drop 1 (settled s).queue

      none : Does sending s (sent now (record s { queue = queue; transactions = left }))
      none = (λ x there. inl (settled-has s x there), adds-same _ s.listed, loses-same (IsTakenBy sending s) s.grants)

      by : (timed : Bool) → s.config.timed_from_send ≡ timed → (b : Bool) (o : Option ℕ) → Does sending s
          (sent now (record s { queue = queue; transactions = cond (timed && b) (option_map_or (λ id. waits_begun id now left) o left) left }))
      by true is true (Some id) = begun-does id queue is
      by true is true None = none
      by true is false o = none
      by false is b o = none

  -- a request is sent at once
  at_once-does : (text : List ℕ) (purpose : Purpose) (u : State) → AsksFor sending s purpose now → Settles (IsTakenBy sending s) s u
      → (made : IsMade purpose now s (sent_at_once text purpose now u).1) → (first_sent (fresh_id u) u.remote now text ≡ first_sent (fresh_id s) u.remote now made.text) → fresh_id u ≡ fresh_id s
      → Does sending s (sent_at_once text purpose now u).1
  at_once-does text purpose u asks settles made spelled fresh = (
    adds-one (MadeAt sending s t) s.transactions u.transactions (first_sent (fresh_id u) u.remote now text)
        (adds-never _ s.transactions u.transactions settles.0) (inr (purpose, now, asks, (made, spelled))),
    adds-one (ListedAt sending s t) s.listed u.listed (record { id = fresh_id u; purpose = purpose }) (adds-never _ s.listed u.listed settles.1)
        (purpose, now, asks, inl refl, (made, fresh)),
    settles.2,
  )
    where
      t : State
      t = (sent_at_once text purpose now u).1

idle-does : (p : Phase) (now : ℕ) (s : State) → Does (PollTransmit now) (record s { phase = p }) (idle_step p now (record s { phase = p })).1
idle-does New now s =
    at_once-does now was text ForAllocation u (refl, inl (refl, refl)) (settles-same (IsTakenBy (PollTransmit now) was) was) made refl refl
  where
    was : State
    was = record s { phase = New }

    u : State
    u = record s { phase = Requesting }

    text : List ℕ
    text = first_allocate u (fresh_id u)

    made : IsMade ForAllocation now was (sent_at_once text ForAllocation now u).1
    made = made-of ForAllocation now was _ text (inr (refl, refl, refl)) s.transactions refl
idle-does Allocated now s =
    by_found (Does (PollTransmit now) u) (λ purpose. sent_at_once (request_for u purpose (fresh_id u)) purpose now u)
    (slice_get (flat_map (refreshes_in now u) (allocations u)) 0) (keepalive_step now u) refreshed
    (by_test (Does (PollTransmit now) u) (list_any (λ time. nat_le time now) (keepalive_times u)) _ (None, u)
    (does-settled (PollTransmit now) u (sent now (id_used u)) (settles-same (IsTakenBy (PollTransmit now) u) u)) (does-same (PollTransmit now) u))
  where
    u : State
    u = record s { phase = Allocated }

    refreshed : (purpose : Purpose) → slice_get (flat_map (refreshes_in now u) (allocations u)) 0 ≡ Some purpose
        → Does (PollTransmit now) u (sent_at_once (request_for u purpose (fresh_id u)) purpose now u).1
    refreshed purpose e =
        at_once-does now u (request_for u purpose (fresh_id u)) purpose u (refl, inr (refl, e)) (settles-same (IsTakenBy (PollTransmit now) u) u)
        (made-of purpose now u _ (request_for u purpose (fresh_id u)) (inl refl) s.transactions refl) refl refl
idle-does p now s = does-same (PollTransmit now) (record s { phase = p })

pub transmit-does : (now : ℕ) (s : State) → Does (PollTransmit now) s (transmit_step now s).1
transmit-does now s =
    by_found Claim (λ t. (Some (record (to_server s s.local t.request) { to = t.to }), sent now (record s { transactions = resent t.id now s.transactions })))
    (due (agent_of s) now) (cond (is_paused now s) (reply_step s) (queue_step now s)) (λ x e. resent-does now s x)
    (by_test Claim (is_paused now s) (reply_step s) (queue_step now s) (does-settled (PollTransmit now) s (reply_step s).1 same)
    (by_found Claim (λ q. (Some q.packet, front_sent now q (settled s)))
    (next_queued now s) (idle_step s.phase now s) (λ q e. front-does now s q) (idle-does s.phase now s)))
  where
    Claim : State → Type 0
    Claim t = Does (PollTransmit now) s t

    same : Settles (IsTakenBy (PollTransmit now) s) s s
    same = settles-same (IsTakenBy (PollTransmit now) s) s
