-- `poll` leaves less to do, or as much.
use Rattle.turn_client_laws.proofs.Common.{◌≡◌, ◌∙◌, ℕ, ◌<◌, Bool, true, false, cond, eqb, not, ◌&&◌, ◌||◌, List, [], ◌∷◌, Option, Some, None, ap, arith, filter_map, inl, inr, length, refl, slice_get}
use Rattle.turn_client_laws.proofs.Common.{subst, sym, option_map_or, eq-eqb, not_from_true, SocketAddr}
use Rattle.turn_client_laws.proofs.Machine.{AddressFamily, timed_out_transaction, Transaction, timers_of, has_event, has_reply, closed, transaction_ended, allocations, family_of, is_of_family}
use Rattle.turn_client_laws.proofs.Machine.{answer_by, answer_step, as_reported, first_reported, first_unreported, is_listed_for_allocation, expired_at, next_offer, offer_step, poll_step}
use Rattle.turn_client_laws.proofs.Machine.{timed_out_step, timed_step, unreported_in, State, agent_of, DataOffer, Grant, Allocation, Channel, Connect, Connection, Offer, Permission, Purpose, Relay}
use Rattle.turn_client_laws.proofs.Machine.{TurnPollRet, Phase, New, Requesting, Authenticating, Allocated, Closed, first-has, has-filter_map, has-found}
use Rattle.turn_client_laws.proofs.Laws.{answer-by, same_family-true, weight}
use Rattle.turn_client_api.specs.declared.poll.TurnPollRet.TheVariants as Poll
use Rattle.turn_driver.proofs.RestExpiry.{Ages, IsLighter, Stands, expired_at-ages, stands-self}
use Rattle.turn_driver.proofs.RestWeights.{GetsOn, KeepsUp, fewer, five-same, gets-on-further, left_to_do, load, may-same, may_send, resends_left, steps_of}

-- ---- the five numbers

ages-KeepsUp : (purposes : List Purpose) (now : ℕ) (s t : State) → Ages purposes s t → KeepsUp (left_to_do now) s t
ages-KeepsUp purposes now s t ages = by ages.lighter
  where
    stands : Stands s t
    stands = ages.stands

    bytes : weight t.streams ≡ weight s.streams
    bytes = ap weight stands.streams

    may : may_send now t ≡ may_send now s
    may = may-same now s t stands.config stands.last_send

    awaits : length t.transactions ≡ length s.transactions
    awaits = ap (λ (xs : List Transaction). length xs) stands.transactions

    resends : resends_left (timers_of t.config) t.transport t.transactions ≡ resends_left (timers_of s.config) s.transport s.transactions
    resends = rw (stands.config, stands.transport, stands.transactions) refl

    queue : length t.queue ≡ length s.queue
    queue = rw stands.queue refl

    by : IsLighter purposes s t → KeepsUp (left_to_do now) s t
    by (inl less) = inl (inr (bytes, inr (may, inr (awaits, inl less))))
    by (inr (same, listed, reported)) = inr (five-same _ _ _ _ _ _ _ _ _ _ bytes may awaits (ap load same) (omega (arith, resends, queue, reported)), stands.transactions)

-- a request is no longer awaited, and the streams and the pause are as they were
fewer-GetsOn : (now : ℕ) (s t u : State) → t.streams ≡ s.streams → t.config ≡ s.config → t.last_send ≡ s.last_send → Stands t u → length t.transactions < length s.transactions
    → GetsOn (left_to_do now) s u
fewer-GetsOn now s t u streams config last_send stands less =
    inr (ap weight (stands.streams ∙ streams), inr (may-same now s u (stands.config ∙ config) (stands.last_send ∙ last_send), inl (rw stands.transactions less)))

-- ---- what is returned

-- what the caller is to do leaves less to do, and a time to wait for leaves as much at most
abbrev pub IsReported : (State → List ℕ) → State → TurnPollRet × State → Type 0
IsReported left s (Poll.AllocateTcpSocket id socket peer, t) = GetsOn left s t
IsReported left s (Poll.TcpClose local remote, t) = GetsOn left s t
IsReported left s (Poll.WaitUntil time, t) = KeepsUp left s t
IsReported left s (Poll.Closed, t) = KeepsUp left s t

pub gets-on-IsReported : (left : State → List ℕ) (s : State) (p : TurnPollRet × State) → GetsOn left s p.1 → IsReported left s p
gets-on-IsReported left s (Poll.AllocateTcpSocket id socket peer, t) less = less
gets-on-IsReported left s (Poll.TcpClose local remote, t) less = less
gets-on-IsReported left s (Poll.WaitUntil time, t) less = inl less
gets-on-IsReported left s (Poll.Closed, t) less = inl less

-- a connection to close leaves less to do
abbrev pub Closes : (State → List ℕ) → Type 0
Closes left = (local : SocketAddr) (others : List SocketAddr) (s : State) → s.closes ≡ local ∷ others → GetsOn left s (record s { closes = others })

pub answer-IsReported : (left : State → List ℕ) → Closes left → (given : Option ℕ) (now : ℕ) (s t : State) → KeepsUp left s t → IsReported left s (answer_step given now t)
answer-IsReported left closing given now s t keeps = by t.closes t.phase (allocations t) refl
  where
    by : (closes : List SocketAddr) (p : Phase) (relays : List Relay) → t.closes ≡ closes → IsReported left s (answer_by closes p relays given now t)
    by (local ∷ others) p relays e = gets-on-further left s t (record t { closes = others }) keeps (closing local others t e)
    by [] Allocated [] e = keeps
    by [] Allocated (a ∷ relays) e = keeps
    by [] New relays e = keeps
    by [] Requesting relays e = keeps
    by [] Authenticating relays e = keeps
    by [] Closed relays e = keeps

closing : (now : ℕ) → Closes (left_to_do now)
closing now local others s e = let more = ap (λ (xs : List SocketAddr). length xs) e in inr (refl, inr (refl, inr (refl, inr (refl, inl (omega (arith, more))))))

-- nothing timed out
none-IsReported : (p : Phase) (now : ℕ) (s : State) → IsReported (left_to_do now) s (timed_step p None now s)
none-IsReported New now s = inr (refl, refl)
none-IsReported Requesting now s = answer-IsReported (left_to_do now) (closing now) None now s s (inr (refl, refl))
none-IsReported Authenticating now s = answer-IsReported (left_to_do now) (closing now) None now s s (inr (refl, refl))
none-IsReported Allocated now s = answer-IsReported (left_to_do now) (closing now) None now s (expired_at None now s) (ages-KeepsUp [] now s (expired_at None now s) (expired_at-ages None now s))
none-IsReported Closed now s = inr (refl, refl)

-- a request timed out
pub answer-stands : (given : Option ℕ) (now : ℕ) (s t : State) → Stands s t → Stands s (answer_step given now t).1
answer-stands given now s t stands = answer-by (Stands s) given now t (λ closes. record {
  config = stands.config;
  transport = stands.transport;
  last_send = stands.last_send;
  streams = stands.streams;
  transactions = stands.transactions;
  queue = stands.queue;
})

pub timed-stands : (p : Phase) (id now : ℕ) (s : State) → Stands s (timed_step p (Some id) now s).1
timed-stands New id now s = stands-self s
timed-stands Requesting id now s = record { config = refl; transport = refl; last_send = refl; streams = refl; transactions = refl; queue = refl }
timed-stands Authenticating id now s = answer-stands (Some id) now s _ (by (is_listed_for_allocation id s))
  where
    by : (b : Bool) → Stands s (cond b (closed s) s)
    by true = record { config = refl; transport = refl; last_send = refl; streams = refl; transactions = refl; queue = refl }
    by false = stands-self s
timed-stands Allocated id now s = answer-stands (Some id) now s (expired_at (Some id) now s) (expired_at-ages (Some id) now s).stands
timed-stands Closed id now s = stands-self s

timed-IsReported : (now : ℕ) (s : State) (x : Transaction) → timed_out_transaction (agent_of s) now ≡ Some x
    → IsReported (left_to_do now) s (timed_step s.phase (Some x.id) now (transaction_ended x.id s))
timed-IsReported now s x found =
    let t = transaction_ended x.id s in
    let p = timed_step s.phase (Some x.id) now t in
    let there = has-found _ x s.transactions found in
    gets-on-IsReported (left_to_do now) s p
    (fewer-GetsOn now s t p.1 refl refl refl (timed-stands s.phase x.id now t)
    (fewer (λ (y : Transaction). not (eqb y.id x.id)) x s.transactions there.0 (not_from_true (eqb x.id x.id) (eq-eqb x.id x.id refl))))

-- ---- an offer is reported

unreported-steps : (family : AddressFamily) (g : Grant) (offer : DataOffer) → unreported_in family g ≡ Some offer → (steps_of (as_reported g) < steps_of g) × (is_of_family family offer.peer ≡ true)
unreported-steps family (Offer o) offer e = by (is_of_family family o.peer) o.is_reported refl refl e
  where
    by : (b c : Bool) → is_of_family family o.peer ≡ b → o.is_reported ≡ c → cond (b && not c) (Some o) None ≡ Some offer
        → (steps_of (as_reported (Offer o)) < steps_of (Offer o)) × (is_of_family family offer.peer ≡ true)
    by true false f g e = let same : o ≡ offer = cc in (rw g (omega arith), subst (λ (x : DataOffer). is_of_family family x.peer ≡ true) same f)
    by true true f g e = cc
    by false c f g e = cc
unreported-steps family (Allocation a) offer e = cc
unreported-steps family (Permission ip progress) offer e = cc
unreported-steps family (Channel number peer progress) offer e = cc
unreported-steps family (Connect peer) offer e = cc
unreported-steps family (Connection c) offer e = cc

reported-load : (family : AddressFamily) (gs : List Grant) (offer : DataOffer) → slice_get (filter_map (unreported_in family) gs) 0 ≡ Some offer
    → (load (first_reported family gs) < load gs) × (is_of_family family offer.peer ≡ true)
reported-load family [] offer e = cc
reported-load family (g ∷ gs) offer e = by (unreported_in family g) refl (λ f. reported-load family gs offer f)
  where
    by : (o : Option DataOffer) → unreported_in family g ≡ o
        → (slice_get (filter_map (unreported_in family) gs) 0 ≡ Some offer → (load (first_reported family gs) < load gs) × (is_of_family family offer.peer ≡ true))
        → (load (first_reported family (g ∷ gs)) < load (g ∷ gs)) × (is_of_family family offer.peer ≡ true)
    by None f later = let (less, is) = later (rw f at e) in rw f (omega (arith, less), is)
    by (Some o) f later =
        let same : o ≡ offer = let h : Some o ≡ Some offer = rw f at e in cc in
        let (less, is) = unreported-steps family g o f in
        (rw f (omega (arith, less)), subst (λ (x : DataOffer). is_of_family family x.peer ≡ true) same is)

pub offer-lighter : (s : State) (offer : DataOffer) → next_offer s ≡ Some offer → load (first_reported (family_of offer.peer) s.grants) < load s.grants
offer-lighter s offer e = by s.phase e
  where
    in_one : (a : Relay) → first_unreported (family_of a.relayed) s ≡ Some offer → load (first_reported (family_of offer.peer) s.grants) < load s.grants
    in_one a f =
        let (less, is) = reported-load (family_of a.relayed) s.grants offer f in
        subst (λ (family : AddressFamily). load (first_reported family s.grants) < load s.grants) (sym (same_family-true (family_of offer.peer) (family_of a.relayed) is)) less

    found : slice_get (filter_map (λ a. first_unreported (family_of a.relayed) s) (allocations s)) 0 ≡ Some offer → load (first_reported (family_of offer.peer) s.grants) < load s.grants
    found f =
        let (a, there, gives) = has-filter_map (λ (a : Relay). first_unreported (family_of a.relayed) s) offer (allocations s) (first-has offer _ f) in
        in_one a gives

    by : (p : Phase) → next_offer (record s { phase = p }) ≡ Some offer → load (first_reported (family_of offer.peer) s.grants) < load s.grants
    by New f = cc
    by Requesting f = cc
    by Authenticating f = cc
    by Allocated f = found f
    by Closed f = cc

-- ---- the call

-- what each case of the call leaves to do
pub record Polls (left : State → List ℕ) (now : ℕ) (s : State) : Type 0 where
  pub none : IsReported left s (timed_step s.phase None now s)
  pub timed : (x : Transaction) → timed_out_transaction (agent_of s) now ≡ Some x → IsReported left s (timed_step s.phase (Some x.id) now (transaction_ended x.id s))
  pub offers : (offer : DataOffer) → next_offer s ≡ Some offer → IsReported left s (offer_step offer s)

pub reported-by : (left : State → List ℕ) (now : ℕ) (s : State) → Polls left now s → IsReported left s (poll_step now s)
reported-by left now s cases = by (has_event s || has_reply s)
  where
    timed : (o : Option Transaction) → timed_out_transaction (agent_of s) now ≡ o
        → IsReported left s (option_map_or (λ t. timed_step s.phase (Some t.id) now (transaction_ended t.id s)) o (timed_step s.phase None now s))
    timed None e = cases.none
    timed (Some x) e = cases.timed x e

    offered : (o : Option DataOffer) → next_offer s ≡ o → IsReported left s (option_map_or (λ offer. offer_step offer s) o (timed_out_step now s))
    offered None e = timed (timed_out_transaction (agent_of s) now) refl
    offered (Some offer) e = cases.offers offer e

    by : (b : Bool) → IsReported left s (cond b (Poll.WaitUntil now, s) (option_map_or (λ offer. offer_step offer s) (next_offer s) (timed_out_step now s)))
    by true = inr (refl, refl)
    by false = offered (next_offer s) refl

pub poll-IsReported : (now : ℕ) (s : State) → IsReported (left_to_do now) s (poll_step now s)
poll-IsReported now s = reported-by (left_to_do now) now s (record {
  none = none-IsReported s.phase now s;
  timed = timed-IsReported now s;
  offers = λ offer e. inr (refl, inr (refl, inr (refl, inl (offer-lighter s offer e))));
})
