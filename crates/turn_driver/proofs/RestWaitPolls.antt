-- `poll` leaves less to do, or as much, where no request times out when it is sent.
use Rattle.turn_client_laws.proofs.Common.{◌≡◌, ℕ, ◌<◌, ◌≤◌, Bool, true, false, cond, eqb, not, List, [], ◌∷◌, Some, None, ap, arith, inl, inr, length, refl, nat_le, and_parts, cases_Bool, eq-eqb}
use Rattle.turn_client_laws.proofs.Common.{eqb-false, eqb-true, not_from_true, SocketAddr}
use Rattle.turn_client_laws.proofs.Machine.{is_timed_out, timed_out_transaction, transaction_timeout, resends_of, Transaction, timers_of, closed, transaction_ended, poll_step}
use Rattle.turn_client_laws.proofs.Machine.{is_listed_for_allocation, expired_at, timed_step, State, agent_of, TurnPollRet, Phase, New, Requesting, Authenticating, Allocated, Closed, has-found}
use Rattle.turn_client_laws.proofs.Laws.{answer-by, weight}
use Rattle.turn_driver.proofs.RestExpiry.{Ages, IsLighter, Stands, expired_at-ages}
use Rattle.turn_driver.proofs.RestPolls.{Closes, IsReported, answer-IsReported, gets-on-IsReported, offer-lighter, timed-stands, reported-by}
use Rattle.turn_driver.proofs.RestWaits.{is_over, left_to_await, may_begin, may_keep, over, over-without}
use Rattle.turn_driver.proofs.RestWeights.{GetsOn, KeepsUp, load}

-- ---- the seven numbers

seven-same : (a b c d e f g a' b' c' d' e' f' g' : ℕ) → a ≡ a' → b ≡ b' → c ≡ c' → d ≡ d' → e ≡ e' → f ≡ f' → g ≡ g'
    → a ∷ b ∷ c ∷ d ∷ e ∷ f ∷ g ∷ [] ≡ a' ∷ b' ∷ c' ∷ d' ∷ e' ∷ f' ∷ g' ∷ []
seven-same a b c d e f g a' b' c' d' e' f' g' h i j k l m n = rw (h, i, j, k, l, m, n) refl

ages-KeepsUp : (now : ℕ) (s t : State) → Ages [] s t → KeepsUp (left_to_await now) s t
ages-KeepsUp now s t ages = by ages.lighter
  where
    stands : Stands s t
    stands = ages.stands

    bytes : weight t.streams ≡ weight s.streams
    bytes = ap weight stands.streams

    begins : may_begin t.phase ≡ may_begin s.phase
    begins = ap may_begin ages.phase

    waits : over (timers_of t.config) t.transport now t.transactions ≡ over (timers_of s.config) s.transport now s.transactions
    waits = rw (stands.config, stands.transport, stands.transactions) refl

    queue : length t.queue ≡ length s.queue
    queue = rw stands.queue refl

    keeps : t.grants ≡ s.grants → may_keep now t ≡ may_keep now s
    keeps e = rw (e, stands.config, stands.last_send) refl

    by : IsLighter [] s t → KeepsUp (left_to_await now) s t
    by (inl less) = inl (inr (bytes, inr (begins, inr (waits, inl less))))
    by (inr (same, listed, reported)) =
        inr (seven-same _ _ _ _ _ _ _ _ _ _ _ _ _ _ bytes begins waits (ap load same) (rw (same, listed refl) refl) (keeps same) (omega (arith, queue, reported)), stands.transactions)

-- ---- what is returned

closing : (now : ℕ) → Closes (left_to_await now)
closing now local others s e =
    let more = ap (λ (xs : List SocketAddr). length xs) e in
    inr (refl, inr (refl, inr (refl, inr (refl, inr (refl, inr (refl, inl (omega (arith, more))))))))

none-reported : (p : Phase) (now : ℕ) (s : State) → IsReported (left_to_await now) s (timed_step p None now s)
none-reported New now s = inr (refl, refl)
none-reported Requesting now s = answer-IsReported (left_to_await now) (closing now) None now s s (inr (refl, refl))
none-reported Authenticating now s = answer-IsReported (left_to_await now) (closing now) None now s s (inr (refl, refl))
none-reported Allocated now s = answer-IsReported (left_to_await now) (closing now) None now s (expired_at None now s) (ages-KeepsUp now s (expired_at None now s) (expired_at-ages None now s))
none-reported Closed now s = inr (refl, refl)

-- a client that is not new stays so
old-stays : (p : Phase) (id now : ℕ) (s : State) → s.phase ≡ p → may_begin (timed_step p (Some id) now s).1.phase ≤ may_begin p
old-stays New id now s e = rw e (omega arith)
old-stays Requesting id now s e = omega arith
old-stays Authenticating id now s e = answer-by (λ t. may_begin t.phase ≤ 0) (Some id) now (cond (is_listed_for_allocation id s) (closed s) s) (λ closes. by (is_listed_for_allocation id s))
  where
    by : (b : Bool) → may_begin (cond b (closed s) s).phase ≤ 0
    by true = omega arith
    by false = rw e (omega arith)
old-stays Allocated id now s e = answer-by (λ t. may_begin t.phase ≤ 0) (Some id) now (expired_at (Some id) now s) (λ closes. rw (expired_at-ages (Some id) now s).phase (rw e (omega arith)))
old-stays Closed id now s e = rw e (omega arith)

timed-reported : (now : ℕ) (s : State) (x : Transaction) → timed_out_transaction (agent_of s) now ≡ Some x
    → IsReported (left_to_await now) s (timed_step s.phase (Some x.id) now (transaction_ended x.id s))
timed-reported now s x found = gets-on-IsReported (left_to_await now) s p (by (old-stays s.phase x.id now t refl))
  where
    t : State
    t = transaction_ended x.id s

    p : TurnPollRet × State
    p = timed_step s.phase (Some x.id) now t

    stands : Stands t p.1
    stands = timed-stands s.phase x.id now t

    less : over (timers_of p.1.config) p.1.transport now p.1.transactions < over (timers_of s.config) s.transport now s.transactions
    less =
        let there = has-found (is_timed_out (timers_of s.config) s.transport now) x s.transactions found in
        let reached : nat_le (transaction_timeout (timers_of s.config) s.transport x) now ≡ true = (and_parts (nat_le (resends_of (timers_of s.config) s.transport) x.resends)
        (nat_le (transaction_timeout (timers_of s.config) s.transport x) now) there.1).1 in
        let is : is_over (timers_of s.config) s.transport now x ≡ 1 = rw reached refl in
        rw (stands.config, stands.transport, stands.transactions)
        (over-without (timers_of s.config) s.transport now (λ (y : Transaction). not (eqb y.id x.id)) x s.transactions there.0 (not_from_true (eqb x.id x.id) (eq-eqb x.id x.id refl)) is)

    by : may_begin p.1.phase ≤ may_begin s.phase → GetsOn (left_to_await now) s p.1
    by most = elim (cases_Bool (eqb (may_begin p.1.phase) (may_begin s.phase))) [
      | inl e ↦ inr (ap weight stands.streams, inr (eqb-true (may_begin p.1.phase) (may_begin s.phase) e, inl less))
      | inr e ↦ let differ = eqb-false (may_begin p.1.phase) (may_begin s.phase) e in inr (ap weight stands.streams, inl (omega (arith, most, differ)))
    ]

pub poll-reported : (now : ℕ) (s : State) → IsReported (left_to_await now) s (poll_step now s)
poll-reported now s = reported-by (left_to_await now) now s (record {
  none = none-reported s.phase now s;
  timed = timed-reported now s;
  offers = λ offer e. inr (refl, inr (refl, inr (refl, inl (offer-lighter s offer e))));
})
